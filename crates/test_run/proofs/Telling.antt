-- What is remembered of the bytes that were sent says all that the definitions ask of them.
use Rattle.std.proofs.lemmas.Bool.Decides.{nat_tests}
use Rattle.std.proofs.lemmas.List.{get_or-drop}
use Rattle.std.proofs.Common.{◌≡◌, ◌≢◌, ℕ, ◌+◌, ◌-◌, ◌<◌, List, [], ◌∷◌, ◌++◌, Bool, true, false, not, cond, length, get_or, refl, sym, ap, ◌∙◌, append-nil, append_assoc, length-drop, arith}
use Rattle.std.specs.Prelude.{◌||◌, ◌==◌, codes, slice_index, if◌then◌else◌}
use Rattle.std.specs.Str.{bytes_eq}
use Rattle.circular_buffer.specs.Buffer.{keep_last}
use Rattle.debugger.proofs.Histories.{keep_last-again}
use Rattle.test_run.specs.Told.{ToldState, nothing_told, told_one, told_all, line_end_told}
use Rattle.test_run.specs.Text.{line_end}
use Rattle.test_run.specs.Verdict.{says_after, says}

pub told_all-append : (t : ToldState) (xs ys : List ℕ) → told_all t (xs ++ ys) ≡ told_all (told_all t xs) ys
told_all-append t [] ys = refl
told_all-append t (x ∷ xs) ys = told_all-append (told_one t x) xs ys

-- what is remembered after these bytes, of which the first ones were sent before
abbrev told_of : (before : List ℕ) → (passed failed : Bool) → ToldState
told_of before passed failed = record { last = keep_last 6 before; passed = passed; failed = failed }

or_assoc : (a b c : Bool) → ((a || b) || c) ≡ (a || (b || c))
or_assoc true b c = refl
or_assoc false b c = refl

or_none : (a : Bool) → (a || false) ≡ a
or_none true = refl
or_none false = refl

one_told : (before : List ℕ) (byte : ℕ) (passed failed : Bool) → told_one (told_of before passed failed) byte
    ≡ told_of (before ++ byte ∷ []) (passed || bytes_eq (keep_last 6 (before ++ byte ∷ [])) (codes "Passed")) (failed || bytes_eq (keep_last 6 (before ++ byte ∷ [])) (codes "Failed"))
one_told before byte passed failed =
    ap (λ (last : List ℕ). record { last = last; passed = passed || bytes_eq last (codes "Passed"); failed = failed || bytes_eq last (codes "Failed") })
    (keep_last-again 6 before (byte ∷ []))

all_told : (before bytes : List ℕ) (passed failed : Bool) → told_all (told_of before passed failed) bytes
    ≡ told_of (before ++ bytes) (passed || says_after (codes "Passed") before bytes) (failed || says_after (codes "Failed") before bytes)
all_told before [] passed failed =
    ap (λ (b : List ℕ). told_of b passed failed) (sym (append-nil before))
    ∙ ap (λ (p : Bool). told_of (before ++ []) p failed) (sym (or_none passed))
    ∙ ap (λ (f : Bool). told_of (before ++ []) (passed || false) f) (sym (or_none failed))
all_told before (byte ∷ bytes) passed failed =
    let next : List ℕ = before ++ byte ∷ [] in
    let pass = bytes_eq (keep_last 6 next) (codes "Passed") in
    let fail = bytes_eq (keep_last 6 next) (codes "Failed") in
    ap (λ (t : ToldState). told_all t bytes) (one_told before byte passed failed)
    ∙ all_told next bytes (passed || pass) (failed || fail)
    ∙ ap (λ (b : List ℕ). told_of b ((passed || pass) || says_after (codes "Passed") next bytes) ((failed || fail) || says_after (codes "Failed") next bytes)) (append_assoc before (byte ∷ []) bytes)
    ∙ ap (λ (p : Bool). told_of (before ++ byte ∷ bytes) p ((failed || fail) || says_after (codes "Failed") next bytes)) (or_assoc passed pass _)
    ∙ ap (λ (f : Bool). told_of (before ++ byte ∷ bytes) (passed || (pass || says_after (codes "Passed") next bytes)) f) (or_assoc failed fail _)

pub told-all : (sent : List ℕ) → told_all nothing_told sent
    ≡ record { last = keep_last 6 sent; passed = says (codes "Passed") sent; failed = says (codes "Failed") sent }
told-all sent = all_told [] sent false false

-- ---- the line that has begun

last_kept : (sent : List ℕ) → slice_index (keep_last 6 sent) (length (keep_last 6 sent) - 1) ≡ slice_index sent (length sent - 1)
last_kept [] = refl
last_kept (byte ∷ sent) =
    let all : List ℕ = byte ∷ sent in
    let size : length (keep_last 6 all) ≡ length all - (length all - 6) = length-drop (length all - 6) all in
    let some : 0 < length all = omega arith in
    let place : (length all - 6) + (length (keep_last 6 all) - 1) ≡ length all - 1 = omega (arith, size, some) in
    get_or-drop (length all - 6) all (length (keep_last 6 all) - 1) 0 ∙ ap (λ (n : ℕ). get_or all n 0) place

not_none : (n : ℕ) → n ≢ 0 → (n == 0) ≡ false
not_none n some = grind (arith, nat_tests)

as_many : (sent : List ℕ) → (length (keep_last 6 sent) == 0) ≡ (length sent == 0)
as_many [] = refl
as_many (byte ∷ sent) =
    let all : List ℕ = byte ∷ sent in
    let size : length (keep_last 6 all) ≡ length all - (length all - 6) = length-drop (length all - 6) all in
    let some : length (keep_last 6 all) ≢ 0 = omega (arith, size) in
    not_none (length (keep_last 6 all)) some ∙ sym (not_none (length all) (omega arith))

line_end_of : (b : Bool) (x y : List ℕ) → (if not b then x else y) ≡ (if b then y else x)
line_end_of true x y = refl
line_end_of false x y = refl

pub line_is_ended : (sent : List ℕ) → line_end_told (keep_last 6 sent) ≡ line_end sent
line_is_ended sent =
    ap (λ (b : Bool). cond (not (b || slice_index (keep_last 6 sent) (length (keep_last 6 sent) - 1) == 10)) (10 ∷ []) []) (as_many sent)
    ∙ ap (λ (n : ℕ). cond (not (length sent == 0 || n == 10)) (10 ∷ []) []) (last_kept sent)
    ∙ line_end_of (length sent == 0 || slice_index sent (length sent - 1) == 10) (10 ∷ []) []

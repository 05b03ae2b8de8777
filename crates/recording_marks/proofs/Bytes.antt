-- The bytes of inputs, part by part.
use Rattle.std.proofs.Common.{◌≡◌, ◌∙◌, ℕ, zero, suc, ◌+◌, ◌-◌, List, [], ◌∷◌, ◌++◌, length, take, replicate, refl, sym, ap, arith, append_assoc, append-nil}
use Rattle.input_entries.specs.declared.Entry.{Entry}
use Rattle.recording_marks.specs.Digests.{bytes_of}

pub bytes-append : (xs ys : List Entry) → bytes_of (xs ++ ys) ≡ bytes_of xs ++ bytes_of ys
bytes-append [] ys = refl
bytes-append (x ∷ xs) ys = ap (λ l. x.code ++ l) (bytes-append xs ys) ∙ sym (append_assoc x.code (bytes_of xs) (bytes_of ys))

bytes-suc : (n : ℕ) (e : Entry) → bytes_of (replicate (suc n) e) ≡ bytes_of (replicate n e) ++ e.code
bytes-suc zero e = append-nil e.code
bytes-suc (suc n) e = ap (λ l. e.code ++ l) (bytes-suc n e) ∙ sym (append_assoc e.code (bytes_of (replicate n e)) e.code)

-- one more of the same
pub bytes-more : (n : ℕ) (e : Entry) → bytes_of (replicate (n + 1) e) ≡ bytes_of (replicate n e) ++ e.code
bytes-more n e = let next : n + 1 ≡ suc n = omega arith in ap (λ k. bytes_of (replicate k e)) next ∙ bytes-suc n e

pub take_parts : (n : ℕ) (xs ys : List Entry) → take n (xs ++ ys) ≡ take n xs ++ take (n - length xs) ys
take_parts zero xs ys = sym (ap (λ k. take k ys) (let none : 0 - length xs ≡ 0 = omega arith in none))
take_parts (suc n) [] ys = let all : suc n ≡ suc n - 0 = omega arith in ap (λ k. take k ys) all
take_parts (suc n) (x ∷ xs) ys =
    let fewer : n - length xs ≡ suc n - suc (length xs) = omega arith in
    ap (λ l. x ∷ l) (take_parts n xs ys) ∙ ap (λ k. x ∷ (take n xs ++ take k ys)) fewer

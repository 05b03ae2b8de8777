-- Bytes that are taken behind a line.
use Rattle.std.proofs.Common.{◌≡◌, ℕ, ◌+◌, ◌-◌, ◌<◌, ◌≤◌, List, [], ◌++◌, length, take, drop, Option, refl, sym, ap, subst, ◌∙◌, arith, length-take-le, take-take, take-append-drop, take_at, min, replicate, length-append}
use Rattle.std.proofs.Math.Seq.{take-append-add}
use Rattle.std.proofs.lemmas.List.{drop_all, drop_min, length-replicate}
use Rattle.std.proofs.lemmas.Slice.{take-put_mid}
use Rattle.std.proofs.KnownBytes.{Consumes-trans, Consumes-kept, prepend_known-nil}
use Rattle.std.specs.Io.KnownBytes.{Consumes, IsAtEnd, Keeps}
use borrow.Rule.Slice.PartMut.{put_mid}
use Rattle.input_lines.specs.Reading.{left_of}
use Rattle.input_lines.specs.Taking.{HasSkippedBytes, HasTakenBytes}
use Rattle.input_lines.specs.declared.taking.Taken.{Taken}
use Rattle.input_lines.specs.declared.taking.Taken.TheVariants.{All as AllTaken, End as EndMet, Failed as TakeFailed}
use Rattle.input_lines.proofs.KnownLeft.{left_taken}

-- n bytes of a part that was read behind the first f of a buffer
pub put_part : (f n : ℕ) (bs part : List ℕ) → f ≤ length bs → n ≤ length part → take (f + n) (put_mid f (length bs - f) bs part) ≡ take f bs ++ take n part
put_part f n bs part within few =
    let all = put_mid f (length bs - f) bs part in
    let front : length (take f bs) ≡ f = length-take-le f bs within in
    sym (take-take (f + n) (f + length part) all (omega arith))
    ∙ ap (take (f + n)) (take-put_mid f (length bs - f) bs part (f + length part) refl within)
    ∙ ap (λ (k : ℕ). take (k + n) (take f bs ++ part)) (sym front)
    ∙ take-append-add (take f bs) part n

none_left_of : (unread : List ℕ) (a : Option (List ℕ)) → unread ≡ [] → left_of unread a ≡ a
none_left_of unread a none = ap (λ (l : List ℕ). left_of l a) none ∙ prepend_known-nil a

-- where none is unread, a read takes more
pub read_more_of : (old a b : Option (List ℕ)) (unread front part : List ℕ) → unread ≡ [] → Consumes old (left_of unread a) front → Consumes a b part → Consumes old (left_of unread b) (front ++ part)
read_more_of old a b unread front part none took more =
    subst (λ (o : Option (List ℕ)). Consumes old o (front ++ part)) (sym (none_left_of unread b none))
    (Consumes-trans old a b front part (subst (λ (o : Option (List ℕ)). Consumes old o front) (none_left_of unread a none) took) more)

-- a read that failed took nothing
pub read_none_of : (old a b : Option (List ℕ)) (unread front : List ℕ) → unread ≡ [] → Consumes old (left_of unread a) front → Keeps a b → Consumes old (left_of unread b) front
read_none_of old a b unread front none took kept =
    subst (λ (o : Option (List ℕ)). Consumes old o front) (sym (none_left_of unread b none))
    (Consumes-kept old a b front (subst (λ (o : Option (List ℕ)). Consumes old o front) (none_left_of unread a none) took) kept)

pub at_end_of : (b : Option (List ℕ)) (unread : List ℕ) → unread ≡ [] → IsAtEnd b → IsAtEnd (left_of unread b)
at_end_of b unread none is = subst IsAtEnd (sym (none_left_of unread b none)) is

-- the first bytes of those that are unread
pub front_taken : (unread : List ℕ) (n : ℕ) (a : Option (List ℕ)) → Consumes (left_of unread a) (left_of (drop n unread) a) (take n unread)
front_taken unread n a =
    subst (λ (l : List ℕ). Consumes (left_of l a) (left_of (drop n unread) a) (take n unread)) (take-append-drop n unread) (left_taken (take n unread) (drop n unread) a)

-- as many as there are, and as there is room for
pub first_unread : (unread bytes : List ℕ) (n : ℕ) → n ≡ min (length unread) (length bytes) → drop n unread ≡ drop (length bytes) unread
first_unread unread bytes n is = ap (λ (k : ℕ). drop k unread) (is ∙ min_flip (length unread) (length bytes)) ∙ drop_min (length bytes) unread
  where
    min_flip : (a b : ℕ) → min a b ≡ min b a
    min_flip a b = omega arith

pub first_none : (unread bytes : List ℕ) (n : ℕ) → n ≡ min (length unread) (length bytes) → n < length bytes → drop n unread ≡ []
first_none unread bytes n is less = drop_all n unread (omega (arith, is, less))

pub first_took : (unread copied rest : List ℕ) (n : ℕ) (a : Option (List ℕ)) → n ≤ length unread → copied ≡ take n unread → Consumes (left_of unread a) (left_of (drop n unread) a) (take n (copied ++ rest))
first_took unread copied rest n a few is =
    let long : length copied ≡ n = ap length is ∙ length-take-le n unread few in
    subst (Consumes (left_of unread a) (left_of (drop n unread) a)) (sym (take_at copied rest n long ∙ is)) (front_taken unread n a)

-- fewer than were to be dropped
pub skipped_short : (how : Taken) (count left : ℕ) (skipped part : List ℕ) (old mid new : Option (List ℕ)) → (how ≡ AllTaken → ⊥) → length skipped + left ≡ count → length part ≤ left
    → Consumes old mid skipped → HasTakenBytes how part mid new → HasSkippedBytes how count old new
skipped_short AllTaken count left skipped part old mid new short is few before taken = absurd (short refl)
skipped_short EndMet count left skipped part old mid new short is few before taken =
    let less : length (skipped ++ taken.0) < length (replicate count 0) = omega (arith, is, few, taken.1, length-append skipped taken.0, length-replicate {A = ℕ} count 0) in
    (replicate count 0, length-replicate {A = ℕ} count 0, (skipped ++ taken.0, less, Consumes-trans old mid new skipped taken.0 before taken.2, taken.3))
skipped_short TakeFailed count left skipped part old mid new short is few before taken =
    let less : length (skipped ++ taken.0) < length (replicate count 0) = omega (arith, is, few, taken.1, length-append skipped taken.0, length-replicate {A = ℕ} count 0) in
    (replicate count 0, length-replicate {A = ℕ} count 0, (skipped ++ taken.0, less, Consumes-trans old mid new skipped taken.0 before taken.2))

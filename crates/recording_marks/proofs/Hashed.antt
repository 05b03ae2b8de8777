-- The steps of hashing the first inputs of a recording.
use Rattle.std.proofs.Common.{◌≡◌, ◌∙◌, ℕ, ◌-◌, ◌≤◌, min, List, [], ◌++◌, length, take, replicate, sym, ap, subst, arith, append_assoc, append-nil, length-append}
use Rattle.std.proofs.Math.Seq.{take-nil}
use Rattle.std.proofs.lemmas.List.{take_min, take-replicate, length-replicate}
use Rattle.sha2.specs.Hashers.{Holds256}
use Rattle.sha2.specs.declared.Sha256.{Sha256}
use Rattle.input_entries.specs.Inputs.{frame}
use Rattle.input_entries.specs.declared.Entry.{Entry}
use Rattle.recording_marks.specs.Digests.{bytes_of, HasHashed}
use Rattle.recording_marks.proofs.Bytes.{bytes-append, take_parts}

pub hashed_nothing : (s : Sha256) (most : ℕ) → HasHashed s s most most []
hashed_nothing s most = record {
  hashed = λ m holds. subst (λ (l : List ℕ). Holds256 s l) (sym (ap (λ l. m ++ bytes_of l) (take-nil most) ∙ append-nil m)) holds;
  left_is = omega arith;
}

pub hashed_then : {a b c : Sha256} {most between left : ℕ} {xs ys : List Entry} → HasHashed a b most between xs → HasHashed b c between left ys → HasHashed a c most left (xs ++ ys)
hashed_then {a} {b} {c} {most} {between} {left} {xs} {ys} first second = record {
  hashed = λ m holds.
      let front = take most xs in
      let back = take (most - length xs) ys in
      let parts : (m ++ bytes_of front) ++ bytes_of (take between ys) ≡ m ++ bytes_of (take most (xs ++ ys)) =
      ap (λ k. (m ++ bytes_of front) ++ bytes_of (take k ys)) first.left_is ∙ append_assoc m (bytes_of front) (bytes_of back)
      ∙ ap (λ l. m ++ l) (sym (bytes-append front back) ∙ ap bytes_of (sym (take_parts most xs ys))) in
      subst (λ (l : List ℕ). Holds256 c l) parts (second.hashed (m ++ bytes_of front) (first.hashed m holds));
  left_is = omega (arith, first.left_is, second.left_is, length-append xs ys);
}

pub hashed_frames : (old now : Sha256) (buttons times most count : ℕ) → count ≡ min times most
    → ((m : List ℕ) → Holds256 old m → Holds256 now (m ++ bytes_of (replicate count (frame buttons)))) → HasHashed old now most (most - count) (replicate times (frame buttons))
hashed_frames old now buttons times most count count_is given =
    let all = replicate times (frame buttons) in
    let few : count ≤ times = omega arith in
    let taken : replicate count (frame buttons) ≡ take count all = sym (take-replicate count times (frame buttons) few) in
    let least : count ≡ min most (length all) = omega (arith, count_is, length-replicate times (frame buttons)) in
    let cut : take count all ≡ take most all = ap (λ k. take k all) least ∙ take_min most all in
    record {
      hashed = λ m holds. subst (λ (l : List Entry). Holds256 now (m ++ bytes_of l)) (taken ∙ cut) (given m holds);
      left_is = omega (arith, count_is, length-replicate times (frame buttons));
    }

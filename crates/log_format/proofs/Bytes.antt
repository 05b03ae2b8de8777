-- A sector's bytes, entry by entry.
use Rattle.std.proofs.Common.{◌≡◌, ℕ, ◌+◌, ◌-◌, ◌≤◌, List, ◌++◌, length, drop, sym, ap, ◌∙◌, arith, append_assoc}
use Rattle.std.proofs.lemmas.List.{take_at, drop_at, drop-replicate}
use lib.ListN.{replicate}
use borrow.Rule.Slice.PartMut.{put_mid}

pub put_behind : (done bytes sector put : List ℕ) (at k : ℕ) → length done ≡ at → sector ≡ done ++ replicate (512 - at) 0 → put ≡ bytes → k ≡ length bytes → at + length bytes ≤ 512
    → put_mid at k sector put ≡ done ++ bytes ++ replicate (512 - (at + length bytes)) 0
put_behind done bytes sector put at k size is same width fits =
    let z : List ℕ = replicate (512 - at) 0 in
    let less : 512 - at - k ≡ 512 - (at + length bytes) = omega arith in
    (λ i. put_mid at k (is i) (same i))
    ∙ (λ i. take_at done z at size i ++ (bytes ++ (ap (drop k) (drop_at done z at size) ∙ drop-replicate k (512 - at) 0 ∙ ap (λ n. replicate n 0) less) i))
    ∙ sym (append_assoc done bytes (replicate (512 - (at + length bytes)) 0))

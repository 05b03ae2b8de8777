-- Bytes as they are, part by part.
use Rattle.std.proofs.Common.{◌≡◌, ◌∙◌, ℕ, zero, suc, ◌+◌, ◌-◌, ◌%◌, ◌≤◌, List, [], ◌∷◌, ◌++◌, append_assoc, append-nil, ap, sym, arith}
use Rattle.std.proofs.lemmas.List.FromFn.{map-range_with_len_more}
use Rattle.machine.specs.Machine.{MachineState}
use Rattle.memory_map.specs.Bus.{peeked}
use Rattle.machine.specs.Looking.{bytes_from}

module _ (m : MachineState) (address : ℕ) where
  abbrev byte : ℕ → ℕ → ℕ
  byte from k = peeked m.processor.memory ((from + k) % 65536)

  -- one more
  one_more : (from count : ℕ) → bytes_from m from (count + 1) ≡ bytes_from m from count ++ byte from count ∷ []
  one_more from count = map-range_with_len_more (byte from) 0 count count (omega arith)

  apart : (p q : ℕ) → bytes_from m address (p + q) ≡ bytes_from m address p ++ bytes_from m ((address + p) % 65536) q
  apart p zero = let same : p + 0 ≡ p = omega arith in ap (bytes_from m address) same ∙ sym (append-nil (bytes_from m address p))
  apart p (suc q) =
      let here = (address + p) % 65536 in
      let more : p + suc q ≡ (p + q) + 1 = omega arith in
      let next : suc q ≡ q + 1 = omega arith in
      let place : (address + (p + q)) % 65536 ≡ (here + q) % 65536 = omega arith in
      ap (bytes_from m address) more
      ∙ one_more address (p + q)
      ∙ ap (λ (t : List ℕ). t ++ byte address (p + q) ∷ []) (apart p q)
      ∙ append_assoc (bytes_from m address p) (bytes_from m here q) (byte address (p + q) ∷ [])
      ∙ ap (λ (k : ℕ). bytes_from m address p ++ (bytes_from m here q ++ peeked m.processor.memory k ∷ [])) place
      ∙ ap (λ (t : List ℕ). bytes_from m address p ++ t) (sym (one_more here q))
      ∙ ap (λ (k : ℕ). bytes_from m address p ++ bytes_from m here k) (sym next)

  -- what is left begins with the next part
  pub next_part : (left size : ℕ) → size ≤ left → bytes_from m address left ≡ bytes_from m address size ++ bytes_from m ((address + size) % 65536) (left - size)
  next_part left size few = let whole : left ≡ size + (left - size) = omega (arith, few) in ap (bytes_from m address) whole ∙ apart size (left - size)

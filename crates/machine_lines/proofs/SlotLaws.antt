-- States that are kept, as snapshots and as machines.
use Rattle.std.proofs.Common.{◌≡◌, ◌∙◌, inl, inr, ℕ, zero, suc, ◌<◌, true, false, List, [], ◌∷◌, length, ap, refl, subst, sym, arith}
use Rattle.std.specs.Prelude.{◌==◌, slice_index_or, slice_set}
use Rattle.std.specs.List.{All}
use Rattle.std.proofs.lemmas.Bool.{cases_eq, eq-eqb, ne_eqb}
use Rattle.std.proofs.lemmas.List.{get_or-set_same, get_or-set_other}
use Rattle.std.proofs.lemmas.List.Elements.{All-head, All-tail}
use Rattle.machine.specs.Legal.{IsLegalMachine}
use Rattle.machine.specs.Machine.{MachineState}
use Rattle.snapshot.specs.Encoding.{encoded}
use Rattle.snapshot.specs.Legal.{IsLegalSnapshot, IsMachineOf, IsOfImage}
use Rattle.machine_lines.specs.KeptStates.{slots, KeptMachine, kept_under}
use Rattle.machine_lines.specs.Slots.{AreKept, IsKeptAs, state_under}

-- ---- a machine of a cartridge

pub machine_of : (rom : List ℕ) (m : MachineState) → IsOfImage rom m → IsLegalMachine m → IsMachineOf rom m
machine_of rom m of legal = record { legal = legal; rom = of.rom; kind = of.kind; rumble = of.rumble; ram_length = of.ram_length }

-- ---- what is kept

none_under : (states : List (List ℕ)) (n : ℕ) → All (λ bytes. bytes ≡ []) states → slice_index_or states n [] ≡ []
none_under [] n all = refl
none_under (x ∷ xs) zero all = All-head (λ bytes. bytes ≡ []) x xs all
none_under (x ∷ xs) (suc n) all = none_under xs n (All-tail (λ bytes. bytes ≡ []) x xs all)

pub none_kept : (rom : List ℕ) (states : List (List ℕ)) → All (λ bytes. bytes ≡ []) states → AreKept rom states []
none_kept rom states all n below = none_under states n all

-- one more, where the machine under its number is replaced
module _ (rom : List ℕ) (old new : List (List ℕ)) (machines : List KeptMachine) (n : ℕ) (m : MachineState) (of : IsMachineOf rom m) (size : length old ≡ slots) (below : n < slots)
    (is : new ≡ slice_set old n (encoded m)) (kept : AreKept rom old machines) where
  under : (k : ℕ) → state_under new k ≡ state_under (slice_set old n (encoded m)) k
  under k = ap (λ states. state_under states k) is

  pub one_kept : AreKept rom new (record { number = n; machine = m } ∷ machines)
  one_kept k within = elim (cases_eq k n) [
    | inl e ↦
        let t : (n == k) ≡ true = eq-eqb n k (sym e) in
        let here : state_under new k ≡ encoded m = under k ∙ ap (λ j. state_under (slice_set old n (encoded m)) j) e ∙ get_or-set_same old n (encoded m) [] (omega (arith, size, below)) in
        rw t (of, sym here)
    | inr ne ↦
        let f : (n == k) ≡ false = ne_eqb n k (λ e. ne (sym e)) in
        let here : state_under new k ≡ state_under old k = under k ∙ get_or-set_other old n k (encoded m) [] ne in
        rw f (subst (λ bytes. IsKeptAs rom bytes (kept_under k machines)) (sym here) (kept k within))
  ]

-- no bytes are no snapshot
pub none_legal : (rom : List ℕ) → IsLegalSnapshot rom [] → ⊥
none_legal rom legal = absurd (omega (arith, legal.length))

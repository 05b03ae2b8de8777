-- Machines that are kept, by their snapshots.
use Rattle.std.proofs.Common.{◌≡◌, ◌≢◌, ℕ, List, [], length, Option, None, Some, refl, sym, ap, ◌∙◌, subst, arith}
use Rattle.cartridge.specs.Header.{ram_length_of}
use Rattle.machine.specs.Machine.{MachineState}
use Rattle.snapshot.specs.Encoding.{encoded, snapshot_length}
use Rattle.snapshot.specs.Legal.{IsLegalSnapshot, IsMachineOf}
use Rattle.snapshot.specs.Reading.{machine_in}
use Rattle.snapshot.proofs.Machines.{encoded_legal, encoded_long, machine_back}
use Rattle.machine_lines.specs.Slots.{IsKeptAs}

long_of : (rom bytes : List ℕ) (m : MachineState) → IsMachineOf rom m → encoded m ≡ bytes → length bytes ≡ snapshot_length (ram_length_of rom)
long_of rom bytes m of is = sym (ap length is) ∙ encoded_long m of.legal ∙ ap snapshot_length of.ram_length

-- bytes of another length than a snapshot has are none
pub none_of_length : (rom bytes : List ℕ) (o : Option MachineState) → IsKeptAs rom bytes o → length bytes ≢ snapshot_length (ram_length_of rom) → o ≡ None
none_of_length rom bytes None kept other = refl
none_of_length rom bytes (Some m) kept other = absurd (other (long_of rom bytes m kept.0 kept.1))

pub none_empty : (rom bytes : List ℕ) (o : Option MachineState) → IsKeptAs rom bytes o → length bytes ≡ 0 → o ≡ None
none_empty rom bytes o kept empty = none_of_length rom bytes o kept (λ e. absurd (omega (arith, e, empty)))

-- others are those of the machine that is kept
pub one_there : (rom bytes : List ℕ) (o : Option MachineState) → IsKeptAs rom bytes o → (bytes ≡ [] → ⊥) → (o ≡ Some (machine_in rom bytes)) × IsLegalSnapshot rom bytes
one_there rom bytes None kept some = absurd (some kept)
one_there rom bytes (Some m) kept some =
    (ap Some (sym (ap (machine_in rom) (sym kept.1) ∙ machine_back rom m kept.0)), subst (IsLegalSnapshot rom) kept.1 (encoded_legal rom m kept.0))

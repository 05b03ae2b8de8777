-- What the device of a session rests at.
use Rattle.std.proofs.Common.{◌≡◌, ◌∙◌, ℕ, ◌+◌, List, [], length, Bool, Some, true, false, sym, ap, subst}
use Rattle.std.proofs.lemmas.List.{length-map}
use Rattle.machine.specs.Machine.{Input, MachineState, after}
use Rattle.sector_device.specs.DiskState.{DiskState}
use Rattle.sector_device.specs.Runs.{HoldsSince}
use Rattle.sector_device.specs.declared.device.SectorDevice.{Ghosts}
use Rattle.input_entries.specs.declared.Entry.{Entry}
use Rattle.input_entries.specs.declared.StoredEntry.{StoredEntry}
use Rattle.log_format.specs.Content.{content}
use Rattle.session.specs.Inputs.{can_be_logged, input_of, inputs_of}
use Rattle.session.specs.Stands.{IsAtRest, Position, StandsAt, StandsBetween, further, stands}
use Rattle.session.specs.Accessors.{device_of, machine_of, rom_of, pending_of, acknowledged_of, saved_of, is_broken}
use Rattle.session.specs.Resting.{LeadsTo, Rests}
use Rattle.session.specs.declared.session.Session.{Session}
use Rattle.session.proofs.StandsLaws.{after_none}

-- it stands for a position, from which the unsaved inputs lead to the machine
pub at_rest_with :
    (rom : List ℕ) (now : DiskState) (from : Position) (pending : List Entry) (m : MachineState)
    → StandsAt rom now from → after from.machine (inputs_of pending) ≡ m → IsAtRest rom now from.count pending m
at_rest_with rom now from pending m stood leads = record {
  settled = stood.settled;
  leads = ap (further (inputs_of pending)) stood.is
      ∙ (let count_is : from.count + length (inputs_of pending) ≡ from.count + length pending = ap (λ (n : ℕ). from.count + n) (length-map pending input_of) in
      λ i. Some (record { count = count_is i; machine = leads i }));
}

-- where nothing is unsaved
pub leads_nowhere : (saved m : MachineState) (pending : List Entry) → saved ≡ m → pending ≡ [] → LeadsTo saved pending m
leads_nowhere saved m pending same empty = λ logged. ap (λ (l : List Entry). after saved (inputs_of l)) empty ∙ after_none saved ∙ same

pub rests_saved : {rom : List ℕ} {now : DiskState} {log : List StoredEntry} {count : ℕ} {saved m : MachineState} → saved ≡ m → Rests rom now log (record { count = count; machine = m }) → Rests rom now log (record { count = count; machine = saved })
rests_saved {rom = rom} {now = now} {log = log} {count = count} same rests = subst (λ (n : MachineState). Rests rom now log (record { count = count; machine = n })) (sym same) rests

-- images that stand between the saved inputs and all stand between what the device stood for and all
pub held_from : {old now : DiskState} {rom : List ℕ} {from : Position} (logged : Bool) (more : List Input) (behind : Position) → StandsAt rom old from
    → HoldsSince old now (StandsBetween logged rom (Some from) more behind) → HoldsSince old now (StandsBetween logged rom (stands rom (content old.sectors)) more behind)
held_from {old = old} {now = now} {rom = rom} logged more behind stood held =
    subst (λ p. HoldsSince old now (StandsBetween logged rom p more behind)) (sym stood.is) held

module _ {D : Type 0} {disk : Ghosts D} where
  pub device_rests :
      (s : Session D disk) → is_broken s ≡ false → can_be_logged (pending_of s) ≡ true → (disk.disk (device_of s)).honest
      → IsAtRest (rom_of s) (disk.disk (device_of s)) (acknowledged_of s) (pending_of s) (machine_of s)
  device_rests s whole logged honest = at_rest_with (rom_of s) (disk.disk (device_of s)) (saved_of s) (pending_of s) (machine_of s) (s.rests whole honest).stood (s.leads logged)

-- States that are kept, as snapshots and as machines.
use Rattle.std.proofs.Common.{◌≡◌, ◌≢◌, ◌∙◌, ℕ, ◌<◌, true, List, length, Option, None, Some, ap, refl, subst, sym}
use Rattle.std.specs.Prelude.{Result, Ok, Err, IfOk, IfErr, OnOk, OnErr}
use Rattle.std.specs.Io.KnownBytes.{Appends}
use Rattle.exact_text.specs.Written.{AppendsProperPrefix}
use Rattle.bank_controllers.specs.CartridgeState.{IsSameCartridge, cartridge_at_power_on}
use Rattle.cartridge.specs.Header.{has_rumble, ram_length_of}
use Rattle.machine.specs.Machine.{MachineState, start}
use Rattle.snapshot.specs.Encoding.{snapshot_length}
use Rattle.snapshot.specs.Legal.{IsLegalSnapshot, IsOfImage}
use Rattle.snapshot.specs.Table.{kind_of_image}
use Rattle.snapshot.proofs.Machines.{encoded_long}
use Rattle.std.proofs.lemmas.List.{length-replicate}
use Rattle.debugging.specs.declared.order.StateOrder.TheVariants.{Keep}
use Rattle.debugging.specs.declared.order.StateOrder.{StateOrder}
use Rattle.debugging.specs.declared.error.DebugError.{DebugError}
use Rattle.debugging.specs.declared.error.DebugError.TheVariants.{Input, Output, Memory}
use Rattle.debugging.specs.Run.{RunState, processor_of}
use Rattle.debugging.specs.States.{after_snapshot, is_snapshot, rom_of}
use Rattle.debugging.specs.KeptStates.{DebugState}
use Rattle.debugging.specs.Answers.{after_back, after_state_order, answer_back, answer_state_order, takes_memory}
use Rattle.debugging.specs.Switching.{HasSwitched, IsNotSwitched, IsRefusedAnswer, back_text}
use Rattle.debugging.proofs.Restoring.{machine_given, nothing_given}
use Rattle.machine_lines.proofs.SlotLaws.{none_legal}
use Rattle.machine_lines.specs.KeptStates.{slots, KeptMachine, kept_under}
use Rattle.machine_lines.specs.Slots.{state_under, IsKeptAs, AreKept}

-- ---- the power switch

start_rom : (rom : List ℕ) → (start rom).processor.memory.banks.rom ≡ rom
unfolding cartridge_at_power_on
start_rom rom = refl

start_kind : (rom : List ℕ) → (start rom).processor.memory.banks.state.kind ≡ kind_of_image rom
unfolding cartridge_at_power_on
start_kind rom = refl

start_rumble : (rom : List ℕ) → (start rom).processor.memory.banks.rumble ≡ has_rumble rom
unfolding cartridge_at_power_on
start_rumble rom = refl

start_ram : (rom : List ℕ) → length (start rom).processor.memory.banks.ram ≡ ram_length_of rom
unfolding cartridge_at_power_on
start_ram rom = length-replicate (ram_length_of rom) 0

-- a machine of a ROM has the cartridge of the machine at power-on
pub same_as_start : (rom : List ℕ) (m : MachineState) → IsOfImage rom m → IsSameCartridge m.processor.memory.banks (start rom).processor.memory.banks
same_as_start rom m of = record {
  rom = start_rom rom ∙ sym of.rom;
  ram_length = start_ram rom ∙ sym of.ram_length;
  rumble = start_rumble rom ∙ sym of.rumble;
  kind = start_kind rom ∙ sym of.kind;
}

-- ---- one that is taken up again

module _ (rom bytes : List ℕ) (r : RunState) (of : IsOfImage rom r.debugger.machine) where
  pub back_is : (machines : List KeptMachine) (o : Option MachineState) → IsKeptAs rom bytes o
      → (after_snapshot bytes r ≡ (after_back o (record { run = r; kept = machines })).run)
      × ((after_back o (record { run = r; kept = machines })).kept ≡ machines)
      × ((n number : ℕ) → back_text (is_snapshot (rom_of r) bytes) n number ≡ answer_back o n number)
  back_is machines None none =
      let it = nothing_given rom bytes r of (λ legal. none_legal rom (subst (IsLegalSnapshot rom) none legal)) in
      (it.1, refl, λ n number. rw it.0 refl)
  back_is machines (Some m) kept =
      let it = machine_given rom bytes r of m kept.0 kept.1 in
      (it.1, refl, λ n number. rw it.0 refl)

-- ---- memory

-- the first state under a number is the one that takes memory
first_under : (rom bytes : List ℕ) (o : Option MachineState) (room n : ℕ) (r : RunState) (machines : List KeptMachine) → IsKeptAs rom bytes o → kept_under n machines ≡ o
    → length bytes ≢ room → room ≡ snapshot_length (ram_length_of rom) → takes_memory (Some (Keep n)) (record { run = r; kept = machines }) ≡ true
first_under rom bytes None room n r machines none is other size = rw is refl
first_under rom bytes (Some m) room n r machines kept is other size =
    absurd (other (sym (ap length kept.1) ∙ encoded_long m kept.0.legal ∙ ap snapshot_length kept.0.ram_length ∙ sym size))

pub takes_room : (rom : List ℕ) (states : List (List ℕ)) (n : ℕ) (r : RunState) (machines : List KeptMachine) → IsOfImage rom r.debugger.machine → AreKept rom states machines → n < slots
    → length (state_under states n) ≢ snapshot_length (length (processor_of r).memory.banks.ram) → takes_memory (Some (Keep n)) (record { run = r; kept = machines }) ≡ true
takes_room rom states n r machines of kept below other =
    first_under rom (state_under states n) (kept_under n machines) (snapshot_length (length (processor_of r).memory.banks.ram)) n r machines (kept n below) refl other
    (ap snapshot_length of.ram_length)

-- ---- an order that was done, or not

pub on_ok_always : {P : Type 0} (r : Result RunState DebugError) → P → OnOk r P
on_ok_always (Ok now) p = p
on_ok_always (Err why) p = tt

pub if_ok_of : {P Q : RunState → Type 0} (r : Result RunState DebugError) → IfOk r P → ((now : RunState) → P now → Q now) → IfOk r Q
if_ok_of (Ok now) p to = to now p
if_ok_of (Err why) p to = tt

pub on_ok_of_run : {P Q : Type 0} (r : Result RunState DebugError) → OnOk r P → (P → Q) → OnOk r Q
on_ok_of_run (Ok now) p to = to p
on_ok_of_run (Err why) p to = tt

pub on_ok_both : {P Q R : Type 0} (r : Result RunState DebugError) → OnOk r P → OnOk r Q → (P → Q → R) → OnOk r R
on_ok_both (Ok now) p q to = to p q
on_ok_both (Err why) p q to = tt

module _ (rom : List ℕ) (order given : StateOrder) (same : given ≡ order) (number : ℕ) (d : DebugState) (states : List (List ℕ)) (before since : Option (List ℕ)) where
  done : (r : Result RunState DebugError) → IfOk r (λ now. now ≡ (after_state_order order d).run) → OnOk r (AreKept rom states (after_state_order order d).kept)
      → OnOk r (Appends before since (answer_state_order order number d)) → IfOk r (λ now. HasSwitched rom order number d now states before since)
  done (Ok now) run kept told = record { run = run; kept = kept; told = told }
  done (Err why) run kept told = tt

  pub switched : (r : Result RunState DebugError) → IfOk r (λ now. now ≡ (after_state_order order d).run) → OnOk r (AreKept rom states (after_state_order order d).kept)
      → OnOk r (Appends before since (answer_state_order order number d)) → IfOk r (λ now. HasSwitched rom given number d now states before since)
  switched r run kept told = subst (λ (o : StateOrder). IfOk r (λ now. HasSwitched rom o number d now states before since)) (sym same) (done r run kept told)

  refused : (r : Result RunState DebugError) → IfErr r (λ why. IsRefusedAnswer why (answer_state_order order number d) before since)
      → IfErr r (λ why. why ≡ Memory → takes_memory (Some order) d ≡ true) → IfErr r (λ why. IsNotSwitched why order number d before since)
  refused (Ok now) told memory = tt
  refused (Err Input) told memory = absurd told
  refused (Err Output) told memory = told
  refused (Err Memory) told memory = (told, memory refl)

  pub not_switched : (r : Result RunState DebugError) → IfErr r (λ why. IsRefusedAnswer why (answer_state_order order number d) before since)
      → IfErr r (λ why. why ≡ Memory → takes_memory (Some order) d ≡ true) → IfErr r (λ why. IsNotSwitched why given number d before since)
  not_switched r told memory = subst (λ (o : StateOrder). IfErr r (λ why. IsNotSwitched why o number d before since)) (sym same) (refused r told memory)

  unwritten : (r : Result RunState DebugError) → OnErr r (AppendsProperPrefix before since (answer_state_order order number d)) → IfErr r (λ why. why ≡ Output)
      → IfErr r (λ why. IsNotSwitched why order number d before since)
  unwritten (Ok now) failed output = tt
  unwritten (Err why) failed output = subst (λ (w : DebugError). IsNotSwitched w order number d before since) (sym output) failed

  -- a write failed, and nothing else is refused
  pub not_written : (r : Result RunState DebugError) → OnErr r (AppendsProperPrefix before since (answer_state_order order number d)) → IfErr r (λ why. why ≡ Output)
      → IfErr r (λ why. IsNotSwitched why given number d before since)
  not_written r failed output = subst (λ (o : StateOrder). IfErr r (λ why. IsNotSwitched why o number d before since)) (sym same) (unwritten r failed output)

pub memory_by : {P Q : Type 0} (r : Result RunState DebugError) → IfErr r (λ why. why ≡ Memory → P) → (P → Q) → IfErr r (λ why. why ≡ Memory → Q)
memory_by (Ok now) why to = tt
memory_by (Err w) why to = λ e. to (why e)

pub memory_always : {Q : Type 0} (r : Result RunState DebugError) → Q → IfErr r (λ why. why ≡ Memory → Q)
memory_always (Ok now) takes = tt
memory_always (Err w) takes = λ e. takes

pub on_err_with : {P Q : Type 0} (r : Result RunState DebugError) → OnErr r P → (P → Q) → OnErr r Q
on_err_with (Ok now) p to = tt
on_err_with (Err why) p to = to p

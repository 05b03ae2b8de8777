-- No order changes the ROM, or the length of cartridge RAM.
use Rattle.std.proofs.Common.{◌≡◌, ◌∙◌, ℕ, zero, suc, Bool, true, false, List, [], ◌∷◌, length, Option, None, Some, ap, subst, sym}
use Rattle.std.specs.Prelude.{◌==◌, if◌then◌else◌}
use Rattle.bank_controllers.specs.CartridgeState.{IsSameCartridge}
use Rattle.bank_controllers.proofs.Same.{same_itself, same_then, seconds-same}
use Rattle.sm83_processor.proofs.KeptBySteps.{by_step}
use Rattle.sm83_processor.specs.Steps.{step_of, after_steps}
use Rattle.sm83_processor.specs.declared.processor.Processor.{Processor}
use Rattle.memory_map.specs.State.{BusState}
use Rattle.memory_map.specs.BusRules.{bus_rules}
use Rattle.std.proofs.lemmas.List.Elements.{All-cons, All-nil}
use Rattle.machine.specs.Machine.{Frame, PassesTime, after}
use Rattle.machine.proofs.KeptByInputs.{bus_keeps, by_inputs}
use Rattle.debugging.specs.declared.order.Order.{Order}
use Rattle.debugging.specs.declared.order.Order.TheVariants.{Frames, Seconds, Step, Until, Continue, Set, SetRegister, Registers, History, List as Listing, Look, Bank, Serial, Digest, Position}
use Rattle.snapshot.specs.Encoding.{snapshot_length}
use Rattle.snapshot.specs.Legal.{IsOfImage}
use Rattle.memory_map.proofs.SameCartridge.{write_same}
use Rattle.debugging.specs.Orders.{order_of}
use Rattle.debugging.specs.Quiet.{HasRom}
use Rattle.debugging.specs.Run.{RunState, after_frame, after_frames, after_steps_of, processor_of}
use Rattle.debugging.specs.Answers.{after_asked, after_line, after_order}

abbrev pub ram_length : RunState → ℕ
ram_length r = length (processor_of r).memory.banks.ram

-- the cartridge of another run is the same
abbrev IsKept : RunState → RunState → Type 0
IsKept old new = IsSameCartridge (processor_of old).memory.banks (processor_of new).memory.banks

by_steps : (n : ℕ) (p : Processor BusState) → IsSameCartridge p.memory.banks (after_steps bus_rules n p).memory.banks
unfolding after_steps
by_steps zero p = same_itself p.memory.banks
by_steps (suc n) p = same_then _ _ _ (by_step bus_rules (λ old new. IsSameCartridge old.banks new.banks) bus_keeps p) (by_steps n (step_of bus_rules p).after)

itself : (r : RunState) → IsKept r r
itself r = same_itself (processor_of r).memory.banks

steps_keep : (n : ℕ) (r : RunState) → IsKept r (after_steps_of n r)
steps_keep n r = by_steps n (processor_of r)

frame_keeps : (buttons : ℕ) (r : RunState) → IsKept r (after_frame buttons r)
unfolding after
frame_keeps buttons r = by_inputs r.debugger.machine (Frame buttons ∷ []) (All-cons PassesTime (Frame buttons) [] tt (All-nil PassesTime))

frames_keep : (times buttons : ℕ) (r : RunState) → IsKept r (after_frames times buttons r)
frames_keep zero buttons r = itself r
frames_keep (suc n) buttons r = same_then _ _ _ (frame_keeps buttons r) (frames_keep n buttons (after_frame buttons r))

order_keeps : (order : Order) (r : RunState) → IsKept r (after_order order r)
order_keeps (Frames buttons times) r = frames_keep times buttons r
order_keeps (Seconds n) r = seconds-same n (processor_of r).memory.banks
order_keeps (Step n) r = steps_keep n r
order_keeps (Until limit conditions) r = steps_keep _ r
order_keeps (Continue limit conditions) r = steps_keep _ r
order_keeps (Set address byte) r = write_same address byte (processor_of r).memory
order_keeps (SetRegister value) r = itself r
order_keeps Registers r = itself r
order_keeps (History n) r = itself r
order_keeps (Listing address n) r = itself r
order_keeps (Look look) r = itself r
order_keeps (Bank address) r = itself r
order_keeps Serial r = itself r
order_keeps Digest r = itself r
order_keeps Position r = itself r

asked_keeps : (asked : Option Order) (r : RunState) → IsKept r (after_asked asked r)
asked_keeps None r = itself r
asked_keeps (Some order) r = order_keeps order r

either_keeps : (b : Bool) (r x : RunState) → IsKept r x → IsKept r (if b then r else x)
either_keeps true r x kept = itself r
either_keeps false r x kept = kept

line_kept : (line : List ℕ) (r : RunState) → IsKept r (after_line line r)
line_kept line r = either_keeps (length line == 0) r (after_asked (order_of line) r) (asked_keeps (order_of line) r)

-- ---- the cartridge

of_kept : (rom : List ℕ) (old new : RunState) → IsKept old new → IsOfImage rom old.debugger.machine → IsOfImage rom new.debugger.machine
of_kept rom old new kept of = record { rom = kept.rom ∙ of.rom; kind = kept.kind ∙ of.kind; rumble = kept.rumble ∙ of.rumble; ram_length = kept.ram_length ∙ of.ram_length }

pub line_of : (rom line : List ℕ) (r now : RunState) → now ≡ after_line line r → IsOfImage rom r.debugger.machine → IsOfImage rom now.debugger.machine
line_of rom line r now is of = subst (λ (x : RunState). IsOfImage rom x.debugger.machine) (sym is) (of_kept rom r (after_line line r) (line_kept line r) of)

pub rom_is : (size : ℕ) (rom : List ℕ) (old new : RunState) → HasRom size (processor_of old).memory → IsOfImage rom old.debugger.machine → IsOfImage rom new.debugger.machine → HasRom size (processor_of new).memory
rom_is size rom old new has before after = record { size = has.size ∙ ap length (before.rom ∙ sym after.rom); least = has.least }

pub room_is : (size : ℕ) (rom : List ℕ) (old new : RunState) → size ≡ snapshot_length (ram_length old) → IsOfImage rom old.debugger.machine → IsOfImage rom new.debugger.machine → size ≡ snapshot_length (ram_length new)
room_is size rom old new is before after = is ∙ ap snapshot_length (before.ram_length ∙ sym after.ram_length)

pub steps_of_image : (rom : List ℕ) (n : ℕ) (old now : RunState) → now ≡ after_steps_of n old → IsOfImage rom old.debugger.machine → IsOfImage rom now.debugger.machine
steps_of_image rom n old now is of = subst (λ (x : RunState). IsOfImage rom x.debugger.machine) (sym is) (of_kept rom old (after_steps_of n old) (steps_keep n old) of)

-- ---- the ROM

-- of a processor some steps on
pub rom_after : (rom n : ℕ) (p q : Processor BusState) → HasRom rom p.memory → q ≡ after_steps bus_rules n p → HasRom rom q.memory
rom_after rom n p q has run =
    record { size = has.size ∙ sym (ap (λ (x : Processor BusState). length x.memory.banks.rom) run ∙ ap length (by_steps n p).rom); least = has.least }

-- of a run some steps on
pub rom_of_run : (rom n : ℕ) (old now : RunState) → HasRom rom (processor_of old).memory → now ≡ after_steps_of n old → HasRom rom (processor_of now).memory
rom_of_run rom n old now has run = rom_after rom n (processor_of old) (processor_of now) has (ap processor_of run)

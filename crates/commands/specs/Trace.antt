-- What `trace_lines` writes and leaves, and when it refuses.
use Rattle.std.specs.Prelude.{◌≡◌, ℕ, List, ◌++◌, Option, Some}
use Rattle.std.specs.Io.KnownBytes.{Appends, Keeps}
use Rattle.exact_text.specs.Written.{AppendsProperPrefix}
use Rattle.cartridge.specs.Accepted.{IsAccepted, refusal_of}
use Rattle.memory_map.specs.BusRules.{bus_rules}
use Rattle.machine.specs.Machine.{MachineState}
use Rattle.snapshot.specs.Legal.{IsMachineOf}
use Rattle.sector_device.specs.DiskState.{DiskState}
use Rattle.session.specs.Stands.{Position}
use Rattle.playing.specs.Played.{IsNotTakenUp}
use Rattle.playing.specs.Lines.{resumed_line}
use Rattle.commands.specs.Debug.{IsTakenUp}
use Rattle.debugger.specs.Report.{step_lines}
use Rattle.commands.specs.declared.error.CommandError.{CommandError}
use Rattle.commands.specs.declared.error.CommandError.TheVariants.{Cart, Session, Memory, Output}
use Rattle.commands.specs.Text.{Call, IsUnwritten}

-- of a game that was taken up with so many inputs and this machine, the line of that and those of the next steps
abbrev pub trace_text : (inputs : ℕ) → MachineState → (steps : ℕ) → List ℕ
trace_text inputs machine steps = (resumed_line inputs).text ++ step_lines bus_rules steps machine.processor

-- the game was taken up, and the text of so many steps from there is written
pub record HasTraced (rom : List ℕ) (old now : DiskState) (steps : ℕ) (before since : Option (List ℕ)) : Type 0 where
  pub from : Position
  pub taken_up : IsTakenUp rom old now from
  pub written : Appends before since (trace_text from.count from.machine steps)

-- the game was taken up, and only a proper prefix of the text went out
pub record HasStopped (rom : List ℕ) (old now : DiskState) (steps : ℕ) (before since : Option (List ℕ)) : Type 0 where
  pub from : Position
  pub taken_up : IsTakenUp rom old now from
  pub written : AppendsProperPrefix before since (trace_text from.count from.machine steps)

-- Why nothing, or not all, is traced: the first rule of a cartridge that the image breaks; why the game is not taken up; out of
-- memory; the text could not be written. Only at the last was any of it.
abbrev pub IsTraceCause : (rom : List ℕ) → (steps : ℕ) → Call → CommandError → Type 0
IsTraceCause rom steps trace (Cart fault) = (refusal_of rom ≡ Some fault) × IsUnwritten trace.output
IsTraceCause rom steps trace (Session fault) = IsAccepted rom × IsNotTakenUp rom trace.old trace.now fault trace.output.before trace.output.since
IsTraceCause rom steps trace Memory = IsAccepted rom × IsUnwritten trace.output
IsTraceCause rom steps trace Output = IsAccepted rom × HasStopped rom trace.old trace.now steps trace.output.before trace.output.since
IsTraceCause rom steps trace why = ⊥

-- why the text of this machine of the ROM is not written, and then nothing of it was or a proper prefix
abbrev pub IsUntraced : (rom : List ℕ) → MachineState → (text : List ℕ) → (before since : Option (List ℕ)) → CommandError → Type 0
IsUntraced rom machine text before since Memory = Keeps before since
IsUntraced rom machine text before since Output = IsMachineOf rom machine × AppendsProperPrefix before since text
IsUntraced rom machine text before since why = ⊥

-- What a debugger over a ROM or a game writes and leaves, and when it is refused.
use Rattle.std.specs.Prelude.{◌≡◌, ◌⊎◌, ℕ, List, [], Some}
use Rattle.std.specs.Io.KnownBytes.{Appends, Keeps}
use Rattle.exact_text.specs.Written.{AppendsProperPrefix}
use Rattle.cartridge.specs.Accepted.{IsAccepted, refusal_of}
use Rattle.machine.specs.Machine.{MachineState, start}
use Rattle.snapshot.specs.Legal.{IsMachineOf}
use Rattle.sector_device.specs.DiskState.{DiskState}
use Rattle.log_format.specs.Content.{content}
use Rattle.session.specs.Stands.{IsAtRest, Position, stands}
use Rattle.playing.specs.Played.{IsNotTakenUp}
use Rattle.playing.specs.Lines.{resumed_line}
use Rattle.debugging.specs.Run.{begun}
use Rattle.debugging.specs.Debugged.{Exchange, HasAnsweredAll, HasAnsweredSome, HasBrokenOff, HasLackedMemory, IsDebugCause}
use Rattle.debugging.specs.declared.error.DebugError.{DebugError}
use Rattle.debugging.specs.declared.error.DebugError.TheVariants.{Input as FailedInput, Output as FailedOutput, Memory as LackedMemory}
use Rattle.commands.specs.declared.error.CommandError.{CommandError}
use Rattle.commands.specs.declared.error.CommandError.TheVariants.{Cart, Session, Memory, Debug}

-- nothing was read, and nothing went out
abbrev pub IsIdle : Exchange → Type 0
IsIdle io = (io.left ≡ io.unread) × Keeps io.before io.since

-- ---- from power-on

-- why not all lines were answered: the first rule of a cartridge that the image breaks; out of memory; or the debugger's own cause
abbrev pub IsDebugRomCause : (rom : List ℕ) → Exchange → CommandError → Type 0
IsDebugRomCause rom io (Cart fault) = (refusal_of rom ≡ Some fault) × IsIdle io
IsDebugRomCause rom io Memory = IsAccepted rom × IsIdle io
IsDebugRomCause rom io (Debug why) = IsAccepted rom × IsDebugCause why (begun (start rom)) io
IsDebugRomCause rom io why = ⊥

-- ---- over a game

-- the line of a game with so many inputs went out; the rest of what is read and written
pub record IsBegun (inputs : ℕ) (io rest : Exchange) : Type 0 where
  pub begins : Appends io.before rest.before (resumed_line inputs).text
  pub unread : rest.unread ≡ io.unread
  pub left : rest.left ≡ io.left
  pub since : rest.since ≡ io.since

-- and then all lines were answered, from this machine
abbrev pub IsBegunAndDebugged : (inputs : ℕ) → MachineState → Exchange → Type 0
IsBegunAndDebugged inputs machine io = (rest : Exchange) × IsBegun inputs io rest × HasAnsweredAll (begun machine) rest

-- Why not all lines were answered: the input failed after some of them; or the output, which has a proper prefix of the line of the game or,
-- after it, of the answers; or there was no memory for a line.
abbrev pub IsBegunAndBroken : DebugError → (inputs : ℕ) → MachineState → Exchange → Type 0
IsBegunAndBroken FailedInput inputs machine io = (rest : Exchange) × IsBegun inputs io rest × HasAnsweredSome (begun machine) rest
IsBegunAndBroken FailedOutput inputs machine io =
    ((io.left ≡ io.unread) × AppendsProperPrefix io.before io.since (resumed_line inputs).text)
    ⊎ ((rest : Exchange) × IsBegun inputs io rest × HasBrokenOff (begun machine) rest)
IsBegunAndBroken LackedMemory inputs machine io = (rest : Exchange) × IsBegun inputs io rest × HasLackedMemory (begun machine) rest

-- why a machine of this ROM was not debugged to the end
abbrev pub IsNotDebugged : (rom : List ℕ) → (inputs : ℕ) → MachineState → Exchange → CommandError → Type 0
IsNotDebugged rom inputs machine io Memory = IsIdle io
IsNotDebugged rom inputs machine io (Debug why) = IsMachineOf rom machine × IsBegunAndBroken why inputs machine io
IsNotDebugged rom inputs machine io why = ⊥

-- a game of this ROM was taken up there: if the device is honest, what reads gave stood for it, and the device is at rest with it
pub record IsTakenUp (rom : List ℕ) (old now : DiskState) (from : Position) : Type 0 where
  pub of_rom : IsMachineOf rom from.machine
  pub stood : old.honest → stands rom (content old.sectors) ≡ Some from
  pub rests : old.honest → IsAtRest rom now from.count [] from.machine

-- the game was taken up, and all lines were answered
pub record HasDebugged (rom : List ℕ) (old now : DiskState) (io : Exchange) : Type 0 where
  pub from : Position
  pub taken_up : IsTakenUp rom old now from
  pub debugged : IsBegunAndDebugged from.count from.machine io

-- the game was taken up, and not all lines were answered
pub record HasStopped (rom : List ℕ) (old now : DiskState) (why : DebugError) (io : Exchange) : Type 0 where
  pub from : Position
  pub taken_up : IsTakenUp rom old now from
  pub stopped : IsBegunAndBroken why from.count from.machine io

-- Why not all lines were answered: the first rule of a cartridge that the image breaks; why the game is not taken up; out of memory; or
-- the debugger's own cause. Only at the last was anything read or written.
abbrev pub IsDebugGameCause : (rom : List ℕ) → (old now : DiskState) → Exchange → CommandError → Type 0
IsDebugGameCause rom old now io (Cart fault) = (refusal_of rom ≡ Some fault) × IsIdle io
IsDebugGameCause rom old now io (Session fault) = IsAccepted rom × IsNotTakenUp rom old now fault io.before io.since × (io.left ≡ io.unread)
IsDebugGameCause rom old now io Memory = IsAccepted rom × IsIdle io
IsDebugGameCause rom old now io (Debug why) = IsAccepted rom × HasStopped rom old now why io
IsDebugGameCause rom old now io why = ⊥

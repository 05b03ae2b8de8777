-- A game that was taken up to be debugged, and why it was not, or not to the end.
use Rattle.std.proofs.Common.{◌≡◌, ℕ, List, [], Some, Option, inr, refl, subst}
use Rattle.cartridge.specs.Accepted.{IsAccepted}
use Rattle.machine.specs.Machine.{MachineState}
use Rattle.snapshot.specs.Legal.{IsMachineOf}
use Rattle.sector_device.specs.DiskState.{DiskState}
use Rattle.log_format.specs.Content.{content}
use Rattle.session.specs.Stands.{IsAtRest, Position, stands}
use Rattle.session.specs.declared.error.SessionError.{SessionError}
use Rattle.playing.specs.Played.{IsNotTakenUp}
use Rattle.debugging.specs.Debugged.{Exchange, IsDebugCause}
use Rattle.debugging.specs.Run.{begun}
use Rattle.debugging.specs.declared.error.DebugError.{DebugError}
use Rattle.debugging.specs.declared.error.DebugError.TheVariants.{Input as FailedInput, Output as FailedOutput, Memory as LackedMemory}
use Rattle.commands.specs.declared.error.CommandError.{CommandError}
use Rattle.commands.specs.declared.error.CommandError.TheVariants.{Cart, Script, Session, Stream, Recording, Verify, Debug, Memory, Output}
use Rattle.commands.specs.Debug.{IsBegun, IsBegunAndBroken, IsBegunAndDebugged, IsDebugGameCause, IsNotDebugged, IsTakenUp}
use Rattle.commands.specs.Refusals.{faults_after}

-- ---- a game that was taken up

pub taken_up : (rom image : List ℕ) (old now : DiskState) (from : Position) → image ≡ rom → IsMachineOf image from.machine
    → (old.honest → stands image (content old.sectors) ≡ Some from) → (old.honest → IsAtRest image now from.count [] from.machine) → IsTakenUp rom old now from
taken_up rom image old now from is of stood rests =
    subst (λ (r : List ℕ). IsTakenUp r old now from) is (record { of_rom = of; stood = stood; rests = rests })

-- the machine and the count that were read of a session are these
pub debugged_as : (inputs count : ℕ) (machine same : MachineState) (io : Exchange) → inputs ≡ count → machine ≡ same
    → IsBegunAndDebugged inputs machine io → IsBegunAndDebugged count same io
debugged_as inputs count machine same io all is debugged =
    subst (λ (n : ℕ). IsBegunAndDebugged n same io) all (subst (λ (m : MachineState). IsBegunAndDebugged inputs m io) is debugged)

pub not_debugged_as : (image : List ℕ) (inputs count : ℕ) (machine same : MachineState) (io : Exchange) (why : CommandError) → inputs ≡ count → machine ≡ same
    → IsNotDebugged image inputs machine io why → IsNotDebugged image count same io why
not_debugged_as image inputs count machine same io why all is refused =
    subst (λ (n : ℕ). IsNotDebugged image n same io why) all (subst (λ (m : MachineState). IsNotDebugged image inputs m io why) is refused)

pub game_cause : (rom image : List ℕ) (old now : DiskState) (from : Position) (io : Exchange) (why : CommandError)
    → IsAccepted rom → (IsMachineOf image from.machine → IsTakenUp rom old now from)
    → IsNotDebugged image from.count from.machine io why → IsDebugGameCause rom old now io why
game_cause rom image old now from io (Cart fault) accepted taken refused = absurd refused
game_cause rom image old now from io (Script fault) accepted taken refused = absurd refused
game_cause rom image old now from io (Session fault) accepted taken refused = absurd refused
game_cause rom image old now from io (Stream fault) accepted taken refused = absurd refused
game_cause rom image old now from io (Recording fault) accepted taken refused = absurd refused
game_cause rom image old now from io (Verify fault) accepted taken refused = absurd refused
game_cause rom image old now from io Memory accepted taken refused = (accepted, refused)
game_cause rom image old now from io (Debug why) accepted taken refused =
    (accepted, record { from = from; taken_up = taken refused.0; stopped = refused.1 })
game_cause rom image old now from io Output accepted taken refused = absurd refused

-- no call failed where lines were not answered
pub lines_only : (rom : List ℕ) (inputs : ℕ) (machine : MachineState) (io : Exchange) (why : CommandError) (n : ℕ)
    → IsNotDebugged rom inputs machine io why → faults_after why n ≡ n
lines_only rom inputs machine io (Cart fault) n refused = absurd refused
lines_only rom inputs machine io (Script fault) n refused = absurd refused
lines_only rom inputs machine io (Session fault) n refused = absurd refused
lines_only rom inputs machine io (Stream fault) n refused = absurd refused
lines_only rom inputs machine io (Recording fault) n refused = absurd refused
lines_only rom inputs machine io (Verify fault) n refused = absurd refused
lines_only rom inputs machine io Memory n refused = refl
lines_only rom inputs machine io (Debug why) n refused = refl
lines_only rom inputs machine io Output n refused = absurd refused

-- ---- a game that was not taken up

pub not_taken_up : (rom image : List ℕ) (old now : DiskState) (why : SessionError) (left text : Option (List ℕ)) → image ≡ rom → IsAccepted rom
    → IsNotTakenUp image old now why text text
    → IsDebugGameCause rom old now (record { unread = left; left = left; before = text; since = text }) (Session why)
not_taken_up rom image old now why left text is accepted refused =
    (accepted, subst (λ (r : List ℕ). IsNotTakenUp r old now why text text) is refused, refl)

-- ---- the lines of a debugger behind that of the game

pub broken_behind : (why : DebugError) (inputs : ℕ) (machine : MachineState) (io rest : Exchange) → IsBegun inputs io rest → IsDebugCause why (begun machine) rest
    → IsBegunAndBroken why inputs machine io
broken_behind FailedInput inputs machine io rest line cause = (rest, line, cause)
broken_behind FailedOutput inputs machine io rest line cause = inr (rest, line, cause)
broken_behind LackedMemory inputs machine io rest line cause = (rest, line, cause)

-- The text of a trace, which is written line by line, and why there is none.
use Rattle.std.proofs.Common.{◌≡◌, ℕ, List, Option, refl, subst}
use Rattle.cartridge.specs.Accepted.{IsAccepted}
use Rattle.snapshot.specs.Legal.{IsMachineOf}
use Rattle.sector_device.specs.DiskState.{DiskState}
use Rattle.session.specs.Stands.{Position}
use Rattle.session.specs.declared.error.SessionError.{SessionError}
use Rattle.machine.specs.Machine.{MachineState}
use Rattle.playing.specs.Played.{IsNotTakenUp}
use Rattle.commands.specs.declared.error.CommandError.{CommandError}
use Rattle.commands.specs.declared.error.CommandError.TheVariants.{Cart, Script, Session, Stream, Recording, Verify, Debug, Memory, Output}
use Rattle.commands.specs.Debug.{IsTakenUp}
use Rattle.commands.specs.Trace.{IsTraceCause, IsUntraced, trace_text}
use Rattle.commands.specs.Refusals.{faults_after}

-- ---- a game that was taken up

pub trace_cause : (rom image : List ℕ) (steps : ℕ) (old now : DiskState) (from : Position) (before since : Option (List ℕ)) (why : CommandError)
    → IsAccepted rom → (IsMachineOf image from.machine → IsTakenUp rom old now from)
    → IsUntraced image from.machine (trace_text from.count from.machine steps) before since why
    → IsTraceCause rom steps (record { old = old; now = now; output = record { before = before; since = since } }) why
trace_cause rom image steps old now from before since (Cart fault) accepted taken unwritten = absurd unwritten
trace_cause rom image steps old now from before since (Script fault) accepted taken unwritten = absurd unwritten
trace_cause rom image steps old now from before since (Session fault) accepted taken unwritten = absurd unwritten
trace_cause rom image steps old now from before since (Stream fault) accepted taken unwritten = absurd unwritten
trace_cause rom image steps old now from before since (Recording fault) accepted taken unwritten = absurd unwritten
trace_cause rom image steps old now from before since (Verify fault) accepted taken unwritten = absurd unwritten
trace_cause rom image steps old now from before since (Debug fault) accepted taken unwritten = absurd unwritten
trace_cause rom image steps old now from before since Memory accepted taken unwritten = (accepted, unwritten)
trace_cause rom image steps old now from before since Output accepted taken unwritten =
    (accepted, record { from = from; taken_up = taken unwritten.0; written = unwritten.1 })

-- it was not taken up
pub not_taken_up : (rom image : List ℕ) (steps : ℕ) (old now : DiskState) (why : SessionError) (before : Option (List ℕ)) → image ≡ rom → IsAccepted rom
    → IsNotTakenUp image old now why before before → IsTraceCause rom steps (record { old = old; now = now; output = record { before = before; since = before } }) (Session why)
not_taken_up rom image steps old now why before is accepted refused = (accepted, subst (λ (r : List ℕ). IsNotTakenUp r old now why before before) is refused)

-- no call failed where the text was not written
pub text_only : (rom : List ℕ) (machine : MachineState) (text : List ℕ) (before since : Option (List ℕ)) (why : CommandError) (n : ℕ) → IsUntraced rom machine text before since why → faults_after why n ≡ n
text_only rom machine text before since (Cart fault) n unwritten = absurd unwritten
text_only rom machine text before since (Script fault) n unwritten = absurd unwritten
text_only rom machine text before since (Session fault) n unwritten = absurd unwritten
text_only rom machine text before since (Stream fault) n unwritten = absurd unwritten
text_only rom machine text before since (Recording fault) n unwritten = absurd unwritten
text_only rom machine text before since (Verify fault) n unwritten = absurd unwritten
text_only rom machine text before since (Debug fault) n unwritten = absurd unwritten
text_only rom machine text before since Memory n unwritten = refl
text_only rom machine text before since Output n unwritten = refl

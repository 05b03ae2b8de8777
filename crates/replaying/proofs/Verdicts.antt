-- From the comparison to what is verified.
use Rattle.std.proofs.Common.{◌≡◌, ◌⊎◌, inl, inr, ⊎_elim, ap, ℕ, List, Option, None, Some, Result, Ok, Err, refl, sym, subst}
use Rattle.std.specs.Prelude.{IfErr}
use Rattle.sha2.specs.Sha256.{sha256}
use Rattle.machine.specs.Machine.{MachineState}
use Rattle.sector_device.specs.DiskState.{DiskState, HasAnswered}
use Rattle.input_entries.specs.declared.Entry.{Entry}
use Rattle.recording.specs.Calls.{IsOpenCause}
use Rattle.recording.specs.Recorded.{recorded}
use Rattle.recording.specs.declared.fault.RecordingFault.{RecordingFault}
use Rattle.recording.specs.declared.fault.RecordingFault.TheVariants.{Memory as NoMemoryOfRecording}
use Rattle.session.specs.Calls.{CanBeLookedAt}
use Rattle.session.specs.declared.error.SessionError.{SessionError}
use Rattle.session.specs.declared.error.SessionError.TheVariants.{Memory as NoMemory}
use Rattle.log_format.specs.Content.{content}
use Rattle.session.specs.Stands.{Position, stands}
use Rattle.session.proofs.Answering.{answered_otherwise, answered_value}
use Rattle.replaying.specs.Replayed.{LeadsWithin, IsCompareCauseWithin, IsOfComparing}
use Rattle.replaying.specs.Verifying.{IsVerifiedWithin, IsVerifyCause, IsOfVerifying, IsWhereMemoryLacks, save_faults_after}
use Rattle.replaying.specs.declared.error.VerifyError.{VerifyError}
use Rattle.replaying.specs.declared.error.VerifyError.TheVariants.{Save, Recording, Ahead}
use Rattle.replaying.specs.declared.verifying.Limits.{Limits}

pub verified : (limits : Option Limits) (rom : List ℕ) (save recording : List (List ℕ)) (at : Position) (entries : List Entry) (count : ℕ) → stands rom (content save) ≡ Some at → recorded (sha256 rom) recording ≡ Some entries → count ≡ at.count
    → LeadsWithin limits rom entries at.count at.machine → IsVerifiedWithin limits rom save recording count
verified None rom save recording at entries count stood held is leads = record {
  at = at;
  stood = stood;
  count_is = sym is;
  holds = record { entries = entries; holds = held; enough = leads.enough; machine_is = leads.machine_is };
}
verified (Some limits) rom save recording at entries count stood held is leads = record { at = at; entries = entries; stood = stood; recorded_is = held; holds = (sym is, leads) }

pub compare_cause : (limits : Option Limits) (rom : List ℕ) (save recording : DiskState) (at : Position) (entries : List Entry) (why : VerifyError) → stands rom (content save.sectors) ≡ Some at → recorded (sha256 rom) recording.sectors ≡ Some entries
    → IsCompareCauseWithin limits rom entries at.count at.machine why → IsVerifyCause limits rom save recording why
compare_cause limits rom save recording at entries (Save why) stood held cause = absurd cause
compare_cause limits rom save recording at entries (Recording why) stood held cause = ((at, stood), subst (λ (f : RecordingFault). IsOpenCause f (sha256 rom) recording) (sym cause) tt)
compare_cause limits rom save recording at entries why stood held cause = record { at = at; entries = entries; stood = stood; recorded_is = held; holds = cause }

-- no call of the SAVE's device after the look
pub answered_save : {T E : Type 0} (limits : Option Limits) {first_faults : E → ℕ → ℕ} {old now : DiskState} {look : T} (r : Result ℕ VerifyError) → IfErr r (IsOfComparing limits) → HasAnswered first_faults old now (Ok look) → HasAnswered save_faults_after old now r
answered_save limits (Ok count) kind first = answered_value first
answered_save limits (Err (Save why)) kind first = absurd kind
answered_save limits (Err why) kind first = answered_otherwise first (λ n. refl)

-- what is no refusal of the look is one of `verify`
pub of_verifying : (limits : Option Limits) (r : Result ℕ VerifyError) → IfErr r (IsOfComparing limits) → IfErr r (IsOfVerifying limits)
of_verifying limits (Ok count) kind = tt
of_verifying limits (Err (Save why)) kind = absurd kind
of_verifying None (Err (Ahead count)) kind = kind
of_verifying limits (Err why) kind = tt

-- ---- where memory was refused

-- to the look
pub look_lacks : {D : Type 0} (disk : D → DiskState) {rom : List ℕ} {old now : D} (recording : DiskState) (why : SessionError) → (why ≡ NoMemory → (now ≡ old) ⊎ ((disk old).honest → CanBeLookedAt rom (disk old))) → IsWhereMemoryLacks (Save why) rom (disk old) (disk now) recording recording
look_lacks disk recording NoMemory memory =
    (⊎_elim (λ same. inl (ap (λ d. (disk d).sectors) same, ap (λ d. (disk d).moment) same, ap (λ d. (disk d).faults) same)) (λ can. inr can) (memory refl), (refl, refl, refl))
look_lacks disk recording why memory = tt

-- to what opens the recording
pub open_lacks : {D : Type 0} (disk : D → DiskState) (rom : List ℕ) (save looked : DiskState) {at : Position} {old now : D} (why : RecordingFault) → (why ≡ NoMemoryOfRecording → now ≡ old) → (save.honest → stands rom (content save.sectors) ≡ Some at)
    → IsWhereMemoryLacks (Recording why) rom save looked (disk old) (disk now)
open_lacks disk rom save looked {at = at} NoMemoryOfRecording memory stood =
    let same = memory refl in
    λ honest. (λ h. record { from = at; stood = stood h }, (ap (λ d. (disk d).sectors) same, ap (λ d. (disk d).moment) same, ap (λ d. (disk d).faults) same))
open_lacks disk rom save looked why memory stood = tt

-- to neither where the two are compared
pub compared_lacks : (rom : List ℕ) (save now_save recording now_recording opened : DiskState) (entries : List Entry) (count : ℕ) (machine : MachineState) (limits : Option Limits) (r : Result ℕ VerifyError) → IfErr r (IsOfComparing limits)
    → IfErr r (λ why. opened.honest → IsCompareCauseWithin limits rom entries count machine why) → (recording.honest → opened.honest) → IfErr r (λ why. IsWhereMemoryLacks why rom save now_save recording now_recording)
compared_lacks rom save now_save recording now_recording opened entries count machine limits (Ok n) kind cause here = tt
compared_lacks rom save now_save recording now_recording opened entries count machine limits (Err (Save why)) kind cause here = absurd kind
compared_lacks rom save now_save recording now_recording opened entries count machine limits (Err (Recording NoMemoryOfRecording)) kind cause here = λ honest. let is = cause (here honest) in absurd (cc)
compared_lacks rom save now_save recording now_recording opened entries count machine limits (Err why) kind cause here = tt

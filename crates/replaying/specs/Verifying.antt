-- Whether a SAVE and a recording agree, as `verify` answers it.
use Rattle.std.specs.Prelude.{◌≡◌, ◌≢◌, ◌⊎◌, ◌≤◌, ◌<◌, ℕ, List, length, take, Option, None, Some, ⊤}
use Rattle.sha2.specs.Sha256.{sha256}
use Rattle.machine.specs.Machine.{after, start}
use Rattle.sector_device.specs.DiskState.{DiskState}
use Rattle.input_entries.specs.declared.Entry.{Entry}
use Rattle.recording.specs.Calls.{IsOpenCause, faults_after as faults_after_recording}
use Rattle.recording.specs.Recorded.{recorded}
use Rattle.recording.specs.declared.fault.RecordingFault.TheVariants.{Memory as NoMemoryOfRecording}
use Rattle.log_format.specs.Content.{content}
use Rattle.session.specs.Calls.{CanBeLookedAt, faults_after as faults_after_session}
use Rattle.session.specs.Found.{IsLookCause}
use Rattle.session.specs.Inputs.{inputs_of}
use Rattle.session.specs.Stands.{Position, stands}
use Rattle.session.specs.declared.error.SessionError.TheVariants.{Memory as NoMemory, Output}
use Rattle.playing.specs.Played.{IsAsItWas}
use Rattle.replaying.specs.Agreeing.{IsRecorded}
use Rattle.replaying.specs.Within.{AreCompared, IsBeyond, LeadsUpTo}
use Rattle.replaying.specs.declared.error.VerifyError.{VerifyError}
use Rattle.replaying.specs.declared.error.VerifyError.TheVariants.{Save, Recording, Behind, Ahead, Memory, Differ}
use Rattle.replaying.specs.declared.verifying.Limits.{Limits}

-- the SAVE stands for a machine after so many inputs, and the recording holds them and leads to this machine
pub record IsVerified (rom : List ℕ) (save recording : List (List ℕ)) (count : ℕ) : Type 0 where
  pub at : Position
  pub stood : stands rom (content save) ≡ Some at
  pub count_is : at.count ≡ count
  pub holds : IsRecorded rom recording at

-- both hold a game of this ROM: the SAVE a machine after so many inputs, the recording these inputs
pub record AreFound (rom : List ℕ) (save recording : List (List ℕ)) (P : Position → List Entry → Type 0) : Type 0 where
  pub at : Position
  pub entries : List Entry
  pub stood : stands rom (content save) ≡ Some at
  pub recorded_is : recorded (sha256 rom) recording ≡ Some entries
  pub holds : P at entries

-- within limits: the recording holds the inputs of the SAVE, and not too many beyond them; and where they are no more than are replayed, it
-- leads to this machine
abbrev pub IsVerifiedWithin : (limits : Option Limits) → (rom : List ℕ) → (save recording : List (List ℕ)) → (count : ℕ) → Type 0
IsVerifiedWithin None rom save recording count = IsVerified rom save recording count
IsVerifiedWithin (Some limits) rom save recording count =
    AreFound rom save recording (λ at entries. (at.count ≡ count) × LeadsUpTo limits rom entries at.count at.machine)

-- why a SAVE is not verified; `IsWhereMemoryLacks` says more of running out of memory for a look or a recording
abbrev pub IsVerifyCause : (limits : Option Limits) → (rom : List ℕ) → (save recording : DiskState) → VerifyError → Type 0
IsVerifyCause limits rom save recording (Save why) = IsLookCause rom (content save.sectors) why
IsVerifyCause limits rom save recording (Recording why) = ((at : Position) × (stands rom (content save.sectors) ≡ Some at)) × IsOpenCause why (sha256 rom) recording
IsVerifyCause limits rom save recording (Behind count) = AreFound rom save.sectors recording.sectors (λ at entries. (count ≡ length entries) × (count < at.count))
IsVerifyCause limits rom save recording (Ahead count) = AreFound rom save.sectors recording.sectors (λ at entries. (count ≡ length entries) × IsBeyond limits count at.count)
IsVerifyCause limits rom save recording Memory = AreFound rom save.sectors recording.sectors (λ at entries. AreCompared limits (length entries) at.count)
IsVerifyCause limits rom save recording Differ =
    AreFound rom save.sectors recording.sectors (λ at entries. (at.count ≤ length entries) × (at.machine ≢ after (start rom) (inputs_of (take at.count entries))))

-- Where memory was refused to the look at the SAVE, no call was made of its device, or it can be looked at; where it was refused to what
-- opens the recording, it can; and no call was made of the recording's device.
abbrev pub IsWhereMemoryLacks : VerifyError → (rom : List ℕ) → (save now_save recording now_recording : DiskState) → Type 0
IsWhereMemoryLacks (Save NoMemory) rom save now_save recording now_recording = (IsAsItWas save now_save ⊎ (save.honest → CanBeLookedAt rom save)) × IsAsItWas recording now_recording
IsWhereMemoryLacks (Recording NoMemoryOfRecording) rom save now_save recording now_recording = recording.honest → (save.honest → CanBeLookedAt rom save) × IsAsItWas recording now_recording
IsWhereMemoryLacks why rom save now_save recording now_recording = ⊤

-- a recording is ahead only where there are limits; and no report is written, so that none fails
abbrev pub IsOfVerifying : (limits : Option Limits) → VerifyError → Type 0
IsOfVerifying limits (Save why) = why ≢ Output
IsOfVerifying None (Ahead count) = ⊥
IsOfVerifying limits why = ⊤

-- the count of failed calls of the SAVE's device after an answer
abbrev pub save_faults_after : VerifyError → ℕ → ℕ
save_faults_after (Save why) faults = faults_after_session why faults
save_faults_after (Recording why) faults = faults
save_faults_after (Behind count) faults = faults
save_faults_after (Ahead count) faults = faults
save_faults_after Memory faults = faults
save_faults_after Differ faults = faults

-- and of the recording's
abbrev pub recording_faults_after : VerifyError → ℕ → ℕ
recording_faults_after (Save why) faults = faults
recording_faults_after (Recording why) faults = faults_after_recording why faults
recording_faults_after (Behind count) faults = faults
recording_faults_after (Ahead count) faults = faults
recording_faults_after Memory faults = faults
recording_faults_after Differ faults = faults

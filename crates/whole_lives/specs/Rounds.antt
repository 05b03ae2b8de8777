-- One round: what its calls leave.
use Rattle.std.specs.Prelude.{◌≡◌, ◌⊎◌, ℕ, List, true, false}
use Rattle.session.specs.declared.error.SessionError.TheVariants.{Device}
use Rattle.streaming.specs.declared.error.StreamError.TheVariants.{Session as OfStream}
use Rattle.recorded_play.specs.declared.error.RecordError.TheVariants.{Session as OfRecord, Recording as OfRecording}
use Rattle.recording.specs.declared.fault.RecordingFault.TheVariants.{Device as RecordingDevice}
use Rattle.whole_lives.specs.Lives.{Asking, Files}
use Rattle.whole_lives.specs.Devices.{Memories, AreLeft, EachAgrees, KeepFuses, LeavesRound, CountsCut, IsFailedCall, Obeying, Refusing, RefusesPlay, is_blown}
use Rattle.whole_lives.specs.declared.error.LifeError.{LifeError}
use Rattle.whole_lives.specs.declared.error.LifeError.TheVariants.{Stream, Record}
use Rattle.session.specs.Stands.{Position}

-- it was given whole, with the fuses that were set, and the SAVE that is left stands for this position
pub record GivesWhole (asks : Asking) (obeys : Obeying) (rom : List ℕ) (old now : Memories) (text report : List ℕ) (at : Position) : Type 0 where
  pub leaves : LeavesRound asks rom old now text report true
  pub said : obeys rom old now text report
  pub counts : CountsCut true old now
  pub fuses : KeepFuses old now
  pub ends : EachAgrees rom old → (files : Files) × AreLeft rom now files × (files.save ≡ at)

-- it was refused, with the fuses that were set, behind lines of a report which is all of it where a call failed
pub record StopsGiving (asks : Asking) (refuses : Refusing) (rom : List ℕ) (old left : Memories) (text report : List ℕ) (why : LifeError) : Type 0 where
  pub front : List ℕ
  pub leaves : LeavesRound asks rom old left text front false
  pub whole : IsFailedCall why → front ≡ report
  pub refused : RefusesPlay refuses rom old left text report why
  pub fuses : KeepFuses old left

-- one was failed by the fuse of its device
abbrev pub IsByFuse : LifeError → (left : Memories) → Type 0
IsByFuse why left =
    ((why ≡ Stream (OfStream Device)) × (left.save.blown ≡ true)) ⊎ ((why ≡ Record (OfRecord Device)) × (left.save.blown ≡ true))
    ⊎ ((why ≡ Record (OfRecording RecordingDevice)) × (is_blown left.recording ≡ true))

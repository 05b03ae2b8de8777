-- Why lines are refused: a device that stands for something not for what it holds, and a call that failed is counted.
use Rattle.std.proofs.Common.{◌≡◌, inl, inr, ⊎_elim, ℕ, List, length, true, Option, Some, None, refl, sym, ap, ◌∙◌, arith}
use Rattle.std.proofs.lemmas.Bool.{and_parts, eqb-true}
use Rattle.std.proofs.lemmas.Slice.Eq.{bytes_eq-Decides}
use Rattle.std.proofs.lemmas.List.Elements.{All-contains}
use Rattle.std.proofs.lemmas.List.Sums.{AllPass-from_list_all}
use Rattle.sha2.specs.Sha256.{sha256}
use Rattle.cartridge.specs.Header.{ram_length_of}
use Rattle.snapshot.specs.Legal.{IsRefusal}
use Rattle.snapshot.specs.Table.{is_legal, table_of}
use Rattle.snapshot.specs.Encoding.{snapshot_length}
use Rattle.snapshot.specs.declared.error.SnapError.{SnapError}
use Rattle.snapshot.specs.declared.error.SnapError.TheVariants.{SnapLength, Field, Memory as NoMemory}
use Rattle.snapshot.specs.declared.field.SnapshotField.{SnapshotField}
use Rattle.log_format.specs.Content.{ImageContent, Body}
use Rattle.log_format.specs.declared.content.Header.{Header}
use Rattle.session.specs.Found.{IsWhole, IsResumeCause, IsDamaged}
use Rattle.session.specs.Stands.{Position, is_snapshot, stands}
use Rattle.session.specs.declared.error.Damage.{Damage}
use Rattle.session.specs.declared.error.Damage.TheVariants.{Count, Snapshot, Entry}
use Rattle.session.specs.declared.error.SessionError.{SessionError}
use Rattle.session.specs.declared.error.SessionError.TheVariants.{Memory, Device, NoSession, TooSmall, OtherCartridge, Damaged, GenerationsUsedUp, Broken, SaveFirst, CountFull, Output}
use Rattle.session.proofs.StandsLaws.{Soundness, soundness, standing}
use Rattle.sector_device.specs.DiskState.{DiskState}
use Rattle.sector_device.specs.Memory.{MemoryState, memory_disk}
use Rattle.log_format.specs.Content.{content}
use Rattle.playing.specs.Played.{IsStop}
use Rattle.recording.specs.declared.fault.RecordingFault.TheVariants.{Memory as RecordingMemory, Device as RecordingDevice, TooSmall as RecordingTooSmall, NotBlank, NoRecording, OtherCartridge as OtherRecording, Full, Broken as BrokenRecording}
use Rattle.streaming.specs.Streamed.{faults_after_stream}
use Rattle.streaming.specs.declared.error.StreamError.{StreamError}
use Rattle.recorded_play.specs.Steps.{recording_faults_after, save_faults_after}
use Rattle.recorded_play.specs.declared.error.RecordError.{RecordError}
use Rattle.streaming.specs.declared.error.StreamError.TheVariants.{Session as OfStream, Line as WrongLine, Input as FailedInput, Snapshot as DamagedSnapshot, OtherCartridge as NamesAnother, Memory as LacksMemory}
use Rattle.recorded_play.specs.declared.error.RecordError.TheVariants.{Session as OfRecord, Recording, Behind, Line as WrongRecorded, Input as FailedRecorded}
use Rattle.whole_lives.specs.Devices.{CountsRefusal, EachStands, IsSound, IsSoundStop, Memories}
use Rattle.whole_lives.specs.Lines.{IsCause, RefuseLines}
use Rattle.whole_lives.specs.declared.error.LifeError.{LifeError}
use Rattle.whole_lives.specs.declared.error.LifeError.TheVariants.{Memory as LifeMemory, Stream, Record}
use Rattle.whole_lives.proofs.RoundLaws.{reads}

no_refusal : (rom bytes : List ℕ) (error : SnapError) → is_snapshot rom bytes ≡ true → IsRefusal rom bytes error → ¬ (error ≡ NoMemory) → ⊥
no_refusal rom bytes (SnapLength n) sound refused other = refused.1 (eqb-true (length bytes) (snapshot_length (ram_length_of rom)) (and_parts _ _ sound).0)
no_refusal rom bytes (Field offset) sound refused other =
    let legal : is_legal refused.1.field bytes ≡ true =
    All-contains (λ (x : SnapshotField). is_legal x bytes ≡ true) (table_of rom) refused.1.field (AllPass-from_list_all (λ (x : SnapshotField). is_legal x bytes) (table_of rom) (and_parts _ _ sound).1) refused.1.listed in
    let illegal = refused.1.illegal in
    absurd (cc)
no_refusal rom bytes NoMemory sound refused other = other refl

sound_whole : {rom : List ℕ} {held : Option ImageContent} {position : Position} {P : Header → Body → Type 0} → stands rom held ≡ Some position → (w : IsWhole held P) → Soundness rom w.header w.body
sound_whole {rom} {held} {position} {P} is w = soundness rom w.header w.body (standing rom w.header w.body position (sym (ap (stands rom) w.is) ∙ is)).sound

nothing_stands : (rom : List ℕ) (held : Option ImageContent) (position : Position) → stands rom held ≡ Some position → held ≡ None → ⊥
unfolding stands
nothing_stands rom held position is none = let no : None ≡ Some position = ap (stands rom) (sym none) ∙ is in absurd (cc)

short_stands : (rom : List ℕ) (held : Option ImageContent) (header : Header) (position : Position) → stands rom held ≡ Some position → held ≡ Some (record { header = header; body = None }) → ⊥
unfolding stands
short_stands rom held header position is short = let no : None ≡ Some position = ap (stands rom) (sym short) ∙ is in absurd (cc)

damaged_stands : (rom : List ℕ) (held : Option ImageContent) (position : Position) (damage : Damage) → stands rom held ≡ Some position → IsDamaged rom held damage → ⊥
damaged_stands rom held position Count is damaged =
    let sound = sound_whole is damaged in
    omega (arith, sound.count, damaged.holds.1)
damaged_stands rom held position (Snapshot error) is damaged =
    let sound = sound_whole is damaged in
    no_refusal rom damaged.body.blob error sound.snapshot damaged.holds.1 damaged.holds.2
damaged_stands rom held position (Entry index) is damaged =
    let sound = sound_whole is damaged in
    let none = sound.inputs in
    let some = damaged.holds.1 in
    absurd (cc)

-- why a game that stands for a position is not taken up
sound_stop : (rom : List ℕ) (generation : ℕ) (held : Option ImageContent) (position : Position) (why : SessionError) → stands rom held ≡ Some position → IsResumeCause rom generation held why → IsSoundStop why
sound_stop rom generation held position Memory is cause = tt
sound_stop rom generation held position Device is cause = tt
sound_stop rom generation held position NoSession is cause = nothing_stands rom held position is cause
sound_stop rom generation held position (TooSmall n) is cause = short_stands rom held cause.header position is cause.is
sound_stop rom generation held position OtherCartridge is cause =
    let sound = sound_whole is cause in
    cause.holds ((bytes_eq-Decides cause.header.id (sha256 rom)).0 sound.id)
sound_stop rom generation held position (Damaged damage) is cause = damaged_stands rom held position damage is cause
sound_stop rom generation held position GenerationsUsedUp is cause = tt
sound_stop rom generation held position Broken is cause = cause
sound_stop rom generation held position SaveFirst is cause = cause
sound_stop rom generation held position CountFull is cause = absurd cause
sound_stop rom generation held position Output is cause = tt

-- why a play stops that was taken up
stop_sound : (why : SessionError) (all : ℕ) (now : DiskState) → IsStop why all now → IsSoundStop why
stop_sound Memory all now stop = tt
stop_sound Device all now stop = tt
stop_sound NoSession all now stop = stop
stop_sound (TooSmall n) all now stop = stop
stop_sound OtherCartridge all now stop = stop
stop_sound (Damaged damage) all now stop = stop
stop_sound GenerationsUsedUp all now stop = tt
stop_sound Broken all now stop = stop
stop_sound SaveFirst all now stop = stop
stop_sound CountFull all now stop = tt
stop_sound Output all now stop = tt

-- ---- lines

module _ (rom : List ℕ) (save : MemoryState) (position : Position) (is : stands rom (content (memory_disk save).sectors) ≡ Some position) where
  cause_sound : (why : LifeError) (recording : Option MemoryState) (left : MemoryState) (left_recording : Option MemoryState) (text unread report : List ℕ) → IsCause why rom save recording left left_recording text unread report → IsSound why
  cause_sound LifeMemory recording left left_recording text unread report cause = tt
  cause_sound (Stream (OfStream why)) None left None text unread report (inl refused) = sound_stop rom _ _ position why is (refused.0.cause tt)
  cause_sound (Stream (OfStream why)) None left None text unread report (inr stopped) = stop_sound why _ _ stopped.cause
  cause_sound (Stream (OfStream why)) None left (Some l) text unread report cause = absurd cause
  cause_sound (Stream (OfStream why)) (Some r) left left_recording text unread report cause = absurd cause
  cause_sound (Stream (WrongLine n)) recording left left_recording text unread report cause = tt
  cause_sound (Stream FailedInput) recording left left_recording text unread report cause = tt
  cause_sound (Stream DamagedSnapshot) recording left left_recording text unread report cause = tt
  cause_sound (Stream NamesAnother) recording left left_recording text unread report cause = tt
  cause_sound (Stream LacksMemory) recording left left_recording text unread report cause = tt
  cause_sound (Record (OfRecord why)) None left left_recording text unread report cause = absurd cause
  cause_sound (Record (OfRecord why)) (Some r) left None text unread report cause = absurd cause
  cause_sound (Record (OfRecord why)) (Some r) left (Some l) text unread report (inl refused) =
      ⊎_elim (λ found. sound_stop rom _ _ position why is found) (λ stopped. stop_sound why _ _ stopped.stop) (refused.0.cause tt tt)
  cause_sound (Record (OfRecord why)) (Some r) left (Some l) text unread report (inr stopped) = stop_sound why _ _ stopped.cause
  cause_sound (Record (Recording why)) recording left left_recording text unread report cause = tt
  cause_sound (Record (Behind n)) recording left left_recording text unread report cause = tt
  cause_sound (Record (WrongRecorded n)) recording left left_recording text unread report cause = tt
  cause_sound (Record FailedRecorded) recording left left_recording text unread report cause = tt

pub play_sound : (rom : List ℕ) (now left : Memories) (text report : List ℕ) (why : LifeError) → EachStands rom now → RefuseLines rom now left text report why → IsSound why
play_sound rom now left text report why stand refused =
    let stood = stand (memory_disk now.save).sectors (reads now.save) in
    cause_sound rom now.save stood.0 stood.1 why now.recording left.save left.recording text refused.unread report refused.cause

-- ---- how many calls had failed

module _ (save left : MemoryState) where
  pub stream_counted : (why : StreamError) → left.faults ≡ faults_after_stream why save.faults → CountsRefusal (Stream why) (record { save = save; recording = None }) (record { save = left; recording = None })
  stream_counted (OfStream Memory) is = (is, refl)
  stream_counted (OfStream Device) is = (is, refl)
  stream_counted (OfStream NoSession) is = (is, refl)
  stream_counted (OfStream (TooSmall n)) is = (is, refl)
  stream_counted (OfStream OtherCartridge) is = (is, refl)
  stream_counted (OfStream (Damaged damage)) is = (is, refl)
  stream_counted (OfStream GenerationsUsedUp) is = (is, refl)
  stream_counted (OfStream Broken) is = (is, refl)
  stream_counted (OfStream SaveFirst) is = (is, refl)
  stream_counted (OfStream CountFull) is = (is, refl)
  stream_counted (OfStream Output) is = (is, refl)
  stream_counted (WrongLine n) is = (is, refl)
  stream_counted FailedInput is = (is, refl)
  stream_counted DamagedSnapshot is = (is, refl)
  stream_counted NamesAnother is = (is, refl)
  stream_counted LacksMemory is = (is, refl)

  module _ (recording left_recording : MemoryState) where
    pub record_counted : (why : RecordError) → left.faults ≡ save_faults_after why save.faults → left_recording.faults ≡ recording_faults_after why recording.faults
        → CountsRefusal (Record why) (record { save = save; recording = Some recording }) (record { save = left; recording = Some left_recording })
    record_counted (OfRecord Memory) one other = (one, other)
    record_counted (OfRecord Device) one other = (one, other)
    record_counted (OfRecord NoSession) one other = (one, other)
    record_counted (OfRecord (TooSmall n)) one other = (one, other)
    record_counted (OfRecord OtherCartridge) one other = (one, other)
    record_counted (OfRecord (Damaged damage)) one other = (one, other)
    record_counted (OfRecord GenerationsUsedUp) one other = (one, other)
    record_counted (OfRecord Broken) one other = (one, other)
    record_counted (OfRecord SaveFirst) one other = (one, other)
    record_counted (OfRecord CountFull) one other = (one, other)
    record_counted (OfRecord Output) one other = (one, other)
    record_counted (Recording RecordingMemory) one other = (one, other)
    record_counted (Recording RecordingDevice) one other = (one, other)
    record_counted (Recording RecordingTooSmall) one other = (one, other)
    record_counted (Recording NotBlank) one other = (one, other)
    record_counted (Recording NoRecording) one other = (one, other)
    record_counted (Recording OtherRecording) one other = (one, other)
    record_counted (Recording Full) one other = (one, other)
    record_counted (Recording BrokenRecording) one other = (one, other)
    record_counted (Behind n) one other = (one, other)
    record_counted (WrongRecorded n) one other = (one, other)
    record_counted FailedRecorded one other = (one, other)

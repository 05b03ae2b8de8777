-- From what was found of a device to its content.
use Rattle.std.proofs.Common.{◌≡◌, inl, inr, ⊎_elim, ℕ, ◌+◌, ◌-◌, ◌<◌, ◌≤◌, ◌^◌, List, length, Bool, true, false, if◌then◌else◌, nat_lt, nat_le, Option, Some, None, refl, sym, ap, ◌∙◌, subst, arith}
use Rattle.std.proofs.lemmas.Bool.{cases_Bool}
use Rattle.std.proofs.lemmas.Bool.Decides.{nat_tests}
use Rattle.std.proofs.lemmas.Slice.Eq.{bytes_eq-Decides}
use Rattle.sha2.specs.Sha256.{sha256}
use Rattle.cartridge.specs.Header.{ram_length_of}
use Rattle.machine.specs.Machine.{MachineState, after}
use Rattle.snapshot.specs.Encoding.{encoded, snapshot_length}
use Rattle.snapshot.specs.Reading.{machine_in}
use Rattle.snapshot.specs.Legal.{IsLegalSnapshot, IsRefusal}
use Rattle.snapshot.specs.declared.error.SnapError.TheVariants.{SnapLength}
use Rattle.snapshot.proofs.Machines.{machine_back, encoded_legal}
use Rattle.sector_device.specs.DiskState.{IsSized}
use Rattle.log_format.specs.Content.{ImageContent, Body, content, need}
use Rattle.log_format.specs.Found.{Seen, seen_in, found_in, found_by, log_of, blob_in, blob_by}
use Rattle.input_entries.specs.Inputs.{inputs}
use Rattle.log_format.specs.Inputs.{counted, first_wrong}
use Rattle.input_entries.specs.declared.StoredEntry.{StoredEntry}
use Rattle.log_format.specs.declared.content.Header.{Header}
use Rattle.log_format.specs.declared.content.Found.{Found}
use Rattle.log_format.specs.declared.content.Found.TheVariants.{Nothing, Intact, Damaged as DamagedLog}
use Rattle.log_format.specs.declared.content.Part.TheVariants.{Length, Count as TooMany}
use Rattle.log_format.proofs.FoundLaws.{found_length, found_fits}
use Rattle.sector_log.specs.declared.fault.LogFault.{LogFault}
use Rattle.sector_log.specs.declared.fault.LogFault.TheVariants.{Memory as LogMemory, Device as LogDevice, TooSmall as LogTooSmall, GenerationsUsedUp as LogGenerationsUsedUp, LogFull, Broken as LogBroken}
use Rattle.session.specs.Inputs.{logged}
use Rattle.session.specs.Stands.{Position, is_snapshot, position_in, stands}
use Rattle.session.specs.Resting.{IsOfItsRom}
use Rattle.session.specs.Beginning.{IsBeginRefusal, session_fault}
use Rattle.session.specs.Found.{IsShort, IsResumeCause}
use Rattle.session.specs.Recovery.{IsHeaderCause, IsRebuildCause, IsRecoveryCause, IsRecovered}
use Rattle.session.specs.declared.error.Damage.TheVariants.{Count, Snapshot, Entry}
use Rattle.session.specs.declared.error.SessionError.{SessionError}
use Rattle.session.specs.declared.error.SessionError.TheVariants.{Memory, Device, NoSession, TooSmall, OtherCartridge, Damaged, GenerationsUsedUp, Broken, SaveFirst, CountFull, Output}
use Rattle.session.proofs.StandsLaws.{sound_by, stands_sound, legal_is_snapshot, encoded_is_snapshot}
use Rattle.session.proofs.Beginnings.{kept_by_log, own_again, own_of_machine}

-- ---- what was found

-- a sound content, and one whose inputs can't be counted
pub record FoundSound (held : Option ImageContent) (c : Header) : Type 0 where
  pub body : Body
  pub is : held ≡ Some (record { header = c; body = Some body })
  pub counts : c.base + counted 0 body.log < 2 ^ 64

pub record FoundUncounted (held : Option ImageContent) (c : Header) : Type 0 where
  pub body : Body
  pub is : held ≡ Some (record { header = c; body = Some body })
  pub many : 2 ^ 64 ≤ c.base + counted 0 body.log

found_whole : (header : Header) (body : Body) (b : Bool) → nat_lt (2 ^ 64 - 1) (header.base + counted 0 body.log) ≡ b → found_by header (Some body) ≡ (if b then DamagedLog header TooMany else Intact header)
found_whole header body b is = ap (λ (t : Bool). if t then DamagedLog header TooMany else Intact header) is

sound_by_body : (header : Header) (body : Option Body) (c : Header) → found_by header body ≡ Intact c → FoundSound (Some (record { header = header; body = body })) c
sound_by_body header None c is = absurd (cc)
sound_by_body header (Some body) c is =
    elim (cases_Bool (nat_lt (2 ^ 64 - 1) (header.base + counted 0 body.log))) [
      | inl many ↦ let wrong : DamagedLog header TooMany ≡ Intact c = sym (found_whole header body true many) ∙ is in absurd (cc)
      | inr few ↦
          let same : Intact header ≡ Intact c = sym (found_whole header body false few) ∙ is in
          let header_is : header ≡ c = cc in
          let below : header.base + counted 0 body.log < 2 ^ 64 = let e = few in grind (arith, nat_tests) in
          record { body = body; is = ap (λ (h : Header). Some (record { header = h; body = Some body })) header_is; counts = subst (λ (h : Header). h.base + counted 0 body.log < 2 ^ 64) header_is below }
    ]

pub found_sound : (held : Option ImageContent) (c : Header) → found_in held ≡ Intact c → FoundSound held c
found_sound None c is = absurd (cc)
found_sound (Some x) c is = sound_by_body x.header x.body c is

uncounted_by_body : (header : Header) (body : Option Body) (c : Header) → found_by header body ≡ DamagedLog c TooMany → FoundUncounted (Some (record { header = header; body = body })) c
uncounted_by_body header None c is = absurd (cc)
uncounted_by_body header (Some body) c is =
    elim (cases_Bool (nat_lt (2 ^ 64 - 1) (header.base + counted 0 body.log))) [
      | inl many ↦
          let same : DamagedLog header TooMany ≡ DamagedLog c TooMany = sym (found_whole header body true many) ∙ is in
          let header_is : header ≡ c = cc in
          let above : 2 ^ 64 ≤ header.base + counted 0 body.log = let e = many in grind (arith, nat_tests) in
          record { body = body; is = ap (λ (h : Header). Some (record { header = h; body = Some body })) header_is; many = subst (λ (h : Header). 2 ^ 64 ≤ h.base + counted 0 body.log) header_is above }
      | inr few ↦ let wrong : Intact header ≡ DamagedLog c TooMany = sym (found_whole header body false few) ∙ is in absurd (cc)
    ]

pub found_uncounted : (held : Option ImageContent) (c : Header) → found_in held ≡ DamagedLog c TooMany → FoundUncounted held c
found_uncounted None c is = absurd (cc)
found_uncounted (Some x) c is = uncounted_by_body x.header x.body c is

short_by_body : (header : Header) (body : Option Body) (c : Header) (n : ℕ) → found_by header body ≡ DamagedLog c (Length n) → IsShort (Some (record { header = header; body = body })) n
short_by_body header None c n is =
    let same : DamagedLog header (Length (need header.blob_length)) ≡ DamagedLog c (Length n) = is in
    let needed : need header.blob_length ≡ n = cc in
    record { header = header; is = refl; needed_is = sym needed }
short_by_body header (Some body) c n is =
    elim (cases_Bool (nat_lt (2 ^ 64 - 1) (header.base + counted 0 body.log))) [
      | inl many ↦ let wrong : DamagedLog header TooMany ≡ DamagedLog c (Length n) = sym (found_whole header body true many) ∙ is in absurd (cc)
      | inr few ↦ let wrong : Intact header ≡ DamagedLog c (Length n) = sym (found_whole header body false few) ∙ is in absurd (cc)
    ]

pub found_short : (held : Option ImageContent) (c : Header) (n : ℕ) → found_in held ≡ DamagedLog c (Length n) → IsShort held n
found_short None c n is = absurd (cc)
found_short (Some x) c n is = short_by_body x.header x.body c n is

nothing_by_body : (header : Header) (body : Option Body) → found_by header body ≡ Nothing → ⊥
nothing_by_body header None is = cc
nothing_by_body header (Some body) is =
    elim (cases_Bool (nat_lt (2 ^ 64 - 1) (header.base + counted 0 body.log))) [
      | inl many ↦ let wrong : DamagedLog header TooMany ≡ Nothing = sym (found_whole header body true many) ∙ is in cc
      | inr few ↦ let wrong : Intact header ≡ Nothing = sym (found_whole header body false few) ∙ is in cc
    ]

pub found_nothing : (held : Option ImageContent) → found_in held ≡ Nothing → held ≡ None
found_nothing None is = refl
found_nothing (Some x) is = absurd (nothing_by_body x.header x.body is)

-- ---- the causes of a refusal

header_cause : (rom : List ℕ) (generation : ℕ) (held : Option ImageContent) (why : SessionError) → IsHeaderCause (found_in held) (sha256 rom) why → IsResumeCause rom generation held why
header_cause rom generation held Memory cause = absurd cause
header_cause rom generation held Device cause = absurd cause
header_cause rom generation held NoSession cause = found_nothing held cause
header_cause rom generation held (TooSmall n) cause = found_short held cause.0 n cause.1
header_cause rom generation held OtherCartridge cause =
    ⊎_elim
    (λ sound. let found = found_sound held cause.0 sound in record { header = cause.0; body = found.body; is = found.is; holds = cause.2 })
    (λ damaged. let found = found_uncounted held cause.0 damaged in record { header = cause.0; body = found.body; is = found.is; holds = cause.2 })
    cause.1
header_cause rom generation held (Damaged Count) cause =
    let found = found_uncounted held cause.0 cause.1 in record { header = cause.0; body = found.body; is = found.is; holds = (cause.2, found.many) }
header_cause rom generation held (Damaged (Snapshot e)) cause = absurd cause
header_cause rom generation held (Damaged (Entry k)) cause = absurd cause
header_cause rom generation held GenerationsUsedUp cause = absurd cause
header_cause rom generation held Broken cause = absurd cause
header_cause rom generation held SaveFirst cause = absurd cause
header_cause rom generation held CountFull cause = absurd cause
header_cause rom generation held Output cause = absurd cause

-- the blob that was kept is that of the body
kept_blob : (most size : ℕ) (body : Body) (bytes : List ℕ) → blob_by most size (Some body) ≡ Some bytes → body.blob ≡ bytes
kept_blob most size body bytes is =
    elim (cases_Bool (nat_le size most)) [
      | inl fits ↦ let same : Some body.blob ≡ Some bytes = sym (ap (λ (t : Bool). if t then Some body.blob else None) fits) ∙ is in cc
      | inr long ↦ let wrong : None ≡ Some bytes = sym (ap (λ (t : Bool). if t then Some body.blob else None) long) ∙ is in absurd (cc)
    ]

longer_blob : (most size : ℕ) (body : Body) → blob_by most size (Some body) ≡ None → most < size
longer_blob most size body is =
    elim (cases_Bool (nat_le size most)) [
      | inl fits ↦ let wrong : Some body.blob ≡ None = sym (ap (λ (t : Bool). if t then Some body.blob else None) fits) ∙ is in absurd (cc)
      | inr long ↦ let e = long in grind (arith, nat_tests)
    ]

module _ (rom : List ℕ) (generation most : ℕ) (held : Option ImageContent) (c : Header) (own : c.id ≡ sha256 rom) (found : FoundSound held c) where
  bytes_are : (bytes : List ℕ) → blob_in most held ≡ Some bytes → found.body.blob ≡ bytes
  bytes_are bytes is = kept_blob most c.blob_length found.body bytes (sym (ap (blob_in most) found.is) ∙ is)

  log_is : log_of held ≡ found.body.log
  log_is = ap log_of found.is

  rebuild_cause : (bytes : List ℕ) (why : SessionError) → blob_in most held ≡ Some bytes → IsRebuildCause rom bytes (log_of held) generation why → IsResumeCause rom generation held why
  rebuild_cause bytes Memory is cause = tt
  rebuild_cause bytes Device is cause = absurd cause
  rebuild_cause bytes NoSession is cause = absurd cause
  rebuild_cause bytes (TooSmall n) is cause = absurd cause
  rebuild_cause bytes OtherCartridge is cause = absurd cause
  rebuild_cause bytes (Damaged Count) is cause = absurd cause
  rebuild_cause bytes (Damaged (Snapshot e)) is cause =
      record { header = c; body = found.body; is = found.is; holds = ((own, found.counts), subst (λ (b : List ℕ). IsRefusal rom b e) (sym (bytes_are bytes is)) cause.0, cause.1) }
  rebuild_cause bytes (Damaged (Entry k)) is cause =
      record { header = c; body = found.body; is = found.is; holds = (((own, found.counts), subst (λ (b : List ℕ). IsLegalSnapshot rom b) (sym (bytes_are bytes is)) cause.0), sym (ap first_wrong log_is) ∙ cause.1) }
  rebuild_cause bytes GenerationsUsedUp is cause =
      record { header = c; body = found.body; is = found.is; holds = (((own, found.counts), subst (λ (b : List ℕ). IsLegalSnapshot rom b) (sym (bytes_are bytes is)) cause.0), sym (ap first_wrong log_is) ∙ cause.1, cause.2) }
  rebuild_cause bytes Broken is cause = absurd cause
  rebuild_cause bytes SaveFirst is cause = absurd cause
  rebuild_cause bytes CountFull is cause = absurd cause
  rebuild_cause bytes Output is cause = absurd cause

  -- a blob that is longer than a snapshot of this ROM
  too_long : most ≡ snapshot_length (ram_length_of rom) → length found.body.blob ≡ c.blob_length → blob_in most held ≡ None → IsResumeCause rom generation held (Damaged (Snapshot (SnapLength c.blob_length)))
  too_long most_is size none =
      let long : most < c.blob_length = longer_blob most c.blob_length found.body (sym (ap (blob_in most) found.is) ∙ none) in
      record { header = c; body = found.body; is = found.is; holds = ((own, found.counts), (sym size, λ same. omega (arith, same, size, most_is, long)), λ wrong. cc) }

-- each refusal of recovery is for the first reason that holds of the content
pub cause_found :
    (rom : List ℕ) (generation most : ℕ) (image : List (List ℕ)) (seen : Seen) (why : SessionError)
    → most ≡ snapshot_length (ram_length_of rom) → IsSized (length image) image → seen ≡ seen_in most (content image)
    → IsRecoveryCause rom seen generation why → IsResumeCause rom generation (content image) why
cause_found rom generation most image seen why most_is sized is cause =
    let held = content image in
    let found_is : seen.found ≡ found_in held = ap (λ (s : Seen). s.found) is in
    let log_are : seen.log ≡ log_of held = ap (λ (s : Seen). s.log) is in
    let blob_is : seen.blob ≡ blob_in most held = ap (λ (s : Seen). s.blob) is in
    ⊎_elim
    (λ header. header_cause rom generation held why (subst (λ (f : Found). IsHeaderCause f (sha256 rom) why) found_is header))
    (⊎_elim
    (λ long.
    let found = found_sound held long.header (sym found_is ∙ long.found_is) in
    subst (IsResumeCause rom generation held) (sym long.why_is)
    (too_long rom generation most held long.header long.id_is found most_is (found_length image (record { header = long.header; body = Some found.body }) found.body sized found.is refl) (sym blob_is ∙ long.none)))
    (λ refusal.
    let found = found_sound held refusal.header (sym found_is ∙ refusal.found_is) in
    rebuild_cause rom generation most held refusal.header refusal.id_is found refusal.bytes why (sym blob_is ∙ refusal.blob_is)
    (subst (λ (l : List StoredEntry). IsRebuildCause rom refusal.bytes l generation why) log_are refusal.cause)))
    cause

-- what was recovered is what the content stands for
pub recovered_stands :
    (rom : List ℕ) (generation most count : ℕ) (image : List (List ℕ)) (seen : Seen) (m : MachineState)
    → seen ≡ seen_in most (content image) → IsRecovered rom seen generation count m → stands rom (content image) ≡ Some (record { count = count; machine = m })
recovered_stands rom generation most count image seen m is recovered =
    let held = content image in
    let c = recovered.header in
    let rebuilt = recovered.rebuilt in
    let found = found_sound held c (sym (ap (λ (s : Seen). s.found) is) ∙ recovered.found_is) in
    let body = found.body in
    let log_are : seen.log ≡ body.log = ap (λ (s : Seen). s.log) is ∙ ap log_of found.is in
    let kept : blob_in most held ≡ Some recovered.bytes = sym (ap (λ (s : Seen). s.blob) is) ∙ recovered.blob_is in
    let blob_is : body.blob ≡ recovered.bytes = kept_blob most c.blob_length body recovered.bytes (sym (ap (blob_in most) found.is) ∙ kept) in
    let blob_encoded : body.blob ≡ encoded rebuilt.snapshot = blob_is ∙ sym rebuilt.encoded_is in
    let sound = sound_by rom c body (record {
      id = (bytes_eq-Decides c.id (sha256 rom)).1 recovered.id_is;
      count = found.counts;
      snapshot = ap (is_snapshot rom) blob_encoded ∙ encoded_is_snapshot rom rebuilt.snapshot rebuilt.of;
      inputs = sym (ap first_wrong log_are) ∙ rebuilt.inputs_are;
    }) in
    let count_is : c.base + length (inputs body.log) ≡ count = sym (rebuilt.count_is ∙ ap (λ (l : List StoredEntry). c.base + length (inputs l)) log_are) in
    let snapshot_is : machine_in rom body.blob ≡ rebuilt.snapshot = ap (machine_in rom) blob_encoded ∙ machine_back rom rebuilt.snapshot rebuilt.of in
    let machine_is : after (machine_in rom body.blob) (logged body.log) ≡ m =
    ap (λ (n : MachineState). after n (logged body.log)) snapshot_is ∙ ap (λ (l : List StoredEntry). after rebuilt.snapshot (logged l)) (sym log_are) ∙ sym rebuilt.machine_is in
    ap (stands rom) found.is ∙ stands_sound rom c body sound ∙ (λ i. Some (record { count = count_is i; machine = machine_is i }))

-- where only memory was wanted, it stands for a position, and its generation has a next one
pub memory_found :
    (rom : List ℕ) (generation most : ℕ) (image : List (List ℕ)) (seen : Seen) → seen ≡ seen_in most (content image) → IsRecoveryCause rom seen generation Memory
    → ((from : Position) × (stands rom (content image) ≡ Some from)) × (generation < 2 ^ 64 - 1)
memory_found rom generation most image seen is cause =
    let held = content image in
    ⊎_elim
    (λ header. absurd header)
    (⊎_elim
    (λ long. let wrong : Memory ≡ Damaged (Snapshot (SnapLength long.header.blob_length)) = long.why_is in absurd (cc))
    (λ refusal.
    let c = refusal.header in
    let found = found_sound held c (sym (ap (λ (s : Seen). s.found) is) ∙ refusal.found_is) in
    let body = found.body in
    let log_are : seen.log ≡ body.log = ap (λ (s : Seen). s.log) is ∙ ap log_of found.is in
    let kept : blob_in most held ≡ Some refusal.bytes = sym (ap (λ (s : Seen). s.blob) is) ∙ refusal.blob_is in
    let blob_is : body.blob ≡ refusal.bytes = kept_blob most c.blob_length body refusal.bytes (sym (ap (blob_in most) found.is) ∙ kept) in
    let sound = sound_by rom c body (record {
      id = (bytes_eq-Decides c.id (sha256 rom)).1 refusal.id_is;
      count = found.counts;
      snapshot = legal_is_snapshot rom body.blob (subst (λ (b : List ℕ). IsLegalSnapshot rom b) (sym blob_is) refusal.cause.0);
      inputs = sym (ap first_wrong log_are) ∙ refusal.cause.1;
    }) in
    ((position_in rom c body, ap (stands rom) found.is ∙ stands_sound rom c body sound), refusal.cause.2)))
    cause

-- and its machine is one of this ROM
pub recovered_machine : (rom : List ℕ) (generation count : ℕ) (seen : Seen) (m : MachineState) → IsRecovered rom seen generation count m → (m.processor.memory.banks.rom ≡ rom) × IsOfItsRom m
recovered_machine rom generation count seen m recovered =
    let rebuilt = recovered.rebuilt in
    let back : after rebuilt.snapshot (logged seen.log) ≡ m = sym rebuilt.machine_is in (
      subst (λ (n : MachineState). n.processor.memory.banks.rom ≡ rom) back ((kept_by_log rebuilt.snapshot (inputs seen.log)).rom ∙ rebuilt.of.rom),
      subst IsOfItsRom back (own_again rebuilt.snapshot (after rebuilt.snapshot (logged seen.log)) (kept_by_log rebuilt.snapshot (inputs seen.log)) (own_of_machine rom rebuilt.snapshot rebuilt.of)),
    )

-- the device that it was found on can hold it again
pub recovered_fits :
    (rom : List ℕ) (generation most count : ℕ) (image : List (List ℕ)) (seen : Seen) (m : MachineState)
    → IsSized (length image) image → seen ≡ seen_in most (content image) → IsRecovered rom seen generation count m → need (snapshot_length (ram_length_of rom)) ≤ length image
recovered_fits rom generation most count image seen m sized is recovered =
    let held = content image in
    let c = recovered.header in
    let rebuilt = recovered.rebuilt in
    let found = found_sound held c (sym (ap (λ (s : Seen). s.found) is) ∙ recovered.found_is) in
    let whole : ImageContent = record { header = c; body = Some found.body } in
    let kept : blob_in most held ≡ Some recovered.bytes = sym (ap (λ (s : Seen). s.blob) is) ∙ recovered.blob_is in
    let blob_is : found.body.blob ≡ recovered.bytes = kept_blob most c.blob_length found.body recovered.bytes (sym (ap (blob_in most) found.is) ∙ kept) in
    let long : length found.body.blob ≡ snapshot_length (ram_length_of rom) = ap length (blob_is ∙ sym rebuilt.encoded_is) ∙ (encoded_legal rom rebuilt.snapshot rebuilt.of).length in
    let size : length found.body.blob ≡ c.blob_length = found_length image whole found.body sized found.is refl in
    subst (λ (n : ℕ). need n ≤ length image) (sym size ∙ long) (found_fits image whole found.body found.is refl)

-- only the device refuses it then
pub begin_cause : (rom : List ℕ) (generation : ℕ) (held : Option ImageContent) (blob_length count last : ℕ) (why : SessionError) → need blob_length ≤ count → last < 2 ^ 64 - 1
    → IsBeginRefusal why blob_length count last → IsResumeCause rom generation held why
begin_cause rom generation held blob_length count last Memory enough unworn cause = absurd cause
begin_cause rom generation held blob_length count last Device enough unworn cause = tt
begin_cause rom generation held blob_length count last NoSession enough unworn cause = absurd cause
begin_cause rom generation held blob_length count last (TooSmall n) enough unworn cause = absurd (let less = cause.1 in omega arith)
begin_cause rom generation held blob_length count last OtherCartridge enough unworn cause = absurd cause
begin_cause rom generation held blob_length count last (Damaged d) enough unworn cause = absurd cause
begin_cause rom generation held blob_length count last GenerationsUsedUp enough unworn cause = absurd (let top = cause.1 in omega arith)
begin_cause rom generation held blob_length count last Broken enough unworn cause = absurd cause
begin_cause rom generation held blob_length count last SaveFirst enough unworn cause = absurd cause
begin_cause rom generation held blob_length count last CountFull enough unworn cause = absurd cause
begin_cause rom generation held blob_length count last Output enough unworn cause = absurd cause

-- ---- no report is written

pub recovery_not_output : (rom : List ℕ) (seen : Seen) (generation : ℕ) (why : SessionError) → IsRecoveryCause rom seen generation why → why ≡ Output → ⊥
recovery_not_output rom seen generation why cause is =
    ⊎_elim
    (λ header. header)
    (⊎_elim
    (λ long. let wrong : Output ≡ Damaged (Snapshot (SnapLength long.header.blob_length)) = long.why_is in cc)
    (λ refusal. refusal.cause))
    (subst (IsRecoveryCause rom seen generation) is cause)

pub begin_not_output : (blob_length count last : ℕ) (why : SessionError) → IsBeginRefusal why blob_length count last → why ≡ Output → ⊥
begin_not_output blob_length count last why cause is = subst (λ (w : SessionError). IsBeginRefusal w blob_length count last) is cause

pub log_not_output : (why : LogFault) → session_fault why ≡ Output → ⊥
log_not_output LogMemory is = cc
log_not_output LogDevice is = cc
log_not_output (LogTooSmall needed) is = cc
log_not_output LogGenerationsUsedUp is = cc
log_not_output LogFull is = cc
log_not_output LogBroken is = cc

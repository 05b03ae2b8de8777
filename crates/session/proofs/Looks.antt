-- The steps of a look, and of taking up what was seen.
use Rattle.std.proofs.Common.{◌≡◌, inl, ℕ, ◌+◌, ◌<◌, ◌≤◌, ◌^◌, List, [], ◌++◌, length, take, Option, Some, None, refl, sym, ap, ◌∙◌, subst, arith}
use Rattle.std.proofs.lemmas.List.{take-append-le, take_all}
use Rattle.cartridge.specs.Header.{ram_length_of}
use Rattle.machine.specs.Machine.{MachineState}
use Rattle.snapshot.specs.Encoding.{encoded, snapshot_length}
use Rattle.snapshot.specs.Legal.{IsMachineOf}
use Rattle.sha2.specs.Sha256.{sha256}
use Rattle.sector_device.specs.DiskState.{DiskState, IsSized, Settled}
use Rattle.sector_device.specs.Looking.{HasLooked}
use Rattle.sector_device.specs.Runs.{HoldsSince}
use Rattle.input_entries.specs.Inputs.{inputs}
use Rattle.sector_log.specs.Calls.{HasOldOrNewContent}
use Rattle.log_format.specs.Content.{ImageContent, content, generation_in, need}
use Rattle.log_format.specs.Found.{Seen, seen_in, log_of}
use Rattle.log_format.specs.declared.content.Header.{Header}
use Rattle.log_format.specs.declared.content.Found.TheVariants.{Intact}
use Rattle.session.specs.Beginning.{IsBeginRefusal}
use Rattle.session.specs.Stands.{IsAtRest, StandsAsBefore, Position, stands, further}
use Rattle.session.specs.Found.{IsResumeCause, IsLookCause, IsTakeUpCause}
use Rattle.session.specs.Recovery.{IsRecovered}
use Rattle.session.specs.Resting.{IsLookedAt}
use Rattle.session.specs.declared.error.SessionError.{SessionError}
use Rattle.session.specs.declared.error.SessionError.TheVariants.{Memory, Device, NoSession, TooSmall, OtherCartridge, Damaged, GenerationsUsedUp, Broken, SaveFirst, CountFull, Output}
use Rattle.session.proofs.Beginnings.{since_now, resume_images}
use Rattle.session.proofs.Finding.{recovered_stands, recovered_machine, recovered_fits}
use Rattle.session.proofs.StandsLaws.{after_none}

-- a buffer that was written whole
pub filled : (bytes out all rest : List ℕ) (n : ℕ) → bytes ≡ take n (out ++ rest) → n ≡ length out → out ≡ all → bytes ≡ all
filled bytes out all rest n is size same =
    is ∙ take-append-le n out rest (omega (arith, size)) ∙ take_all n out (omega (arith, size)) ∙ same

-- no call at all
pub looked_nothing : (now : DiskState) → ((image : List (List ℕ)) → now.since now.moment image → now.image image) → now.honest → HasLooked now now
looked_nothing now only honest = record {
  honest = honest;
  sectors = refl;
  images = λ image here. here;
  since = since_now now only;
  kept = inl (λ image here. here);
}

-- how many inputs are in the log
pub logged_is : (rom : List ℕ) (seen : Seen) (generation count : ℕ) (m : MachineState) (header : Header) → IsRecovered rom seen generation count m → seen.found ≡ Intact header → count ≡ header.base + length (inputs seen.log)
logged_is rom seen generation count m header recovered found =
    let same : Intact recovered.header ≡ Intact header = sym recovered.found_is ∙ found in
    let header_is : recovered.header ≡ header = cc in
    recovered.rebuilt.count_is ∙ ap (λ (h : Header). h.base + length (inputs seen.log)) header_is

-- a position at rest, with nothing pending
pub at_rest_by : (rom : List ℕ) (now : DiskState) (count : ℕ) (m : MachineState) → Settled now → stands rom (content now.sectors) ≡ Some (record { count = count; machine = m }) → IsAtRest rom now count [] m
at_rest_by rom now count m settled stood = record {
  settled = settled;
  leads = ap (further []) stood ∙ (let same = after_none m in λ i. Some (record { count = count + 0; machine = same i }));
}

-- what was rebuilt of an opened log is what its device rests at
pub looks_by :
    (rom : List ℕ) (generation most count : ℕ) (old now : DiskState) (seen : Seen) (m : MachineState)
    → HasLooked old now → Settled now → generation ≡ generation_in old.sectors → seen ≡ seen_in most (content old.sectors) → IsSized (length old.sectors) old.sectors → IsRecovered rom seen 0 count m
    → IsLookedAt now generation count (length (inputs seen.log)) m
looks_by rom generation most count old now seen m looked settled generation_is seen_is sized recovered =
    let own = recovered_machine rom 0 count seen m recovered in
    let held : content now.sectors ≡ content old.sectors = ap content looked.sectors in
    let stood : stands rom (content now.sectors) ≡ Some (record { count = count; machine = m }) = ap (stands rom) held ∙ recovered_stands rom 0 most count old.sectors seen m seen_is recovered in
    let enough : need (snapshot_length (ram_length_of rom)) ≤ length old.sectors = recovered_fits rom 0 most count old.sectors seen m sized seen_is recovered in
    record {
      at_rest = subst (λ (r : List ℕ). IsAtRest r now count [] m) (sym own.0) (at_rest_by rom now count m settled stood);
      generation_is = ap generation_in looked.sectors ∙ sym generation_is;
      logged_is = ap (λ (o : Option ImageContent). length (inputs (log_of o))) held ∙ ap (λ (s : Seen). length (inputs s.log)) (sym seen_is);
      enough = subst (λ (r : List ℕ). need (snapshot_length (ram_length_of r)) ≤ length now.sectors) (sym own.0) (subst (λ (image : List (List ℕ)). need (snapshot_length (ram_length_of rom)) ≤ length image) (sym looked.sectors) enough);
    }

further_none : (from : Option Position) (to : Position) → further [] from ≡ Some to → from ≡ Some to
further_none None to is = absurd (cc)
further_none (Some p) to is =
    let none : p.count + 0 ≡ p.count = omega arith in
    (λ i. Some (record { count = sym none i; machine = sym (after_none p.machine) i })) ∙ is

-- a position at rest, with nothing pending, is what reads stand for
pub stood_at_rest : (rom : List ℕ) (now : DiskState) (count : ℕ) (m : MachineState) → IsAtRest rom now count [] m → stands rom (content now.sectors) ≡ Some (record { count = count; machine = m })
stood_at_rest rom now count m rests =
    let none : count + 0 ≡ count = omega arith in
    further_none (stands rom (content now.sectors)) (record { count = count; machine = m }) (rests.leads ∙ (λ i. Some (record { count = none i; machine = m })))

-- no cause but that the generations are used up rests on a generation
pub look_cause : (rom : List ℕ) (held : Option ImageContent) (why : SessionError) → IsResumeCause rom 0 held why → IsLookCause rom held why
look_cause rom held Memory cause = cause
look_cause rom held Device cause = cause
look_cause rom held NoSession cause = cause
look_cause rom held (TooSmall n) cause = cause
look_cause rom held OtherCartridge cause = cause
look_cause rom held (Damaged d) cause = cause
look_cause rom held GenerationsUsedUp cause = absurd (let top = cause.holds.2 in omega arith)
look_cause rom held Broken cause = cause
look_cause rom held SaveFirst cause = cause
look_cause rom held CountFull cause = cause
look_cause rom held Output cause = cause

-- a device that held the game can hold it again
pub take_up_cause : (blob_length count last : ℕ) (why : SessionError) → need blob_length ≤ count → IsBeginRefusal why blob_length count last → IsTakeUpCause last why
take_up_cause blob_length count last Memory enough cause = absurd cause
take_up_cause blob_length count last Device enough cause = cause.unworn
take_up_cause blob_length count last NoSession enough cause = absurd cause
take_up_cause blob_length count last (TooSmall n) enough cause = absurd (let less = cause.1 in omega arith)
take_up_cause blob_length count last OtherCartridge enough cause = absurd cause
take_up_cause blob_length count last (Damaged d) enough cause = absurd cause
take_up_cause blob_length count last GenerationsUsedUp enough cause = cause.1
take_up_cause blob_length count last Broken enough cause = absurd cause
take_up_cause blob_length count last SaveFirst enough cause = absurd cause
take_up_cause blob_length count last CountFull enough cause = absurd cause
take_up_cause blob_length count last Output enough cause = absurd cause

-- each moment of taking up what was seen
pub taken_up_images : (rom : List ℕ) (old new : DiskState) (count : ℕ) (m : MachineState) → old.image old.sectors → ((image : List (List ℕ)) → old.since old.moment image → old.image image) → old.honest → IsMachineOf rom m → count < 2 ^ 64
    → stands rom (content old.sectors) ≡ Some (record { count = count; machine = m }) → HoldsSince old new (HasOldOrNewContent old.sectors (sha256 rom) count (encoded m)) → HoldsSince old new (StandsAsBefore rom old)
taken_up_images rom old new count m reads only honest of few stood held = resume_images rom old old new count m reads (looked_nothing old only honest) of few stood held

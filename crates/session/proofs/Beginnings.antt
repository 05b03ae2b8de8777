-- The steps of beginning a generation.
use Rattle.std.proofs.Common.{◌≡◌, ◌⊎◌, inl, inr, ⊎_elim, ℕ, ◌+◌, ◌<◌, ◌^◌, Bool, true, false, List, [], ◌∷◌, Some, Result, Ok, Err, refl, sym, ap, ◌∙◌, subst, arith}
use Rattle.std.specs.Prelude.{◌==◌, if◌then◌else◌, IfOk, IfErr}
use Rattle.std.specs.List.{All}
use Rattle.std.proofs.lemmas.List.{length-replicate}
use Rattle.std.proofs.lemmas.List.Elements.{All-nil, All-cons}
use Rattle.sha2.specs.Sha256.{sha256}
use Rattle.cartridge.specs.Header.{has_rumble, ram_length_of}
use Rattle.bank_controllers.specs.CartridgeState.{IsSameCartridge, cartridge_at_power_on}
use Rattle.machine.specs.Machine.{MachineState, Frame, Seconds, PassesTime, start, after}
use Rattle.machine.proofs.KeptByInputs.{by_inputs}
use Rattle.snapshot.specs.Encoding.{encoded}
use Rattle.machine.specs.Legal.{IsLegalMachine}
use Rattle.snapshot.specs.Legal.{IsMachineOf}
use Rattle.snapshot.specs.Table.{kind_of_image}
use Rattle.sector_device.specs.DiskState.{DiskState}
use Rattle.sector_device.specs.Runs.{HoldsSince}
use Rattle.sector_device.proofs.Runs.{throughout_then, remembers_then, holds_since}
use Rattle.sector_device.specs.Looking.{HasLooked}
use Rattle.sector_log.specs.Calls.{HasBegun, HasOldOrNewContent, faults_after as log_faults_after}
use Rattle.log_format.specs.Content.{content, new_generation}
use Rattle.log_format.specs.Found.{log_of}
use Rattle.input_entries.specs.Bytes.{byte}
use Rattle.input_entries.specs.declared.Entry.{Entry}
use Rattle.input_entries.specs.declared.StoredEntry.{StoredEntry}
use Rattle.sector_log.specs.declared.fault.LogFault.{LogFault}
use Rattle.sector_log.specs.declared.fault.LogFault.TheVariants.{Memory as LogMemory, Device as LogDevice, TooSmall as LogTooSmall, GenerationsUsedUp as LogGenerationsUsedUp, LogFull, Broken as LogBroken}
use Rattle.session.specs.Beginning.{session_fault, IsBeginRefusal}
use Rattle.session.specs.declared.error.SessionError.{SessionError}
use Rattle.session.specs.declared.error.SessionError.TheVariants.{Memory, Device, NoSession, TooSmall, OtherCartridge, Damaged, GenerationsUsedUp, Broken, SaveFirst, CountFull, Output}
use Rattle.session.specs.Calls.{HasOldContentOrGame, faults_after}
use Rattle.session.specs.Stands.{IsAtRest, StandsAsBefore, stands, further}
use Rattle.session.specs.Found.{IsNewGameCause}
use Rattle.session.specs.Inputs.{input_of, inputs_of}
use Rattle.session.specs.Resting.{IsOfItsRom, Rests}
use Rattle.session.proofs.StandsLaws.{after_none, new_stands}
use Rattle.session.proofs.Writes.{since_weaker}

-- ---- runs of calls

-- two runs, one after the other
pub since_then : {first mid last : DiskState} {P : List (List ℕ) → Type 0} → HoldsSince first mid P → HoldsSince mid last P → HoldsSince first last P
since_then {first} {mid} {last} a b = record {
  each = λ image since. ⊎_elim (a.each image) (λ p. p) (b.moments.each first.moment image a.moments.later since);
  moments = throughout_then a.moments b.moments;
  past = remembers_then first mid last a.moments a.past b.past;
}

-- no call at all
pub since_now : (now : DiskState) → ((image : List (List ℕ)) → now.since now.moment image → now.image image) → HoldsSince now now now.image
since_now now only = holds_since only (record { later = omega arith; each = λ t c le since. inl since }) (λ t c le since. since) (λ c here. here)

-- ---- answers

pub if_ok : {T E : Type 0} (r : Result T E) {P Q : T → Type 0} → IfOk r P → ((x : T) → P x → Q x) → IfOk r Q
if_ok (Ok x) p to = to x p
if_ok (Err e) p to = tt

pub if_ok_both : {T E : Type 0} (r : Result T E) {P Q R : T → Type 0} → IfOk r P → IfOk r Q → ((x : T) → P x → Q x → R x) → IfOk r R
if_ok_both (Ok x) p q to = to x p q
if_ok_both (Err e) p q to = tt

pub if_err : {T E : Type 0} (r : Result T E) {P Q : E → Type 0} → IfErr r P → ((e : E) → P e → Q e) → IfErr r Q
if_err (Ok x) p to = tt
if_err (Err e) p to = to e p

-- looking at what a device holds finds no last generation
pub looking_is_not_worn : {A : Type 0} (why : LogFault) → ((why ≡ LogMemory) × A) ⊎ (why ≡ LogDevice) → session_fault why ≡ GenerationsUsedUp → ⊥
looking_is_not_worn why (inl memory) worn = let same : Memory ≡ GenerationsUsedUp = sym (ap session_fault memory.0) ∙ worn in cc
looking_is_not_worn why (inr device) worn = let same : Device ≡ GenerationsUsedUp = sym (ap session_fault device) ∙ worn in cc

-- out of memory, the device was not touched
pub looking_wants_memory : {A : Type 0} (why : LogFault) → ((why ≡ LogMemory) × A) ⊎ (why ≡ LogDevice) → session_fault why ≡ Memory → A
looking_wants_memory why (inl memory) wanted = memory.1
looking_wants_memory why (inr device) wanted = let same : Memory ≡ Device = sym wanted ∙ ap session_fault device in absurd (cc)

-- running out of memory and a failed call are causes enough
pub looking_is_a_cause : {A : Type 0} (blob_length count : ℕ) {answer : SessionError} (why : LogFault) → ((why ≡ LogMemory) × A) ⊎ (why ≡ LogDevice) → answer ≡ session_fault why → IsNewGameCause blob_length count answer
looking_is_a_cause blob_length count why (inl memory) is = subst (IsNewGameCause blob_length count) (sym (is ∙ ap session_fault memory.0)) tt
looking_is_a_cause blob_length count why (inr device) is = subst (IsNewGameCause blob_length count) (sym (is ∙ ap session_fault device)) tt

-- and so is each reason for which no generation is begun
pub beginning_is_a_cause : (blob_length count last : ℕ) (why : SessionError) → IsBeginRefusal why blob_length count last → IsNewGameCause blob_length count why
beginning_is_a_cause blob_length count last Memory cause = tt
beginning_is_a_cause blob_length count last Device cause = tt
beginning_is_a_cause blob_length count last NoSession cause = cause
beginning_is_a_cause blob_length count last (TooSmall needed) cause = cause
beginning_is_a_cause blob_length count last OtherCartridge cause = cause
beginning_is_a_cause blob_length count last (Damaged damage) cause = cause
beginning_is_a_cause blob_length count last GenerationsUsedUp cause = cause.0
beginning_is_a_cause blob_length count last Broken cause = cause
beginning_is_a_cause blob_length count last SaveFirst cause = cause
beginning_is_a_cause blob_length count last CountFull cause = cause
beginning_is_a_cause blob_length count last Output cause = cause

-- a refusal of the log leaves the count of faults that it leaves as one of a session
pub same_faults : (why : LogFault) (faults : ℕ) → log_faults_after why faults ≡ faults_after (session_fault why) faults
same_faults (LogTooSmall needed) faults = refl
same_faults LogGenerationsUsedUp faults = refl
same_faults LogDevice faults = refl
same_faults LogMemory faults = refl
same_faults LogFull faults = refl
same_faults LogBroken faults = refl

-- ---- machines of a ROM

pub machine_of_rom : (rom : List ℕ) (m : MachineState) → m.processor.memory.banks.rom ≡ rom → IsOfItsRom m → IsLegalMachine m → IsMachineOf rom m
machine_of_rom rom m is own legal =
    subst (λ (r : List ℕ). IsMachineOf r m) is (record { legal = legal; rom = refl; kind = own.kind; rumble = own.rumble; ram_length = own.ram_length })

pub start_rom : (rom : List ℕ) → (start rom).processor.memory.banks.rom ≡ rom
unfolding cartridge_at_power_on
start_rom rom = refl

pub start_own : (rom : List ℕ) → IsOfItsRom (start rom)
unfolding cartridge_at_power_on
start_own rom = record { kind = refl; rumble = refl; ram_length = length-replicate (ram_length_of rom) 0 }

pub own_of_machine : (rom : List ℕ) (m : MachineState) → IsMachineOf rom m → IsOfItsRom m
own_of_machine rom m of = record {
  kind = of.kind ∙ ap kind_of_image (sym of.rom);
  rumble = of.rumble ∙ ap has_rumble (sym of.rom);
  ram_length = of.ram_length ∙ ap ram_length_of (sym of.rom);
}

pub own_again : (m now : MachineState) → IsSameCartridge m.processor.memory.banks now.processor.memory.banks → IsOfItsRom m → IsOfItsRom now
own_again m now same own = record {
  kind = same.kind ∙ own.kind ∙ ap kind_of_image (sym same.rom);
  rumble = same.rumble ∙ own.rumble ∙ ap has_rumble (sym same.rom);
  ram_length = same.ram_length ∙ own.ram_length ∙ ap ram_length_of (sym same.rom);
}

-- the inputs of entries pass time
passes : (b : Bool) (buttons n : ℕ) → PassesTime (if b then Frame buttons else Seconds n)
passes true buttons n = tt
passes false buttons n = tt

pub logged_pass : (entries : List Entry) → All PassesTime (inputs_of entries)
logged_pass [] = All-nil PassesTime
logged_pass (e ∷ entries) = All-cons PassesTime (input_of e) (inputs_of entries) (passes (byte 0 e.code == 0) _ _) (logged_pass entries)

-- they do not change the cartridge
pub kept_by_log : (m : MachineState) (entries : List Entry) → IsSameCartridge m.processor.memory.banks (after m (inputs_of entries)).processor.memory.banks
kept_by_log m entries = by_inputs m (inputs_of entries) (logged_pass entries)

-- a machine of a ROM has the cartridge of the machine at power-on
pub same_as_start : (rom : List ℕ) (m : MachineState) → m.processor.memory.banks.rom ≡ rom → IsOfItsRom m → IsSameCartridge m.processor.memory.banks (start rom).processor.memory.banks
same_as_start rom m is own =
    let fresh = start_own rom in
    let rom_is : (start rom).processor.memory.banks.rom ≡ m.processor.memory.banks.rom = start_rom rom ∙ sym is in
    record {
      rom = rom_is;
      ram_length = fresh.ram_length ∙ ap ram_length_of rom_is ∙ sym own.ram_length;
      rumble = fresh.rumble ∙ ap has_rumble rom_is ∙ sym own.rumble;
      kind = fresh.kind ∙ ap kind_of_image rom_is ∙ sym own.kind;
    }

-- ---- a generation that was begun

-- the new content stands for the machine
pub begun_stands : (rom id written : List ℕ) (m : MachineState) (base : ℕ) (image : List (List ℕ)) → IsMachineOf rom m → base < 2 ^ 64 → id ≡ sha256 rom → written ≡ encoded m
    → content image ≡ Some (new_generation id base written) → stands rom (content image) ≡ Some (record { count = base; machine = m })
begun_stands rom id written m base image of few id_is written_is is =
    ap (stands rom) (is ∙ (λ i. Some (new_generation (id_is i) base (written_is i)))) ∙ new_stands rom m base of few

pub begun_at_rest : (rom id written : List ℕ) (m : MachineState) (base : ℕ) (old now : DiskState) → IsMachineOf rom m → base < 2 ^ 64 → id ≡ sha256 rom → written ≡ encoded m
    → HasBegun old now id base written → IsAtRest rom now base [] m
begun_at_rest rom id written m base old now of few id_is written_is begun = record {
  settled = begun.settled;
  leads = ap (further []) (begun_stands rom id written m base now.sectors of few id_is written_is begun.holds.content_is)
      ∙ (let same = after_none m in λ i. Some (record { count = base + 0; machine = same i }));
}

pub begun_rests : (id written : List ℕ) (m : MachineState) (base : ℕ) (old now : DiskState) (log : List StoredEntry) → IsMachineOf m.processor.memory.banks.rom m → base < 2 ^ 64 → id ≡ sha256 m.processor.memory.banks.rom → written ≡ encoded m
    → HasBegun old now id base written → log ≡ [] → Rests m.processor.memory.banks.rom now log (record { count = base; machine = m })
begun_rests id written m base old now log of few id_is written_is begun empty = record {
  stood = record { settled = begun.settled; is = begun_stands m.processor.memory.banks.rom id written m base now.sectors of few id_is written_is begun.holds.content_is };
  log_is = ap log_of begun.holds.content_is ∙ sym empty;
}

pub begun_of : {old now : DiskState} {id written id' written' : List ℕ} (base : ℕ) → id ≡ id' → written ≡ written' → HasBegun old now id base written → HasBegun old now id' base written'
begun_of {old} {now} {id} {written} {id'} {written'} base id_is written_is begun =
    subst (λ (i : List ℕ). HasBegun old now i base written') id_is (subst (λ (w : List ℕ). HasBegun old now id base w) written_is begun)

pub images_of : {old now : DiskState} {id written id' written' : List ℕ} (base : ℕ) → id ≡ id' → written ≡ written' → HoldsSince old now (HasOldOrNewContent old.sectors id base written) → HoldsSince old now (HasOldOrNewContent old.sectors id' base written')
images_of {old} {now} {id} {written} {id'} {written'} base id_is written_is held =
    subst (λ (i : List ℕ). HoldsSince old now (HasOldOrNewContent old.sectors i base written')) id_is (subst (λ (w : List ℕ). HoldsSince old now (HasOldOrNewContent old.sectors id base w)) written_is held)

-- ---- each moment

-- of a game that begins, whatever the device held
pub looked_game : (rom : List ℕ) (m : MachineState) (old mid : DiskState) → HasLooked old mid → HoldsSince old mid (HasOldContentOrGame rom m old)
looked_game rom m old mid looked = since_weaker looked.since (λ image was. inl (record { before = image; stood = was; is = refl }))

pub game_images : (rom : List ℕ) (m : MachineState) (old mid new : DiskState) → old.image old.sectors → HasLooked old mid → HoldsSince mid new (HasOldOrNewContent mid.sectors (sha256 rom) 0 (encoded m)) → HoldsSince old new (HasOldContentOrGame rom m old)
game_images rom m old mid new reads looked held =
    since_then
    (looked_game rom m old mid looked)
    (since_weaker held (λ image. ⊎_elim
    (λ stays. inl (record { before = old.sectors; stood = reads; is = stays.content_is ∙ ap content looked.sectors }))
    (λ new. inr new.content_is)))

-- of a game that is taken up
pub resume_images : (rom : List ℕ) (old mid new : DiskState) (count : ℕ) (m : MachineState) → old.image old.sectors → HasLooked old mid → IsMachineOf rom m → count < 2 ^ 64 → stands rom (content old.sectors) ≡ Some (record { count = count; machine = m })
    → HoldsSince mid new (HasOldOrNewContent mid.sectors (sha256 rom) count (encoded m)) → HoldsSince old new (StandsAsBefore rom old)
resume_images rom old mid new count m reads looked of few stood held =
    since_then
    (since_weaker looked.since (λ image was. record { before = image; stood = was; is = refl }))
    (since_weaker held (λ image. ⊎_elim
    (λ stays. record { before = old.sectors; stood = reads; is = ap (stands rom) (stays.content_is ∙ ap content looked.sectors) })
    (λ new. record { before = old.sectors; stood = reads; is = begun_stands rom (sha256 rom) (encoded m) m count image of few refl refl new.content_is ∙ sym stood })))

pub looked_resume : (rom : List ℕ) (old mid : DiskState) → HasLooked old mid → HoldsSince old mid (StandsAsBefore rom old)
looked_resume rom old mid looked = since_weaker looked.since (λ image was. record { before = image; stood = was; is = refl })

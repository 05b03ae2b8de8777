use Rattle.sector_device.specs.DiskState.{Follows}
use Rattle.std.proofs.Common.{◌≡◌, ◌≤◌, ◌<◌, ◌^◌, ℕ, List, length, drop, inl, inr, ⊎_elim, refl, sym, ap, ◌∙◌, subst, arith}
use Rattle.std.specs.Prelude.{◌↔◌}
use Rattle.sha2.specs.Sha256.{sha256}
use Rattle.cartridge.specs.Header.{ram_length_of}
use Rattle.snapshot.specs.Encoding.{encoded, snapshot_length}
use Rattle.sector_device.specs.Runs.{HoldsSince}
use Rattle.log_format.specs.Content.{need}
use Rattle.sector_log.specs.Calls.{HasOldOrNewContent, HasBegun, CanBegin, IsBeginCause}
use Rattle.sector_log.specs.Accessors.{device_of as device_of_store, is_broken as is_broken_store, entries_of}
use Rattle.sector_log.specs.OpenedAccessors.{device_under, found_generation}
use Rattle.sector_log.specs.declared.fault.LogFault.{LogFault}
use Rattle.sector_log.specs.declared.fault.LogFault.TheVariants.{Memory as LogMemory, Device as LogDevice, TooSmall as LogTooSmall, GenerationsUsedUp as LogGenerationsUsedUp, LogFull, Broken as LogBroken}
use Rattle.session.specs.Beginning.{session_fault, IsBeginRefusal}
use Rattle.session.specs.Calls.{faults_after}
use Rattle.session.proofs.Beginnings.{machine_of_rom, begun_rests, begun_of, images_of, same_faults}
use Rattle.session.proofs.Looks.{filled}
use Rattle.session.proofs.begin.begin_with.Goals as goal

pub at-requires-clause-rests : goal.at-requires-clause-rests
at-requires-clause-rests g c = λ whole honest_now.
    let honest = c.in-Ok.ensures.answered.honest.0 honest_now in
    let written = filled c.deref.result.now c.encode.new.out (encoded c.args.machine) (drop (length c.encode.new.out) c.args.room.encoded.items) c.args.room.encoded.len c.deref.ensures.value (omega arith) c.encode.ensures.encoded in
    begun_rests c.digest.result c.deref.result.now c.args.machine c.args.count
    (g.D.SectorDevice.disk (device_under c.args.opened)) (g.D.SectorDevice.disk (device_of_store c.in-Ok.store)) (entries_of c.in-Ok.store)
    (machine_of_rom c.args.machine.processor.memory.banks.rom c.args.machine refl c.requires.own c.encode.ensures.legal)
    (omega arith) (c.digest.ensures ∙ ap sha256 (sym c.requires.rom)) written (c.in-Ok.ensures.begun.begun honest) c.in-Ok.ensures.begun.empty

pub returns-in-Ok-clause-new : goal.returns-in-Ok-clause-new
returns-in-Ok-clause-new g c = λ honest.
    let written = filled c.deref.result.now c.encode.new.out (encoded c.args.machine) (drop (length c.encode.new.out) c.args.room.encoded.items) c.args.room.encoded.len c.deref.ensures.value (omega arith) c.encode.ensures.encoded in
    subst (λ d. HasBegun (g.D.SectorDevice.disk (device_under c.args.opened)) (g.D.SectorDevice.disk (device_of_store d)) (sha256 c.args.cartridge.now) c.args.count (encoded c.args.machine)) (sym c.at.ensures.store)
    (begun_of c.args.count c.digest.ensures written (c.in-Ok.ensures.begun.begun honest))

pub returns-in-Ok-clause-images : goal.returns-in-Ok-clause-images
returns-in-Ok-clause-images g c = λ honest.
    let written = filled c.deref.result.now c.encode.new.out (encoded c.args.machine) (drop (length c.encode.new.out) c.args.room.encoded.items) c.args.room.encoded.len c.deref.ensures.value (omega arith) c.encode.ensures.encoded in
    subst (λ d. HoldsSince (g.D.SectorDevice.disk (device_under c.args.opened)) (g.D.SectorDevice.disk (device_of_store d)) (HasOldOrNewContent (g.D.SectorDevice.disk (device_under c.args.opened)).sectors (sha256 c.args.cartridge.now) c.args.count (encoded c.args.machine))) (sym c.at.ensures.store)
    (images_of c.args.count c.digest.ensures written (c.in-Ok.ensures.images honest))

pub returns-in-Err-clause-images : goal.returns-in-Err-clause-images
returns-in-Err-clause-images g c = λ honest.
    let written = filled c.deref.result.now c.encode.new.out (encoded c.args.machine) (drop (length c.encode.new.out) c.args.room.encoded.items) c.args.room.encoded.len c.deref.ensures.value (omega arith) c.encode.ensures.encoded in
    images_of c.args.count c.digest.ensures written (c.in-Err.ensures.images honest)

-- what a refusal of the log says, said of a session
refusal : (why : LogFault) (blob_length count last : ℕ) → IsBeginCause why blob_length count last → IsBeginRefusal (session_fault why) blob_length count last
refusal (LogTooSmall needed) blob_length count last cause = cause
refusal LogGenerationsUsedUp blob_length count last cause = cause
refusal LogDevice blob_length count last cause = cause
refusal LogMemory blob_length count last cause = cause
refusal LogFull blob_length count last cause = cause
refusal LogBroken blob_length count last cause = cause

pub returns-in-Err-clause-cause : goal.returns-in-Err-clause-cause
returns-in-Err-clause-cause g c =
    let count = length (g.D.SectorDevice.disk (device_under c.args.opened)).sectors in
    let last = found_generation c.args.opened in
    let size : length c.deref.result.now ≡ snapshot_length (ram_length_of c.args.cartridge.now) = omega arith in
    subst (λ fault. IsBeginRefusal fault (snapshot_length (ram_length_of c.args.cartridge.now)) count last) (sym c.fault_of.ensures)
    (refusal c.in-Err.refused.why (snapshot_length (ram_length_of c.args.cartridge.now)) count last
    (subst (λ n. IsBeginCause c.in-Err.refused.why n count last) size c.in-Err.ensures.cause))

pub returns-in-Err-clause-answered : goal.returns-in-Err-clause-answered
returns-in-Err-clause-answered g c = record {
  count = c.in-Err.ensures.answered.count;
  honest = c.in-Err.ensures.answered.honest;
  faults_ok = c.in-Err.ensures.answered.faults_ok;
  faults = c.in-Err.ensures.answered.faults ∙ same_faults c.in-Err.refused.why (g.D.SectorDevice.disk (device_under c.args.opened)).faults
      ∙ ap (λ fault. faults_after fault (g.D.SectorDevice.disk (device_under c.args.opened)).faults) (sym c.fault_of.ensures);
  follows = c.in-Err.ensures.answered.follows;
  handed = c.in-Err.ensures.answered.handed;
  fuse = c.in-Err.ensures.answered.fuse;
}

pub returns-in-Ok-clause-begun : goal.returns-in-Ok-clause-begun
returns-in-Ok-clause-begun g c =
    (c.at.ensures.acknowledged, c.at.ensures.pending, ap is_broken_store c.at.ensures.store ∙ c.in-Ok.ensures.begun.unbroken, c.at.ensures.machine)

pub returns-in-Ok-clause-saved : goal.returns-in-Ok-clause-saved
returns-in-Ok-clause-saved g c = λ i. record { count = c.at.ensures.acknowledged i; machine = c.at.ensures.saved i }

pub returns-in-Ok-clause-of : goal.returns-in-Ok-clause-of
returns-in-Ok-clause-of g c = machine_of_rom c.args.cartridge.now c.args.machine c.requires.rom c.requires.own c.encode.ensures.legal

pub returns-in-Err-clause-of : goal.returns-in-Err-clause-of
returns-in-Err-clause-of g c = machine_of_rom c.args.cartridge.now c.args.machine c.requires.rom c.requires.own c.encode.ensures.legal

pub returns-in-Ok-clause-can : goal.returns-in-Ok-clause-can
returns-in-Ok-clause-can g c =
    let size : length c.deref.result.now ≡ snapshot_length (ram_length_of c.args.cartridge.now) = omega arith in
    subst (λ (n : ℕ). CanBegin n (length (g.D.SectorDevice.disk (device_under c.args.opened)).sectors) (found_generation c.args.opened)) size c.in-Ok.ensures.begun.could

pub returns-in-Ok-clause-answered : goal.returns-in-Ok-clause-answered
returns-in-Ok-clause-answered g c =
    let answered = c.in-Ok.ensures.answered in
    let device = ap device_of_store c.at.ensures.store in
    let disk = g.D.SectorDevice.disk in
    record {
      count = ap (λ d. length (disk d).sectors) device ∙ answered.count;
      honest = subst (λ d. (disk d).honest ↔ (disk (device_under c.args.opened)).honest) (sym device) answered.honest;
      faults_ok = ap (λ d. (disk d).faults) device ∙ answered.faults_ok;
      faults = tt;
      follows = subst (λ d. Follows (disk (device_under c.args.opened)).calls (disk d).calls) (sym device) answered.follows;
      handed = ap (λ d. (disk d).handed) device ∙ answered.handed;
      fuse = ap (λ d. (disk d).fuse) device ∙ answered.fuse;
    }

pub returns-in-Err-clause-untouched : goal.returns-in-Err-clause-untouched
returns-in-Err-clause-untouched g c =
    ⊎_elim (λ (device : c.in-Err.refused.why ≡ LogDevice). inl (c.fault_of.ensures ∙ ap session_fault device)) inr c.in-Err.ensures.untouched

pub at-requires-clause-large : goal.at-requires-clause-large
at-requires-clause-large g c =
    let count = length (g.D.SectorDevice.disk (device_of_store c.in-Ok.store)).sectors in
    subst (λ (blob : List ℕ). need (length blob) ≤ count) c.deref.ensures.value
    (subst (λ (n : ℕ). need (length c.deref.result.now) ≤ n) (sym c.in-Ok.ensures.answered.count) c.in-Ok.ensures.begun.could.enough)

pub at-requires-clause-room : goal.at-requires-clause-room
at-requires-clause-room g c =
    let size : length c.deref.result.now ≡ snapshot_length (ram_length_of c.args.cartridge.now) = omega arith in
    ap length (sym c.deref.ensures.value) ∙ size ∙ ap snapshot_length (sym (c.requires.own.ram_length ∙ ap ram_length_of c.requires.rom))

pub at-requires-clause-short : goal.at-requires-clause-short
at-requires-clause-short g c =
    let short : length c.deref.result.now < 2 ^ 32 = omega arith in
    subst (λ (blob : List ℕ). length blob < 2 ^ 32) c.deref.ensures.value short

pub at-requires-clause-id : goal.at-requires-clause-id
at-requires-clause-id g c = c.in-Ok.ensures.begun.id_is ∙ c.digest.ensures ∙ ap sha256 (sym c.requires.rom)

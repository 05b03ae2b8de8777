use Rattle.std.proofs.Common.{◌≡◌, ◌+◌, ◌*◌, ◌<◌, ℕ, List, [], length, sym, ap, ◌∙◌, subst, arith}
use Rattle.std.specs.Prelude.{Some, slice_range}
use Rattle.sector_device.specs.DiskState.{sector_at}
use Rattle.log_format.specs.Content.{content, generation_in}
use Rattle.session.specs.Accessors.{device_of, machine_of, acknowledged_of}
use Rattle.session.specs.Found.{IsResumeCause}
use Rattle.session.specs.Stands.{IsAtRest, stands}
use Rattle.embedding.specs.Calls.{image_calls}
use Rattle.embedding.specs.Games.{AreSectorsOf}
use Rattle.embedding.specs.HostDevices.{count_of, host_disk}
use Rattle.embedding.proofs.Counting.{handed_same, same_count}
use Rattle.embedding.specs.declared.host_device.HostDevice.{HostDevice}
use Rattle.embedding.proofs.game.Game.resume.Goals as goal

-- a device of as many sectors, to which they were written, holds those of the image
sectors_are : (image : List ℕ) (device : HostDevice) (count : ℕ) → count_of device ≡ count → length image ≡ 512 * count
    → ((k : ℕ) → k < count → sector_at (host_disk device).sectors k ≡ slice_range image (512 * k) (512 * k + 512))
    → AreSectorsOf image (host_disk device).sectors
sectors_are image device count is size each =
    let long : length (host_disk device).sectors ≡ count = ap length (sym device.replays) ∙ is in
    record { size = omega (arith, size, long); each = λ k lt. each k (omega (arith, lt, long)) }

pub returns-in-Ok-resume-clause-begun : goal.returns-in-Ok-resume-clause-begun
returns-in-Ok-resume-clause-begun c =
    let begun = c.in-Ok-resume.ensures.begun in
    (begun.0, begun.1, begun.2 ∙ c.in-Ok.ensures.image)

pub returns-in-Ok-resume-clause-rests : goal.returns-in-Ok-resume-clause-rests
returns-in-Ok-resume-clause-rests c =
    subst (λ (rom : List ℕ). IsAtRest rom (host_disk (device_of c.in-Ok-resume.session)) (acknowledged_of c.in-Ok-resume.session) [] (machine_of c.in-Ok-resume.session)) c.in-Ok.ensures.image
    (c.in-Ok-resume.ensures.rests tt)

pub returns-in-Ok-resume-clause-from : goal.returns-in-Ok-resume-clause-from
returns-in-Ok-resume-clause-from c =
    let sectors = (host_disk c.fill_from.new.device).sectors in
    record {
      sectors = sectors;
      are = sectors_are c.args.image.now c.fill_from.new.device (count_of c.in-Ok-new.device) c.fill_from.ensures.count
          (omega (arith, c.in-Ok-new.ensures.count, c.if-image-ne0.false)) c.fill_from.ensures.sectors;
      stood = subst (λ (rom : List ℕ). stands rom (content sectors) ≡ Some (record { count = acknowledged_of c.in-Ok-resume.session; machine = machine_of c.in-Ok-resume.session })) c.in-Ok.ensures.image
          (c.in-Ok-resume.ensures.stands tt);
    }

pub returns-in-Err-clause-cause : goal.returns-in-Err-clause-cause
returns-in-Err-clause-cause c =
    let sectors = (host_disk c.fill_from.new.device).sectors in (
      c.in_default.ensures.accepted,
      record {
        sectors = sectors;
        are = sectors_are c.args.image.now c.fill_from.new.device (count_of c.in-Ok-new.device) c.fill_from.ensures.count
            (omega (arith, c.in-Ok-new.ensures.count, c.if-image-ne0.false)) c.fill_from.ensures.sectors;
        cause = subst (λ (rom : List ℕ). IsResumeCause rom (generation_in sectors) (content sectors) c.in-Err.refused.why) c.in-Ok.ensures.image (c.in-Err.ensures.cause tt);
      },
    )

pub returns-in-Ok-resume-clause-sectors : goal.returns-in-Ok-resume-clause-sectors
returns-in-Ok-resume-clause-sectors c =
    let count = same_count c.fill_from.new.device (device_of c.in-Ok-resume.session) c.in-Ok-resume.ensures.answered.count in
    omega (arith, count, c.fill_from.ensures.count, c.in-Ok-new.ensures.count, c.if-image-ne0.false)

pub returns-in-Ok-resume-clause-handed : goal.returns-in-Ok-resume-clause-handed
returns-in-Ok-resume-clause-handed c =
    let device = c.fill_from.new.device in
    let now = device_of c.in-Ok-resume.session in
    let answered = c.in-Ok-resume.ensures.answered in
    handed_same device now answered.follows answered.handed ∙ c.fill_from.ensures.handed
    ∙ ap (image_calls c.args.image.now) (sym (same_count device now answered.count ∙ c.fill_from.ensures.count))

pub returns-in-Ok-resume-clause-saved : goal.returns-in-Ok-resume-clause-saved
returns-in-Ok-resume-clause-saved c = c.in-Ok-resume.ensures.saved

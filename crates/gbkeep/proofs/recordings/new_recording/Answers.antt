use Rattle.std.proofs.Common.{◌≤◌, refl, true, arith}
use Rattle.command_line.specs.declared.Request.TheVariants.{NewRecording}
use Rattle.playing.proofs.Telling.{keeps_same}
use Rattle.recording.specs.Accessors.{device_of}
use Rattle.sector_device.specs.FileDevice.{file_disk}
use Rattle.gbkeep.proofs.Together.{new_of_digest}
use Rattle.gbkeep.proofs.BatteryTexts.{accepted_image}
use Rattle.gbkeep.proofs.BegunTexts.{begun_served}
use Rattle.gbkeep.proofs.FileTexts.{not_begun, recording_begun}
use Rattle.gbkeep.proofs.recordings.new_recording.Goals as goal

pub returns-in-Ok-clause-served : goal.returns-in-Ok-clause-served
returns-in-Ok-clause-served g c =
    let rom = c.in_ok-cartridge.cartridge in
    let accepted = accepted_image _ _ c.in_ok-cartridge.ensures.image (c.in_ok-cartridge.ensures.accepted.0 (refl {a = true})) in
    let enough : 2 ≤ c.args.sectors = omega (arith, c.if-sectors-lt-FEWEST_SECTORS.false) in
    let created = c.in-Ok.ensures.created in
    let zero = c.in_ok-making.ensures.zero in
    let honest = c.in_ok-making.ensures.honest in
    let begun = recording_begun rom c.from.result c.args.sectors c.in_ok-making.field-0.device (device_of c.in-Ok._recording) zero c.from.ensures c.in-Ok.ensures.answered.count
    (new_of_digest rom _ (file_disk (device_of c.in-Ok._recording)) c.digest.ensures (created.settled honest) (created.empty honest)) in
    begun_served (NewRecording c.args.cart c.args.recording c.args.sectors) _ _ tt tt
    (λ written. (rom, (accepted, (enough, begun), written))) (λ cut. (rom, accepted, (enough, begun), cut))
    c.tell_begun.result c.tell_begun.ensures.written c.tell_begun.ensures.cause

pub returns-clause-served : goal.returns-clause-served
returns-clause-served g c =
    let rom = c.in_ok-cartridge.cartridge in
    let accepted = accepted_image _ _ c.in_ok-cartridge.ensures.image (c.in_ok-cartridge.ensures.accepted.0 (refl {a = true})) in
    let zero = c.in_ok-making.ensures.zero in
    let honest = c.in_ok-making.ensures.honest in (
      keeps_same (g.O.Output.contents c.args.out.now),
      (rom, accepted),
      not_begun c.args.sectors c.from.result (file_disk c.in_ok-making.field-0.device) honest zero c.from.ensures c.in-Err.refused.why c.in-Err.ensures.cause,
    )

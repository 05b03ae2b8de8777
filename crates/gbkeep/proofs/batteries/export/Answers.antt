use Rattle.playing.proofs.Telling.{keeps_same}
use Rattle.gbkeep.proofs.BatteryTexts.{export_refused}
use Rattle.gbkeep.proofs.batteries.export.Goals as goal

pub returns-in-Ok-write_exported-clause-served : goal.returns-in-Ok-write_exported-clause-served
returns-in-Ok-write_exported-clause-served g c = (
  c.in_ok-rom.rom.items,
  (
    c.in-Ok.ensures.accepted,
    c.in-Ok.ensures.battery,
    (
      c.in_ok-device.device,
      (
        c.in-Ok.exported.count,
        (λ honest. (c.in-Ok.exported.bytes.items, c.in-Ok.ensures.exported honest)),
        c.in-Ok-write_exported.ensures.ok,
      ),
    ),
  ),
)

pub returns-clause-served : goal.returns-clause-served
returns-clause-served g c = (
  tt,
  (
    c.in_ok-rom.rom.items,
    c.in-Ok.ensures.accepted,
    c.in-Ok.ensures.battery,
    (
      c.in_ok-device.device,
      (
        c.in-Ok.exported.count,
        (λ honest. (c.in-Ok.exported.bytes.items, c.in-Ok.ensures.exported honest)),
        c.in-Err-write_exported.ensures.err,
      ),
    ),
  ),
)

pub returns-in-Err-clause-served : goal.returns-in-Err-clause-served
returns-in-Err-clause-served g c =
    export_refused c.args.cart c.args.save c.args.battery c.in_ok-rom.rom.items c.in_ok-device.device _ _ (keeps_same _) _ c.in-Err.ensures.cause

use Rattle.std.proofs.Common.{ap, ◌∙◌, Ok, Bool}
use Rattle.sector_device.specs.FileRecord.{with_call}
use Rattle.sector_device.specs.declared.recorded.Recorded.TheVariants.{Write}
use Rattle.sector_device.specs.declared.device.DeviceFault.TheVariants.{Device}
use Rattle.sector_device.proofs.Files.{file_wrote, file_lost}
use Rattle.sector_device.proofs.file.FileDeviceSectorDevice.write.Goals as goal

pub returns-then-write_sector-clause-written : goal.returns-then-write_sector-clause-written
returns-then-write_sector-clause-written c = λ honest.
    let old = c.args.self.now in
    let new = c.write_sector.new.self in
    file_wrote old.history new.history old.faults new.faults honest c.args.at c.args.bytes.now (Ok tt)
    (c.write_sector.ensures.history ∙ ap (λ (b : Bool). with_call (Write c.args.at c.args.bytes.now b) old.history) c.if-write_sector.true)

pub returns-else-write_sector-clause-written : goal.returns-else-write_sector-clause-written
returns-else-write_sector-clause-written c = λ honest.
    let old = c.args.self.now in
    let new = c.fail.new.self in
    file_lost old.history new.history old.faults new.faults honest c.args.at c.args.bytes.now Device
    (c.fail.ensures.history ∙ c.write_sector.ensures.history ∙ ap (λ (b : Bool). with_call (Write c.args.at c.args.bytes.now b) old.history) c.if-write_sector.false)

use Rattle.std.proofs.Common.{subst, sym, ◌∙◌, Ok, Err}
use Rattle.sector_device.specs.DiskState.{HasWritten}
use Rattle.sector_device.specs.Memory.{MemoryState, memory_disk}
use Rattle.sector_device.specs.MemoryDevice.{memory}
use Rattle.sector_device.specs.declared.device.DeviceFault.{DeviceFault}
use Rattle.sector_device.specs.declared.device.DeviceFault.TheVariants.{Device}
use Rattle.sector_device.proofs.Calls.{write_meets}
use Rattle.sector_device.proofs.memory.MemoryDeviceSectorDevice.write.Goals as goal

pub returns-then-write_sector-clause-written : goal.returns-then-write_sector-clause-written
returns-then-write_sector-clause-written c = λ _.
    let old = memory c.args.self.now in
    subst (λ (m : MemoryState). HasWritten {E = DeviceFault} c.args.at c.args.bytes.now (memory_disk old) (memory_disk m) (Ok tt)) (sym c.write_sector.ensures.state)
    (write_meets old c.args.at c.args.bytes.now (Ok tt) (sym c.if-write_sector.true ∙ c.write_sector.ensures.passes))

pub returns-else-write_sector-clause-written : goal.returns-else-write_sector-clause-written
returns-else-write_sector-clause-written c = λ _.
    let old = memory c.args.self.now in
    subst (λ (m : MemoryState). HasWritten {E = DeviceFault} c.args.at c.args.bytes.now (memory_disk old) (memory_disk m) (Err Device)) (sym c.write_sector.ensures.state)
    (write_meets old c.args.at c.args.bytes.now (Err Device) (sym c.if-write_sector.false ∙ c.write_sector.ensures.passes))

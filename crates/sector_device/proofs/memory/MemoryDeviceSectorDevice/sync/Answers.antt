use Rattle.std.proofs.Common.{◌≡◌, length, subst, sym, ap, ◌∙◌, Ok, Err, refl, rules}
use Rattle.sector_device.specs.DiskState.{HasSynced}
use Rattle.sector_device.specs.Memory.{MemoryState, memory_disk, passes, call_counted}
use Rattle.sector_device.specs.MemoryDevice.{memory}
use Rattle.sector_device.specs.declared.recorded.Recorded.TheVariants.{Sync}
use Rattle.sector_device.specs.declared.device.DeviceFault.{DeviceFault}
use Rattle.sector_device.specs.declared.device.DeviceFault.TheVariants.{Device}
use Rattle.sector_device.proofs.Calls.{sync_meets, same_count, start_of_done}
use Rattle.sector_device.specs.Records.{replayed}
use Rattle.sector_device.proofs.memory.MemoryDeviceSectorDevice.sync.Goals.{After-sync_all}
use Rattle.sector_device.proofs.memory.MemoryDeviceSectorDevice.sync.Goals as goal

count : (c : After-sync_all) → length (replayed c.sync_all.new.self.at_start.items c.sync_all.new.self.recorded.items).reads ≡ length (replayed c.args.self.now.at_start.items c.args.self.now.recorded.items).reads
count c =
    let old = c.args.self.now in
    let new = c.sync_all.new.self in
    same_count old.at_start.items new.at_start.items old.recorded.items new.recorded.items old.start_sized new.start_sized old.recordable new.recordable
    (ap (λ (m : MemoryState). m.at_start) c.sync_all.ensures.state ∙ start_of_done (passes (memory old)) (Sync (passes (memory old))) (call_counted (memory old)))

pub returns-then-sync_all-clause-called : goal.returns-then-sync_all-clause-called
returns-then-sync_all-clause-called c = record { count = count (goal.at.returns-then-sync_all-clause-called c).After-sync_all; honest = search rules; faults = search rules; follows = search rules; handed = refl; fuse = search rules }

pub returns-then-sync_all-clause-synced : goal.returns-then-sync_all-clause-synced
returns-then-sync_all-clause-synced c = λ _.
    let old = memory c.args.self.now in
    subst (λ (m : MemoryState). HasSynced {E = DeviceFault} (memory_disk old) (memory_disk m) (Ok tt)) (sym c.sync_all.ensures.state)
    (sync_meets old (Ok tt) (sym c.if-sync_all.true ∙ c.sync_all.ensures.passes))

pub returns-else-sync_all-clause-called : goal.returns-else-sync_all-clause-called
returns-else-sync_all-clause-called c = record { count = count (goal.at.returns-else-sync_all-clause-called c).After-sync_all; honest = search rules; faults = search rules; follows = search rules; handed = refl; fuse = search rules }

pub returns-else-sync_all-clause-synced : goal.returns-else-sync_all-clause-synced
returns-else-sync_all-clause-synced c = λ _.
    let old = memory c.args.self.now in
    subst (λ (m : MemoryState). HasSynced {E = DeviceFault} (memory_disk old) (memory_disk m) (Err Device)) (sym c.sync_all.ensures.state)
    (sync_meets old (Err Device) (sym c.if-sync_all.false ∙ c.sync_all.ensures.passes))

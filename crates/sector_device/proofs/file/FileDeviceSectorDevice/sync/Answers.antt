use Rattle.std.proofs.Common.{ap, ◌∙◌, Bool}
use Rattle.sector_device.specs.FileRecord.{with_call}
use Rattle.sector_device.specs.declared.recorded.Recorded.TheVariants.{Sync}
use Rattle.sector_device.specs.declared.device.DeviceFault.TheVariants.{Device}
use Rattle.sector_device.proofs.Files.{file_synced, file_not_synced}
use Rattle.sector_device.proofs.file.FileDeviceSectorDevice.sync.Goals as goal

pub returns-then-sync_file-clause-synced : goal.returns-then-sync_file-clause-synced
returns-then-sync_file-clause-synced c = λ honest.
    let old = c.args.self.now in
    let new = c.sync_file.new.self in
    file_synced old.history new.history old.faults new.faults honest tt
    (c.sync_file.ensures.history ∙ ap (λ (b : Bool). with_call (Sync b) old.history) c.if-sync_file.true)

pub returns-else-sync_file-clause-synced : goal.returns-else-sync_file-clause-synced
returns-else-sync_file-clause-synced c = λ honest.
    let old = c.args.self.now in
    let new = c.fail.new.self in
    file_not_synced old.history new.history old.faults new.faults honest Device
    (c.fail.ensures.history ∙ c.sync_file.ensures.history ∙ ap (λ (b : Bool). with_call (Sync b) old.history) c.if-sync_file.false)

use Rattle.std.proofs.Common.{ap, ◌∙◌, ◌++◌, List}
use Rattle.sector_device.specs.declared.recorded.Recorded.{Recorded}
use Rattle.embedding.specs.Calls.{recorded_of}
use Rattle.embedding.specs.HostDevices.{handed_of, waiting_of}
use Rattle.embedding.specs.declared.host_device.Call.TheVariants.{Sync}
use Rattle.embedding.proofs.Noting.{more, sync_done}
use Rattle.embedding.proofs.host_device.HostDeviceSectorDevice.sync.Goals as goal

pub returns-then-note_sync-clause-synced : goal.returns-then-note_sync-clause-synced
returns-then-note_sync-clause-synced c = λ _.
    let old = c.args.self.now in
    let new = c.note_sync.new.self in
    sync_done old new c.note_sync.ensures.count
    (ap (λ (l : List Recorded). l ++ recorded_of (waiting_of new)) c.note_sync.ensures.handed
    ∙ more (handed_of old) (waiting_of old) (waiting_of new) Sync (c.note_sync.ensures.noted c.if-note_sync.true))

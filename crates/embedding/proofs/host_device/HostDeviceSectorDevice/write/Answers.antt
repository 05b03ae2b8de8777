use Rattle.std.proofs.Common.{ap, length, ◌∙◌, ◌++◌, List}
use Rattle.sector_device.specs.declared.device.DeviceFault.TheVariants.{Device}
use Rattle.sector_device.specs.declared.recorded.Recorded.{Recorded}
use Rattle.embedding.specs.Calls.{recorded_of}
use Rattle.embedding.specs.HostDevices.{handed_of, waiting_of}
use Rattle.embedding.specs.declared.host_device.Call.{Call}
use Rattle.embedding.specs.declared.host_device.Call.TheVariants.{Write}
use Rattle.embedding.proofs.Noting.{more, write_done, write_failed}
use Rattle.embedding.proofs.host_device.HostDeviceSectorDevice.write.Goals as goal

pub returns-then-note_write-clause-written : goal.returns-then-note_write-clause-written
returns-then-note_write-clause-written c = λ _.
    let old = c.args.self.now in
    let new = c.note_write.new.self in
    write_done old new c.note_write.ensures.count c.args.at c.args.bytes.now
    (ap (λ (l : List Recorded). l ++ recorded_of (waiting_of new)) c.note_write.ensures.handed
    ∙ more (handed_of old) (waiting_of old) (waiting_of new) (Write c.args.at c.args.bytes.now) (c.note_write.ensures.noted c.if-note_write.true))

pub returns-clause-written : goal.returns-clause-written
returns-clause-written c = λ _.
    let old = c.args.self.now in
    let new = c.fail.new.self in
    write_failed old new (ap length c.fail.ensures.sectors ∙ c.note_write.ensures.count) c.args.at c.args.bytes.now Device
    (ap (λ (l : List Recorded). l ++ recorded_of (waiting_of new)) (c.fail.ensures.handed ∙ c.note_write.ensures.handed)
    ∙ ap (λ (l : List Call). handed_of old ++ recorded_of l) (c.fail.ensures.waiting ∙ c.note_write.ensures.refused c.if-note_write.false))

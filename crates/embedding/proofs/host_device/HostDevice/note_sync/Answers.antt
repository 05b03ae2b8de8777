use Rattle.std.proofs.Common.{◌≡◌, ◌++◌, List, length, refl}
use Rattle.std.specs.Prelude.{IsTrue}
use Rattle.sector_device.specs.Records.{replayed, are_recordable}
use Rattle.embedding.specs.Calls.{blank, recorded_of, made}
use Rattle.embedding.specs.declared.host_device.Call.{Call}
use Rattle.embedding.specs.declared.host_device.Call.TheVariants.{Sync}
use Rattle.embedding.proofs.Noting.{either, more, reads_more, recordable_more}
use Rattle.embedding.proofs.host_device.HostDevice.note_sync.Goals as goal

pub invariant_of-self : goal.invariant_of-self
invariant_of-self c =
    let self = c.args.self.now in
    let n = length self.sectors.items in
    let handed = self.handed.calls in
    let waiting = self.waiting.items in
    let new = c.push.new.waiting.items in
    record {
      replays = either (λ (l : List Call). self.sectors.items ≡ (replayed (blank n) (handed ++ recorded_of l)).reads) c.push.result waiting new Sync c.push.ensures.noted c.push.ensures.refused
          (λ noted. reads_more n self.sectors.items (handed ++ recorded_of waiting) (handed ++ recorded_of new) (made Sync) self.replays (more handed waiting new Sync noted)) self.replays;
      few = self.few;
      faults_fit = self.faults_fit;
      recordable = either (λ (l : List Call). IsTrue (are_recordable (length (blank n)) (handed ++ recorded_of l))) c.push.result waiting new Sync c.push.ensures.noted c.push.ensures.refused
          (λ noted. recordable_more n (handed ++ recorded_of waiting) (handed ++ recorded_of new) (made Sync) self.recordable refl (more handed waiting new Sync noted)) self.recordable;
    }

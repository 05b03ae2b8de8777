use Rattle.std.proofs.Common.{subst, sym, length, length-set, ◌++◌, ◌<◌, ◌^◌, ℕ}
use Rattle.embedding.specs.Calls.{blank, made, recorded_of}
use Rattle.embedding.specs.declared.host_device.Call.TheVariants.{Write}
use Rattle.embedding.proofs.Noting.{more, write_replays, write_recordable, recordable_more, recordable_set}
use Rattle.embedding.proofs.host_device.HostDevice.note_write.Goals as goal

pub invariant_of-self : goal.invariant_of-self
invariant_of-self c =
    let self = c.args.self.now in
    let at = c.args.at in
    let bytes = c.args.bytes.now in
    let sectors = self.sectors.items in
    let was = self.handed.calls ++ recorded_of self.waiting.items in
    let now = self.handed.calls ++ recorded_of c.push-noted.new.waiting.items in
    let one = more self.handed.calls self.waiting.items c.push-noted.new.waiting.items (Write at bytes) (c.push-noted.ensures.noted c.if-noted.true) in
    record {
      replays = write_replays sectors was now at bytes self.replays one;
      few = subst (λ (n : ℕ). length (blank n) < 2 ^ 64) (sym (length-set sectors at bytes)) self.few;
      faults_fit = self.faults_fit;
      recordable = recordable_set sectors at bytes now
          (recordable_more (length sectors) was now (made (Write at bytes)) self.recordable (write_recordable (length sectors) at bytes c.requires.at c.requires.sector) one);
    }

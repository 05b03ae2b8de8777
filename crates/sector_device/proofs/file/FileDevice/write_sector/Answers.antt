use Rattle.std.proofs.Common.{◌≡◌, IsTrue, length, set, sym, ap, ◌∙◌, rules, length-set, if◌then◌else◌, Bool}
use Rattle.sector_device.specs.Records.{is_recordable, reads_after}
use Rattle.sector_device.specs.declared.recorded.Recorded.TheVariants.{Write}
use Rattle.sector_device.proofs.Files.{same_found, replays_more, recordable_more}
use Rattle.sector_device.proofs.file.FileDevice.write_sector.Goals as goal

pub invariant_of-self : goal.invariant_of-self
invariant_of-self c =
    let self = c.args.self.now in
    let h = self.history in
    let h' = c.note_write.new.self in
    let call = Write c.args.at c.args.bytes.now c.is_ok-kept.result in
    let more = c.note_write.ensures in
    let found : h'.found ≡ h.found = same_found h h' call more in
    let one : IsTrue (is_recordable (length h.found) call) = search rules in
    let put : set self.sectors.items c.args.at c.args.bytes.now ≡ reads_after self.sectors.items call =
    sym (ap (λ (b : Bool). if b then set self.sectors.items c.args.at c.args.bytes.now else self.sectors.items) c.if-kept.true) in
    record {
      replays = replays_more h h' call more self.sectors.items _ self.replays put;
      same_count = length-set self.sectors.items c.args.at c.args.bytes.now ∙ self.same_count ∙ sym (ap length found);
      few = rw found self.few;
      fits = rw found self.fits;
      found_sized = rw found self.found_sized;
      faults_fit = self.faults_fit;
      recordable = recordable_more h h' call more self.recordable one;
    }

pub invariant_of-self-else-kept : goal.invariant_of-self-else-kept
invariant_of-self-else-kept c =
    let self = c.args.self.now in
    let h = self.history in
    let h' = c.note_write.new.self in
    let call = Write c.args.at c.args.bytes.now c.is_ok-kept.result in
    let more = c.note_write.ensures in
    let found : h'.found ≡ h.found = same_found h h' call more in
    let one : IsTrue (is_recordable (length h.found) call) = search rules in
    let put : self.sectors.items ≡ reads_after self.sectors.items call =
    sym (ap (λ (b : Bool). if b then set self.sectors.items c.args.at c.args.bytes.now else self.sectors.items) c.if-kept.false) in
    record {
      replays = replays_more h h' call more self.sectors.items _ self.replays put;
      same_count = self.same_count ∙ sym (ap length found);
      few = rw found self.few;
      fits = rw found self.fits;
      found_sized = rw found self.found_sized;
      faults_fit = self.faults_fit;
      recordable = recordable_more h h' call more self.recordable one;
    }

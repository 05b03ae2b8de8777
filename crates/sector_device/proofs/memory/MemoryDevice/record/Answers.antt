use Rattle.std.proofs.Common.{◌≡◌, IsTrue, List, length, set, subst, sym, ap, ◌∙◌, arith, length-set}
use Rattle.sector_device.specs.Records.{replayed, reads_after, is_recordable, are_recordable}
use Rattle.sector_device.specs.declared.recorded.Recorded.{Recorded}
use Rattle.sector_device.specs.declared.recorded.Recorded.TheVariants.{Write}
use Rattle.sector_device.proofs.Record.{replays}
use Rattle.sector_device.proofs.Calls.{recordable_push, writes_within}
use Rattle.sector_device.proofs.memory.MemoryDevice.record.Goals as goal

pub index_mut-requires : goal.index_mut-requires
index_mut-requires c =
    let self = c.args.self.now in
    let write : IsTrue (is_recordable (length self.at_start.items) (Write c.in-Write.at c.in-Write.bytes c.in-Write.kept)) = subst (λ (x : Recorded). IsTrue (is_recordable (length self.at_start.items) x)) c.in-Write.is c.requires.recordable in
    let within = writes_within (length self.at_start.items) c.in-Write.at c.in-Write.bytes c.in-Write.kept write in
    omega (arith, within)

pub invariant_of-self : goal.invariant_of-self
invariant_of-self c =
    let self = c.args.self.now in
    let is : set self.sectors.items c.in-Write.at c.in-Write.bytes ≡ reads_after self.sectors.items c.args.call = sym (ap (reads_after self.sectors.items) (c.in-Write.is ∙ ap (Write c.in-Write.at c.in-Write.bytes) c.if-kept.true)) in
    let pushed = replays self.at_start.items self.recorded.items c.args.call self.sectors.items self.replays in
    record {
      replays = is ∙ pushed ∙ ap (λ (l : List Recorded). (replayed self.at_start.items l).reads) (sym c.push_reserved.ensures.items);
      same_count = length-set self.sectors.items c.in-Write.at c.in-Write.bytes ∙ self.same_count;
      few = self.few;
      start_sized = self.start_sized;
      faults_fit = self.faults_fit;
      counted = self.counted;
      recordable = subst (λ (l : List Recorded). IsTrue (are_recordable (length self.at_start.items) l)) (sym c.push_reserved.ensures.items) (recordable_push (length self.at_start.items) self.recorded.items c.args.call self.recordable c.requires.recordable);
    }

pub invariant_of-self-else-kept : goal.invariant_of-self-else-kept
invariant_of-self-else-kept c =
    let self = c.args.self.now in
    let is : self.sectors.items ≡ reads_after self.sectors.items c.args.call = sym (ap (reads_after self.sectors.items) (c.in-Write.is ∙ ap (Write c.in-Write.at c.in-Write.bytes) c.if-kept.false)) in
    let pushed = replays self.at_start.items self.recorded.items c.args.call self.sectors.items self.replays in
    record {
      replays = is ∙ pushed ∙ ap (λ (l : List Recorded). (replayed self.at_start.items l).reads) (sym c.push_reserved.ensures.items);
      same_count = self.same_count;
      few = self.few;
      start_sized = self.start_sized;
      faults_fit = self.faults_fit;
      counted = self.counted;
      recordable = subst (λ (l : List Recorded). IsTrue (are_recordable (length self.at_start.items) l)) (sym c.push_reserved.ensures.items) (recordable_push (length self.at_start.items) self.recorded.items c.args.call self.recordable c.requires.recordable);
    }

pub invariant_of-self-in_default : goal.invariant_of-self-in_default
invariant_of-self-in_default c =
    let self = c.args.self.now in
    let is : self.sectors.items ≡ reads_after self.sectors.items c.args.call = sym (ap (reads_after self.sectors.items) c.in_default.is) in
    let pushed = replays self.at_start.items self.recorded.items c.args.call self.sectors.items self.replays in
    record {
      replays = is ∙ pushed ∙ ap (λ (l : List Recorded). (replayed self.at_start.items l).reads) (sym c.push_reserved.ensures.items);
      same_count = self.same_count;
      few = self.few;
      start_sized = self.start_sized;
      faults_fit = self.faults_fit;
      counted = self.counted;
      recordable = subst (λ (l : List Recorded). IsTrue (are_recordable (length self.at_start.items) l)) (sym c.push_reserved.ensures.items) (recordable_push (length self.at_start.items) self.recorded.items c.args.call self.recordable c.requires.recordable);
    }

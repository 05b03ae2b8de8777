use Rattle.std.proofs.Common.{◌≡◌, ◌∙◌, ap, subst, sym, length, length-set, append-nil, ◌++◌, ◌∷◌, [], ◌<◌, ◌^◌, true, ℕ, List}
use Rattle.sector_device.specs.declared.recorded.Recorded.{Recorded}
use Rattle.sector_device.specs.declared.recorded.Recorded.TheVariants as recorded
use Rattle.embedding.specs.Calls.{blank, recorded_of}
use Rattle.embedding.specs.declared.host_device.Call.{Call}
use Rattle.embedding.proofs.Noting.{write_replays, write_recordable, recordable_more, recordable_set}
use Rattle.embedding.proofs.host_device.HostDevice.fill.Goals as goal

pub invariant_of-self : goal.invariant_of-self
invariant_of-self c =
    let self = c.args.self.now in
    let at = c.args.at in
    let bytes = c.args.bytes.now in
    let sectors = self.sectors.items in
    let call = recorded.Write at bytes true in
    let was = self.handed.calls ++ recorded_of self.waiting.items in
    let now = c.note_write.new.self.calls ++ recorded_of self.waiting.items in
    let none : (h : List Recorded) → h ++ recorded_of self.waiting.items ≡ h = λ h. ap (λ (l : List Call). h ++ recorded_of l) c.requires.none ∙ append-nil h in
    let one : now ≡ was ++ call ∷ [] = none c.note_write.new.self.calls ∙ ap (λ r. r.calls) c.note_write.ensures ∙ ap (λ (l : List Recorded). l ++ call ∷ []) (sym (none self.handed.calls)) in
    record {
      replays = write_replays sectors was now at bytes self.replays one;
      few = subst (λ (n : ℕ). length (blank n) < 2 ^ 64) (sym (length-set sectors at bytes)) self.few;
      faults_fit = self.faults_fit;
      recordable = recordable_set sectors at bytes now
          (recordable_more (length sectors) was now call self.recordable (write_recordable (length sectors) at bytes c.requires.at c.requires.sector) one);
    }

use Rattle.std.proofs.Common.{◌≡◌, ◌∙◌, ap, sym, refl, length, append-nil, ◌++◌, ◌∷◌, [], true, List}
use Rattle.sector_device.specs.declared.recorded.Recorded.{Recorded}
use Rattle.sector_device.specs.declared.recorded.Recorded.TheVariants as recorded
use Rattle.embedding.specs.Calls.{recorded_of}
use Rattle.embedding.specs.declared.host_device.Call.{Call}
use Rattle.embedding.proofs.Noting.{reads_more, recordable_more}
use Rattle.embedding.proofs.host_device.HostDevice.fill_done.Goals as goal

pub invariant_of-self : goal.invariant_of-self
invariant_of-self c =
    let self = c.args.self.now in
    let n = length self.sectors.items in
    let call = recorded.Sync true in
    let was = self.handed.calls ++ recorded_of self.waiting.items in
    let now = c.note_sync.new.self.calls ++ recorded_of self.waiting.items in
    let none : (h : List Recorded) → h ++ recorded_of self.waiting.items ≡ h = λ h. ap (λ (l : List Call). h ++ recorded_of l) c.requires.none ∙ append-nil h in
    let one : now ≡ was ++ call ∷ [] = none c.note_sync.new.self.calls ∙ ap (λ r. r.calls) c.note_sync.ensures ∙ ap (λ (l : List Recorded). l ++ call ∷ []) (sym (none self.handed.calls)) in
    record {
      replays = reads_more n self.sectors.items was now call self.replays one;
      few = self.few;
      faults_fit = self.faults_fit;
      recordable = recordable_more n was now call self.recordable refl one;
    }

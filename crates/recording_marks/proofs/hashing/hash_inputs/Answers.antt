use Rattle.std.proofs.Common.{◌≡◌, ◌+◌, ◌∙◌, ⊎_elim, List, ℕ, true, false, sym, ap, subst}
use Rattle.std.proofs.lemmas.Bool.{false_from_ne_true}
use Rattle.sector_device.specs.DiskState.{sector_at}
use Rattle.sector_device.proofs.Looking.{looked_then}
use Rattle.input_entries.specs.Inputs.{inputs, all_entries}
use Rattle.input_entries.specs.declared.Entry.{Entry}
use Rattle.input_entries.specs.declared.StoredEntry.{StoredEntry}
use Rattle.recording.specs.Format.{entries_at}
use Rattle.recording.specs.Accessors.{device_of, is_broken}
use Rattle.recording_marks.specs.Digests.{HasHashed}
use Rattle.session.proofs.Answering.{answered_both}
use Rattle.replaying.proofs.Looking.{looks_only}
use Rattle.replaying.proofs.Sectors.{entries_more, sector_entries}
use Rattle.recording_marks.proofs.Hashed.{hashed_then}
use Rattle.recording_marks.proofs.hashing.hash_inputs.Goals as goal

pub loop-index-preserved : goal.loop-index-preserved
loop-index-preserved g c =
    let i = c.loop-index.index in
    let image = (g.D.SectorDevice.disk (device_of c.args.recording.now)).sectors in
    let before = c.loop-index.invariant in
    record {
      whole = false_from_ne_true (is_broken c.read_sector.new.self) (λ broken. ⊎_elim (λ was. let wrong : false ≡ true = sym before.whole ∙ was in cc) (λ failed. cc) (c.in_default.ensures.broken.0 broken));
      same = (c.read_sector.ensures.same.0 ∙ before.same.0, c.read_sector.ensures.same.1 ∙ before.same.1, c.read_sector.ensures.same.2 ∙ before.same.2);
      answered = answered_both before.answered c.in_default.ensures.answered;
      looked = λ honest. looked_then (before.looked honest) (looks_only (c.read_sector.ensures.looked (before.answered.honest.1 honest)));
      hashed = λ honest.
          let page = c.entries.ensures ∙ c.in_default.ensures.page (before.answered.honest.1 honest)
          ∙ ap (λ (s : List (List ℕ)). entries_at (i + 1) (sector_at s (i + 1))) (before.looked honest).sectors in
          let step = c.hash_entries-left.ensures (subst all_entries (sym page) (sector_entries (i + 1) (sector_at image (i + 1)))) in
          subst (λ (l : List Entry). HasHashed c.args.hasher.now c.hash_entries-left.new.hasher c.args.most c.hash_entries-left.result l) (sym (entries_more i image))
          (hashed_then (before.hashed honest)
          (subst (λ (l : List StoredEntry). HasHashed c.loop-index.hasher c.hash_entries-left.new.hasher c.loop-index.left c.hash_entries-left.result (inputs l)) page step));
    }

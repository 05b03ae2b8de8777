use Rattle.std.proofs.Common.{rules, ◌<◌, ◌*◌, ◌+◌, ◌++◌, ◌∷◌, [], true, inl, inr, List, ℕ, set, sym, ap, ◌∙◌, arith}
use Rattle.std.proofs.lemmas.Bool.{cases_eq}
use Rattle.std.proofs.lemmas.List.{get_or-set_same, get_or-set_other}
use Rattle.std.specs.Prelude.{slice_range}
use Rattle.sector_device.specs.DiskState.{sector_at}
use Rattle.sector_device.specs.declared.recorded.Recorded.{Recorded}
use Rattle.sector_device.specs.declared.recorded.Recorded.TheVariants.{Write}
use Rattle.embedding.specs.HostDevices.{count_of, handed_of}
use Rattle.embedding.proofs.Counting.{writes_next}
use Rattle.embedding.proofs.game.fill_from.Goals as goal

pub loop-at-preserved : goal.loop-at-preserved
loop-at-preserved c =
    let at = c.loop-at.at in
    let image = c.args.image.now in
    let before = c.loop-at.device.sectors.items in
    let bytes = c.copy_from_slice.new.self in
    let within : at < count_of c.loop-at.device = omega (arith, c.loop-at.invariant.count, c.loop-at.invariant.end, c.loop-at-test.true) in
    record {
      count = search rules;
      end = search rules;
      handed = c.fill.ensures.handed
          ∙ ap (λ (b : List ℕ). handed_of c.loop-at.device ++ Write at b true ∷ []) c.copy_from_slice.ensures.after
          ∙ ap (λ (l : List Recorded). l ++ Write at (slice_range image (512 * at) (512 * at + 512)) true ∷ []) c.loop-at.invariant.handed
          ∙ sym (writes_next image at);
      waiting = search rules;
      done = λ k below. ap (λ (s : List (List ℕ)). sector_at s k) c.fill.ensures.sectors ∙ elim (cases_eq k at) [
        | inl here ↦ ap (sector_at (set before at bytes)) here ∙ get_or-set_same before at bytes [] within ∙ c.copy_from_slice.ensures.after
            ∙ ap (λ (n : ℕ). slice_range image (512 * n) (512 * n + 512)) (sym here)
        | inr other ↦ get_or-set_other before at k bytes [] other ∙ c.loop-at.invariant.done k (omega arith)
      ];
    }

use Rattle.std.proofs.Common.{◌≡◌, ◌+◌, ◌-◌, ◌/◌, ◌%◌, ◌⊎◌, inl, inr, length, refl, ap, ◌∙◌, arith, rules}
use Rattle.log_format.specs.declared.root.Root.{Root}
use Rattle.log_format.specs.Content.{area_length, generation_in}
use Rattle.log_format.specs.Widths.{Fits}
use Rattle.sector_log.specs.Store.{IsNextGeneration, root_after}
use Rattle.sector_log.proofs.NewGeneration.{is_next}
use Rattle.sector_log.proofs.generation.begin_generation.Given.{Over}
use Rattle.sector_log.proofs.generation.begin_generation.Goals as goal
use Rattle.sector_log.proofs.generation.begin_generation.Goals.{After-write_generation, then-root-eq0, else-root-eq0}

-- the root that is written is that of the next generation
next : (g : Over) (c : After-write_generation g) → c.args.last ≡ generation_in (g.D.SectorDevice.disk c.args.device.now).sectors
    → IsNextGeneration (g.D.SectorDevice.disk c.args.device.now).sectors c.if-root-eq0.start (root_after c.args.last c.args.id c.args.base (length c.args.blob.now)) c.args.blob.now
next g c was =
    let old = g.D.SectorDevice.disk c.args.device.now in
    let root : Root = root_after c.args.last c.args.id c.args.base (length c.args.blob.now) in
    let areas : c.area_length-area.result ≡ area_length old.sectors = c.area_length-area.ensures ∙ ap (λ n. (n - 2) / 2) c.count-count.ensures in
    let slot : ((root.generation % 2 ≡ 0) × (c.if-root-eq0.start ≡ 2)) ⊎ ((root.generation % 2 ≡ 1) × (c.if-root-eq0.start ≡ 2 + area_length old.sectors)) =
    elim c.if-root-eq0.branch [
      | then-root-eq0 w ↦ inl (w.if-root-eq0.true, w.start-is)
      | else-root-eq0 w ↦ inr (omega arith, w.start-is ∙ ap (λ n. 2 + n) areas)
    ] in
    let whole : Fits root = record { generation = omega (arith, c.requires.can.unworn); id = search rules; base = omega arith; blob_length = c.requires.size } in
    is_next old.sectors c.if-root-eq0.start c.args.last root c.args.blob.now was refl slot c.requires.can.enough refl whole refl

pub returns-in-Err-clause-moments : goal.returns-in-Err-clause-moments
returns-in-Err-clause-moments g c = λ honest settled was. c.write_generation.ensures.moments honest settled (next g (goal.at.returns-in-Err-clause-moments g c).After-write_generation was)

pub returns-in-Ok-clause-moments : goal.returns-in-Ok-clause-moments
returns-in-Ok-clause-moments g c = λ honest settled was. c.write_generation.ensures.moments honest settled (next g (goal.at.returns-in-Ok-clause-moments g c).After-write_generation was)

pub returns-in-Ok-clause-stored : goal.returns-in-Ok-clause-stored
returns-in-Ok-clause-stored g c = λ honest settled was. c.in-Ok.ensures.stored honest settled (next g (goal.at.returns-in-Ok-clause-stored g c).After-write_generation was)

pub returns-in-Ok-clause-begun : goal.returns-in-Ok-clause-begun
returns-in-Ok-clause-begun g c = λ honest settled was. c.in-Ok.ensures.begun honest settled (next g (goal.at.returns-in-Ok-clause-begun g c).After-write_generation was)

use Rattle.std.proofs.Common.{◌≡◌, ◌⊎◌, inl, refl, IsOk, ◌%◌, set, ◌∙◌}
use Rattle.sector_device.specs.DiskState.{Settled}
use Rattle.sector_device.specs.Runs.{HoldsThroughout}
use Rattle.sector_device.proofs.Runs.{has_synced, throughout_weaker, on_ok, ok_of}
use Rattle.log_format.specs.Content.{root_bytes}
use Rattle.log_format.specs.Log.{fresh_area}
use Rattle.sector_log.specs.Layout.{replaced}
use Rattle.sector_log.specs.Store.{IsNextGeneration}
use Rattle.sector_log.specs.Calls.{HasOldOrNewContent}
use Rattle.sector_log.proofs.NewGeneration.{still_old, rests_now, begun_now, after_sync, after_root, filled, rooted}
use Rattle.sector_log.proofs.generation.write_generation.Given.{Over}
use Rattle.sector_log.proofs.generation.write_generation.Goals.{After-write, After-sync_once-2}
use Rattle.sector_log.proofs.generation.write_generation.Goals as goal

-- filling leaves the old content
pub returns-in_err-fill_area-clause-moments : goal.returns-in_err-fill_area-clause-moments
returns-in_err-fill_area-clause-moments g c = λ honest settled next.
    throughout_weaker (c.fill_area.ensures.moments honest settled).throughout (λ i mixed. inl (still_old (g.D.SectorDevice.disk c.args.device.now).sectors c.args.start c.args.root.now c.args.blob.now next i mixed))

pub returns-in_err-sync_once-clause-moments : goal.returns-in_err-sync_once-clause-moments
returns-in_err-sync_once-clause-moments g c = λ honest settled next.
    let held = c.fill_area.ensures.moments honest settled in
    throughout_weaker (has_synced held (c.sync_once.ensures.synced held.honest)).throughout (λ i mixed. inl (still_old (g.D.SectorDevice.disk c.args.device.now).sectors c.args.start c.args.root.now c.args.blob.now next i mixed))

-- the root is written behind the sync
held : (g : Over) (c : After-write g) → (g.D.SectorDevice.disk c.args.device.now).honest → Settled (g.D.SectorDevice.disk c.args.device.now)
    → (next : IsNextGeneration (g.D.SectorDevice.disk c.args.device.now).sectors c.args.start c.args.root.now c.args.blob.now)
    → HoldsThroughout (g.D.SectorDevice.disk c.args.device.now) (g.D.SectorDevice.disk c.write.new.self) (HasOldOrNewContent (g.D.SectorDevice.disk c.args.device.now).sectors c.args.root.now.id c.args.root.now.base c.args.blob.now)
    (λ i. (i ≡ filled (g.D.SectorDevice.disk c.args.device.now).sectors c.args.start c.args.root.now c.args.blob.now next) ⊎ (i ≡ rooted (g.D.SectorDevice.disk c.args.device.now).sectors c.args.start c.args.root.now c.args.blob.now next))
held g c honest settled next =
    let held = c.fill_area.ensures.moments honest settled in
    let old = g.D.SectorDevice.disk c.args.device.now in
    let sync = c.in_ok-sync_once.ensures.synced held.honest in
    let alone = after_sync old.sectors c.args.start c.args.root.now c.args.blob.now next old (g.D.SectorDevice.disk c.fill_area.new.device) (g.D.SectorDevice.disk c.sync_once.new.device) refl (c.in_ok-fill_area.ensures.written honest settled) held sync sync.settled in
    after_root old.sectors c.args.start c.args.root.now c.args.blob.now next c.root_sector.result c.root_sector.ensures alone (c.write.ensures.written alone.honest)

pub returns-in_err-write-clause-moments : goal.returns-in_err-write-clause-moments
returns-in_err-write-clause-moments g c = λ honest settled next. (held g (goal.at.returns-in_err-write-clause-moments g c).After-write honest settled next).throughout

pub returns-clause-moments : goal.returns-clause-moments
returns-clause-moments g c = λ honest settled next.
    let run = held g (goal.at.returns-clause-moments g c).After-write honest settled next in
    (has_synced run (c.sync_once-2.ensures.synced run.honest)).throughout

-- after the last sync, if it succeeded
ended : (g : Over) (c : After-sync_once-2 g) → IsOk c.sync_once-2.result → (g.D.SectorDevice.disk c.args.device.now).honest → Settled (g.D.SectorDevice.disk c.args.device.now)
    → Settled (g.D.SectorDevice.disk c.sync_once-2.new.device) × ((g.D.SectorDevice.disk c.sync_once-2.new.device).sectors ≡ set (replaced c.args.start (fresh_area c.args.blob.now) (g.D.SectorDevice.disk c.args.device.now).sectors) (c.args.root.now.generation % 2) (root_bytes c.args.root.now))
ended g c ok honest settled =
    let sync = c.in_ok-sync_once.ensures.synced (c.fill_area.ensures.moments honest settled).honest in
    let put = c.in_ok-write.ensures.written sync.goes.honest in
    let last = c.sync_once-2.ensures.synced put.goes.honest in
    (ok_of c.sync_once-2.result ok last.settled, last.sectors ∙ put.written ∙ (λ i. set ((sync.sectors ∙ c.in_ok-fill_area.ensures.written honest settled) i) (c.args.root.now.generation % 2) (c.root_sector.ensures i)))

pub returns-clause-stored : goal.returns-clause-stored
returns-clause-stored g c = on_ok c.sync_once-2.result (λ ok honest settled next.
    let e = ended g (goal.at.returns-clause-stored g c).After-sync_once-2 ok honest settled in
    rests_now (g.D.SectorDevice.disk c.args.device.now).sectors c.args.start c.args.root.now c.args.blob.now next (g.D.SectorDevice.disk c.sync_once-2.new.device) e.0 e.1)

pub returns-clause-begun : goal.returns-clause-begun
returns-clause-begun g c = on_ok c.sync_once-2.result (λ ok honest settled next.
    let e = ended g (goal.at.returns-clause-begun g c).After-sync_once-2 ok honest settled in
    let old = g.D.SectorDevice.disk c.args.device.now in
    begun_now old.sectors c.args.start c.args.root.now c.args.blob.now next old (g.D.SectorDevice.disk c.sync_once-2.new.device) refl e.0 e.1)

use Rattle.std.proofs.Common.{rules, ◌≡◌, ◌≤◌, inl, inr, length, set, sym, ap, subst, arith}
use Rattle.sector_device.specs.Runs.{HoldsThroughout, Mixed}
use Rattle.sector_device.proofs.Looking.{looked_synced, looked_then, looks_then, settled_looked}
use Rattle.sector_device.proofs.Runs.{has_synced, throughout_weaker}
use Rattle.recording.specs.Calls.{IsBlank, IsOldOrEmpty}
use Rattle.recording.specs.Format.{head}
use Rattle.recording.proofs.Beginning.{head_written}
use Rattle.recording.proofs.opening.begin.Given.{Over}
use Rattle.recording.proofs.opening.begin.Goals.{After-write}
use Rattle.recording.proofs.opening.begin.Goals as goal

-- after the head was to be written
held : (g : Over) (c : After-write g) → (g.D.SectorDevice.disk c.args.device.now).honest
    → HoldsThroughout (g.D.SectorDevice.disk c.args.device.now) (g.D.SectorDevice.disk c.write.new.self) (IsOldOrEmpty (g.D.SectorDevice.disk c.args.device.now) c.args.id.now)
    (Mixed (g.D.SectorDevice.disk c.is_blank.new.device).sectors (set (g.D.SectorDevice.disk c.is_blank.new.device).sectors 0 (head c.args.id.now)))
held g c honest =
    let mid = g.D.SectorDevice.disk c.is_blank.new.device in
    let sync = c.in_ok-sync.ensures.synced honest in
    let later = c.is_blank.ensures.looked sync.goes.honest in
    let looked = looked_then (looked_synced (c.sync.ensures.synced honest)) later in
    let size : length c.args.id.now ≡ 32 = search rules in
    let some : 2 ≤ length mid.sectors = omega (arith, c.count.ensures, c.if-count-lt2.false, ap length looked.sectors) in
    let blank = subst IsBlank (sym later.sectors) (c.in_ok-blank.ensures.blank c.if-not-blank.false sync.goes.honest) in
    head_written (g.D.SectorDevice.disk c.args.device.now) mid c.args.id.now size looked (settled_looked sync.settled later) some blank (g.met.D.SectorDevice.reads_are_an_image c.is_blank.new.device looked.honest)
    c.head_sector.ensures (c.write.ensures.written looked.honest)

pub returns-in_err-write-clause-moments : goal.returns-in_err-write-clause-moments
returns-in_err-write-clause-moments g c = λ honest. (held g (goal.at.returns-in_err-write-clause-moments g c).After-write honest).throughout

pub returns-in_err-sync-2-clause-moments : goal.returns-in_err-sync-2-clause-moments
returns-in_err-sync-2-clause-moments g c = λ honest. let run = held g (goal.at.returns-in_err-sync-2-clause-moments g c).After-write honest in (has_synced run (c.sync-2.ensures.synced run.honest)).throughout

pub returns-clause-moments : goal.returns-clause-moments
returns-clause-moments g c = λ honest. let run = held g (goal.at.returns-clause-moments g c).After-write honest in (has_synced run (c.sync-2.ensures.synced run.honest)).throughout

pub returns-in_err-blank-clause-moments : goal.returns-in_err-blank-clause-moments
returns-in_err-blank-clause-moments g c = λ honest.
    throughout_weaker ((looks_then (λ h. looked_synced (c.sync.ensures.synced h)) c.is_blank.ensures.looked) honest).time (λ i was. inl was)

pub returns-in_err-blank-clause-past : goal.returns-in_err-blank-clause-past
returns-in_err-blank-clause-past g c = λ honest.
    ((looks_then (λ h. looked_synced (c.sync.ensures.synced h)) c.is_blank.ensures.looked) honest).past

pub returns-then-not-blank-clause-moments : goal.returns-then-not-blank-clause-moments
returns-then-not-blank-clause-moments g c = λ honest.
    throughout_weaker ((looks_then (λ h. looked_synced (c.sync.ensures.synced h)) c.is_blank.ensures.looked) honest).time (λ i was. inl was)

pub returns-then-not-blank-clause-past : goal.returns-then-not-blank-clause-past
returns-then-not-blank-clause-past g c = λ honest.
    ((looks_then (λ h. looked_synced (c.sync.ensures.synced h)) c.is_blank.ensures.looked) honest).past

pub returns-then-not-blank-clause-untouched : goal.returns-then-not-blank-clause-untouched
returns-then-not-blank-clause-untouched g c = inr (looks_then (λ h. looked_synced (c.sync.ensures.synced h)) c.is_blank.ensures.looked)

pub returns-in_err-write-clause-past : goal.returns-in_err-write-clause-past
returns-in_err-write-clause-past g c = λ honest. (held g (goal.at.returns-in_err-write-clause-past g c).After-write honest).past

pub returns-in_err-sync-2-clause-past : goal.returns-in_err-sync-2-clause-past
returns-in_err-sync-2-clause-past g c = λ honest.
    let run = held g (goal.at.returns-in_err-sync-2-clause-past g c).After-write honest in
    (has_synced run (c.sync-2.ensures.synced run.honest)).past

pub returns-clause-past : goal.returns-clause-past
returns-clause-past g c = λ honest.
    let run = held g (goal.at.returns-clause-past g c).After-write honest in (has_synced run (c.sync-2.ensures.synced run.honest)).past

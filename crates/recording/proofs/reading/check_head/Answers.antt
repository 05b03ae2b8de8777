use Rattle.std.proofs.Common.{◌≡◌, length, sym, ◌∙◌}
use Rattle.recording.proofs.Beginning.{nothing_is_no_head}
use Rattle.recording.proofs.reading.check_head.Goals as goal

pub returns-then-count-eq0-clause-cause : goal.returns-then-count-eq0-clause-cause
returns-then-count-eq0-clause-cause g c = λ _.
    let none : length (g.D.SectorDevice.disk c.args.device.now).sectors ≡ 0 = sym c.count.ensures ∙ c.if-count-eq0.true in
    nothing_is_no_head (g.D.SectorDevice.disk c.args.device.now).sectors none

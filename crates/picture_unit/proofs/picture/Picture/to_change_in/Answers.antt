use Rattle.std.proofs.Common.{◌≡◌, ◌+◌, ◌-◌, ◌<◌, ℕ, ap, ◌∙◌, arith}
use Rattle.std.specs.Fn.{iterate}
use Rattle.picture_unit.specs.Picture.{tick}
use Rattle.picture_unit.specs.PictureJump.{with_requests, next_change}
use Rattle.picture_unit.proofs.Quiet.{all_quiet, after_change, stays_on, stays_on_skipped}
use Rattle.picture_unit.proofs.picture.Picture.to_change_in.Goals as goal

-- fewer M-cycles than the change is away

pub returns-then-cycles-from-clause-on : goal.returns-then-cycles-from-clause-on
returns-then-cycles-from-clause-on c = stays_on_skipped c.args.cycles _ _ c.requires.on c.skip.ensures

pub returns-then-cycles-from-clause-ticks : goal.returns-then-cycles-from-clause-ticks
returns-then-cycles-from-clause-ticks c =
    let before : c.args.cycles < next_change c.args.self.now.state = omega (arith, c.requires.change, c.from.ensures, c.if-cycles-from.true) in
    all_quiet c.args.cycles _ _ c.requires.on before c.skip.ensures

-- at least as many

pub run_cycle-requests-requires : goal.run_cycle-requests-requires
run_cycle-requests-requires c = stays_on_skipped (c.from-2.result - 1) _ _ c.requires.on c.skip-requests.ensures

pub returns-clause-on : goal.returns-clause-on
returns-clause-on c = stays_on _ _ (stays_on_skipped (c.from-2.result - 1) _ _ c.requires.on c.skip-requests.ensures) c.run_cycle-requests.ensures

pub returns-clause-ticks : goal.returns-clause-ticks
returns-clause-ticks c =
    let before : c.from-2.result - 1 < next_change c.args.self.now.state = omega (arith, c.requires.change, c.requires.ahead, c.from-2.ensures) in
    let enough : c.from-2.result - 1 < c.args.cycles = omega (arith, c.requires.ahead, c.if-cycles-from.false, c.from.ensures, c.from-2.ensures) in
    let left : c.args.cycles - c.from-3.result ≡ c.args.cycles - (c.from-2.result - 1 + 1) = omega (arith, c.requires.ahead, c.from-2.ensures, c.from-3.ensures) in
    ap (λ (k : ℕ). iterate tick k (with_requests c.run_cycle-requests.result c.run_cycle-requests.new.self)) left
    ∙ after_change c.args.cycles (c.from-2.result - 1) _ _ _ enough c.requires.on before c.skip-requests.ensures c.run_cycle-requests.ensures

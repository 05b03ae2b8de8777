use Rattle.std.proofs.Common.{ℕ, ◌+◌, refl, sym, ap, subst, ◌∙◌, arith}
use Rattle.std.specs.Fn.{iterate}
use Rattle.memory_map.specs.Ticks.{tick}
use Rattle.memory_map.specs.LateTimer.{up_to}
use Rattle.memory_map.specs.Quiet.{AreQuietOn}
use Rattle.memory_map.specs.Invariant.{IsConsistent}
use Rattle.memory_map.specs.contracts.bus.Bus.{the_view}
use Rattle.memory_map.proofs.QuietCycles.{quiet_pass}
use Rattle.memory_map.proofs.LateBus.{with_timer_and_picture, moved, consistent_after}
use Rattle.memory_map.proofs.bus.Bus.move_on.Goals as goal

pub invariant_of-self : goal.invariant_of-self
invariant_of-self c =
    let b = the_view c.self.inside in
    let quiet = subst (AreQuietOn c.args.cycles) (sym c.self.view_is) c.requires in
    let clock = c.self.inside.clock in
    subst (λ (k : ℕ). IsConsistent c.self.inside.calm_until c.self.inside.quiet_until (clock + k) c.self.inside.timer (with_timer_and_picture (up_to (clock + k) c.self.inside.timer) c.move_on.new.self b)) (sym c.from.ensures)
    (consistent_after c.self.inside.calm_until c.self.inside.quiet_until clock c.args.cycles c.self.inside.timer b _
    (moved c.args.cycles clock c.self.inside.timer b c.move_on.new.self refl c.self.invariant.late c.move_on.ensures) quiet c.self.invariant)

pub returns : goal.returns
returns c =
    let b = the_view c.self.inside in
    let quiet = subst (AreQuietOn c.args.cycles) (sym c.self.view_is) c.requires in
    ap (λ (k : ℕ). with_timer_and_picture (up_to (c.self.inside.clock + k) c.self.inside.timer) c.move_on.new.self b) c.from.ensures
    ∙ moved c.args.cycles c.self.inside.clock c.self.inside.timer b c.move_on.new.self refl c.self.invariant.late c.move_on.ensures
    ∙ quiet_pass c.args.cycles c.args.cycles b (omega arith) quiet ∙ ap (iterate tick c.args.cycles) c.self.view_is

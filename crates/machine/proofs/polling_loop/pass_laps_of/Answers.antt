use Rattle.std.proofs.Common.{◌≡◌, ◌∙◌, ℕ, ◌+◌, ◌-◌, ◌<◌, ◌≤◌, ap, sym, subst, arith}
use Rattle.std.specs.Fn.{iterate}
use Rattle.memory_map.specs.State.{BusState}
use Rattle.memory_map.specs.Bus.{read_at}
use Rattle.memory_map.specs.BusRules.{bus_rules}
use Rattle.memory_map.specs.Ticks.{tick}
use Rattle.memory_map.specs.Quiet.{IsCalm}
use Rattle.memory_map.specs.Lasting.{LastsFor}
use Rattle.memory_map.proofs.QuietCycles.{fewer_are_quiet, fewer_are_calm, calm_after}
use Rattle.machine.specs.Machine.{steps_until}
use Rattle.machine.specs.PollingLoop.{IsPoll}
use Rattle.machine.proofs.PollingLoop.{laps_pass, poll_kept, fast_after_laps}
use Rattle.machine.proofs.polling_loop.pass_laps_of.Goals as goal

pub loop-left-init : goal.loop-left-init
loop-left-init c =
    let left = c.min-left.result in
    let few : left ≤ 17556 - c.args.passed = omega (arith, c.min-left.ensures) in
    let start : c.args.passed + left - left ≡ c.args.passed = omega arith in
    record {
      run = ap (λ (n : ℕ). steps_until bus_rules 17556 n c.args.processor.now) start;
      start = omega arith;
      below = omega (arith, c.requires.below);
      within = omega arith;
      end = omega (arith, few, c.requires.below);
      calm = fewer_are_calm c.calm.result left c.args.processor.now.memory (omega (arith, c.min-left.ensures, c.from.ensures)) c.calm.ensures;
      fast = c.requires.fast;
      poll = c.requires.poll;
    }

pub loop-left-preserved : goal.loop-left-preserved
loop-left-preserved c =
    let p = c.loop-left.processor in
    let left = c.loop-left.left in
    let end = c.args.passed + c.min-left.result in
    let cycles = c.cycles_of_lap-cycles in
    let more = c.same_laps-more in
    let made = c.make_lap-is_taken in
    let m = cycles.result + more.result in
    let before = c.loop-left.invariant in
    let t = made.new.registers in
    let poll = c.args.poll.now in
    let after = c.pass.new.self in
    let address = c.address_of-address.ensures in
    let bound : m < left = omega (arith, more.ensures.few, c.min-lasts.ensures, c.loop-left-test.true) in
    let few : more.result ≤ c.lasts_for.result = omega (arith, more.ensures.few, c.min-lasts.ensures, c.from-in-loop-left.ensures) in
    let within : end - left + left ≤ 17556 = omega (arith, before.within, before.end) in
    let lasts = subst (λ (a : ℕ). LastsFor c.lasts_for.result a p.memory) address c.lasts_for.ensures in
    let value = c.read-value.ensures ∙ ap (read_at p.memory) address in
    let taken = sym made.ensures.taken ∙ c.if-not-is_taken.false in
    let back = c.if-after-processor.false in
    let now : end - (left - m) ≡ end - left + m = omega (arith, before.within, bound) in
    let calm : IsCalm (left - m) after = subst (IsCalm (left - m)) (sym c.pass.ensures) (calm_after left m p.memory bound before.calm) in
    let quiet = fewer_are_quiet (left - 1) m p.memory (omega (arith, bound)) before.calm.quiet in
    record {
      run = ap (λ (n : ℕ). steps_until bus_rules 17556 n (record p { registers = t; memory = after })) now
          ∙ laps_pass (end - left) left p within before.fast.usual before.calm c.lasts_for.result cycles.result more.result c.read-value.result poll t after
          cycles.ensures.cycles bound few lasts before.poll value made.ensures.lap taken back more.ensures.whole more.ensures.same c.pass.ensures
          ∙ before.run;
      start = omega (arith, now, before.start);
      below = omega (arith, now, bound, before.within, before.end);
      within = omega (arith, before.within);
      end = before.end;
      calm = calm;
      fast = fast_after_laps m left p t after bound before.calm before.fast c.pass.ensures;
      poll = subst (λ (b : BusState). IsPoll poll b t.pc) (sym c.pass.ensures)
          (subst (IsPoll poll (iterate tick m p.memory)) (sym back) (poll_kept poll m p.registers.pc p.memory quiet before.poll));
    }

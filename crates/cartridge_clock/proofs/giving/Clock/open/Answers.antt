use Rattle.std.proofs.Common.{◌≡◌, ◌∙◌, None, rules, ap}
use Rattle.cartridge_clock.specs.declared.giving.Clock.{Clock}
use Rattle.cartridge_clock.specs.Clocks.{opened, due_at}
use Rattle.cartridge_clock.proofs.Due.{opened_due}
use Rattle.cartridge_clock.proofs.giving.Clock.open.Goals as goal

pub returns-clause-away : goal.returns-clause-away
returns-clause-away c =
    let clock : Clock = record {
      until = c.until_at-until.result;
      opened = c.start_at.result;
      began = c.args.moment;
      written = record { count = c.args.count; until = c.until_at-until.result };
      claimed = None;
    } in
    let is : clock ≡ opened c.args.lines.now c.args.count c.args.date c.args.moment c.args.answer = search rules in
    ap (λ (clock : Clock). due_at clock c.args.moment) is ∙ opened_due c.args.lines.now c.args.count c.args.date c.args.moment c.args.answer

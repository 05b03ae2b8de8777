use Rattle.std.proofs.Common.{sym}
use Rattle.bank_controllers.proofs.ClockJump.{days_by_jump}
use Rattle.bank_controllers.proofs.clock.ClockRegisters.after_days.Goals as goal

pub returns : goal.returns
returns c =
    let by_jump = days_by_jump c.args.days c.args.self c.requires.day_low c.requires.day_high c.requires.unused in
    rw (c.carry_after-carry.ensures, c.from.ensures, c.from-2.ensures, c.from-3.ensures) (sym by_jump)

use Rattle.std.proofs.Common.{sym, inl, inr, arith}
use Rattle.machine.proofs.Sent.{last_in_cycles, none_in_cycles}
use Rattle.machine.proofs.watched.byte_sent.Goals as goal

pub returns-then-serial-eq0 : goal.returns-then-serial-eq0
returns-then-serial-eq0 c = sym (none_in_cycles c.args.cycles c.args.serial.now (inl c.if-serial-eq0.true))

pub returns-then-serial-from : goal.returns-then-serial-from
returns-then-serial-from c = sym (none_in_cycles c.args.cycles c.args.serial.now (inr (omega (arith, c.from.ensures))))

pub returns : goal.returns
returns c = sym (last_in_cycles c.args.cycles c.args.serial.now (omega arith) (omega (arith, c.from.ensures)))

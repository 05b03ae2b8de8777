use Rattle.std.proofs.Common.{◌∙◌, sym}
use Rattle.machine.proofs.Forgetting.{same_again}
use Rattle.machine.proofs.polling_loop.repeats.Goals as goal

pub returns-then-forgets : goal.returns-then-forgets
returns-then-forgets c = λ _. same_again c.args.poll.now c.args.value c.args.before.now c.args.after.now c.requires.made c.requires.back (sym c.forgets.ensures ∙ c.if-forgets.true)

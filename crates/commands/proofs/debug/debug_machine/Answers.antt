use Rattle.std.proofs.Common.{refl, ap, ◌∙◌, subst}
use Rattle.debugging.specs.Debugged.{Exchange, HasAnsweredAll, IsDebugCause}
use Rattle.debugging.specs.Run.{begun}
use Rattle.commands.proofs.Begun.{broken_behind}
use Rattle.commands.proofs.debug.debug_machine.Goals as goal

pub returns-in-Ok-obey-clause-ok : goal.returns-in-Ok-obey-clause-ok
returns-in-Ok-obey-clause-ok g c =
    let rest : Exchange = record { unread = g.R.LineInput.remaining c.args.input.now; left = g.R.LineInput.remaining c.obey.new.input; before = g.W.Output.contents c.write_resumed.new.out; since = g.W.Output.contents c.obey.new.out } in (
      c.in-Some.ensures.1,
      (
        rest,
        record { begins = c.in_default-write_resumed.ensures.ok; unread = refl; left = refl; since = refl },
        subst (λ d. HasAnsweredAll d rest) (c.in-Ok.ensures ∙ ap begun c.in-Some.ensures.0) c.in-Ok-obey.ensures.answered,
      ),
    )

pub returns-in-Err-obey-clause-err : goal.returns-in-Err-obey-clause-err
returns-in-Err-obey-clause-err g c =
    let rest : Exchange = record { unread = g.R.LineInput.remaining c.args.input.now; left = g.R.LineInput.remaining c.obey.new.input; before = g.W.Output.contents c.write_resumed.new.out; since = g.W.Output.contents c.obey.new.out } in (
      c.in-Some.ensures.1,
      broken_behind c.in-Err-obey.why c.args.inputs c.args.machine.now _ rest (record { begins = c.in_default-write_resumed.ensures.ok; unread = refl; left = refl; since = refl })
          (subst (λ d. IsDebugCause c.in-Err-obey.why d rest) (c.in-Ok.ensures ∙ ap begun c.in-Some.ensures.0) c.in-Err-obey.ensures.refused),
    )

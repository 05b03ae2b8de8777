use Rattle.std.proofs.Common.{◌∙◌, ap, subst, arith}
use Rattle.std.specs.Io.KnownBytes.{Appends}
use Rattle.exact_text.specs.Written.{AppendsProperPrefix}
use Rattle.machine_lines.specs.Looks.{look_text}
use Rattle.playing.proofs.Making.{makes_line, stops_at_line}
use Rattle.streaming.specs.Answers.{answer}
use Rattle.streaming.proofs.obeying.obey_look.Goals as goal

pub returns-in-Ok-clause-obeyed : goal.returns-in-Ok-clause-obeyed
returns-in-Ok-clause-obeyed g c =
    let was = c.args.game.now in
    let x = g.W.Output.contents c.args.out.now in
    let y = g.W.Output.contents c.write_look.new.out in
    let same = c.machine.ensures.machine ∙ ap g.G.Playable.machine c.draw_for.ensures in
    rw c.draw_for.ensures
    (makes_line g.G.Playable was x y (answer (look_text c.args.look (g.G.Playable.machine was))) (omega arith)
    (subst (λ m. Appends x y (look_text c.args.look m)) same c.in-Ok.ensures.ok))

pub returns-in-Err-clause-stopped : goal.returns-in-Err-clause-stopped
returns-in-Err-clause-stopped g c =
    let was = c.args.game.now in
    let x = g.W.Output.contents c.args.out.now in
    let y = g.W.Output.contents c.write_look.new.out in
    let same = c.machine.ensures.machine ∙ ap g.G.Playable.machine c.draw_for.ensures in
    rw c.draw_for.ensures
    (rw c.unwritten.ensures.is
    (stops_at_line g.G.Playable was x y (answer (look_text c.args.look (g.G.Playable.machine was))) c.unwritten.ensures.told c.in-Err.ensures.failed
    (subst (λ m. AppendsProperPrefix x y (look_text c.args.look m)) same c.in-Err.ensures.err)))

use Rattle.snapshot.specs.Reading.{machine_in}
use Rattle.streaming.proofs.GoingOn.{goes_on, goes_on_untold, goes_no_further}
use Rattle.streaming.proofs.obeying.go_on_with.Goals as goal

pub returns-in-Ok-clause-obeyed : goal.returns-in-Ok-clause-obeyed
returns-in-Ok-clause-obeyed g c = λ done.
    goes_on g.G.Playable c.args.game.now c.give_state.new.game (g.W.Output.contents c.args.out.now) (g.W.Output.contents c.give_state.new.report) (g.W.Output.contents c.write_gone_on.new.out) c.args.order
    (machine_in c.args.cartridge.now c.args.bytes.now) (c.in-Ok-true.ensures.made c.in-Ok-true.field-0-test) c.in-Ok.ensures.ok

pub returns-in-Err-write_gone_on-clause-stopped : goal.returns-in-Err-write_gone_on-clause-stopped
returns-in-Err-write_gone_on-clause-stopped g c =
    rw c.unwritten.ensures.is
    (goes_on_untold g.G.Playable c.args.game.now c.give_state.new.game (g.W.Output.contents c.args.out.now) (g.W.Output.contents c.give_state.new.report) (g.W.Output.contents c.write_gone_on.new.out) c.args.order
    (machine_in c.args.cartridge.now c.args.bytes.now) (c.in-Ok-true.ensures.made c.in-Ok-true.field-0-test) c.unwritten.ensures.told c.in-Err-write_gone_on.ensures.failed c.in-Err-write_gone_on.ensures.err)

pub returns-in-Err-clause-stopped : goal.returns-in-Err-clause-stopped
returns-in-Err-clause-stopped g c =
    goes_no_further g.G.Playable c.args.game.now c.give_state.new.game (g.W.Output.contents c.args.out.now) (g.W.Output.contents c.give_state.new.report) (g.W.Output.contents c.give_state.new.report) c.args.order
    (machine_in c.args.cartridge.now c.args.bytes.now) c.in-Err.why c.in-Err.ensures.stopped

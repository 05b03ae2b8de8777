use Rattle.debugging.specs.Quiet.{is_any}
use Rattle.debugging.specs.Run.{RunState}
use Rattle.debugging.proofs.Runs.{steps_made, steps_stop}
use Rattle.debugging.proofs.run.Run.quiet_up_to.Goals as goal

pub returns-clause-made : goal.returns-clause-made
returns-clause-made g c = λ there.
    let inside : RunState = record { debugger = c.self.inside.debugger; sent = c.self.inside.sent.items; played = c.self.inside.played } in
    steps_made c.args.limit c.step_up_to-went.result.cycles c.args.self.now inside c.step_up_to-went.new.debugger c.with_cycles-self-inside.result c.self.view_is c.requires.quiet c.self.invariant.1 c.with_cycles-self-inside.ensures
    (is_any c.args.aims.now) (c.step_up_to-went.ensures.made there)

pub returns-clause-there : goal.returns-clause-there
returns-clause-there g c = λ there.
    let inside : RunState = record { debugger = c.self.inside.debugger; sent = c.self.inside.sent.items; played = c.self.inside.played } in
    steps_stop c.args.limit c.step_up_to-went.result.cycles c.args.self.now inside c.step_up_to-went.new.debugger c.with_cycles-self-inside.result c.self.view_is c.requires.quiet c.self.invariant.1 c.with_cycles-self-inside.ensures
    (is_any c.args.aims.now) (c.step_up_to-went.ensures.there there)

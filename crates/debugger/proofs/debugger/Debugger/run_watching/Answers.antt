use Rattle.std.proofs.Common.{◌∙◌, ap}
use Rattle.memory_map.specs.BusRules.{bus_rules}
use Rattle.machine.specs.Machine.{cycles_of_steps}
use Rattle.debugger.specs.History.{DebuggerState}
use Rattle.debugger.proofs.Histories.{watched_steps_kept}
use Rattle.debugger.proofs.debugger.Debugger.run_watching.Goals as goal

pub returns-clause-run : goal.returns-clause-run
returns-clause-run g c =
    let passed = c.run_watching-passed in
    rw (← c.self.view_is) (watched_steps_kept (g.W.Watch.passes c.args.watch.now) passed.result.steps passed.result.cycles c.self.inside.machine passed.new.self c.self.inside.history c.extend_from_slice.new.self _
    passed.ensures.machine passed.ensures.run c.extend_from_slice.ensures)

pub returns-clause-cycles : goal.returns-clause-cycles
returns-clause-cycles g c =
    c.run_watching-passed.ensures.run.took
    ∙ ap (λ (d : DebuggerState). cycles_of_steps bus_rules c.run_watching-passed.result.steps d.machine.processor) c.self.view_is

use Rattle.std.proofs.Common.{◌≡◌, ◌∙◌, ℕ, ap, map}
use Rattle.std.specs.Prelude.{nat_lt}
use Rattle.memory_map.specs.State.{BusState}
use Rattle.sm83_processor.specs.declared.processor.Processor.{Processor}
use Rattle.debugging.specs.Answers.{until_steps}
use Rattle.debugging.specs.Profile.{with_steps}
use Rattle.debugging.specs.Quiet.{aim_of, is_any}
use Rattle.debugging.specs.Run.{after_steps_of, processor_of, steps_up_to}
use Rattle.debugging.proofs.MetConditions.{steps_by}
use Rattle.debugging.proofs.profiling.run_counted.Goals as goal

steps : (c : goal.After-count_up_to) → steps_up_to (is_any c.as_slice.result.now) c.args.limit (processor_of c.args.run) ≡ until_steps c.args.limit c.args.conditions.now c.args.run
steps c =
    steps_by c.args.run c.args.conditions.now c.as_slice.result.now c.args.limit
    (c.as_slice.ensures.value ∙ c.aims_of-aims.ensures ∙ ap (λ (p : Processor BusState). map (aim_of p.memory) c.args.conditions.now) c.processor.ensures)

pub returns-clause-run : goal.returns-clause-run
returns-clause-run c = c.count_up_to.ensures.run ∙ ap (λ n. after_steps_of n c.args.run) (steps c)

pub returns-clause-there : goal.returns-clause-there
returns-clause-there c = c.count_up_to.ensures.there ∙ ap (λ n. nat_lt n c.args.limit) (steps c)

pub returns-clause-counted : goal.returns-clause-counted
returns-clause-counted c = c.count_up_to.ensures.counted ∙ ap (λ (n : ℕ). with_steps n (processor_of c.args.run) c.args.counts.now) (steps c)

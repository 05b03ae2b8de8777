use Rattle.std.proofs.Common.{◌≡◌, ◌∙◌, ap, map, subst, sym}
use Rattle.std.specs.Prelude.{nat_lt}
use Rattle.memory_map.specs.State.{BusState}
use Rattle.sm83_processor.specs.declared.processor.Processor.{Processor}
use Rattle.debugging.specs.Answers.{until_steps}
use Rattle.debugging.specs.Conditions.{holds, number_of}
use Rattle.debugging.specs.Quiet.{HasRom, aim_of, is_aim, is_any}
use Rattle.debugging.specs.Run.{after_steps_of, processor_of, steps_up_to}
use Rattle.debugging.proofs.Kept.{rom_of_run}
use Rattle.debugging.proofs.MetConditions.{number_is, steps_by}
use Rattle.debugging.proofs.run.Run.run_until.Goals as goal

steps : (c : goal.After-number_of-number) → steps_up_to (is_any c.as_slice.result.now) c.args.limit (processor_of c.args.self) ≡ until_steps c.args.limit c.args.conditions.now c.args.self
steps c =
    steps_by c.args.self c.args.conditions.now c.as_slice.result.now c.args.limit
    (c.as_slice.ensures.value ∙ c.aims_of-aims.ensures ∙ ap (λ (p : Processor BusState). map (aim_of p.memory) c.args.conditions.now) c.processor.ensures)

pub number_of-number-requires : goal.number_of-number-requires
number_of-number-requires c =
    subst (λ (p : Processor BusState). HasRom c.args.rom p.memory) (sym c.processor-2.ensures)
    (rom_of_run c.args.rom _ c.args.self c.run_to-run.result.run c.requires.rom c.run_to-run.ensures.run)

pub returns-clause-run : goal.returns-clause-run
returns-clause-run c = c.run_to-run.ensures.run ∙ ap (λ n. after_steps_of n c.args.self) (steps c)

pub returns-clause-there : goal.returns-clause-there
returns-clause-there c = c.run_to-run.ensures.there ∙ ap (λ n. nat_lt n c.args.limit) (steps c)

pub returns-clause-number : goal.returns-clause-number
returns-clause-number c =
    let began = (processor_of c.args.self).memory in
    c.number_of-number.ensures
    ∙ ap (number_of (is_aim c.processor-2.result.now))
    (c.as_slice-2.ensures.value ∙ c.aims_of-aims.ensures ∙ ap (λ (p : Processor BusState). map (aim_of p.memory) c.args.conditions.now) c.processor.ensures)
    ∙ number_is began c.args.conditions.now c.processor-2.result.now
    ∙ ap (λ (p : Processor BusState). number_of (holds began p) c.args.conditions.now) c.processor-2.ensures

use Rattle.std.proofs.Common.{◌∙◌, ◌<◌, ℕ, ap, length, subst, sym}
use Rattle.std.specs.Prelude.{IfSome}
use Rattle.memory_map.specs.State.{BusState}
use Rattle.sm83_processor.specs.declared.processor.Processor.{Processor}
use Rattle.debugging.specs.Run.{processor_of}
use Rattle.debugging.proofs.profiling.step_counted.Goals as goal

pub count-requires-clause-inside : goal.count-requires-clause-inside
count-requires-clause-inside c =
    let same = ap (λ (p : Processor BusState). length p.memory.banks.rom) (c.processor-2.ensures ∙ ap processor_of c.draw_late-run.ensures) in
    c.begins_at.ensures.same (length c.args.counts.now.rom)
    (subst (λ (n : ℕ). IfSome c.rom_offset-at.result (λ at. at < n)) (same ∙ sym c.requires.rom.size ∙ sym c.requires.size) c.rom_offset-at.ensures.inside)

use Rattle.std.proofs.Common.{◌∙◌, ℕ, List, ap, slice_index}
use Rattle.opcode_table.specs.declared.decoding.Decoded.{Decoded}
use Rattle.opcode_table.specs.Timing.{decoded_of}
use Rattle.memory_map.specs.BusRules.{bus_rules}
use Rattle.sm83_processor.proofs.FastSteps.{fast_fetched}
use Rattle.debugging.proofs.passing.next_instruction.Goals as goal

pub returns : goal.returns
returns c =
    let p = c.args.processor.now in
    ap (λ (d : Decoded). d.instr)
    (c.decode.ensures.table
    ∙ ap (λ (bytes : List ℕ). decoded_of (slice_index bytes 0) (slice_index bytes 1) (slice_index bytes 2)) (c.read_three.ensures ∙ fast_fetched bus_rules p c.requires))

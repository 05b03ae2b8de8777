use Rattle.std.proofs.Common.{◌∙◌, ℕ, List, ap, slice_index}
use Rattle.opcode_table.specs.declared.decoding.Decoded.{Decoded}
use Rattle.opcode_table.specs.Timing.{decoded_of}
use Rattle.sm83_processor.specs.StillSteps.{read_by}
use Rattle.sm83_processor.proofs.StillSteps.{still_if_told}
use Rattle.sm83_processor.proofs.processor.Processor.still_by.Goals as goal

pub returns : goal.returns
returns g c =
    still_if_told g.M.Memory.rules c.args.self.now c.read_by.result
    (c.read_by.ensures
    ∙ ap (λ (d : Decoded). read_by d.instr c.args.self.now.registers)
    (c.decode.ensures.table ∙ ap (λ (bytes : List ℕ). decoded_of (slice_index bytes 0) (slice_index bytes 1) (slice_index bytes 2)) c.fetch.ensures))

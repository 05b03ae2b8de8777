use Rattle.std.proofs.Common.{ap, ◌∙◌}
use Rattle.opcode_table.specs.declared.decoding.Decoded.{Decoded}
use Rattle.opcode_table.proofs.UndefinedOpcodes.{undefined_exactly}
use Rattle.opcode_table.proofs.decoding.decode.Goals as goal

pub returns-clause-undefined : goal.returns-clause-undefined
returns-clause-undefined c =
    undefined_exactly _ _ _ _ c.element_fits.fits (ap (λ (d : Decoded). d.instr) c.of.ensures ∙ c.instruction.ensures)

use Rattle.std.proofs.Common.{◌∙◌, List, ap, sym, slice_index}
use Rattle.opcode_table.specs.Timing.{decoded_of}
use Rattle.opcode_table.specs.declared.decoding.Decoded.{Decoded}
use Rattle.machine.proofs.polling_loop.instruction_at.Goals as goal

pub returns : goal.returns
returns c =
    let sure = c.if-not-has_lasting_bytes.false in
    let bytes = c.has_lasting_bytes.ensures in
    record {
      is = sym (ap (λ (d : Decoded). d.instr) c.decode.ensures.table ∙ ap (λ (l : List _). (decoded_of (slice_index l 0) (slice_index l 1) (slice_index l 2)).instr) c.read_three.ensures);
      first = bytes.first sure;
      second = bytes.second sure;
      third = bytes.third sure;
    }

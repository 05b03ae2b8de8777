use Rattle.commands.specs.Show.{inputs_line, logged_line, generation_line, sectors_line}
use Rattle.commands.proofs.Lines.{four_texts}
use Rattle.commands.proofs.show.numbers_text.Goals as goal

pub returns : goal.returns
returns c =
    rw (
      c.push_str-4.ensures.bytes,
      c.as_str-4.ensures.value,
      c.number_line-4.ensures,
      c.push_str-3.ensures.bytes,
      c.as_str-3.ensures.value,
      c.number_line-3.ensures,
      c.push_str-2.ensures.bytes,
      c.as_str-2.ensures.value,
      c.number_line-2.ensures,
      c.push_str.ensures.bytes,
      c.as_str.ensures.value,
      c.number_line.ensures,
      c.new-text.ensures,
    ) (four_texts (inputs_line c.args.inputs) (logged_line c.args.logged) (generation_line c.args.generation) (sectors_line c.args.sectors))

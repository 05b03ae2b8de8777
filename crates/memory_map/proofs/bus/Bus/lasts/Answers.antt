use Rattle.std.proofs.Common.{◌∙◌, ap, sym}
use Rattle.memory_map.specs.Lasting.{lasts}
use Rattle.memory_map.proofs.LastingBytes.{is_lasting}
use Rattle.memory_map.proofs.bus.Bus.lasts.Goals as goal

pub returns : goal.returns
returns c = λ yes. is_lasting c.args.address (sym (c.lasts.ensures ∙ ap lasts c.of.ensures) ∙ yes)

use Rattle.std.proofs.Common.{◌≡◌, ◌++◌, ◌∙◌, sym, arith}
use Rattle.std.specs.Prelude.{codes, decimal}
use Rattle.std.proofs.lemmas.Grind.{common_steps}
use Rattle.exact_text.specs.Hex.{byte_text}
use Rattle.replaying.proofs.Written.{frames_line_is}
use Rattle.replaying.proofs.lines.frames_text.Goals as goal

pub returns : goal.returns
returns c =
    let text : c.push-2.new.self.bytes ≡ codes "frames " ++ (byte_text c.args.buttons ++ (codes " " ++ (decimal c.args.times ++ codes "\n"))) =
    grind (arith, common_steps) in
    text ∙ sym (frames_line_is c.args.buttons c.args.times c.requires)

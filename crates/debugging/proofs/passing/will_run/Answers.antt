use Rattle.std.proofs.Common.{◌∙◌, ℕ, ap, sym}
use Rattle.std.specs.Prelude.{◌==◌}
use Rattle.debugging.proofs.PassedSteps.{runs_opcode}
use Rattle.debugging.proofs.passing.will_run.Goals as goal

pub returns : goal.returns
returns c = ap (λ (n : ℕ). n == c.args.opcode) c.read.ensures ∙ sym (runs_opcode c.args.opcode c.args.processor.now c.requires)

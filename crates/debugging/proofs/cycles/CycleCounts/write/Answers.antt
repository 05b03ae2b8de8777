use Rattle.std.proofs.Common.{List, ℕ, subst}
use Rattle.std.specs.Prelude.{codes}
use Rattle.exact_text.specs.Written.{AppendsProperPrefix}
use Rattle.exact_text.proofs.Writes.{prefix_of_longer, whole_then_prefix}
use Rattle.machine_lines.proofs.Calls.{on_err}
use Rattle.machine_lines.specs.Texts.{count_line}
use Rattle.debugging.specs.Profile.{Cycles, cycles_text, rom_text}
use Rattle.debugging.proofs.cycles.CycleCounts.write.Goals as goal

pub returns-clause-err : goal.returns-clause-err
returns-clause-err g c =
    on_err c.write_rom.result (λ failed.
    subst (λ (counts : Cycles). AppendsProperPrefix (g.W.Output.contents c.args.out.now) (g.W.Output.contents c.write_rom.new.out) (cycles_text counts)) c.self.view_is
    (whole_then_prefix (g.W.Output.contents c.args.out.now) (g.W.Output.contents c.write_count.new.out) (g.W.Output.contents c.write_rom.new.out)
    (count_line (codes "elsewhere") c.self.inside.elsewhere) (rom_text c.self.inside.rom.items) c.in_default.ensures.ok
    (subst (λ (rom : List ℕ). AppendsProperPrefix (g.W.Output.contents c.write_count.new.out) (g.W.Output.contents c.write_rom.new.out) (rom_text rom)) c.deref.ensures.value failed)))
    c.write_rom.ensures.err

pub returns-in-Err-clause-err : goal.returns-in-Err-clause-err
returns-in-Err-clause-err g c =
    subst (λ (counts : Cycles). AppendsProperPrefix (g.W.Output.contents c.args.out.now) (g.W.Output.contents c.write_count.new.out) (cycles_text counts)) c.self.view_is
    (prefix_of_longer _ _ (count_line (codes "elsewhere") c.self.inside.elsewhere) (rom_text c.self.inside.rom.items) c.in-Err.ensures.err)

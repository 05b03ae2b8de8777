use Rattle.exact_text.proofs.Writes.{whole_then_prefix}
use Rattle.machine_lines.proofs.Calls.{on_err}
use Rattle.debugging.specs.Answers.{place_text}
use Rattle.debugging.specs.Profile.{cycles_text}
use Rattle.debugging.proofs.switching.write_profile.Goals as goal

pub returns-clause-err : goal.returns-clause-err
returns-clause-err g c =
    on_err c.write.result
    (whole_then_prefix (g.W.Output.contents c.args.out.now) (g.W.Output.contents c.write_place.new.out) (g.W.Output.contents c.write.new.out)
    (place_text c.args.is_there c.args.processor.now) (cycles_text c.args.counts.now) c.in_default.ensures.ok)
    c.write.ensures.err

use Rattle.std.proofs.Common.{◌≡◌, ◌+◌, ◌≤◌, ◌++◌, ◌∙◌, ⊎_elim, refl, sym, ap, subst, arith, ℕ, List, Err, Option}
use Rattle.std.proofs.lemmas.Bool.{false_from_ne_true}
use Rattle.std.specs.Io.KnownBytes.{Appends}
use Rattle.exact_text.specs.Written.{AppendsProperPrefix}
use Rattle.machine.specs.Machine.{Input}
use Rattle.sector_device.proofs.Looking.{looked_self, looked_then}
use Rattle.recording.specs.Accessors.{device_of, is_broken}
use Rattle.session.proofs.Answering.{answered_nothing, answered_both}
use Rattle.replaying.specs.Lines.{HasWritten, HasStopped}
use Rattle.replaying.specs.Script.{lines_after}
use Rattle.replaying.specs.Writing.{AppendsPrefix, WritesPart, script_in}
use Rattle.replaying.proofs.Looking.{looks_only}
use Rattle.replaying.proofs.Sectors.{inputs_up_to, inputs_at, one_more, more_sectors, all_up_to}
use Rattle.replaying.proofs.Written.{written_nothing, written_then, written_stopped, script_ends, script_stops, script_stops_last, script_prefix}
use Rattle.replaying.proofs.writing.write_recorded.Goals as goal

pub loop-index-init : goal.loop-index-init
loop-index-init g c = record {
  whole = sym c.is_broken.ensures ∙ c.if-is_broken.false;
  same = (refl, refl, refl);
  answered = answered_nothing;
  looked = λ honest. looked_self (g.D.SectorDevice.disk (device_of c.args.recording.now)) honest;
  written = λ honest. written_nothing c.none-run.result (g.W.Output.contents c.args.out.now);
}

pub loop-index-preserved : goal.loop-index-preserved
loop-index-preserved g c =
    let i = c.loop-index.index in
    let image = (g.D.SectorDevice.disk (device_of c.args.recording.now)).sectors in
    let first = g.W.Output.contents c.args.out.now in
    let mid = g.W.Output.contents c.loop-index.out in
    let last = g.W.Output.contents c.write_sector.new.out in
    let before = c.loop-index.invariant in
    record {
      whole = false_from_ne_true (is_broken c.write_sector.new.recording) (λ broken. let wrong = c.in_default.ensures.broken.0 broken in cc);
      same = (c.write_sector.ensures.same.0 ∙ before.same.0, c.write_sector.ensures.same.1 ∙ before.same.1, c.write_sector.ensures.same.2 ∙ before.same.2);
      answered = answered_both before.answered c.in_default.ensures.answered;
      looked = λ honest. looked_then (before.looked honest) (looks_only (c.write_sector.ensures.looked (before.answered.honest.1 honest)));
      written = λ honest.
          let step = c.in_default.ensures.written (before.answered.honest.1 honest) in
          let here = subst (λ (s : List (List ℕ)). HasWritten c.loop-index.run c.write_sector.new.run (inputs_at (i + 1) s) mid last) (before.looked honest).sectors step in
          subst (λ (l : List Input). HasWritten c.none-run.result c.write_sector.new.run l first last) (sym (one_more i image))
          (written_then c.none-run.result c.loop-index.run c.write_sector.new.run (inputs_up_to i image) (inputs_at (i + 1) image) first mid last (before.written honest) here);
    }

-- all inputs are those of the sectors that are used
pub returns-in-Ok-clause-script : goal.returns-in-Ok-clause-script
returns-in-Ok-clause-script g c = λ honest.
    let image = (g.D.SectorDevice.disk (device_of c.args.recording.now)).sectors in
    let first = g.W.Output.contents c.args.out.now in
    let last = g.W.Output.contents c.write_run.new.out in
    let ended : c.loop-index.index ≡ c.sectors_used-used.result = omega arith in
    let all = all_up_to c.sectors_used-used.result image (c.sectors_used-used.ensures.whole honest) in
    subst (λ (l : List Input). Appends first last (lines_after 0 0 l)) (ap (λ n. inputs_up_to n image) ended ∙ sym all)
    (script_ends c.none-run.result c.loop-index.run (inputs_up_to c.loop-index.index image) first (g.W.Output.contents c.loop-index.out) last c.none-run.ensures.buttons c.none-run.ensures.times
    (c.loop-index.invariant.written honest) c.in-Ok.ensures.ok)

pub returns-in-Err-write_run-clause-part : goal.returns-in-Err-write_run-clause-part
returns-in-Err-write_run-clause-part g c = λ honest.
    let image = (g.D.SectorDevice.disk (device_of c.args.recording.now)).sectors in
    let first = g.W.Output.contents c.args.out.now in
    let last = g.W.Output.contents c.write_run.new.out in
    let ended : c.loop-index.index ≡ c.sectors_used-used.result = omega arith in
    let all = all_up_to c.sectors_used-used.result image (c.sectors_used-used.ensures.whole honest) in
    subst (λ (l : List Input). AppendsProperPrefix first last (lines_after 0 0 l)) (ap (λ n. inputs_up_to n image) ended ∙ sym all)
    (script_stops_last c.none-run.result c.loop-index.run (inputs_up_to c.loop-index.index image) first (g.W.Output.contents c.loop-index.out) last c.none-run.ensures.buttons c.none-run.ensures.times
    (c.loop-index.invariant.written honest) c.in-Err-write_run.ensures.err)

pub returns-in-Err-clause-part : goal.returns-in-Err-clause-part
returns-in-Err-clause-part g c = λ honest.
    let i = c.loop-index.index in
    let used = c.sectors_used-used.result in
    let image = (g.D.SectorDevice.disk (device_of c.args.recording.now)).sectors in
    let first = g.W.Output.contents c.args.out.now in
    let mid = g.W.Output.contents c.loop-index.out in
    let last = g.W.Output.contents c.write_sector.new.out in
    let before = c.loop-index.invariant in
    let none = c.none-run.result in
    let all = all_up_to used image (c.sectors_used-used.ensures.whole honest) in
    ⊎_elim
    (λ device.
    let within : i ≤ used = omega arith in
    let longer = more_sectors used i image within in
    let same = c.in-Err.ensures.device (ap Err device) in
    let part = script_prefix none c.loop-index.run (inputs_up_to i image) longer.more first mid c.none-run.ensures.buttons c.none-run.ensures.times (before.written honest) in
    subst (λ why. WritesPart why first last (script_in image)) (sym device)
    (subst (λ (l : List Input). AppendsPrefix first last (lines_after 0 0 l)) (sym longer.is ∙ sym all)
    (subst (λ (o : Option (List ℕ)). AppendsPrefix first o (lines_after 0 0 (inputs_up_to i image ++ longer.more))) (sym same) part)))
    (λ output.
    let within : i + 1 ≤ used = omega arith in
    let longer = more_sectors used (i + 1) image within in
    let step = c.in-Err.ensures.output (ap Err output) (before.answered.honest.1 honest) in
    let here = subst (λ (s : List (List ℕ)). HasStopped c.loop-index.run (inputs_at (i + 1) s) mid last) (before.looked honest).sectors step in
    let stopped = written_stopped none c.loop-index.run (inputs_up_to i image) (inputs_at (i + 1) image) first mid last (before.written honest) here in
    let until = subst (λ (l : List Input). HasStopped none l first last) (sym (one_more i image)) stopped in
    subst (λ why. WritesPart why first last (script_in image)) (sym output)
    (subst (λ (l : List Input). AppendsProperPrefix first last (lines_after 0 0 l)) (sym longer.is ∙ sym all)
    (script_stops none (inputs_up_to (i + 1) image) longer.more first last c.none-run.ensures.buttons c.none-run.ensures.times until)))
    c.in-Err.ensures.cause

pub returns-in-Err-clause-output : goal.returns-in-Err-clause-output
returns-in-Err-clause-output g c = λ output. c.in-Err.ensures.failed (ap Err output)

use Rattle.std.proofs.Common.{◌<◌, ◌≤◌, ◌∙◌, [], ◌++◌, Bool, refl, sym, ap, arith, inl, inr}
use Rattle.std.proofs.lemmas.Bool.{cases_lt}
use Rattle.exact_text.proofs.Writes.{appends_nothing, appends_twice}
use Rattle.machine.specs.Watched.{broken_off, byte_list, ended, seen_from, seen_in, sent_before}
use Rattle.machine.proofs.Watching.{none_seen}
use Rattle.test_run.specs.Ends.{end_of}
use Rattle.test_run.specs.Told.{ToldState, told_all}
use Rattle.test_run.proofs.Frames.{has_played, sent_in_part, sent_more}
use Rattle.test_run.proofs.Telling.{told_all-append}
use Rattle.test_run.proofs.frame.play_frame.Goals as goal

pub playing-init : goal.playing-init
playing-init g c = record { bytes = []; run = ap seen_in (sym c.begin_frame-frame.ensures); told = refl; written = appends_nothing _ }

pub returns-in-Err-clause-err : goal.returns-in-Err-clause-err
returns-in-Err-clause-err g c =
    let known = c.playing.invariant in
    sent_in_part _ _ _ known.bytes _ _ _ _ known.run c.run_on-after.ensures.seen known.written c.in-Err.ensures.err

pub returns-then-breaks-clause-ok : goal.returns-then-breaks-clause-ok
returns-then-breaks-clause-ok g c =
    let known = c.playing.invariant in
    let ran = c.run_on-after in
    let more = byte_list ran.result.sent in
    has_played _ (broken_off ran.result.frame) (known.bytes ++ more) _ _ _ _ _
    (sent_more _ _ _ known.bytes more known.run (ran.ensures.seen ∙ ap (λ (b : Bool). sent_before more (seen_from b ran.result.frame)) c.if-breaks.true))
    refl refl refl (λ none. cc)
    (c.in_default.ensures.told ∙ ap (λ (t : ToldState). told_all t more) known.told ∙ sym (told_all-append c.args.told.now known.bytes more))
    (appends_twice _ _ _ known.bytes more known.written c.in_default.ensures.ok)

pub playing-preserved : goal.playing-preserved
playing-preserved g c =
    let known = c.playing.invariant in
    let ran = c.run_on-after in
    let more = byte_list ran.result.sent in record {
      bytes = known.bytes ++ more;
      run = sent_more _ _ _ known.bytes more known.run (ran.ensures.seen ∙ ap (λ (b : Bool). sent_before more (seen_from b ran.result.frame)) c.if-breaks.false);
      told = c.in_default.ensures.told ∙ ap (λ (t : ToldState). told_all t more) known.told ∙ sym (told_all-append c.args.told.now known.bytes more);
      written = appends_twice _ _ _ known.bytes more known.written c.in_default.ensures.ok;
    }

pub playing-smaller : goal.playing-smaller
playing-smaller g c =
    let passed = c.playing.frame.passed in
    let below : passed < 17556 = elim (cases_lt passed 17556) [
      | inl below ↦ below
      | inr above ↦ let over = c.is_over.ensures.1 above in let not = c.playing-test.true in absurd cc
    ] in
    let on = c.run_on-after.ensures.on below in
    omega arith

pub returns-clause-ok : goal.returns-clause-ok
returns-clause-ok g c =
    let known = c.playing.invariant in
    let frame = c.playing.frame in
    let above : 17556 ≤ frame.passed = c.is_over.ensures.0 c.playing-test.false in
    has_played _ (ended frame) known.bytes _ _ _ _ _ (known.run ∙ ap (sent_before known.bytes) (none_seen frame above))
    refl refl (c.end_of-end.ensures ∙ ap end_of c.processor.ensures) (λ _. above) known.told known.written

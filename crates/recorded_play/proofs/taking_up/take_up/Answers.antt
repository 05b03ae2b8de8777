use Rattle.std.proofs.Common.{◌≡◌, ◌∙◌, ℕ, List, drop, Some, refl, sym, ap, subst, arith}
use Rattle.log_format.specs.Content.{generation_in}
use Rattle.input_entries.specs.Inputs.{inputs}
use Rattle.recording.specs.Recorded.{recorded, entries}
use Rattle.recording.specs.Accessors.{device_of as device_of_recording}
use Rattle.session.specs.Accessors.{device_of}
use Rattle.session.specs.LookAccessors.{device_of_look, machine_of_look, count_of_look}
use Rattle.session.proofs.Answering.{answered_error, answered_refusal, answered_then, answered_otherwise}
use Rattle.playing.proofs.Stops.{if_ok, if_err}
use Rattle.replaying.specs.Agreeing.{AllAgree}
use Rattle.recorded_play.specs.CatchingUp.{recorded_in}
use Rattle.recorded_play.specs.Whole.{save_left, recording_left}
use Rattle.recorded_play.proofs.Passing.{by_result}
use Rattle.recorded_play.proofs.TakenUp.{AreLookedAt, is_behind, taken_up, not_taken_up, agree_on, look_refused, refused_looking, look_lacks, open_lacks, agree_looking, looked_same}
use Rattle.recorded_play.proofs.taking_up.take_up.Given.{Over}
use Rattle.recorded_play.proofs.taking_up.take_up.Goals as goal
use Rattle.recorded_play.proofs.taking_up.take_up.Goals.{After-input_count-count}

pub returns-in-Err-clause-refused : goal.returns-in-Err-clause-refused
returns-in-Err-clause-refused g c = refused_looking (look_refused c.args.cartridge.now (g.D.SectorDevice.disk c.args.save) _ _ c.in-Err.refused.why c.in-Err.ensures.cause) c.in-Err.ensures.no_report c.in-Err.ensures.looked (looked_same (g.met.E.SectorDevice.only_now c.args.recording)) (look_lacks g.D.SectorDevice.disk (g.E.SectorDevice.disk c.args.recording) c.in-Err.refused.why c.in-Err.ensures.memory)

pub returns-in-Err-clause-agree : goal.returns-in-Err-clause-agree
returns-in-Err-clause-agree g c = agree_looking c.args.cartridge.now c.in-Err.ensures.looked (looked_same {now = g.E.SectorDevice.disk c.args.recording} (g.met.E.SectorDevice.only_now c.args.recording))

pub returns-in-Err-clause-save_answered : goal.returns-in-Err-clause-save_answered
returns-in-Err-clause-save_answered g c = answered_error c.in-Err.ensures.answered (λ n. refl)

pub returns-in-Err-clause-recording_answered : goal.returns-in-Err-clause-recording_answered
returns-in-Err-clause-recording_answered g c = answered_refusal (λ n. refl)

pub returns-in-Err-open_recording-clause-refused : goal.returns-in-Err-open_recording-clause-refused
returns-in-Err-open_recording-clause-refused g c =
    rw c.into_device.ensures.device
    (refused_looking (λ honest other_honest. rw c.digest.ensures at c.in-Err-open_recording.ensures.cause) tt c.in-Ok.ensures.looked c.in-Err-open_recording.ensures.looked
    (open_lacks g.E.SectorDevice.disk c.args.cartridge.now (g.D.SectorDevice.disk c.args.save) _ c.in-Err-open_recording.refused.why c.in-Err-open_recording.ensures.memory c.in-Ok.ensures.stands))

pub returns-in-Err-open_recording-clause-agree : goal.returns-in-Err-open_recording-clause-agree
returns-in-Err-open_recording-clause-agree g c = rw c.into_device.ensures.device (agree_looking c.args.cartridge.now c.in-Ok.ensures.looked c.in-Err-open_recording.ensures.looked)

pub returns-in-Err-open_recording-clause-save_answered : goal.returns-in-Err-open_recording-clause-save_answered
returns-in-Err-open_recording-clause-save_answered g c = rw c.into_device.ensures.device (answered_otherwise c.in-Ok.ensures.answered (λ n. refl))

pub returns-in-Err-open_recording-clause-recording_answered : goal.returns-in-Err-open_recording-clause-recording_answered
returns-in-Err-open_recording-clause-recording_answered g c = answered_error c.in-Err-open_recording.ensures.answered (λ n. refl)

-- what both looks found
both_looked : (g : Over) (c : After-input_count-count g) → AreLookedAt c.args.cartridge.now (g.D.SectorDevice.disk c.args.save) (g.D.SectorDevice.disk (device_of_look c.in-Ok.look))
    (g.E.SectorDevice.disk c.args.recording) (g.E.SectorDevice.disk (device_of_recording c.in-Ok-open_recording.recording))
    (record { count = count_of_look c.in-Ok.look; machine = machine_of_look c.in-Ok.look }) c.input_count-count.result
both_looked g c =
    let old = (g.E.SectorDevice.disk c.args.recording).sectors in
    let opened = c.in-Ok-open_recording.ensures.opened in
    record {
      look = c.in-Ok.ensures.looked;
      stood = c.in-Ok.ensures.stands;
      opens = c.in-Ok-open_recording.ensures.looked;
      settled = opened.settled;
      held = λ honest. subst (λ (id : List ℕ). recorded id old ≡ Some (inputs (entries old))) c.digest.ensures (opened.recorded_is honest);
      counted = λ honest. c.input_count-count.ensures ∙ opened.count_is honest;
    }

pub returns-then-count-clause-refused : goal.returns-then-count-clause-refused
returns-then-count-clause-refused g c =
    let both = both_looked g (goal.at.returns-then-count-clause-refused g c).After-input_count-count in
    rw (c.into_device-then-count.ensures.device, c.into_device-then-count-2.ensures) (refused_looking (is_behind both (omega (arith, c.count.ensures, c.if-count.true))) tt both.look both.opens tt)

pub returns-then-count-clause-agree : goal.returns-then-count-clause-agree
returns-then-count-clause-agree g c =
    rw (c.into_device-then-count.ensures.device, c.into_device-then-count-2.ensures) (agree_looking c.args.cartridge.now c.in-Ok.ensures.looked c.in-Ok-open_recording.ensures.looked)

pub returns-then-count-clause-save_answered : goal.returns-then-count-clause-save_answered
returns-then-count-clause-save_answered g c = rw c.into_device-then-count.ensures.device (answered_otherwise c.in-Ok.ensures.answered (λ n. refl))

pub returns-then-count-clause-recording_answered : goal.returns-then-count-clause-recording_answered
returns-then-count-clause-recording_answered g c = rw c.into_device-then-count-2.ensures (answered_otherwise c.in-Ok-open_recording.ensures.answered (λ n. refl))

pub resume_and_catch_up-requires-clause-rom : goal.resume_and_catch_up-requires-clause-rom
resume_and_catch_up-requires-clause-rom g c = c.in-Ok.ensures.of.rom

pub resume_and_catch_up-requires-clause-generation : goal.resume_and_catch_up-requires-clause-generation
resume_and_catch_up-requires-clause-generation g c =
    λ honest. let was = c.in-Ok.ensures.answered.honest.0 honest in (c.in-Ok.ensures.log was).1 ∙ sym (ap generation_in (c.in-Ok.ensures.looked was).sectors)

pub returns-clause-taken_up : goal.returns-clause-taken_up
returns-clause-taken_up g c =
    let both = both_looked g (goal.at.returns-clause-taken_up g c).After-input_count-count in
    if_ok c.resume_and_catch_up.result c.resume_and_catch_up.ensures.goes (λ game goes. taken_up both (omega (arith, c.count.ensures, c.if-count.false)) c.in-Ok.ensures.of (g.met.E.SectorDevice.only_now c.args.recording) goes)

pub returns-clause-refused : goal.returns-clause-refused
returns-clause-refused g c =
    let both = both_looked g (goal.at.returns-clause-refused g c).After-input_count-count in
    if_err c.resume_and_catch_up.result c.resume_and_catch_up.ensures.stops (λ refused stops. not_taken_up both (omega (arith, c.count.ensures, c.if-count.false)) (g.met.E.SectorDevice.only_now c.args.recording) stops)

pub returns-clause-agree : goal.returns-clause-agree
returns-clause-agree g c = λ honest other_honest agree.
    let both = both_looked g (goal.at.returns-clause-agree g c).After-input_count-count in
    let save_here = g.met.D.SectorDevice.reads_are_an_image c.args.save honest in
    let recording_here = g.met.E.SectorDevice.reads_are_an_image c.args.recording other_honest in
    by_result c.resume_and_catch_up.result (λ r. AllAgree c.args.cartridge.now (g.D.SectorDevice.disk (save_left r)) (g.E.SectorDevice.disk (recording_left r))) c.resume_and_catch_up.ensures.goes c.resume_and_catch_up.ensures.stops
    (λ game goes. agree_on both (omega (arith, c.count.ensures, c.if-count.false)) goes.more save_here recording_here (g.met.D.SectorDevice.counts_now (device_of game.session)) honest other_honest agree
    (goes.more_is (both.opens other_honest).honest) (goes.images (both.look honest).honest) goes.looks)
    (λ refused stops. agree_on both (omega (arith, c.count.ensures, c.if-count.false)) (drop (count_of_look c.in-Ok.look) (recorded_in (g.E.SectorDevice.disk (device_of_recording c.in-Ok-open_recording.recording)))) save_here recording_here (g.met.D.SectorDevice.counts_now refused.save) honest other_honest agree
    refl (stops.images (both.look honest).honest (both.opens other_honest).honest) stops.looks)

pub returns-clause-save_answered : goal.returns-clause-save_answered
returns-clause-save_answered g c = answered_then c.resume_and_catch_up.result c.in-Ok.ensures.answered c.resume_and_catch_up.ensures.save_answered

pub returns-clause-recording_answered : goal.returns-clause-recording_answered
returns-clause-recording_answered g c = answered_then c.resume_and_catch_up.result c.in-Ok-open_recording.ensures.answered c.resume_and_catch_up.ensures.recording_answered

use Rattle.std.proofs.Common.{⊎_elim, ◌∙◌, ◌+◌, length, drop, refl, sym, ap, subst}
use Rattle.log_format.specs.Content.{generation_in}
use Rattle.recording.specs.Accessors.{device_of as device_of_recording}
use Rattle.session.specs.Stands.{Position}
use Rattle.session.specs.Accessors.{device_of, machine_of, acknowledged_of}
use Rattle.session.specs.LookAccessors.{device_of_look, count_of_look, generation_of_look}
use Rattle.session.proofs.Answering.{answered_both, answered_error, answered_refusal, answered_refused, answered_value}
use Rattle.playing.specs.Going.{place}
use Rattle.recorded_play.specs.CatchingUp.{recorded_in}
use Rattle.recorded_play.specs.GoingOn.{LookAdvances, LookStops}
use Rattle.recorded_play.proofs.GoingOn.{IsResumed, goes_on, stops_catching_up, stops_resuming, resume_stop}
use Rattle.recorded_play.proofs.taking_up.resume_and_catch_up.Given.{Over}
use Rattle.recorded_play.proofs.taking_up.resume_and_catch_up.Goals as goal
use Rattle.recorded_play.proofs.taking_up.resume_and_catch_up.Goals.{In-Ok}

pub returns-in-Err-clause-stops : goal.returns-in-Err-clause-stops
returns-in-Err-clause-stops g c =
    let look = c.args.look in
    let refused = c.in-Err.refused in
    let disk = g.D.SectorDevice.disk in
    rw c.into_device.ensures
    (stops_resuming
    (λ honest.
    resume_stop refused.why (generation_of_look look) (count_of_look look + length (drop (count_of_look look) (recorded_in (g.E.SectorDevice.disk (device_of_recording c.args.recording))))) (disk refused.device)
    (λ most worn now_honest.
    ⊎_elim (λ device. absurd (cc)) (λ same. ap (λ d. generation_in (disk d).sectors) same ∙ sym (c.requires.generation honest) ∙ most) c.in-Err.ensures.untouched)
    (c.in-Err.ensures.cause honest))
    c.in-Err.ensures.no_report
    c.in-Err.ensures.images)

pub returns-in-Err-clause-save_answered : goal.returns-in-Err-clause-save_answered
returns-in-Err-clause-save_answered g c = answered_error c.in-Err.ensures.answered (λ n. refl)

pub returns-in-Err-clause-recording_answered : goal.returns-in-Err-clause-recording_answered
returns-in-Err-clause-recording_answered g c = rw c.into_device.ensures (answered_refusal (λ n. refl))

resumed : (g : Over) (c : In-Ok g) → IsResumed c.args.cartridge.now (g.D.SectorDevice.disk (device_of_look c.args.look)) (place c.in-Ok.session)
resumed g c =
    let taken = c.in-Ok.ensures in
    record { none = taken.begun.0; rom_is = taken.begun.2; honest = taken.answered.honest.1; rests = taken.rests; images = taken.images }

pub returns-in-Ok-catch_up-clause-goes : goal.returns-in-Ok-catch_up-clause-goes
returns-in-Ok-catch_up-clause-goes g c =
    let now = c.catch_up.new.session in
    let other = g.E.SectorDevice.disk in
    let same = c.in-Ok.ensures.same in
    subst (λ (p : Position). LookAdvances c.args.cartridge.now (g.D.SectorDevice.disk (device_of_look c.args.look)) (g.D.SectorDevice.disk (device_of now)) (other (device_of_recording c.args.recording)) (other (device_of_recording c.catch_up.new.recording)) p (acknowledged_of now) (machine_of now))
    (λ i. record { count = same.0 i; machine = same.1 i })
    (goes_on (resumed g (goal.at.returns-in-Ok-catch_up-clause-goes g c).In-Ok) c.in-Ok-catch_up.ensures.whole.2 c.in-Ok-catch_up.ensures.caught_up)

pub returns-in-Ok-catch_up-clause-whole : goal.returns-in-Ok-catch_up-clause-whole
returns-in-Ok-catch_up-clause-whole g c =
    let caught = c.in-Ok-catch_up.ensures in
    (caught.whole.2, caught.whole.0, caught.whole.1, caught.caught_up.goes.rom ∙ c.in-Ok.ensures.begun.2)

pub returns-in-Ok-catch_up-clause-save_answered : goal.returns-in-Ok-catch_up-clause-save_answered
returns-in-Ok-catch_up-clause-save_answered g c = answered_both c.in-Ok.ensures.answered c.in-Ok-catch_up.ensures.caught_up.goes.calls

pub returns-in-Ok-catch_up-clause-recording_answered : goal.returns-in-Ok-catch_up-clause-recording_answered
returns-in-Ok-catch_up-clause-recording_answered g c = answered_value c.in-Ok-catch_up.ensures.caught_up.calls

pub returns-in-Err-catch_up-clause-stops : goal.returns-in-Err-catch_up-clause-stops
returns-in-Err-catch_up-clause-stops g c =
    let other = g.E.SectorDevice.disk in
    let same = c.in-Ok.ensures.same in
    rw (c.into_device-in-Err-catch_up.ensures.device, c.into_device-in-Err-catch_up-2.ensures)
    (subst (λ (p : Position). LookStops c.args.cartridge.now (g.D.SectorDevice.disk (device_of_look c.args.look)) (g.D.SectorDevice.disk (device_of c.catch_up.new.session)) (other (device_of_recording c.args.recording)) (other (device_of_recording c.catch_up.new.recording)) p c.in-Err-catch_up.why)
    (λ i. record { count = same.0 i; machine = same.1 i })
    (stops_catching_up (resumed g (goal.at.returns-in-Err-catch_up-clause-stops g c).In-Ok) c.in-Err-catch_up.ensures.fails))

pub returns-in-Err-catch_up-clause-save_answered : goal.returns-in-Err-catch_up-clause-save_answered
returns-in-Err-catch_up-clause-save_answered g c =
    rw c.into_device-in-Err-catch_up.ensures.device (answered_refused c.in-Ok.ensures.answered c.in-Err-catch_up.ensures.fails.save_calls (λ n. refl))

pub returns-in-Err-catch_up-clause-recording_answered : goal.returns-in-Err-catch_up-clause-recording_answered
returns-in-Err-catch_up-clause-recording_answered g c =
    rw c.into_device-in-Err-catch_up-2.ensures (answered_error c.in-Err-catch_up.ensures.fails.recording_calls (λ n. refl))

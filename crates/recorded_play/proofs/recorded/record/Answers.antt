use Rattle.std.proofs.Common.{◌∙◌, length, inl, inr, refl, ap, subst}
use Rattle.recording.specs.Accessors.{device_of as device_of_recording}
use Rattle.session.specs.Accessors.{pending_of, rom_of}
use Rattle.session.specs.Inputs.{can_be_logged}
use Rattle.session.proofs.Answering.{answered_both, answered_otherwise, answered_refused}
use Rattle.playing.proofs.Going.{none_left}
use Rattle.playing.proofs.Telling.{keeps_same}
use Rattle.streaming.specs.Answers.{inputs_of_deeds}
use Rattle.recorded_play.specs.Steps.{BothAdvance, game, IsOfDevices, save_faults_after, recording_faults_after, told_as}
use Rattle.recorded_play.proofs.Stepping.{comes_all, halts_all}
use Rattle.recorded_play.proofs.WholePlays.{IsUp, none_damaged, none_of_another, none_lacked, recorded_to, rests_at, stopped_record, as_refusal, ended_agree, stopped_agree}
use Rattle.recorded_play.proofs.recorded.record.Given.{Over}
use Rattle.recorded_play.proofs.recorded.record.Goals as goal
use Rattle.recorded_play.proofs.recorded.record.Goals.{In-Ok-take_up, In-Ok-Failed}

pub returns-in-Err-clause-refused : goal.returns-in-Err-clause-refused
returns-in-Err-clause-refused g c = inl (c.in-Err.ensures.refused, keeps_same (g.W.Output.contents c.args.out.now), refl)

pub returns-in-Err-clause-input : goal.returns-in-Err-clause-input
returns-in-Err-clause-input g c = λ input. absurd (subst IsOfDevices input c.in-Err.ensures.refused.kind)

pub returns-in-Err-clause-output : goal.returns-in-Err-clause-output
returns-in-Err-clause-output g c = λ output. absurd (subst IsOfDevices output c.in-Err.ensures.refused.kind refl)

pub stream_on-requires-clause-whole : goal.stream_on-requires-clause-whole
stream_on-requires-clause-whole g c = (c.in-Ok-take_up.ensures.whole.1, c.in-Ok-take_up.ensures.whole.2, ap can_be_logged c.in-Ok-take_up.ensures.whole.0)

pub stream_on-requires-clause-none : goal.stream_on-requires-clause-none
stream_on-requires-clause-none g c = ap length c.in-Ok-take_up.ensures.whole.0

is_up : (g : Over) (c : In-Ok-take_up g) → IsUp c.args.cartridge.now (g.D.SectorDevice.disk c.args.save) (g.E.SectorDevice.disk c.args.recording) (game c.in-Ok-take_up.game.session c.in-Ok-take_up.game.recording)
is_up g c =
    let up = c.in-Ok-take_up.ensures in
    record {
      none = up.whole.0;
      rom_is = up.whole.3;
      honest = up.save_answered.honest.1;
      taken = up.taken_up;
      save_here = g.met.D.SectorDevice.reads_are_an_image c.args.save;
      recording_here = g.met.E.SectorDevice.reads_are_an_image c.args.recording;
    }

pub returns-in-Ok-Whole : goal.returns-in-Ok-Whole
returns-in-Ok-Whole g c =
    let up = is_up g (goal.at.returns-in-Ok-Whole g c).In-Ok-take_up in
    let taken = c.in-Ok-take_up.ensures in
    let now = c.stream_on.new.game in
    let streams = c.in-Ok-Whole.ensures.streamed in
    let comes = comes_all g.met.D.SectorDevice.only_now g.met.E.SectorDevice.only_now (λ a b input one. one) (λ a b one. one) c.in-Ok-take_up.game now (inputs_of_deeds streams.deeds) streams.makes.advances in
    record {
      recorded = recorded_to up streams.deeds taken.whole.3 comes streams.makes.unsaved_is streams.makes.answered streams.asks c.in-Ok-Whole.field-0-is streams.read;
      whole = (none_left (pending_of now.session) streams.makes.unsaved_is, c.in-Ok-Whole.ensures.whole.0, c.in-Ok-Whole.ensures.whole.1, comes.rom ∙ taken.whole.3);
      rests = rests_at up (inputs_of_deeds streams.deeds) comes streams.makes.unsaved_is;
      refused = tt;
      input = tt;
      output = tt;
      agree = λ honest other_honest agree. ended_agree up honest other_honest agree comes (g.met.E.SectorDevice.only_now (device_of_recording now.recording));
      save_answered = answered_both taken.save_answered comes.save_calls;
      recording_answered = answered_both taken.recording_answered comes.recording_calls;
    }

pub returns-in-Ok-Wrong : goal.returns-in-Ok-Wrong
returns-in-Ok-Wrong g c =
    let up = is_up g (goal.at.returns-in-Ok-Wrong g c).In-Ok-take_up in
    let taken = c.in-Ok-take_up.ensures in
    let now = c.stream_on.new.game in
    let streams = c.in-Ok-Wrong.ensures.streamed in
    let comes = comes_all g.met.D.SectorDevice.only_now g.met.E.SectorDevice.only_now (λ a b input one. one) (λ a b one. one) c.in-Ok-take_up.game now (inputs_of_deeds streams.deeds) streams.makes.advances in
    rw c.stopped.ensures (record {
      recorded = tt;
      whole = tt;
      rests = tt;
      refused = inr (recorded_to up streams.deeds taken.whole.3 comes streams.makes.unsaved_is streams.makes.answered streams.asks c.in-Ok-Wrong.field-0-is streams.read);
      input = λ input. absurd (cc);
      output = λ output. absurd (cc);
      agree = λ honest other_honest agree. ended_agree up honest other_honest agree comes (g.met.E.SectorDevice.only_now (device_of_recording now.recording));
      save_answered = answered_otherwise (answered_both {V = Unit {0}} {faults_after = save_faults_after} {value = tt} taken.save_answered comes.save_calls) (λ n. refl);
      recording_answered = answered_otherwise (answered_both {V = Unit {0}} {faults_after = recording_faults_after} {value = tt} taken.recording_answered comes.recording_calls) (λ n. refl);
    })

comes_failed : (g : Over) (c : In-Ok-Failed g) → BothAdvance (game c.in-Ok-take_up.game.session c.in-Ok-take_up.game.recording) (game c.stream_on.new.game.session c.stream_on.new.game.recording) (inputs_of_deeds c.in-Ok-Failed.ensures.streamed.deeds)
comes_failed g c =
    let streams = c.in-Ok-Failed.ensures.streamed in
    comes_all g.met.D.SectorDevice.only_now g.met.E.SectorDevice.only_now (λ a b input one. one) (λ a b one. one) c.in-Ok-take_up.game c.stream_on.new.game (inputs_of_deeds streams.deeds) streams.makes.advances

pub returns-in-Ok-Failed-clause-refused : goal.returns-in-Ok-Failed-clause-refused
returns-in-Ok-Failed-clause-refused g c =
    let at = goal.at.returns-in-Ok-Failed-clause-refused g c in
    let streams = c.in-Ok-Failed.ensures.streamed in
    rw c.stopped-in-Ok-Failed.ensures
    (inr (recorded_to (is_up g at.In-Ok-take_up) streams.deeds c.in-Ok-take_up.ensures.whole.3 (comes_failed g at.In-Ok-Failed) streams.makes.unsaved_is streams.makes.answered streams.asks c.in-Ok-Failed.field-0-is streams.read))

pub returns-in-Ok-Failed-clause-input : goal.returns-in-Ok-Failed-clause-input
returns-in-Ok-Failed-clause-input g c = λ input. c.in-Ok-Failed.ensures.failed c.in-Ok-Failed.field-0-is

pub returns-in-Ok-Failed-clause-output : goal.returns-in-Ok-Failed-clause-output
returns-in-Ok-Failed-clause-output g c = rw c.stopped-in-Ok-Failed.ensures (λ output. absurd (cc))

pub returns-in-Ok-Failed-clause-agree : goal.returns-in-Ok-Failed-clause-agree
returns-in-Ok-Failed-clause-agree g c =
    let at = goal.at.returns-in-Ok-Failed-clause-agree g c in
    rw c.stopped-in-Ok-Failed.ensures (λ honest other_honest agree. ended_agree (is_up g at.In-Ok-take_up) honest other_honest agree (comes_failed g at.In-Ok-Failed) (g.met.E.SectorDevice.only_now (device_of_recording c.stream_on.new.game.recording)))

pub returns-in-Ok-Failed-clause-save_answered : goal.returns-in-Ok-Failed-clause-save_answered
returns-in-Ok-Failed-clause-save_answered g c =
    let comes = comes_failed g (goal.at.returns-in-Ok-Failed-clause-save_answered g c).In-Ok-Failed in
    rw c.stopped-in-Ok-Failed.ensures (answered_otherwise (answered_both {V = Unit {0}} {faults_after = save_faults_after} {value = tt} c.in-Ok-take_up.ensures.save_answered comes.save_calls) (λ n. refl))

pub returns-in-Ok-Failed-clause-recording_answered : goal.returns-in-Ok-Failed-clause-recording_answered
returns-in-Ok-Failed-clause-recording_answered g c =
    let comes = comes_failed g (goal.at.returns-in-Ok-Failed-clause-recording_answered g c).In-Ok-Failed in
    rw c.stopped-in-Ok-Failed.ensures (answered_otherwise (answered_both {V = Unit {0}} {faults_after = recording_faults_after} {value = tt} c.in-Ok-take_up.ensures.recording_answered comes.recording_calls) (λ n. refl))

pub returns : goal.returns
returns g c =
    let up = is_up g (goal.at.returns g c).In-Ok-take_up in
    let taken = c.in-Ok-take_up.ensures in
    let why = c.in-Err-stream_on.why in
    let streams = c.in-Err-stream_on.ensures.stopped in
    let halts = halts_all g.met.D.SectorDevice.only_now g.met.E.SectorDevice.only_now (λ a b input one. one) (λ a b one. one) (λ a b input why one. one) (λ a b why one. one) refl c.in-Ok-take_up.game c.stream_on.new.game (inputs_of_deeds streams.deeds) why streams.stops.stops in
    rw c.stopped-in-Err-stream_on.ensures (record {
      recorded = tt;
      whole = tt;
      rests = tt;
      refused = inr (as_refusal why _ halts.cause (stopped_record up streams.deeds taken.whole.3 streams.more halts streams.stops.told streams.asks streams.read));
      input = λ input. absurd (rw input at halts.cause);
      output = λ output. streams.stops.output (ap told_as output);
      agree = λ honest other_honest agree. stopped_agree up honest other_honest agree halts;
      save_answered = answered_refused taken.save_answered halts.save_calls (λ n. refl);
      recording_answered = answered_refused taken.recording_answered halts.recording_calls (λ n. refl);
    })

pub unreachable-requires : goal.unreachable-requires
unreachable-requires g c = none_damaged (rom_of c.in-Ok-take_up.game.session) (rw c.in-Ok-Damaged.field-0-is at c.in-Ok-Damaged.ensures.streamed.read)

pub unreachable-requires-in-Ok-OtherCartridge : goal.unreachable-requires-in-Ok-OtherCartridge
unreachable-requires-in-Ok-OtherCartridge g c = none_of_another (rom_of c.in-Ok-take_up.game.session) (rw c.in-Ok-OtherCartridge.field-0-is at c.in-Ok-OtherCartridge.ensures.streamed.read)

pub unreachable-requires-in-Ok-NoMemory : goal.unreachable-requires-in-Ok-NoMemory
unreachable-requires-in-Ok-NoMemory g c = none_lacked c.in-Ok-NoMemory.ensures.streamed.kept (rw c.in-Ok-NoMemory.field-0-is at c.in-Ok-NoMemory.ensures.streamed.read)

use Rattle.std.proofs.Common.{◌≡◌, inl, inr, refl, ◌∙◌}
use Rattle.session.specs.declared.error.SessionError.TheVariants.{Output}
use Rattle.session.specs.Calls.{faults_after}
use Rattle.session.specs.Accessors.{pending_of}
use Rattle.playing.proofs.Going.{goes_all, no_further_at_all, none_left}
use Rattle.playing.proofs.Telling.{keeps_same, memory_at}
use Rattle.playing.specs.Going.{place}
use Rattle.streaming.specs.Answers.{inputs_of_deeds}
use Rattle.session.proofs.Answering.{answered_both, answered_otherwise, answered_refused}
use Rattle.streaming.proofs.Wholes.{TakenUp, streamed_all, streamed_to, stopped_stream}
use Rattle.streaming.proofs.streamed.stream.Given.{Over}
use Rattle.streaming.proofs.streamed.stream.Goals as goal
use Rattle.streaming.proofs.streamed.stream.Goals.{In-Ok-resume}

pub returns-in-Err-clause-refused : goal.returns-in-Err-clause-refused
returns-in-Err-clause-refused g c =
    inl (record { cause = c.in-Err.ensures.cause; report = keeps_same (g.W.Output.contents c.args.out.now); images = c.in-Err.ensures.images; untouched = c.in-Err.ensures.untouched; memory = memory_at (g.D.SectorDevice.disk) c.in-Err.ensures.memory; failed = c.in-Err.ensures.failed; no_report = c.in-Err.ensures.no_report }, refl)

pub returns-in-Err-clause-output : goal.returns-in-Err-clause-output
returns-in-Err-clause-output g c = λ output.
    let is : c.in-Err.refused.why ≡ Output = cc in
    absurd (c.in-Err.ensures.no_report is)

-- the session that was taken up
up : (g : Over) (c : In-Ok-resume g) → TakenUp c.args.cartridge.now (g.D.SectorDevice.disk c.args.device) (place c.in-Ok-resume.session)
up g c =
    let taken = c.in-Ok-resume.ensures in
    record { none = taken.begun.0; rom_is = taken.begun.2; of_rom = taken.of; honest = taken.answered.honest.1; rests = taken.rests; stood = taken.stands; images = taken.images }

pub returns-in-Ok-Whole-clause-streamed : goal.returns-in-Ok-Whole-clause-streamed
returns-in-Ok-Whole-clause-streamed g c =
    let streams = c.in-Ok-Whole.ensures.streamed in
    let goes = goes_all g.met.D.SectorDevice.only_now (λ a b input one. one) (λ a b one. one) c.in-Ok-resume.session c.stream_on.new.game (inputs_of_deeds streams.deeds) streams.makes.advances in
    streamed_all (up g (goal.at.returns-in-Ok-Whole-clause-streamed g c).In-Ok-resume) streams.deeds goes streams.makes.unsaved_is streams.makes.answered c.in-Ok-resume.ensures.begun.2 streams.asks c.in-Ok-Whole.field-0-is streams.read

pub returns-in-Ok-Whole-clause-whole : goal.returns-in-Ok-Whole-clause-whole
returns-in-Ok-Whole-clause-whole g c =
    let streams = c.in-Ok-Whole.ensures.streamed in
    let goes = goes_all g.met.D.SectorDevice.only_now (λ a b input one. one) (λ a b one. one) c.in-Ok-resume.session c.stream_on.new.game (inputs_of_deeds streams.deeds) streams.makes.advances in
    (none_left (pending_of c.stream_on.new.game) streams.makes.unsaved_is, c.in-Ok-Whole.ensures.whole, goes.rom ∙ c.in-Ok-resume.ensures.begun.2)

pub returns-in-Ok-Whole-clause-answered : goal.returns-in-Ok-Whole-clause-answered
returns-in-Ok-Whole-clause-answered g c =
    let streams = c.in-Ok-Whole.ensures.streamed in
    let goes = goes_all g.met.D.SectorDevice.only_now (λ a b input one. one) (λ a b one. one) c.in-Ok-resume.session c.stream_on.new.game (inputs_of_deeds streams.deeds) streams.makes.advances in
    answered_both c.in-Ok-resume.ensures.answered goes.calls

pub returns-in-Ok-Wrong-clause-refused : goal.returns-in-Ok-Wrong-clause-refused
returns-in-Ok-Wrong-clause-refused g c =
    let streams = c.in-Ok-Wrong.ensures.streamed in
    let goes = goes_all g.met.D.SectorDevice.only_now (λ a b input one. one) (λ a b one. one) c.in-Ok-resume.session c.stream_on.new.game (inputs_of_deeds streams.deeds) streams.makes.advances in
    rw c.into_device.ensures.device
    (streamed_to (up g (goal.at.returns-in-Ok-Wrong-clause-refused g c).In-Ok-resume) streams.deeds goes streams.makes.unsaved_is streams.makes.answered c.in-Ok-resume.ensures.begun.2 streams.asks c.in-Ok-Wrong.field-0-is streams.read)

pub returns-in-Ok-Wrong-clause-answered : goal.returns-in-Ok-Wrong-clause-answered
returns-in-Ok-Wrong-clause-answered g c =
    let streams = c.in-Ok-Wrong.ensures.streamed in
    let goes = goes_all g.met.D.SectorDevice.only_now (λ a b input one. one) (λ a b one. one) c.in-Ok-resume.session c.stream_on.new.game (inputs_of_deeds streams.deeds) streams.makes.advances in
    rw c.into_device.ensures.device (answered_otherwise (answered_both {V = Unit {0}} {faults_after = faults_after} {value = tt} c.in-Ok-resume.ensures.answered goes.calls) (λ n. refl))

pub returns-in-Ok-Failed-clause-refused : goal.returns-in-Ok-Failed-clause-refused
returns-in-Ok-Failed-clause-refused g c =
    let streams = c.in-Ok-Failed.ensures.streamed in
    let goes = goes_all g.met.D.SectorDevice.only_now (λ a b input one. one) (λ a b one. one) c.in-Ok-resume.session c.stream_on.new.game (inputs_of_deeds streams.deeds) streams.makes.advances in
    rw c.into_device-in-Ok-Failed.ensures.device
    (streamed_to (up g (goal.at.returns-in-Ok-Failed-clause-refused g c).In-Ok-resume) streams.deeds goes streams.makes.unsaved_is streams.makes.answered c.in-Ok-resume.ensures.begun.2 streams.asks c.in-Ok-Failed.field-0-is streams.read)

pub returns-in-Ok-Failed-clause-answered : goal.returns-in-Ok-Failed-clause-answered
returns-in-Ok-Failed-clause-answered g c =
    let streams = c.in-Ok-Failed.ensures.streamed in
    let goes = goes_all g.met.D.SectorDevice.only_now (λ a b input one. one) (λ a b one. one) c.in-Ok-resume.session c.stream_on.new.game (inputs_of_deeds streams.deeds) streams.makes.advances in
    rw c.into_device-in-Ok-Failed.ensures.device (answered_otherwise (answered_both {V = Unit {0}} {faults_after = faults_after} {value = tt} c.in-Ok-resume.ensures.answered goes.calls) (λ n. refl))

pub returns-in-Ok-Damaged-clause-refused : goal.returns-in-Ok-Damaged-clause-refused
returns-in-Ok-Damaged-clause-refused g c =
    let streams = c.in-Ok-Damaged.ensures.streamed in
    let goes = goes_all g.met.D.SectorDevice.only_now (λ a b input one. one) (λ a b one. one) c.in-Ok-resume.session c.stream_on.new.game (inputs_of_deeds streams.deeds) streams.makes.advances in
    rw c.into_device-in-Ok-Damaged.ensures.device
    (streamed_to (up g (goal.at.returns-in-Ok-Damaged-clause-refused g c).In-Ok-resume) streams.deeds goes streams.makes.unsaved_is streams.makes.answered c.in-Ok-resume.ensures.begun.2 streams.asks c.in-Ok-Damaged.field-0-is streams.read)

pub returns-in-Ok-Damaged-clause-answered : goal.returns-in-Ok-Damaged-clause-answered
returns-in-Ok-Damaged-clause-answered g c =
    let streams = c.in-Ok-Damaged.ensures.streamed in
    let goes = goes_all g.met.D.SectorDevice.only_now (λ a b input one. one) (λ a b one. one) c.in-Ok-resume.session c.stream_on.new.game (inputs_of_deeds streams.deeds) streams.makes.advances in
    rw c.into_device-in-Ok-Damaged.ensures.device (answered_otherwise (answered_both {V = Unit {0}} {faults_after = faults_after} {value = tt} c.in-Ok-resume.ensures.answered goes.calls) (λ n. refl))

pub returns-in-Ok-OtherCartridge-clause-refused : goal.returns-in-Ok-OtherCartridge-clause-refused
returns-in-Ok-OtherCartridge-clause-refused g c =
    let streams = c.in-Ok-OtherCartridge.ensures.streamed in
    let goes = goes_all g.met.D.SectorDevice.only_now (λ a b input one. one) (λ a b one. one) c.in-Ok-resume.session c.stream_on.new.game (inputs_of_deeds streams.deeds) streams.makes.advances in
    rw c.into_device-in-Ok-OtherCartridge.ensures.device
    (streamed_to (up g (goal.at.returns-in-Ok-OtherCartridge-clause-refused g c).In-Ok-resume) streams.deeds goes streams.makes.unsaved_is streams.makes.answered c.in-Ok-resume.ensures.begun.2 streams.asks c.in-Ok-OtherCartridge.field-0-is streams.read)

pub returns-in-Ok-OtherCartridge-clause-answered : goal.returns-in-Ok-OtherCartridge-clause-answered
returns-in-Ok-OtherCartridge-clause-answered g c =
    let streams = c.in-Ok-OtherCartridge.ensures.streamed in
    let goes = goes_all g.met.D.SectorDevice.only_now (λ a b input one. one) (λ a b one. one) c.in-Ok-resume.session c.stream_on.new.game (inputs_of_deeds streams.deeds) streams.makes.advances in
    rw c.into_device-in-Ok-OtherCartridge.ensures.device (answered_otherwise (answered_both {V = Unit {0}} {faults_after = faults_after} {value = tt} c.in-Ok-resume.ensures.answered goes.calls) (λ n. refl))

pub returns-in-Ok-NoMemory-clause-refused : goal.returns-in-Ok-NoMemory-clause-refused
returns-in-Ok-NoMemory-clause-refused g c =
    let streams = c.in-Ok-NoMemory.ensures.streamed in
    let goes = goes_all g.met.D.SectorDevice.only_now (λ a b input one. one) (λ a b one. one) c.in-Ok-resume.session c.stream_on.new.game (inputs_of_deeds streams.deeds) streams.makes.advances in
    rw c.into_device-in-Ok-NoMemory.ensures.device
    (streamed_to (up g (goal.at.returns-in-Ok-NoMemory-clause-refused g c).In-Ok-resume) streams.deeds goes streams.makes.unsaved_is streams.makes.answered c.in-Ok-resume.ensures.begun.2 streams.asks c.in-Ok-NoMemory.field-0-is streams.read)

pub returns-in-Ok-NoMemory-clause-answered : goal.returns-in-Ok-NoMemory-clause-answered
returns-in-Ok-NoMemory-clause-answered g c =
    let streams = c.in-Ok-NoMemory.ensures.streamed in
    let goes = goes_all g.met.D.SectorDevice.only_now (λ a b input one. one) (λ a b one. one) c.in-Ok-resume.session c.stream_on.new.game (inputs_of_deeds streams.deeds) streams.makes.advances in
    rw c.into_device-in-Ok-NoMemory.ensures.device (answered_otherwise (answered_both {V = Unit {0}} {faults_after = faults_after} {value = tt} c.in-Ok-resume.ensures.answered goes.calls) (λ n. refl))

pub returns-clause-refused : goal.returns-clause-refused
returns-clause-refused g c =
    let streams = c.in-Err-stream_on.ensures.stopped in
    let stop = no_further_at_all g.met.D.SectorDevice.only_now (λ a b input one. one) (λ a b one. one) (λ a b input why one. one) (λ a b why one. one) refl c.in-Ok-resume.session c.stream_on.new.game (inputs_of_deeds streams.deeds) c.in-Err-stream_on.why streams.stops.stops in
    inr (rw c.into_device-in-Err-stream_on.ensures.device
    (stopped_stream (up g (goal.at.returns-clause-refused g c).In-Ok-resume) streams.deeds streams.more c.in-Ok-resume.ensures.begun.2 streams.asks streams.read streams.stops.told stop))

pub returns-clause-output : goal.returns-clause-output
returns-clause-output g c = λ output.
    let is : c.in-Err-stream_on.why ≡ Output = cc in
    c.in-Err-stream_on.ensures.stopped.stops.output is

pub returns-clause-answered : goal.returns-clause-answered
returns-clause-answered g c =
    let streams = c.in-Err-stream_on.ensures.stopped in
    let stop = no_further_at_all g.met.D.SectorDevice.only_now (λ a b input one. one) (λ a b one. one) (λ a b input why one. one) (λ a b why one. one) refl c.in-Ok-resume.session c.stream_on.new.game (inputs_of_deeds streams.deeds) c.in-Err-stream_on.why streams.stops.stops in
    rw c.into_device-in-Err-stream_on.ensures.device (answered_refused c.in-Ok-resume.ensures.answered stop.calls (λ n. refl))

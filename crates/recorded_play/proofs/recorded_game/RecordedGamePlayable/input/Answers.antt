use Rattle.std.proofs.Common.{◌≡◌, ap}
use Rattle.machine.specs.Machine.{as_input}
use Rattle.recording.specs.Accessors.{device_of as device_of_recording}
use Rattle.session.specs.Accessors.{device_of, pending_of, is_broken}
use Rattle.playing.specs.Going.{place}
use Rattle.playing.proofs.Going.{input_goes, input_goes_no_further}
use Rattle.playing.proofs.PlayLaws.{one_logged}
use Rattle.recorded_play.specs.Steps.{game}
use Rattle.recorded_play.proofs.Stepping.{input_comes, input_halts}
use Rattle.recorded_play.proofs.recorded_game.RecordedGamePlayable.input.Goals as goal

pub returns-in-Ok-clause-given : goal.returns-in-Ok-clause-given
returns-in-Ok-clause-given g c =
    let first = c.args.self.now in
    let was = first.session in
    let now = c.input.new.self in
    let one = one_logged (pending_of was) (pending_of now) (as_input c.args.input) c.in-Ok.ensures.pending c.in-Ok.ensures.logged c.in-Ok.ensures.given in
    let goes = input_goes (place was) (place now) (as_input c.args.input) (ap g.D.SectorDevice.disk c.input.ensures.device) c.input.ensures.kept.0 c.input.ensures.kept.2 (g.met.D.SectorDevice.only_now (device_of was)) one c.in-Ok.ensures.machine in
    input_comes (game was first.recording) (place now) (as_input c.args.input) goes c.input.ensures.kept.0 (g.met.E.SectorDevice.only_now (device_of_recording first.recording)) c.in-Ok.ensures.given

pub returns-in-Err-clause-refused : goal.returns-in-Err-clause-refused
returns-in-Err-clause-refused g c =
    let first = c.args.self.now in
    let was = first.session in
    let now = c.input.new.self in
    let disk = g.D.SectorDevice.disk in
    let unchanged = c.in-Err.ensures.refused in
    let same : place now ≡ place was = λ i. record { disk = disk (unchanged.device i); acknowledged = unchanged.acknowledged i; pending = unchanged.pending i; machine = unchanged.machine i } in
    input_halts (game was first.recording) (place now) (as_input c.args.input) c.in-Err.why
    (input_goes_no_further (place was) (place now) (as_input c.args.input) (ap disk c.input.ensures.device) c.input.ensures.kept.0 c.input.ensures.kept.2 (g.met.D.SectorDevice.only_now (device_of was))
    c.in-Err.why (is_broken was) c.requires.whole.0 c.requires.few c.in-Err.ensures.answer)
    same (g.met.E.SectorDevice.only_now (device_of_recording first.recording))

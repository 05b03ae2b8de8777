use Rattle.std.proofs.Common.{ap}
use Rattle.machine.specs.Machine.{as_input}
use Rattle.session.specs.Accessors.{device_of, pending_of, is_broken}
use Rattle.playing.specs.Going.{place}
use Rattle.playing.proofs.Going.{input_goes, input_goes_no_further}
use Rattle.playing.proofs.PlayLaws.{one_logged}
use Rattle.playing.proofs.playable.SessionPlayable.input.Goals as goal

pub returns-in-Ok-clause-given : goal.returns-in-Ok-clause-given
returns-in-Ok-clause-given g c =
    let was = c.args.self.now in
    let now = c.input.new.self in
    let one = one_logged (pending_of was) (pending_of now) (as_input c.args.input) c.in-Ok.ensures.pending c.in-Ok.ensures.logged c.in-Ok.ensures.given in
    input_goes (place was) (place now) (as_input c.args.input) (ap g.D.SectorDevice.disk c.input.ensures.device) c.input.ensures.kept.0 c.input.ensures.kept.2 (g.met.D.SectorDevice.only_now (device_of was)) one c.in-Ok.ensures.machine

pub returns-in-Err-clause-refused : goal.returns-in-Err-clause-refused
returns-in-Err-clause-refused g c =
    let was = c.args.self.now in
    let now = c.input.new.self in
    input_goes_no_further (place was) (place now) (as_input c.args.input) (ap g.D.SectorDevice.disk c.input.ensures.device) c.input.ensures.kept.0 c.input.ensures.kept.2 (g.met.D.SectorDevice.only_now (device_of was))
    c.in-Err.why (is_broken was) c.requires.whole c.requires.few c.in-Err.ensures.answer

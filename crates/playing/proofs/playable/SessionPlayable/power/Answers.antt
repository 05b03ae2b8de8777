use Rattle.std.proofs.Common.{◌+◌, length, ap}
use Rattle.machine.specs.Machine.{Power}
use Rattle.session.specs.Accessors.{device_of, pending_of, acknowledged_of, is_broken}
use Rattle.session.proofs.Saving.{no_input_is_none}
use Rattle.playing.specs.Going.{place}
use Rattle.playing.proofs.Going.{input_goes, input_goes_no_further}
use Rattle.playing.proofs.PlayLaws.{one_unlogged}
use Rattle.playing.proofs.Stops.{power_refused, power_room}
use Rattle.playing.proofs.playable.SessionPlayable.power.Goals as goal

pub returns-in-Ok-clause-given : goal.returns-in-Ok-clause-given
returns-in-Ok-clause-given g c = λ done.
    let was = c.args.self.now in
    let now = c.power.new.self in
    input_goes (place was) (place now) Power (ap g.D.SectorDevice.disk c.power.ensures.device) c.power.ensures.kept.0 c.power.ensures.kept.2 (g.met.D.SectorDevice.only_now (device_of was))
    (one_unlogged (pending_of was) (pending_of now) Power c.in-Ok.ensures.pending no_input_is_none) c.in-Ok.ensures.machine

pub returns-in_default-clause-refused : goal.returns-in_default-clause-refused
returns-in_default-clause-refused g c =
    let was = c.args.self.now in
    let now = c.power.new.self in
    input_goes_no_further (place was) (place now) Power (ap g.D.SectorDevice.disk c.power.ensures.device) c.power.ensures.kept.0 c.power.ensures.kept.2 (g.met.D.SectorDevice.only_now (device_of was))
    c.in-Err.why (is_broken was) c.requires.whole c.requires.few
    (power_refused c.in-Err.why _ c.in-Err.ensures.answer c.in_default.not-Memory)

pub returns-in-Memory-clause-nothing : goal.returns-in-Memory-clause-nothing
returns-in-Memory-clause-nothing g c = λ done.
    let was = c.args.self.now in
    (c.in-Err.ensures.same, λ takes. power_room c.in-Err.why (is_broken was) (length (pending_of was)) (acknowledged_of was + length (pending_of was)) c.requires.whole c.requires.few c.in-Err.ensures.answer c.in-Memory.is)

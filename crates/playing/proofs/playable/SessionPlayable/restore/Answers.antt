use Rattle.std.proofs.Common.{ap, sym, ◌∙◌, subst, length, length-append}
use Rattle.machine.specs.Machine.{State}
use Rattle.snapshot.specs.Reading.{machine_in}
use Rattle.snapshot.specs.Legal.{IsLegalSnapshot}
use Rattle.snapshot.proofs.Machines.{machine_back, encoded_legal}
use Rattle.session.specs.Accessors.{device_of, machine_of, pending_of, is_broken}
use Rattle.session.proofs.Saving.{no_input_is_none}
use Rattle.playing.specs.Going.{place}
use Rattle.playing.proofs.Going.{input_goes, input_goes_no_further}
use Rattle.playing.proofs.PlayLaws.{one_unlogged}
use Rattle.playing.proofs.Stops.{restore_refused}
use Rattle.playing.proofs.playable.SessionPlayable.restore.Goals as goal

pub returns-in-Ok-clause-machine : goal.returns-in-Ok-clause-machine
returns-in-Ok-clause-machine g c = λ done. sym (ap (machine_in c.args.cartridge.now) (sym c.in-Ok.ensures.machine.1) ∙ machine_back c.args.cartridge.now (machine_of c.restore.new.self) c.in-Ok.ensures.machine.0)

pub returns-in-Ok-clause-given : goal.returns-in-Ok-clause-given
returns-in-Ok-clause-given g c = λ done.
    let was = c.args.self.now in
    let now = c.restore.new.self in
    let m = machine_in c.args.cartridge.now c.args.bytes.now in
    let is = returns-in-Ok-clause-machine g c done in
    input_goes (place was) (place now) (State m) (ap g.D.SectorDevice.disk c.restore.ensures.device) c.restore.ensures.kept.0 c.restore.ensures.kept.2 (g.met.D.SectorDevice.only_now (device_of was))
    (one_unlogged (pending_of was) (pending_of now) (State m) c.in-Ok.ensures.pending no_input_is_none) is

pub returns-in_default-clause-refused : goal.returns-in_default-clause-refused
returns-in_default-clause-refused g c =
    let was = c.args.self.now in
    let now = c.restore.new.self in
    input_goes_no_further (place was) (place now) (State (machine_in c.args.cartridge.now c.args.bytes.now)) (ap g.D.SectorDevice.disk c.restore.ensures.device) c.restore.ensures.kept.0 c.restore.ensures.kept.2
    (g.met.D.SectorDevice.only_now (device_of was)) c.in-Err.why (is_broken was) c.requires.whole c.requires.few
    (restore_refused c.args.cartridge.now c.args.bytes.now c.in-Err.why _ c.in-Err.ensures.answer c.in_default.not-Damaged)

pub returns-in-Ok-clause-legal : goal.returns-in-Ok-clause-legal
returns-in-Ok-clause-legal g c = λ done.
    subst (IsLegalSnapshot c.args.cartridge.now) c.in-Ok.ensures.machine.1 (encoded_legal c.args.cartridge.now (machine_of c.restore.new.self) c.in-Ok.ensures.machine.0)

pub returns-in-Ok-clause-unsaved : goal.returns-in-Ok-clause-unsaved
returns-in-Ok-clause-unsaved g c = λ done. ap length c.in-Ok.ensures.pending ∙ length-append (pending_of c.args.self.now) _

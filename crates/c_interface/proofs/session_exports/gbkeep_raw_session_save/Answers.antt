use Rattle.std.proofs.Common.{◌≡◌, ◌+◌, length, Some, true, false, sym, ◌∙◌, subst}
use Rattle.sector_device.specs.Runs.{HoldsSince}
use Rattle.session.specs.Accessors.{device_of, machine_of, rom_of, pending_of, acknowledged_of, saved_of, is_broken}
use Rattle.session.specs.Inputs.{can_be_logged, inputs_of}
use Rattle.session.specs.Stands.{IsAtRest, StandsAt, StandsBetween}
use Rattle.embedding.specs.HostDevices.{host_disk}
use Rattle.embedding.specs.declared.game.Game.{Game}
use Rattle.c_interface.proofs.session_exports.gbkeep_raw_session_save.Goals as goal

pub returns-clause-images : goal.returns-clause-images
returns-clause-images c = λ whole.
    let then = c.args.session.value in
    let old : c.deref_mut.result.now ≡ then = c.deref_mut.ensures.value ∙ c.into_box-game.ensures in
    subst (λ (g : Game). HoldsSince (host_disk (device_of then.session)) (host_disk (device_of g.session))
    (StandsBetween (can_be_logged (pending_of then.session)) (rom_of then.session) (Some (saved_of then.session)) (inputs_of (pending_of then.session))
    (record { count = acknowledged_of then.session + length (pending_of then.session); machine = machine_of then.session }))) (sym c.of.ensures.value)
    (subst (λ (g : Game). is_broken g.session ≡ false → HoldsSince (host_disk (device_of g.session)) (host_disk (device_of c.save.new.self.session))
    (StandsBetween (can_be_logged (pending_of g.session)) (rom_of g.session) (Some (saved_of g.session)) (inputs_of (pending_of g.session))
    (record { count = acknowledged_of g.session + length (pending_of g.session); machine = machine_of g.session }))) old c.save.ensures.images whole)

pub returns-clause-stands : goal.returns-clause-stands
returns-clause-stands c =
    let old : c.deref_mut.result.now ≡ c.args.session.value = c.deref_mut.ensures.value ∙ c.into_box-game.ensures in
    subst (λ (g : Game). is_broken g.session ≡ false → StandsAt (rom_of g.session) (host_disk (device_of g.session)) (saved_of g.session)) old c.save.ensures.stands

pub returns-clause-stood : goal.returns-clause-stood
returns-clause-stood c =
    let old : c.deref_mut.result.now ≡ c.args.session.value = c.deref_mut.ensures.value ∙ c.into_box-game.ensures in
    subst (λ (g : Game). is_broken g.session ≡ false → can_be_logged (pending_of g.session) ≡ true → IsAtRest (rom_of g.session) (host_disk (device_of g.session)) (acknowledged_of g.session) (pending_of g.session) (machine_of g.session)) old c.save.ensures.stood

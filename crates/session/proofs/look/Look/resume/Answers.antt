use Rattle.std.proofs.Common.{◌≤◌, ℕ, List, [], length, refl, sym, ap, ◌∙◌, subst, arith}
use Rattle.cartridge.specs.Header.{ram_length_of}
use Rattle.sha2.specs.Sha256.{sha256}
use Rattle.machine.specs.Machine.{MachineState}
use Rattle.snapshot.specs.Encoding.{encoded, snapshot_length}
use Rattle.snapshot.specs.Legal.{IsMachineOf}
use Rattle.sector_device.specs.Runs.{HoldsSince}
use Rattle.log_format.specs.Content.{need}
use Rattle.sector_log.specs.OpenedAccessors.{found_generation}
use Rattle.session.specs.Stands.{IsAtRest, StandsAsBefore}
use Rattle.session.specs.Accessors.{device_of, machine_of, left_by}
use Rattle.session.specs.LookAccessors.{device_of_look}
use Rattle.session.proofs.Beginnings.{if_ok, if_ok_both, if_err, begun_at_rest, looked_resume}
use Rattle.session.proofs.Finding.{begin_not_output}
use Rattle.session.proofs.Looks.{looked_nothing, stood_at_rest, take_up_cause, taken_up_images}
use Rattle.session.proofs.look.Look.resume.Goals as goal

pub returns-in_default-clause-images : goal.returns-in_default-clause-images
returns-in_default-clause-images g c = λ honest.
    let now = g.D.SectorDevice.disk (device_of_look c.args.self) in
    subst (λ d. HoldsSince now (g.D.SectorDevice.disk d) (StandsAsBefore c.args.cartridge.now now)) (sym c.into_device.ensures)
    (looked_resume c.args.cartridge.now now now (looked_nothing now (g.met.D.SectorDevice.only_now (device_of_look c.args.self)) honest))

pub returns-clause-rests : goal.returns-clause-rests
returns-clause-rests g c =
    if_ok_both c.begin_with.result c.begin_with.ensures.begun c.begin_with.ensures.new
    (λ s begun new honest.
    subst (λ (n : ℕ). IsAtRest c.args.cartridge.now (g.D.SectorDevice.disk (device_of s)) n [] (machine_of s)) (sym begun.0)
    (subst (λ (m : MachineState). IsAtRest c.args.cartridge.now (g.D.SectorDevice.disk (device_of s)) c.args.self.count [] m) (sym begun.3)
    (begun_at_rest c.args.cartridge.now (sha256 c.args.cartridge.now) (encoded c.args.self.machine) c.args.self.machine c.args.self.count
    (g.D.SectorDevice.disk (device_of_look c.args.self)) (g.D.SectorDevice.disk (device_of s)) c.begin_with.ensures.of (omega arith) refl refl (new honest))))

pub returns-clause-images : goal.returns-clause-images
returns-clause-images g c = λ honest.
    let now = g.D.SectorDevice.disk (device_of_look c.args.self) in
    let rests = subst (λ (r : List ℕ). IsAtRest r now c.args.self.count [] c.args.self.machine) c.requires (c.args.self.looks honest).at_rest in
    taken_up_images c.args.cartridge.now now (g.D.SectorDevice.disk (left_by c.begin_with.result)) c.args.self.count c.args.self.machine
    (g.met.D.SectorDevice.reads_are_an_image (device_of_look c.args.self) honest) (g.met.D.SectorDevice.only_now (device_of_look c.args.self)) honest c.begin_with.ensures.of (omega arith)
    (stood_at_rest c.args.cartridge.now now c.args.self.count c.args.self.machine rests) (c.begin_with.ensures.images honest)

pub returns-clause-cause : goal.returns-clause-cause
returns-clause-cause g c =
    if_err c.begin_with.result c.begin_with.ensures.cause
    (λ refused cause honest.
    let sectors = (g.D.SectorDevice.disk (device_of_look c.args.self)).sectors in
    take_up_cause (snapshot_length (ram_length_of c.args.cartridge.now)) (length sectors) (found_generation c.args.self.opened) refused.why
    (subst (λ (r : List ℕ). need (snapshot_length (ram_length_of r)) ≤ length sectors) c.requires (c.args.self.looks honest).enough) cause)

pub returns-clause-no_report : goal.returns-clause-no_report
returns-clause-no_report g c = if_err c.begin_with.result c.begin_with.ensures.cause (λ refused. begin_not_output _ _ _ refused.why)

pub returns-clause-begun : goal.returns-clause-begun
returns-clause-begun g c =
    if_ok c.begin_with.result c.begin_with.ensures.begun
    (λ s begun. (begun.1, begun.2, ap (λ (m : MachineState). m.processor.memory.banks.rom) begun.3 ∙ c.requires))

pub returns-clause-same : goal.returns-clause-same
returns-clause-same g c = if_ok c.begin_with.result c.begin_with.ensures.begun (λ s begun. (begun.0, begun.3))

pub returns-clause-of : goal.returns-clause-of
returns-clause-of g c =
    if_ok c.begin_with.result c.begin_with.ensures.begun
    (λ s begun. subst (λ (m : MachineState). IsMachineOf c.args.cartridge.now m) (sym begun.3) c.begin_with.ensures.of)

pub returns-clause-can : goal.returns-clause-can
returns-clause-can g c = if_ok c.begin_with.result c.begin_with.ensures.can (λ s can. can.unworn)

pub returns-clause-untouched : goal.returns-clause-untouched
returns-clause-untouched g c = c.begin_with.ensures.untouched

pub returns-clause-answered : goal.returns-clause-answered
returns-clause-answered g c = c.begin_with.ensures.answered

pub returns-clause-saved : goal.returns-clause-saved
returns-clause-saved g c =
    if_ok_both c.begin_with.result c.begin_with.ensures.begun c.begin_with.ensures.saved
    (λ s begun saved. saved ∙ (λ i. record { count = sym begun.0 i; machine = sym begun.3 i }))

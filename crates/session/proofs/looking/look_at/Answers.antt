use Rattle.std.proofs.Common.{inr, ℕ, List, [], length, Some, sym, ap, ◌∙◌, subst}
use Rattle.cartridge.specs.Header.{ram_length_of}
use Rattle.machine.specs.Machine.{MachineState}
use Rattle.snapshot.specs.Encoding.{snapshot_length}
use Rattle.snapshot.specs.Legal.{IsMachineOf}
use Rattle.input_entries.specs.Inputs.{inputs}
use Rattle.log_format.specs.Content.{content}
use Rattle.log_format.specs.Found.{Seen}
use Rattle.sector_device.specs.Looking.{HasLooked}
use Rattle.sector_log.specs.OpenedAccessors.{device_under, found_generation, seen}
use Rattle.session.specs.Stands.{IsAtRest, stands}
use Rattle.session.specs.Recovery.{IsRecovered, IsRecoveryCause}
use Rattle.session.specs.LookAccessors.{machine_of_look, count_of_look}
use Rattle.session.proofs.Finding.{cause_found, log_not_output, memory_found, recovered_machine, recovered_stands, recovery_not_output}
use Rattle.session.proofs.Looks.{at_rest_by, look_cause, looks_by}
use Rattle.session.proofs.looking.look_at.Goals as goal

pub at-requires-clause-recovered : goal.at-requires-clause-recovered
at-requires-clause-recovered g c =
    let own = recovered_machine c.args.cartridge.now 0 c.in-Ok-recovered.count (seen c.in-Ok-open_log.opened) c.in-Ok-recovered.machine c.in-Ok-recovered.ensures.ok in
    subst (λ (r : List ℕ). IsRecovered r (seen c.in-Ok-open_log.opened) 0 c.in-Ok-recovered.count c.in-Ok-recovered.machine) (sym own.0) c.in-Ok-recovered.ensures.ok

pub at-requires-clause-room : goal.at-requires-clause-room
at-requires-clause-room g c =
    let own = recovered_machine c.args.cartridge.now 0 c.in-Ok-recovered.count (seen c.in-Ok-open_log.opened) c.in-Ok-recovered.machine c.in-Ok-recovered.ensures.ok in
    c.in-Ok.ensures.0 ∙ ap (λ (r : List ℕ). snapshot_length (ram_length_of r)) (sym own.0)

pub at-requires-clause-looks : goal.at-requires-clause-looks
at-requires-clause-looks g c = λ honest_now.
    let honest = c.in-Ok-open_log.ensures.answered.honest.0 honest_now in
    let old = g.D.SectorDevice.disk c.args.device in
    looks_by c.args.cartridge.now (found_generation c.in-Ok-open_log.opened) c.snapshot_length.result c.in-Ok-recovered.count old (g.D.SectorDevice.disk (device_under c.in-Ok-open_log.opened)) (seen c.in-Ok-open_log.opened) c.in-Ok-recovered.machine
    (c.in-Ok-open_log.ensures.looked honest) (c.in-Ok-open_log.ensures.opened.settled honest) (c.in-Ok-open_log.ensures.opened.generation_is honest) (c.in-Ok-open_log.ensures.opened.seen_is honest)
    (g.met.D.SectorDevice.images_are_sized c.args.device old.sectors honest (g.met.D.SectorDevice.reads_are_an_image c.args.device honest)) c.in-Ok-recovered.ensures.ok

pub returns-in-Ok-recovered-clause-of : goal.returns-in-Ok-recovered-clause-of
returns-in-Ok-recovered-clause-of g c =
    let own = recovered_machine c.args.cartridge.now 0 c.in-Ok-recovered.count (seen c.in-Ok-open_log.opened) c.in-Ok-recovered.machine c.in-Ok-recovered.ensures.ok in
    subst (λ (m : MachineState). IsMachineOf c.args.cartridge.now m) (sym c.at.ensures.machine) (subst (λ (r : List ℕ). IsMachineOf r c.in-Ok-recovered.machine) own.0 c.at.ensures.of)

pub returns-in-Ok-recovered-clause-stands : goal.returns-in-Ok-recovered-clause-stands
returns-in-Ok-recovered-clause-stands g c = λ honest.
    recovered_stands c.args.cartridge.now 0 c.snapshot_length.result c.in-Ok-recovered.count (g.D.SectorDevice.disk c.args.device).sectors (seen c.in-Ok-open_log.opened) c.in-Ok-recovered.machine
    (c.in-Ok-open_log.ensures.opened.seen_is honest) c.in-Ok-recovered.ensures.ok
    ∙ (λ i. Some (record { count = sym c.at.ensures.count.0 i; machine = sym c.at.ensures.machine i }))

pub returns-in-Ok-recovered-clause-log : goal.returns-in-Ok-recovered-clause-log
returns-in-Ok-recovered-clause-log g c = λ honest. (
  c.at.ensures.count.1 ∙ ap (λ (s : Seen). length (inputs s.log)) (c.in-Ok-open_log.ensures.opened.seen_is honest),
  ap found_generation c.at.ensures.opened ∙ c.in-Ok-open_log.ensures.opened.generation_is honest,
)

pub returns-in-Ok-recovered-clause-rests : goal.returns-in-Ok-recovered-clause-rests
returns-in-Ok-recovered-clause-rests g c = λ honest.
    let rom = c.args.cartridge.now in
    let look = c.at.result in
    let under = g.D.SectorDevice.disk (device_under c.in-Ok-open_log.opened) in
    let stood = ap (λ image. stands rom (content image)) (c.in-Ok-open_log.ensures.looked honest).sectors
    ∙ recovered_stands rom 0 c.snapshot_length.result c.in-Ok-recovered.count (g.D.SectorDevice.disk c.args.device).sectors (seen c.in-Ok-open_log.opened) c.in-Ok-recovered.machine
    (c.in-Ok-open_log.ensures.opened.seen_is honest) c.in-Ok-recovered.ensures.ok in
    subst (λ o. IsAtRest rom (g.D.SectorDevice.disk (device_under o)) (count_of_look look) [] (machine_of_look look)) (sym c.at.ensures.opened)
    (subst (λ (n : ℕ). IsAtRest rom under n [] (machine_of_look look)) (sym c.at.ensures.count.0)
    (subst (λ (m : MachineState). IsAtRest rom under c.in-Ok-recovered.count [] m) (sym c.at.ensures.machine)
    (at_rest_by rom under c.in-Ok-recovered.count c.in-Ok-recovered.machine (c.in-Ok-open_log.ensures.opened.settled honest) stood)))

pub returns-in-Err-recovered-clause-cause : goal.returns-in-Err-recovered-clause-cause
returns-in-Err-recovered-clause-cause g c = λ honest.
    let old = g.D.SectorDevice.disk c.args.device in
    look_cause c.args.cartridge.now (content old.sectors) c.in-Err-recovered.why
    (cause_found c.args.cartridge.now 0 c.snapshot_length.result old.sectors (seen c.in-Ok-open_log.opened) c.in-Err-recovered.why
    c.snapshot_length.ensures.length
    (g.met.D.SectorDevice.images_are_sized c.args.device old.sectors honest (g.met.D.SectorDevice.reads_are_an_image c.args.device honest))
    (c.in-Ok-open_log.ensures.opened.seen_is honest) c.in-Err-recovered.ensures.err)

pub returns-in-Err-recovered-clause-memory : goal.returns-in-Err-recovered-clause-memory
returns-in-Err-recovered-clause-memory g c = λ wanted. inr (λ honest.
    let found = memory_found c.args.cartridge.now 0 c.snapshot_length.result (g.D.SectorDevice.disk c.args.device).sectors (seen c.in-Ok-open_log.opened) (c.in-Ok-open_log.ensures.opened.seen_is honest)
    (subst (λ why. IsRecoveryCause c.args.cartridge.now (seen c.in-Ok-open_log.opened) 0 why) wanted c.in-Err-recovered.ensures.err) in
    record { from = found.0.0; stood = found.0.1 })

pub returns-in-Err-clause-no_report : goal.returns-in-Err-clause-no_report
returns-in-Err-clause-no_report g c = λ output. log_not_output c.in-Err.refused.why (sym c.fault_of.ensures ∙ output)

pub returns-in-Err-recovered-clause-no_report : goal.returns-in-Err-recovered-clause-no_report
returns-in-Err-recovered-clause-no_report g c = recovery_not_output c.args.cartridge.now (seen c.in-Ok-open_log.opened) 0 c.in-Err-recovered.why c.in-Err-recovered.ensures.err

pub returns-in-Ok-recovered-clause-looked : goal.returns-in-Ok-recovered-clause-looked
returns-in-Ok-recovered-clause-looked g c = λ honest.
    subst (λ o. HasLooked (g.D.SectorDevice.disk c.args.device) (g.D.SectorDevice.disk (device_under o))) (sym c.at.ensures.opened) (c.in-Ok-open_log.ensures.looked honest)

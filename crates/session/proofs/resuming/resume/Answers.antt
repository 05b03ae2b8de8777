use Rattle.std.proofs.Common.{◌≡◌, ⊎_elim, inl, inr, ◌≤◌, [], ℕ, length, Some, None, ◌<◌, refl, sym, ap, ◌∙◌, subst}
use Rattle.sha2.specs.Sha256.{sha256}
use Rattle.machine.specs.Machine.{MachineState}
use Rattle.snapshot.specs.Encoding.{encoded, snapshot_length}
use Rattle.cartridge.specs.Header.{ram_length_of}
use Rattle.sector_device.specs.Runs.{HoldsSince}
use Rattle.log_format.specs.Content.{content, generation_in, need}
use Rattle.sector_log.specs.OpenedAccessors.{device_under, found_generation, seen}
use Rattle.snapshot.specs.Legal.{IsMachineOf}
use Rattle.sector_device.specs.Looking.{HasLooked}
use Rattle.session.specs.Stands.{IsAtRest, StandsAsBefore}
use Rattle.session.specs.Found.{IsResumeCause}
use Rattle.session.specs.Beginning.{IsBeginRefusal}
use Rattle.session.specs.Recovery.{IsRecoveryCause}
use Rattle.session.specs.Accessors.{device_of, machine_of, left_by}
use Rattle.session.proofs.Beginnings.{if_ok, if_ok_both, if_err, begun_at_rest, resume_images, looked_resume, looking_wants_memory}
use Rattle.session.proofs.Answering.{answered_then}
use Rattle.session.proofs.Finding.{cause_found, recovered_stands, recovered_machine, recovered_fits, memory_found, begin_cause, begin_not_output, log_not_output, recovery_not_output}
use Rattle.session.proofs.resuming.resume.Goals as goal

pub begin_with-requires-clause-rom : goal.begin_with-requires-clause-rom
begin_with-requires-clause-rom g c = (recovered_machine c.args.cartridge.now c.generation-generation.result c.in-Ok-recovered.count (seen c.in-Ok-open_log.opened) c.in-Ok-recovered.machine c.in-Ok-recovered.ensures.ok).0

pub begin_with-requires-clause-own : goal.begin_with-requires-clause-own
begin_with-requires-clause-own g c = (recovered_machine c.args.cartridge.now c.generation-generation.result c.in-Ok-recovered.count (seen c.in-Ok-open_log.opened) c.in-Ok-recovered.machine c.in-Ok-recovered.ensures.ok).1

pub returns-in-Ok-recovered-clause-begun : goal.returns-in-Ok-recovered-clause-begun
returns-in-Ok-recovered-clause-begun g c =
    if_ok c.begin_with.result c.begin_with.ensures.begun
    (λ s begun. (
      begun.1,
      begun.2,
      ap (λ (m : MachineState). m.processor.memory.banks.rom) begun.3
          ∙ (recovered_machine c.args.cartridge.now c.generation-generation.result c.in-Ok-recovered.count (seen c.in-Ok-open_log.opened) c.in-Ok-recovered.machine c.in-Ok-recovered.ensures.ok).0,
    ))

pub returns-in-Ok-recovered-clause-stands : goal.returns-in-Ok-recovered-clause-stands
returns-in-Ok-recovered-clause-stands g c =
    if_ok c.begin_with.result c.begin_with.ensures.begun
    (λ s begun honest.
    recovered_stands c.args.cartridge.now c.generation-generation.result c.snapshot_length.result c.in-Ok-recovered.count (g.D.SectorDevice.disk c.args.device).sectors (seen c.in-Ok-open_log.opened) c.in-Ok-recovered.machine
    (c.in-Ok-open_log.ensures.opened.seen_is honest) c.in-Ok-recovered.ensures.ok
    ∙ (λ i. Some (record { count = sym begun.0 i; machine = sym begun.3 i })))

pub returns-in-Ok-recovered-clause-rests : goal.returns-in-Ok-recovered-clause-rests
returns-in-Ok-recovered-clause-rests g c =
    if_ok_both c.begin_with.result c.begin_with.ensures.begun c.begin_with.ensures.new
    (λ s begun new honest.
    subst (λ (n : ℕ). IsAtRest c.args.cartridge.now (g.D.SectorDevice.disk (device_of s)) n [] (machine_of s)) (sym begun.0)
    (subst (λ (m : MachineState). IsAtRest c.args.cartridge.now (g.D.SectorDevice.disk (device_of s)) c.in-Ok-recovered.count [] m) (sym begun.3)
    (begun_at_rest c.args.cartridge.now (sha256 c.args.cartridge.now) (encoded c.in-Ok-recovered.machine) c.in-Ok-recovered.machine c.in-Ok-recovered.count
    (g.D.SectorDevice.disk (device_under c.in-Ok-open_log.opened)) (g.D.SectorDevice.disk (device_of s)) c.begin_with.ensures.of c.in-Ok-recovered.ensures.fits refl refl (new (c.in-Ok-open_log.ensures.answered.honest.1 honest)))))

pub returns-in-Ok-recovered-clause-images : goal.returns-in-Ok-recovered-clause-images
returns-in-Ok-recovered-clause-images g c = λ honest.
    resume_images c.args.cartridge.now (g.D.SectorDevice.disk c.args.device) (g.D.SectorDevice.disk (device_under c.in-Ok-open_log.opened)) (g.D.SectorDevice.disk (left_by c.begin_with.result))
    c.in-Ok-recovered.count c.in-Ok-recovered.machine (g.met.D.SectorDevice.reads_are_an_image c.args.device honest) (c.in-Ok-open_log.ensures.looked honest) c.begin_with.ensures.of c.in-Ok-recovered.ensures.fits
    (recovered_stands c.args.cartridge.now c.generation-generation.result c.snapshot_length.result c.in-Ok-recovered.count (g.D.SectorDevice.disk c.args.device).sectors (seen c.in-Ok-open_log.opened) c.in-Ok-recovered.machine
    (c.in-Ok-open_log.ensures.opened.seen_is honest) c.in-Ok-recovered.ensures.ok)
    (c.begin_with.ensures.images (c.in-Ok-open_log.ensures.answered.honest.1 honest))

pub returns-in-Ok-recovered-clause-nothing : goal.returns-in-Ok-recovered-clause-nothing
returns-in-Ok-recovered-clause-nothing g c = λ honest none.
    let stood = recovered_stands c.args.cartridge.now c.generation-generation.result c.snapshot_length.result c.in-Ok-recovered.count (g.D.SectorDevice.disk c.args.device).sectors (seen c.in-Ok-open_log.opened) c.in-Ok-recovered.machine
    (c.in-Ok-open_log.ensures.opened.seen_is honest) c.in-Ok-recovered.ensures.ok in
    let wrong : None ≡ Some (record { count = c.in-Ok-recovered.count; machine = c.in-Ok-recovered.machine }) = sym none ∙ stood in
    absurd (cc)

pub returns-in-Ok-recovered-clause-untouched : goal.returns-in-Ok-recovered-clause-untouched
returns-in-Ok-recovered-clause-untouched g c =
    if_err c.begin_with.result c.begin_with.ensures.untouched
    (λ refused. ⊎_elim inl (λ same. inr (λ honest. subst (λ d. HoldsSince (g.D.SectorDevice.disk c.args.device) (g.D.SectorDevice.disk d) (g.D.SectorDevice.disk c.args.device).image) (sym same) (c.in-Ok-open_log.ensures.looked honest).since)))

pub returns-in-Ok-recovered-clause-cause : goal.returns-in-Ok-recovered-clause-cause
returns-in-Ok-recovered-clause-cause g c =
    if_err c.begin_with.result c.begin_with.ensures.cause
    (λ refused cause honest.
    begin_cause c.args.cartridge.now (generation_in (g.D.SectorDevice.disk c.args.device).sectors) (content (g.D.SectorDevice.disk c.args.device).sectors) (snapshot_length (ram_length_of c.args.cartridge.now)) _ (found_generation c.in-Ok-open_log.opened) refused.why
    (subst (λ (n : ℕ). need (snapshot_length (ram_length_of c.args.cartridge.now)) ≤ n) (sym c.in-Ok-open_log.ensures.answered.count)
    (recovered_fits c.args.cartridge.now c.generation-generation.result c.snapshot_length.result c.in-Ok-recovered.count (g.D.SectorDevice.disk c.args.device).sectors (seen c.in-Ok-open_log.opened) c.in-Ok-recovered.machine
    (g.met.D.SectorDevice.images_are_sized c.args.device (g.D.SectorDevice.disk c.args.device).sectors honest (g.met.D.SectorDevice.reads_are_an_image c.args.device honest))
    (c.in-Ok-open_log.ensures.opened.seen_is honest) c.in-Ok-recovered.ensures.ok))
    (subst (λ (n : ℕ). n < 18446744073709551615) c.generation-generation.ensures.generation c.in-Ok-recovered.ensures.ok.rebuilt.unworn) cause)

pub returns-in-Ok-recovered-clause-answered : goal.returns-in-Ok-recovered-clause-answered
returns-in-Ok-recovered-clause-answered g c = answered_then c.begin_with.result c.in-Ok-open_log.ensures.answered c.begin_with.ensures.answered

pub returns-in-Ok-recovered-clause-can : goal.returns-in-Ok-recovered-clause-can
returns-in-Ok-recovered-clause-can g c =
    if_ok c.begin_with.result c.begin_with.ensures.can
    (λ s can honest. subst (λ (n : ℕ). n < 18446744073709551615) (c.in-Ok-open_log.ensures.opened.generation_is honest) can.unworn)

pub returns-in-Err-recovered-clause-images : goal.returns-in-Err-recovered-clause-images
returns-in-Err-recovered-clause-images g c = λ honest.
    subst (λ d. HoldsSince (g.D.SectorDevice.disk c.args.device) (g.D.SectorDevice.disk d) (StandsAsBefore c.args.cartridge.now (g.D.SectorDevice.disk c.args.device))) (sym c.into_device.ensures)
    (looked_resume c.args.cartridge.now (g.D.SectorDevice.disk c.args.device) (g.D.SectorDevice.disk (device_under c.in-Ok-open_log.opened)) (c.in-Ok-open_log.ensures.looked honest))

pub returns-in-Err-recovered-clause-cause : goal.returns-in-Err-recovered-clause-cause
returns-in-Err-recovered-clause-cause g c = λ honest.
    subst (λ (n : ℕ). IsResumeCause c.args.cartridge.now n (content (g.D.SectorDevice.disk c.args.device).sectors) c.in-Err-recovered.why) (c.generation-generation.ensures.generation ∙ c.in-Ok-open_log.ensures.opened.generation_is honest)
    (cause_found c.args.cartridge.now c.generation-generation.result c.snapshot_length.result (g.D.SectorDevice.disk c.args.device).sectors (seen c.in-Ok-open_log.opened) c.in-Err-recovered.why
    c.snapshot_length.ensures.length
    (g.met.D.SectorDevice.images_are_sized c.args.device (g.D.SectorDevice.disk c.args.device).sectors honest (g.met.D.SectorDevice.reads_are_an_image c.args.device honest))
    (c.in-Ok-open_log.ensures.opened.seen_is honest) c.in-Err-recovered.ensures.err)

pub returns-in-Ok-recovered-clause-kept : goal.returns-in-Ok-recovered-clause-kept
returns-in-Ok-recovered-clause-kept g c =
    if_err c.begin_with.result c.begin_with.ensures.untouched
    (λ refused. ⊎_elim inl (λ same. inr (λ honest. subst (λ d. (g.D.SectorDevice.disk d).sectors ≡ (g.D.SectorDevice.disk c.args.device).sectors) (sym same) (c.in-Ok-open_log.ensures.looked honest).sectors)))

pub returns-in-Ok-recovered-clause-of : goal.returns-in-Ok-recovered-clause-of
returns-in-Ok-recovered-clause-of g c =
    if_ok c.begin_with.result c.begin_with.ensures.begun
    (λ s begun. subst (λ (m : MachineState). IsMachineOf c.args.cartridge.now m) (sym begun.3) c.begin_with.ensures.of)

-- ---- where memory and a failed call come in the order of causes

pub returns-in-Err-clause-memory : goal.returns-in-Err-clause-memory
returns-in-Err-clause-memory g c = λ wanted. inl (looking_wants_memory c.in-Err.refused.why c.in-Err.ensures.cause (sym c.fault_of.ensures ∙ wanted))

pub returns-in-Err-clause-failed : goal.returns-in-Err-clause-failed
returns-in-Err-clause-failed g c = λ failed honest. inl (c.in-Err.ensures.looked honest)

pub returns-in-Err-recovered-clause-memory : goal.returns-in-Err-recovered-clause-memory
returns-in-Err-recovered-clause-memory g c = λ wanted. inr (λ honest.
    let opened = c.in-Ok-open_log.opened in
    let found = memory_found c.args.cartridge.now c.generation-generation.result c.snapshot_length.result (g.D.SectorDevice.disk c.args.device).sectors (seen opened) (c.in-Ok-open_log.ensures.opened.seen_is honest)
    (subst (λ why. IsRecoveryCause c.args.cartridge.now (seen opened) c.generation-generation.result why) wanted c.in-Err-recovered.ensures.err) in
    record {
      from = found.0.0;
      stood = found.0.1;
      unworn = subst (λ (n : ℕ). n < 18446744073709551615) (c.generation-generation.ensures.generation ∙ c.in-Ok-open_log.ensures.opened.generation_is honest) found.1;
    })

pub returns-in-Err-recovered-clause-failed : goal.returns-in-Err-recovered-clause-failed
returns-in-Err-recovered-clause-failed g c = λ failed honest.
    inl (subst (λ d. HasLooked (g.D.SectorDevice.disk c.args.device) (g.D.SectorDevice.disk d)) (sym c.into_device.ensures) (c.in-Ok-open_log.ensures.looked honest))

pub returns-in-Ok-recovered-clause-memory : goal.returns-in-Ok-recovered-clause-memory
returns-in-Ok-recovered-clause-memory g c =
    if_err c.begin_with.result c.begin_with.ensures.cause
    (λ refused cause wanted.
    absurd (subst (λ why. IsBeginRefusal why (snapshot_length (ram_length_of c.args.cartridge.now)) (length (g.D.SectorDevice.disk (device_under c.in-Ok-open_log.opened)).sectors) (found_generation c.in-Ok-open_log.opened)) wanted cause))

pub returns-in-Ok-recovered-clause-failed : goal.returns-in-Ok-recovered-clause-failed
returns-in-Ok-recovered-clause-failed g c =
    if_err c.begin_with.result c.begin_with.ensures.cause
    (λ refused cause failed honest. inr (record {
      from = record { count = c.in-Ok-recovered.count; machine = c.in-Ok-recovered.machine };
      stood = recovered_stands c.args.cartridge.now c.generation-generation.result c.snapshot_length.result c.in-Ok-recovered.count (g.D.SectorDevice.disk c.args.device).sectors (seen c.in-Ok-open_log.opened) c.in-Ok-recovered.machine
          (c.in-Ok-open_log.ensures.opened.seen_is honest) c.in-Ok-recovered.ensures.ok;
      unworn = subst (λ (n : ℕ). n < 18446744073709551615) (c.generation-generation.ensures.generation ∙ c.in-Ok-open_log.ensures.opened.generation_is honest) c.in-Ok-recovered.ensures.ok.rebuilt.unworn;
    }))

-- ---- no report is written

pub returns-in-Err-clause-no_report : goal.returns-in-Err-clause-no_report
returns-in-Err-clause-no_report g c = λ output. log_not_output c.in-Err.refused.why (sym c.fault_of.ensures ∙ output)

pub returns-in-Err-recovered-clause-no_report : goal.returns-in-Err-recovered-clause-no_report
returns-in-Err-recovered-clause-no_report g c =
    recovery_not_output c.args.cartridge.now (seen c.in-Ok-open_log.opened) c.generation-generation.result c.in-Err-recovered.why c.in-Err-recovered.ensures.err

pub returns-in-Ok-recovered-clause-no_report : goal.returns-in-Ok-recovered-clause-no_report
returns-in-Ok-recovered-clause-no_report g c = if_err c.begin_with.result c.begin_with.ensures.cause (λ refused. begin_not_output _ _ _ refused.why)

pub returns-in-Ok-recovered-clause-saved : goal.returns-in-Ok-recovered-clause-saved
returns-in-Ok-recovered-clause-saved g c =
    if_ok_both c.begin_with.result c.begin_with.ensures.begun c.begin_with.ensures.saved
    (λ s begun saved. saved ∙ (λ i. record { count = sym begun.0 i; machine = sym begun.3 i }))

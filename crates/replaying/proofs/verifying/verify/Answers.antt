use Rattle.std.proofs.Common.{◌≡◌, ℕ, List, Some, sym, subst}
use Rattle.sector_device.specs.DiskState.{HasAnswered}
use Rattle.sector_device.specs.Looking.{HasLooked}
use Rattle.sector_device.proofs.Looking.{has_looked, looked_then}
use Rattle.input_entries.specs.Inputs.{inputs}
use Rattle.recording.specs.Calls.{IsOpenCause}
use Rattle.recording.specs.Accessors.{device_of}
use Rattle.recording.specs.Recorded.{entries, recorded}
use Rattle.session.specs.Stands.{Position}
use Rattle.session.specs.LookAccessors.{machine_of_look, count_of_look}
use Rattle.session.proofs.Answering.{answered_then}
use Rattle.session.proofs.Beginnings.{if_ok_both, if_err}
use Rattle.replaying.specs.Replayed.{LeadsWithin, IsCompareCauseWithin}
use Rattle.replaying.specs.Verifying.{save_faults_after, recording_faults_after}
use Rattle.replaying.proofs.Looking.{looks_only}
use Rattle.replaying.proofs.Verdicts.{verified, compare_cause, answered_save, of_verifying, look_lacks, open_lacks, compared_lacks}
use Rattle.replaying.proofs.verifying.verify.Goals as goal

pub returns-in-Err-open_recording-clause-cause : goal.returns-in-Err-open_recording-clause-cause
returns-in-Err-open_recording-clause-cause g c = λ save_honest honest. (
  (record { count = count_of_look c.in-Ok.look; machine = machine_of_look c.in-Ok.look }, c.in-Ok.ensures.stands save_honest),
  subst (λ (id : List ℕ). IsOpenCause c.in-Err-open_recording.refused.why id (g.D.SectorDevice.disk c.args.recording)) c.digest.ensures c.in-Err-open_recording.ensures.cause,
)

pub returns-in-Err-clause-memory : goal.returns-in-Err-clause-memory
returns-in-Err-clause-memory g c = look_lacks g.S.SectorDevice.disk (g.D.SectorDevice.disk c.args.recording) c.in-Err.refused.why c.in-Err.ensures.memory

pub returns-in-Err-open_recording-clause-memory : goal.returns-in-Err-open_recording-clause-memory
returns-in-Err-open_recording-clause-memory g c = open_lacks g.D.SectorDevice.disk c.args.cartridge.now (g.S.SectorDevice.disk c.args.save) _ c.in-Err-open_recording.refused.why c.in-Err-open_recording.ensures.memory c.in-Ok.ensures.stands

pub returns-clause-memory : goal.returns-clause-memory
returns-clause-memory g c =
    let opened = g.D.SectorDevice.disk (device_of c.in-Ok-open_recording.recording) in
    compared_lacks c.args.cartridge.now (g.S.SectorDevice.disk c.args.save) _ (g.D.SectorDevice.disk c.args.recording) _ opened (inputs (entries opened.sectors)) (count_of_look c.in-Ok.look) (machine_of_look c.in-Ok.look) c.args.limits c.compare_within-answer.result c.compare_within-answer.ensures.kind c.compare_within-answer.ensures.cause c.in-Ok-open_recording.ensures.answered.honest.1

pub returns-clause-ok : goal.returns-clause-ok
returns-clause-ok g c =
    if_ok_both c.compare_within-answer.result c.compare_within-answer.ensures.count c.compare_within-answer.ensures.leads
    (λ count is leads save_honest honest.
    let at : Position = record { count = count_of_look c.in-Ok.look; machine = machine_of_look c.in-Ok.look } in
    let old = (g.D.SectorDevice.disk c.args.recording).sectors in
    let held = subst (λ (id : List ℕ). recorded id old ≡ Some (inputs (entries old))) c.digest.ensures (c.in-Ok-open_recording.ensures.opened.recorded_is honest) in
    let here = subst (λ (image : List (List ℕ)). LeadsWithin c.args.limits c.args.cartridge.now (inputs (entries image)) at.count at.machine) (c.in-Ok-open_recording.ensures.looked honest).sectors (leads (c.in-Ok-open_recording.ensures.answered.honest.1 honest)) in
    verified c.args.limits c.args.cartridge.now (g.S.SectorDevice.disk c.args.save).sectors old at (inputs (entries old)) count (c.in-Ok.ensures.stands save_honest) held is here)

pub returns-clause-cause : goal.returns-clause-cause
returns-clause-cause g c =
    if_err c.compare_within-answer.result c.compare_within-answer.ensures.cause
    (λ why cause save_honest honest.
    let at : Position = record { count = count_of_look c.in-Ok.look; machine = machine_of_look c.in-Ok.look } in
    let old = (g.D.SectorDevice.disk c.args.recording).sectors in
    let held = subst (λ (id : List ℕ). recorded id old ≡ Some (inputs (entries old))) c.digest.ensures (c.in-Ok-open_recording.ensures.opened.recorded_is honest) in
    let here = subst (λ (image : List (List ℕ)). IsCompareCauseWithin c.args.limits c.args.cartridge.now (inputs (entries image)) at.count at.machine why) (c.in-Ok-open_recording.ensures.looked honest).sectors (cause (c.in-Ok-open_recording.ensures.answered.honest.1 honest)) in
    compare_cause c.args.limits c.args.cartridge.now (g.S.SectorDevice.disk c.args.save) (g.D.SectorDevice.disk c.args.recording) at (inputs (entries old)) why (c.in-Ok.ensures.stands save_honest) held here)

pub returns-clause-looked_recording : goal.returns-clause-looked_recording
returns-clause-looked_recording g c = λ honest.
    let first = c.in-Ok-open_recording.ensures.looked honest in
    let second = c.compare_within-answer.ensures.looked (c.in-Ok-open_recording.ensures.answered.honest.1 honest) in
    subst (λ d. HasLooked (g.D.SectorDevice.disk c.args.recording) (g.D.SectorDevice.disk d)) (sym c.into_device-3.ensures)
    (has_looked (g.met.D.SectorDevice.only_now c.args.recording) (looked_then (looks_only first) (looks_only second)))

pub returns-clause-answered_save : goal.returns-clause-answered_save
returns-clause-answered_save g c =
    subst (λ d. HasAnswered save_faults_after (g.S.SectorDevice.disk c.args.save) (g.S.SectorDevice.disk d) c.compare_within-answer.result) (sym c.into_device-2.ensures.device)
    (answered_save c.args.limits c.compare_within-answer.result c.compare_within-answer.ensures.kind c.in-Ok.ensures.answered)

pub returns-clause-answered_recording : goal.returns-clause-answered_recording
returns-clause-answered_recording g c =
    subst (λ d. HasAnswered recording_faults_after (g.D.SectorDevice.disk c.args.recording) (g.D.SectorDevice.disk d) c.compare_within-answer.result) (sym c.into_device-3.ensures)
    (answered_then c.compare_within-answer.result c.in-Ok-open_recording.ensures.answered c.compare_within-answer.ensures.answered)

pub returns-clause-kind : goal.returns-clause-kind
returns-clause-kind g c = of_verifying c.args.limits c.compare_within-answer.result c.compare_within-answer.ensures.kind

use Rattle.std.proofs.Common.{◌≡◌, ℕ, List, Some, Ok, Err, refl, sym, ap, ◌∙◌, subst}
use Rattle.std.specs.Io.KnownBytes.{Appends}
use Rattle.sha2.specs.Sha256.{sha256}
use Rattle.sector_device.specs.DiskState.{HasAnswered}
use Rattle.sector_device.specs.Looking.{HasLooked}
use Rattle.input_entries.specs.Inputs.{inputs}
use Rattle.recording.specs.Recorded.{recorded, entries}
use Rattle.replaying.specs.Writing.{IsWriteCause, WritesPart, script_in}
use Rattle.session.proofs.Answering.{answered_both, answered_refused}
use Rattle.commands.specs.Recorded.{IsScriptCause}
use Rattle.commands.specs.Refusals.{faults_after}
use Rattle.commands.proofs.Causes.{looked_both, not_written, script_faults, script_output}
use Rattle.commands.proofs.recorded.recorded_lines.Goals as goal

pub returns-in-Ok-written-clause-script : goal.returns-in-Ok-written-clause-script
returns-in-Ok-written-clause-script g c = λ honest.
    let sectors = (g.D.SectorDevice.disk c.args.device).sectors in
    let looked = c.in-Ok-open_recording.ensures.looked honest in
    record {
      of_rom = subst (λ (id : List ℕ). recorded id sectors ≡ Some (inputs (entries sectors))) (c.digest.ensures ∙ ap sha256 c.in-Ok.ensures.image) (c.in-Ok-open_recording.ensures.opened.recorded_is honest);
      written = subst (λ (s : List (List ℕ)). Appends (g.W.Output.contents c.args.out.now) (g.W.Output.contents c.write_recorded-written.new.out) (script_in s)) looked.sectors
          (c.in-Ok-written.ensures.script looked.honest);
    }

pub returns-in-Ok-written-clause-answered : goal.returns-in-Ok-written-clause-answered
returns-in-Ok-written-clause-answered g c =
    subst (λ (d : g.row.D.Denot). HasAnswered (λ refused. faults_after refused.why) (g.D.SectorDevice.disk c.args.device) (g.D.SectorDevice.disk d) (Ok c.into_device-device.result))
    (sym c.into_device-device.ensures) (answered_both c.in-Ok-open_recording.ensures.answered c.in-Ok-written.ensures.answered)

pub returns-clause-cause : goal.returns-clause-cause
returns-clause-cause g c =
    let disk = g.D.SectorDevice.disk c.args.device in
    let before = g.W.Output.contents c.args.out.now in
    let since = g.W.Output.contents c.write_recorded-written.new.out in
    let why = c.in-Err-written.why in
    subst (IsScriptCause c.args.rom.items disk before since) (sym c.error_of.ensures)
    (not_written why c.args.rom.items disk before since (c.in-Ok.ensures.accepted.0 refl) (subst (IsWriteCause why) c.in-Ok-open_recording.ensures.opened.unbroken c.in-Err-written.ensures.cause)
    (λ honest.
    let looked = c.in-Ok-open_recording.ensures.looked honest in
    subst (λ (s : List (List ℕ)). WritesPart why before since (script_in s)) looked.sectors (c.in-Err-written.ensures.part looked.honest)))

pub returns-clause-output : goal.returns-clause-output
returns-clause-output g c = λ output. c.in-Err-written.ensures.output (script_output c.in-Err-written.why (sym c.error_of.ensures ∙ output))

pub returns-clause-answered : goal.returns-clause-answered
returns-clause-answered g c =
    subst (λ (d : g.row.D.Denot). HasAnswered (λ refused. faults_after refused.why) (g.D.SectorDevice.disk c.args.device) (g.D.SectorDevice.disk d) (Err (record { why = c.error_of.result; device = c.into_device-device.result })))
    (sym c.into_device-device.ensures)
    (answered_refused c.in-Ok-open_recording.ensures.answered c.in-Err-written.ensures.answered (λ (n : ℕ). script_faults c.in-Err-written.why n ∙ ap (λ why. faults_after why n) (sym c.error_of.ensures)))

pub returns-in-Ok-written-clause-looked : goal.returns-in-Ok-written-clause-looked
returns-in-Ok-written-clause-looked g c = λ honest.
    let looked = c.in-Ok-open_recording.ensures.looked honest in
    subst (λ (d : g.row.D.Denot). HasLooked (g.D.SectorDevice.disk c.args.device) (g.D.SectorDevice.disk d)) (sym c.into_device-device.ensures)
    (looked_both (g.met.D.SectorDevice.only_now c.args.device) looked (c.in-Ok-written.ensures.looked looked.honest))

pub returns-clause-looked : goal.returns-clause-looked
returns-clause-looked g c = λ honest.
    let looked = c.in-Ok-open_recording.ensures.looked honest in
    subst (λ (d : g.row.D.Denot). HasLooked (g.D.SectorDevice.disk c.args.device) (g.D.SectorDevice.disk d)) (sym c.into_device-device.ensures)
    (looked_both (g.met.D.SectorDevice.only_now c.args.device) looked (c.in-Err-written.ensures.looked looked.honest))

use Rattle.std.proofs.Common.{◌≡◌, ap, length, refl, subst, sym, arith, Ok, Err, ℕ, List}
use Rattle.machine.specs.Machine.{MachineState}
use Rattle.snapshot.specs.Legal.{IsMachineOf}
use Rattle.sector_device.specs.DiskState.{HasAnswered}
use Rattle.sector_device.specs.Runs.{HoldsSince}
use Rattle.session.specs.Stands.{Position, StandsAsBefore}
use Rattle.session.specs.Accessors.{acknowledged_of, device_of, machine_of}
use Rattle.session.specs.declared.session.Counts.{Counts}
use Rattle.session.proofs.Answering.{answered_otherwise, answered_value}
use Rattle.playing.proofs.Telling.{keeps_same, memory_at}
use Rattle.debugging.specs.Debugged.{Exchange}
use Rattle.commands.specs.Debug.{HasDebugged, IsDebugGameCause}
use Rattle.commands.specs.Refusals.{faults_after}
use Rattle.commands.proofs.Begun.{debugged_as, game_cause, lines_only, not_debugged_as, not_taken_up, taken_up}
use Rattle.commands.proofs.debug.debug_game.Goals as goal

pub returns-in-Ok-debugged-clause-debugged : goal.returns-in-Ok-debugged-clause-debugged
returns-in-Ok-debugged-clause-debugged g c =
    let s = c.in-Ok-resume.session in
    let from : Position = record { count = acknowledged_of s; machine = machine_of s } in
    let io : Exchange = record { unread = g.R.LineInput.remaining c.args.input.now; left = g.R.LineInput.remaining c.debug_machine-debugged.new.input; before = g.W.Output.contents c.args.out.now; since = g.W.Output.contents c.debug_machine-debugged.new.out } in
    let all_is : c.counts-inputs.result.all ≡ acknowledged_of s = omega (arith, ap (λ (n : Counts). n.all) c.counts-inputs.ensures, ap length c.in-Ok-resume.ensures.begun.0) in
    subst (λ (d : g.row.D.Denot). HasDebugged c.args.rom.items (g.D.SectorDevice.disk c.args.device) (g.D.SectorDevice.disk d) io)
    (sym c.into_device-device.ensures.device)
    (record {
      from = from;
      taken_up = taken_up c.args.rom.items c.in-Ok.cartridge (g.D.SectorDevice.disk c.args.device) (g.D.SectorDevice.disk (device_of s)) from c.in-Ok.ensures.image
          (subst (λ (m : MachineState). IsMachineOf c.in-Ok.cartridge m) c.machine.ensures.machine c.in-Ok-debugged.ensures.ok.0)
          c.in-Ok-resume.ensures.stands c.in-Ok-resume.ensures.rests;
      debugged = debugged_as c.counts-inputs.result.all (acknowledged_of s) _ (machine_of s) io all_is c.machine.ensures.machine c.in-Ok-debugged.ensures.ok.1;
    })

pub returns-clause-cause : goal.returns-clause-cause
returns-clause-cause g c =
    let s = c.in-Ok-resume.session in
    let from : Position = record { count = acknowledged_of s; machine = machine_of s } in
    let io : Exchange = record { unread = g.R.LineInput.remaining c.args.input.now; left = g.R.LineInput.remaining c.debug_machine-debugged.new.input; before = g.W.Output.contents c.args.out.now; since = g.W.Output.contents c.debug_machine-debugged.new.out } in
    let all_is : c.counts-inputs.result.all ≡ acknowledged_of s = omega (arith, ap (λ (n : Counts). n.all) c.counts-inputs.ensures, ap length c.in-Ok-resume.ensures.begun.0) in
    subst (λ (d : g.row.D.Denot). IsDebugGameCause c.args.rom.items (g.D.SectorDevice.disk c.args.device) (g.D.SectorDevice.disk d) io c.in-Err-debugged.why)
    (sym c.into_device-device.ensures.device)
    (game_cause c.args.rom.items c.in-Ok.cartridge (g.D.SectorDevice.disk c.args.device) (g.D.SectorDevice.disk (device_of s)) from io c.in-Err-debugged.why (c.in-Ok.ensures.accepted.0 refl)
    (λ of. taken_up c.args.rom.items c.in-Ok.cartridge (g.D.SectorDevice.disk c.args.device) (g.D.SectorDevice.disk (device_of s)) from c.in-Ok.ensures.image of
    c.in-Ok-resume.ensures.stands c.in-Ok-resume.ensures.rests)
    (not_debugged_as c.in-Ok.cartridge c.counts-inputs.result.all (acknowledged_of s) _ (machine_of s) io c.in-Err-debugged.why all_is c.machine.ensures.machine c.in-Err-debugged.ensures.err))

pub returns-in-Err-resume-clause-cause : goal.returns-in-Err-resume-clause-cause
returns-in-Err-resume-clause-cause g c =
    let refused = c.in-Err-resume.ensures in
    not_taken_up c.args.rom.items c.in-Ok.cartridge (g.D.SectorDevice.disk c.args.device) (g.D.SectorDevice.disk c.in-Err-resume.refused.device) c.in-Err-resume.refused.why
    (g.R.LineInput.remaining c.args.input.now) (g.W.Output.contents c.args.out.now) c.in-Ok.ensures.image (c.in-Ok.ensures.accepted.0 refl)
    (record { cause = refused.cause; report = keeps_same (g.W.Output.contents c.args.out.now); images = refused.images; untouched = refused.untouched; memory = memory_at (g.D.SectorDevice.disk) refused.memory; failed = refused.failed; no_report = refused.no_report })

pub returns-clause-answered : goal.returns-clause-answered
returns-clause-answered g c =
    subst (λ (d : g.row.D.Denot). HasAnswered (λ refused. faults_after refused.why) (g.D.SectorDevice.disk c.args.device) (g.D.SectorDevice.disk d) (Err (record { why = c.in-Err-debugged.why; device = c.into_device-device.result })))
    (sym c.into_device-device.ensures.device)
    (answered_otherwise c.in-Ok-resume.ensures.answered (λ n. lines_only c.in-Ok.cartridge _ _ _ c.in-Err-debugged.why n c.in-Err-debugged.ensures.err))

pub returns-in-Ok-debugged-clause-images : goal.returns-in-Ok-debugged-clause-images
returns-in-Ok-debugged-clause-images g c = λ honest.
    let disk = g.D.SectorDevice.disk c.args.device in
    subst (λ (d : g.row.D.Denot). HoldsSince disk (g.D.SectorDevice.disk d) (StandsAsBefore c.args.rom.items disk)) (sym c.into_device-device.ensures.device)
    (subst (λ (rom : List ℕ). HoldsSince disk (g.D.SectorDevice.disk (device_of c.in-Ok-resume.session)) (StandsAsBefore rom disk)) c.in-Ok.ensures.image (c.in-Ok-resume.ensures.images honest))

pub returns-clause-images : goal.returns-clause-images
returns-clause-images g c = λ honest.
    let disk = g.D.SectorDevice.disk c.args.device in
    subst (λ (d : g.row.D.Denot). HoldsSince disk (g.D.SectorDevice.disk d) (StandsAsBefore c.args.rom.items disk)) (sym c.into_device-device.ensures.device)
    (subst (λ (rom : List ℕ). HoldsSince disk (g.D.SectorDevice.disk (device_of c.in-Ok-resume.session)) (StandsAsBefore rom disk)) c.in-Ok.ensures.image (c.in-Ok-resume.ensures.images honest))

pub returns-in-Ok-debugged-clause-answered : goal.returns-in-Ok-debugged-clause-answered
returns-in-Ok-debugged-clause-answered g c =
    subst (λ (d : g.row.D.Denot). HasAnswered (λ refused. faults_after refused.why) (g.D.SectorDevice.disk c.args.device) (g.D.SectorDevice.disk d) (Ok c.into_device-device.result))
    (sym c.into_device-device.ensures.device) (answered_value c.in-Ok-resume.ensures.answered)

use Rattle.std.proofs.Common.{◌≡◌, ap, length, refl, subst, sym, arith, ℕ}
use Rattle.std.specs.Io.KnownBytes.{Appends}
use Rattle.machine.specs.Machine.{MachineState}
use Rattle.snapshot.specs.Legal.{IsMachineOf}
use Rattle.session.specs.Stands.{Position}
use Rattle.session.specs.Accessors.{acknowledged_of, device_of, machine_of}
use Rattle.session.specs.declared.session.Counts.{Counts}
use Rattle.commands.specs.Trace.{HasTraced, IsTraceCause, IsUntraced, trace_text}
use Rattle.commands.proofs.Begun.{taken_up}
use Rattle.commands.proofs.Traces.{trace_cause}
use Rattle.std.proofs.Common.{Ok, Err}
use Rattle.sector_device.specs.DiskState.{HasAnswered}
use Rattle.session.proofs.Answering.{answered_error, answered_otherwise, answered_refusal, answered_value}
use Rattle.commands.specs.Refusals.{faults_after}
use Rattle.commands.proofs.Traces.{not_taken_up, text_only}
use Rattle.playing.proofs.Telling.{keeps_same, memory_at}
use Rattle.commands.proofs.trace.trace_lines.Goals as goal

pub returns-in-Ok-written-clause-traced : goal.returns-in-Ok-written-clause-traced
returns-in-Ok-written-clause-traced g c =
    let s = c.in-Ok-resume.session in
    let from : Position = record { count = acknowledged_of s; machine = machine_of s } in
    let all_is : c.counts-inputs.result.all ≡ acknowledged_of s = omega (arith, ap (λ (n : Counts). n.all) c.counts-inputs.ensures, ap length c.in-Ok-resume.ensures.begun.0) in
    subst (λ (d : g.row.D.Denot). HasTraced c.args.rom.items (g.D.SectorDevice.disk c.args.device) (g.D.SectorDevice.disk d) c.args.count (g.W.Output.contents c.args.out.now) (g.W.Output.contents c.write_trace-written.new.out))
    (sym c.into_device-device.ensures.device)
    (record {
      from = from;
      taken_up = taken_up c.args.rom.items c.in-Ok.cartridge (g.D.SectorDevice.disk c.args.device) (g.D.SectorDevice.disk (device_of s)) from c.in-Ok.ensures.image
          (subst (λ (m : MachineState). IsMachineOf c.in-Ok.cartridge m) c.machine.ensures.machine c.in-Ok-written.ensures.ok.0)
          c.in-Ok-resume.ensures.stands c.in-Ok-resume.ensures.rests;
      written = subst (λ (n : ℕ). Appends (g.W.Output.contents c.args.out.now) (g.W.Output.contents c.write_trace-written.new.out) (trace_text n (machine_of s) c.args.count)) all_is
          (subst (λ (m : MachineState). Appends (g.W.Output.contents c.args.out.now) (g.W.Output.contents c.write_trace-written.new.out) (trace_text c.counts-inputs.result.all m c.args.count)) c.machine.ensures.machine c.in-Ok-written.ensures.ok.1);
    })

pub returns-clause-cause : goal.returns-clause-cause
returns-clause-cause g c =
    let s = c.in-Ok-resume.session in
    let from : Position = record { count = acknowledged_of s; machine = machine_of s } in
    let all_is : c.counts-inputs.result.all ≡ acknowledged_of s = omega (arith, ap (λ (n : Counts). n.all) c.counts-inputs.ensures, ap length c.in-Ok-resume.ensures.begun.0) in
    subst (λ (d : g.row.D.Denot). IsTraceCause c.args.rom.items c.args.count (record { old = g.D.SectorDevice.disk c.args.device; now = g.D.SectorDevice.disk d; output = record { before = g.W.Output.contents c.args.out.now; since = g.W.Output.contents c.write_trace-written.new.out } }) c.in-Err-written.why)
    (sym c.into_device-device.ensures.device)
    (trace_cause c.args.rom.items c.in-Ok.cartridge c.args.count (g.D.SectorDevice.disk c.args.device) (g.D.SectorDevice.disk (device_of s)) from
    (g.W.Output.contents c.args.out.now) (g.W.Output.contents c.write_trace-written.new.out) c.in-Err-written.why (c.in-Ok.ensures.accepted.0 refl)
    (λ of. taken_up c.args.rom.items c.in-Ok.cartridge (g.D.SectorDevice.disk c.args.device) (g.D.SectorDevice.disk (device_of s)) from c.in-Ok.ensures.image of
    c.in-Ok-resume.ensures.stands c.in-Ok-resume.ensures.rests)
    (subst (λ (n : ℕ). IsUntraced c.in-Ok.cartridge (machine_of s) (trace_text n (machine_of s) c.args.count) (g.W.Output.contents c.args.out.now) (g.W.Output.contents c.write_trace-written.new.out) c.in-Err-written.why) all_is
    (subst (λ (m : MachineState). IsUntraced c.in-Ok.cartridge m (trace_text c.counts-inputs.result.all m c.args.count) (g.W.Output.contents c.args.out.now) (g.W.Output.contents c.write_trace-written.new.out) c.in-Err-written.why) c.machine.ensures.machine c.in-Err-written.ensures.err)))

pub returns-in-Err-resume-clause-cause : goal.returns-in-Err-resume-clause-cause
returns-in-Err-resume-clause-cause g c =
    let refused = c.in-Err-resume.ensures in
    not_taken_up c.args.rom.items c.in-Ok.cartridge c.args.count (g.D.SectorDevice.disk c.args.device) (g.D.SectorDevice.disk c.in-Err-resume.refused.device) c.in-Err-resume.refused.why
    (g.W.Output.contents c.args.out.now) c.in-Ok.ensures.image (c.in-Ok.ensures.accepted.0 refl)
    (record { cause = refused.cause; report = keeps_same (g.W.Output.contents c.args.out.now); images = refused.images; untouched = refused.untouched; memory = memory_at (g.D.SectorDevice.disk) refused.memory; failed = refused.failed; no_report = refused.no_report })

pub returns-in-Err-clause-answered : goal.returns-in-Err-clause-answered
returns-in-Err-clause-answered g c = answered_refusal (λ n. refl)

pub returns-in-Err-resume-clause-answered : goal.returns-in-Err-resume-clause-answered
returns-in-Err-resume-clause-answered g c = answered_error c.in-Err-resume.ensures.answered (λ n. refl)

pub returns-in-Ok-written-clause-answered : goal.returns-in-Ok-written-clause-answered
returns-in-Ok-written-clause-answered g c =
    subst (λ (d : g.row.D.Denot). HasAnswered (λ refused. faults_after refused.why) (g.D.SectorDevice.disk c.args.device) (g.D.SectorDevice.disk d) (Ok c.into_device-device.result))
    (sym c.into_device-device.ensures.device) (answered_value c.in-Ok-resume.ensures.answered)

pub returns-clause-answered : goal.returns-clause-answered
returns-clause-answered g c =
    subst (λ (d : g.row.D.Denot). HasAnswered (λ refused. faults_after refused.why) (g.D.SectorDevice.disk c.args.device) (g.D.SectorDevice.disk d) (Err (record { why = c.in-Err-written.why; device = c.into_device-device.result })))
    (sym c.into_device-device.ensures.device)
    (answered_otherwise c.in-Ok-resume.ensures.answered (λ n. text_only c.in-Ok.cartridge _ _ _ _ c.in-Err-written.why n c.in-Err-written.ensures.err))

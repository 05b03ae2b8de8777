use Rattle.std.proofs.Common.{subst, sym}
use Rattle.command_line.specs.declared.Request.{Request}
use Rattle.gbkeep.specs.Program.{IsServedReading}
use Rattle.gbkeep.proofs.Serving.{import_served, new_recording_served, new_served, trace_served}
use Rattle.gbkeep.proofs.program.serve.Goals as goal

pub returns-in-New-clause-served : goal.returns-in-New-clause-served
returns-in-New-clause-served g c =
    subst (λ (request : Request). IsServedReading request c.new.result (record { before = g.I.LineInput.remaining c.args.input.now; since = g.I.LineInput.remaining c.args.input.now }) (record { before = g.O.Output.contents c.args.out.now; since = g.O.Output.contents c.new.new.out })) (sym c.in-New.is)
    (new_served (g.I.LineInput.remaining c.args.input.now) (g.O.Output.contents c.args.out.now) (g.O.Output.contents c.new.new.out) c.in-New.cart c.in-New.save c.in-New.sectors c.new.result c.new.ensures.served)

pub returns-in-Trace-clause-served : goal.returns-in-Trace-clause-served
returns-in-Trace-clause-served g c =
    subst (λ (request : Request). IsServedReading request c.trace.result (record { before = g.I.LineInput.remaining c.args.input.now; since = g.I.LineInput.remaining c.args.input.now }) (record { before = g.O.Output.contents c.args.out.now; since = g.O.Output.contents c.trace.new.out })) (sym c.in-Trace.is)
    (trace_served (g.I.LineInput.remaining c.args.input.now) (g.O.Output.contents c.args.out.now) (g.O.Output.contents c.trace.new.out) c.in-Trace.cart c.in-Trace.save c.in-Trace.count c.trace.result c.trace.ensures.served)

pub returns-in-NewRecording-clause-served : goal.returns-in-NewRecording-clause-served
returns-in-NewRecording-clause-served g c =
    subst (λ (request : Request). IsServedReading request c.new_recording.result (record { before = g.I.LineInput.remaining c.args.input.now; since = g.I.LineInput.remaining c.args.input.now }) (record { before = g.O.Output.contents c.args.out.now; since = g.O.Output.contents c.new_recording.new.out })) (sym c.in-NewRecording.is)
    (new_recording_served (g.I.LineInput.remaining c.args.input.now) (g.O.Output.contents c.args.out.now) (g.O.Output.contents c.new_recording.new.out) c.in-NewRecording.cart c.in-NewRecording.recording c.in-NewRecording.sectors c.new_recording.result c.new_recording.ensures.served)

pub returns-in-Import-clause-served : goal.returns-in-Import-clause-served
returns-in-Import-clause-served g c =
    subst (λ (request : Request). IsServedReading request c.import.result (record { before = g.I.LineInput.remaining c.args.input.now; since = g.I.LineInput.remaining c.args.input.now }) (record { before = g.O.Output.contents c.args.out.now; since = g.O.Output.contents c.import.new.out })) (sym c.in-Import.is)
    (import_served (g.I.LineInput.remaining c.args.input.now) (g.O.Output.contents c.args.out.now) (g.O.Output.contents c.import.new.out) c.in-Import.cart c.in-Import.battery c.in-Import.save c.in-Import.sectors c.import.result c.import.ensures.served)

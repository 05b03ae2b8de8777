use Rattle.std.proofs.Common.{◌∙◌, sym, subst, List}
use Rattle.sector_device.specs.DiskState.{sector_at}
use Rattle.input_entries.specs.Inputs.{inputs, all_entries}
use Rattle.input_entries.specs.declared.StoredEntry.{StoredEntry}
use Rattle.recording.specs.Accessors.{device_of}
use Rattle.session.specs.Inputs.{inputs_of}
use Rattle.replaying.specs.Lines.{HasWritten, HasStopped}
use Rattle.replaying.proofs.Sectors.{sector_entries}
use Rattle.replaying.proofs.writing.write_sector.Goals as goal

pub returns-in-Ok-clause-written : goal.returns-in-Ok-clause-written
returns-in-Ok-clause-written g c = λ honest.
    let page = c.entries.ensures ∙ c.in_default.ensures.page honest in
    subst (λ (l : List StoredEntry). HasWritten c.args.run.now c.write_entries.new.run (inputs_of (inputs l)) (g.W.Output.contents c.args.out.now) (g.W.Output.contents c.write_entries.new.out)) page
    (c.in-Ok.ensures.ok (subst all_entries (sym page) (sector_entries c.args.number (sector_at (g.D.SectorDevice.disk (device_of c.args.recording.now)).sectors c.args.number))))

pub returns-in-Err-write_entries-clause-output : goal.returns-in-Err-write_entries-clause-output
returns-in-Err-write_entries-clause-output g c = λ here honest.
    let page = c.entries.ensures ∙ c.in_default.ensures.page honest in
    subst (λ (l : List StoredEntry). HasStopped c.args.run.now (inputs_of (inputs l)) (g.W.Output.contents c.args.out.now) (g.W.Output.contents c.write_entries.new.out)) page
    (c.in-Err-write_entries.ensures.err (subst all_entries (sym page) (sector_entries c.args.number (sector_at (g.D.SectorDevice.disk (device_of c.args.recording.now)).sectors c.args.number))))

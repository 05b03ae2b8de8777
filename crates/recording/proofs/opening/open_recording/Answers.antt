use Rattle.std.proofs.Common.{length, sym, ap, ◌∙◌, subst}
use Rattle.sector_device.specs.DiskState.{Settled}
use Rattle.input_entries.specs.Inputs.{inputs}
use Rattle.recording.specs.Recorded.{entries}
use Rattle.recording.proofs.Beginning.{recorded_is}
use Rattle.recording.proofs.opening.open_recording.Goals as goal

pub returns-in-Ok-look-clause-opened : goal.returns-in-Ok-look-clause-opened
returns-in-Ok-look-clause-opened g c =
    let old = g.D.SectorDevice.disk c.args.device in
    record {
      settled = λ honest. subst (λ d. Settled (g.D.SectorDevice.disk d)) (sym c.at.ensures.device) (c.in-Ok-look.ensures.stored honest).settled;
      recorded_is = λ honest. recorded_is c.args.id old.sectors (c.in-Ok-look.ensures.head honest);
      count_is = λ honest. c.at.ensures.count ∙ (c.in-Ok-look.ensures.stored honest).counted ∙ ap (λ s. length (inputs (entries s))) (c.look.ensures.looked honest).sectors;
      unbroken = c.at.ensures.unbroken;
    }

use Rattle.std.proofs.Common.{rules, ◌≡◌, [], Some, length, true, sym, subst, ◌∙◌}
use Rattle.recording.specs.Recorded.{recorded}
use Rattle.sector_device.specs.DiskState.{Settled}
use Rattle.recording.specs.Keeping.{IsStored}
use Rattle.recording.proofs.Beginning.{begun_stored, begun_empty}
use Rattle.recording.proofs.opening.create_recording.Goals as goal

pub at-requires-clause-stored : goal.at-requires-clause-stored
at-requires-clause-stored g c = λ honest_now.
    let old = g.D.SectorDevice.disk c.args.device in
    let now = g.D.SectorDevice.disk c.begin.new.device in
    let size : length c.args.id ≡ 32 = search rules in
    let honest = c.begin.ensures.answered.honest.0 honest_now in
    subst (λ t. IsStored now 0 t 0 true) (sym c.in-Ok.ensures.items) (begun_stored old.sectors now c.args.id size c.in-Ok-begin.ensures.some (c.in-Ok-begin.ensures.begun honest))

pub returns-in-Ok-begin-clause-created : goal.returns-in-Ok-begin-clause-created
returns-in-Ok-begin-clause-created g c =
    let old = g.D.SectorDevice.disk c.args.device in
    let now = g.D.SectorDevice.disk c.begin.new.device in
    let size : length c.args.id ≡ 32 = search rules in
    record {
      was_blank = λ honest. (c.in-Ok-begin.ensures.begun honest).blank;
      settled = λ honest. subst (λ d. Settled (g.D.SectorDevice.disk d)) (sym c.at.ensures.device) (c.in-Ok-begin.ensures.begun honest).settled;
      empty = λ honest. subst (λ d. recorded c.args.id (g.D.SectorDevice.disk d).sectors ≡ Some []) (sym c.at.ensures.device) (begun_empty old.sectors now c.args.id size c.in-Ok-begin.ensures.some (c.in-Ok-begin.ensures.begun honest));
      unbroken = c.at.ensures.unbroken;
      full_is = c.at.ensures.full;
      tail_is = c.at.ensures.tail ∙ c.in-Ok.ensures.items;
      count_is = c.at.ensures.count;
    }

use Rattle.std.proofs.Common.{rules, ◌≡◌, Some, false, sym, ap, ◌∙◌}
use Rattle.sector_device.specs.Runs.{HoldsSince}
use Rattle.log_format.specs.Content.{last_generation, version_of}
use Rattle.sector_log.specs.Calls.{HasOldOrNewContent}
use Rattle.sector_log.proofs.NewGeneration.{since_old_or_new, since_nothing}
use Rattle.sector_log.proofs.store.Store.replace.Given.{Over}
use Rattle.sector_log.proofs.store.Store.replace.Goals.{After-begin_generation}
use Rattle.sector_log.proofs.store.Store.replace.Goals as goal

since : (g : Over) (c : After-begin_generation g) → c.args.self.now.broken ≡ false → (g.D.SectorDevice.disk c.args.self.now.device).honest
    → HoldsSince (g.D.SectorDevice.disk c.args.self.now.device) (g.D.SectorDevice.disk c.begin_generation.new.device) (HasOldOrNewContent (g.D.SectorDevice.disk c.args.self.now.device).sectors c.args.self.now.root.id c.args.base c.args.blob.now)
since g c open_before honest =
    let self = c.args.self.now in
    let stored = self.stored open_before honest in
    since_old_or_new (g.D.SectorDevice.disk self.device) self.root.id c.args.base c.args.blob.now (g.met.D.SectorDevice.only_now self.device) stored.settled (g.D.SectorDevice.disk c.begin_generation.new.device)
    (c.begin_generation.ensures.moments honest stored.settled (ap last_generation (sym stored.chosen_is))) (c.begin_generation.ensures.past honest stored.settled)

pub returns-clause-images : goal.returns-clause-images
returns-clause-images g c = since g (goal.at.returns-clause-images g c).After-begin_generation

pub returns-in_err-begun-clause-images : goal.returns-in_err-begun-clause-images
returns-in_err-begun-clause-images g c = since g (goal.at.returns-in_err-begun-clause-images g c).After-begin_generation

pub returns-in-Some-clause-images : goal.returns-in-Some-clause-images
returns-in-Some-clause-images g c = λ open_before honest.
    let self = c.args.self.now in
    let stored = self.stored open_before honest in
    since_nothing (g.D.SectorDevice.disk self.device) self.root.id c.args.base c.args.blob.now (g.met.D.SectorDevice.only_now self.device) stored.settled

pub returns-clause-replaced : goal.returns-clause-replaced
returns-clause-replaced g c = record {
  was_unbroken = c.if-self.false;
  could = search rules;
  begun = search rules;
  version_is = λ honest.
      let stored = c.args.self.now.stored c.if-self.false honest in
      let was = ap last_generation (sym stored.chosen_is) in
      let now = c.in_ok-begun.ensures.stored honest stored.settled was in
      ap version_of now.chosen_is ∙ ap Some now.version_is;
  generation_is = search rules;
  empty = search rules;
}

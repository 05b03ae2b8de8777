use Rattle.std.proofs.Common.{rules, ◌≡◌, Some, sym, ap, ◌∙◌, subst}
use Rattle.sector_device.specs.Runs.{HoldsSince}
use Rattle.log_format.specs.Content.{last_generation, generation_in, chosen, version_of}
use Rattle.sector_log.specs.Calls.{HasOldOrNewContent, HasBegun}
use Rattle.log_format.specs.declared.root.Version.TheVariants.{Two}
use Rattle.sector_log.proofs.NewGeneration.{since_old_or_new, since_nothing}
use Rattle.sector_log.proofs.opened.Opened.begin.Given.{Over}
use Rattle.sector_log.proofs.opened.Opened.begin.Goals.{After-begin_generation}
use Rattle.sector_log.proofs.opened.Opened.begin.Goals as goal

module _ (g : Over) (c : After-begin_generation g) where
  was : (g.D.SectorDevice.disk c.args.self.device).honest → c.last_generation-last.result ≡ generation_in (g.D.SectorDevice.disk c.args.self.device).sectors
  was honest = c.last_generation-last.ensures ∙ ap last_generation (sym (c.args.self.found honest).chosen_is)

  since : (g.D.SectorDevice.disk c.args.self.device).honest
      → HoldsSince (g.D.SectorDevice.disk c.args.self.device) (g.D.SectorDevice.disk c.begin_generation.new.device) (HasOldOrNewContent (g.D.SectorDevice.disk c.args.self.device).sectors c.args.id c.args.base c.args.blob.now)
  since honest =
      let found = c.args.self.found honest in
      since_old_or_new (g.D.SectorDevice.disk c.args.self.device) c.args.id c.args.base c.args.blob.now (g.met.D.SectorDevice.only_now c.args.self.device) found.settled (g.D.SectorDevice.disk c.begin_generation.new.device) (c.begin_generation.ensures.moments honest found.settled (was honest))
      (c.begin_generation.ensures.past honest found.settled)

pub returns-in-Ok-clause-images : goal.returns-in-Ok-clause-images
returns-in-Ok-clause-images g c = λ honest.
    subst (λ d. HoldsSince (g.D.SectorDevice.disk c.args.self.device) (g.D.SectorDevice.disk d) (HasOldOrNewContent (g.D.SectorDevice.disk c.args.self.device).sectors c.args.id c.args.base c.args.blob.now)) (sym c.at.ensures.device)
    (since g (goal.at.returns-in-Ok-clause-images g c).After-begin_generation honest)

pub returns-clause-images : goal.returns-clause-images
returns-clause-images g c = since g (goal.at.returns-clause-images g c).After-begin_generation

pub returns-in-Some-clause-images : goal.returns-in-Some-clause-images
returns-in-Some-clause-images g c = λ honest.
    let found = c.args.self.found honest in
    since_nothing (g.D.SectorDevice.disk c.args.self.device) c.args.id c.args.base c.args.blob.now (g.met.D.SectorDevice.only_now c.args.self.device) found.settled

pub at-requires-clause-stored : goal.at-requires-clause-stored
at-requires-clause-stored g c = λ honest_now.
    let honest = c.begin_generation.ensures.called.honest.0 honest_now in
    c.in-Ok.ensures.stored honest (c.args.self.found honest).settled (was g (goal.at.at-requires-clause-stored g c).After-begin_generation honest)

pub returns-in-Ok-clause-begun : goal.returns-in-Ok-clause-begun
returns-in-Ok-clause-begun g c =
    let was = was g (goal.at.returns-in-Ok-clause-begun g c).After-begin_generation in
    record {
      could = search rules;
      begun = λ honest.
          subst (λ d. HasBegun (g.D.SectorDevice.disk c.args.self.device) (g.D.SectorDevice.disk d) c.args.id c.args.base c.args.blob.now) (sym c.at.ensures.device)
          (c.in-Ok.ensures.begun honest (c.args.self.found honest).settled (was honest));
      version_is = λ honest.
          let now = c.in-Ok.ensures.stored honest (c.args.self.found honest).settled (was honest) in
          subst (λ d. version_of (chosen (g.D.SectorDevice.disk d).sectors) ≡ Some Two) (sym c.at.ensures.device) (ap version_of now.chosen_is ∙ ap Some now.version_is);
      generation_is = search rules;
      id_is = search rules;
      unbroken = search rules;
      empty = search rules;
    }

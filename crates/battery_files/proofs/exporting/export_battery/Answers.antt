use Rattle.std.proofs.Common.{◌≡◌, ◌⊎◌, ◌∙◌, inr, ℕ, List, Some, sym, ap, subst}
use Rattle.sector_device.specs.Looking.{HasLooked}
use Rattle.log_format.specs.Content.{content}
use Rattle.session.specs.Calls.{CanBeLookedAt}
use Rattle.session.specs.Stands.{Position, stands}
use Rattle.session.specs.LookAccessors.{machine_of_look, count_of_look}
use Rattle.session.specs.declared.error.SessionError.TheVariants.{Memory}
use Rattle.battery_files.specs.Battery.{battery_of}
use Rattle.battery_files.proofs.exporting.export_battery.Goals as goal

pub returns-in-Err-look_at-clause-memory : goal.returns-in-Err-look_at-clause-memory
returns-in-Err-look_at-clause-memory g c = λ same.
    let inner : c.in-Err-look_at.refused.why ≡ Memory = cc in
    subst (λ (rom : List ℕ). (c.in-Err-look_at.refused.device ≡ c.args.device) ⊎ ((g.D.SectorDevice.disk c.args.device).honest → CanBeLookedAt rom (g.D.SectorDevice.disk c.args.device)))
    c.in-Ok.ensures.image (c.in-Err-look_at.ensures.memory inner)

pub returns-in-Ok-battery_of-clause-exported : goal.returns-in-Ok-battery_of-clause-exported
returns-in-Ok-battery_of-clause-exported g c = λ honest.
    let image = (g.D.SectorDevice.disk c.args.device).sectors in
    let look = c.in-Ok-look_at.look in
    let at : ℕ → Position = λ count. record { count = count; machine = machine_of_look look } in
    let stood = subst (λ (rom : List ℕ). stands rom (content image) ≡ Some (at (count_of_look look))) c.in-Ok.ensures.image (c.in-Ok-look_at.ensures.stands honest) in
    record {
      machine = machine_of_look look;
      stood = stood ∙ ap (λ count. Some (at count)) (sym c.count-count.ensures);
      bytes_are = c.in-Ok-battery_of.ensures ∙ ap battery_of c.machine.ensures;
    }

pub returns-in-Ok-battery_of-clause-looked : goal.returns-in-Ok-battery_of-clause-looked
returns-in-Ok-battery_of-clause-looked g c = λ honest.
    subst (λ d. HasLooked (g.D.SectorDevice.disk c.args.device) (g.D.SectorDevice.disk d)) (sym c.into_device.ensures.device) (c.in-Ok-look_at.ensures.looked honest)

pub returns-clause-looked : goal.returns-clause-looked
returns-clause-looked g c = λ honest.
    subst (λ d. HasLooked (g.D.SectorDevice.disk c.args.device) (g.D.SectorDevice.disk d)) (sym c.into_device-in-Err-battery_of.ensures.device) (c.in-Ok-look_at.ensures.looked honest)

pub returns-clause-memory : goal.returns-clause-memory
returns-clause-memory g c = λ same. inr (λ honest.
    let image = (g.D.SectorDevice.disk c.args.device).sectors in
    let look = c.in-Ok-look_at.look in
    let from : Position = record { count = count_of_look look; machine = machine_of_look look } in
    record {
      from = from;
      stood = subst (λ (rom : List ℕ). stands rom (content image) ≡ Some from) c.in-Ok.ensures.image (c.in-Ok-look_at.ensures.stands honest);
    })

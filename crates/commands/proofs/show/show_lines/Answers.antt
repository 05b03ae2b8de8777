use Rattle.std.proofs.Common.{◌≡◌, ◌⊎◌, List, ℕ, refl, sym, subst}
use Rattle.sector_device.specs.Looking.{HasLooked}
use Rattle.session.specs.Calls.{CanBeLookedAt}
use Rattle.commands.specs.Show.{seen_by}
use Rattle.commands.proofs.Shown.{has_shown, is_unwritten, memory_of}
use Rattle.commands.proofs.show.show_lines.Goals as goal

pub returns-in-Err-look_at-clause-memory : goal.returns-in-Err-look_at-clause-memory
returns-in-Err-look_at-clause-memory g c = λ is.
    let refused = c.in-Err-look_at.refused in
    let disk = g.D.SectorDevice.disk c.args.device in
    subst (λ (rom : List ℕ). (refused.device ≡ c.args.device) ⊎ (disk.honest → CanBeLookedAt rom disk)) c.in-Ok.ensures.image
    (c.in-Err-look_at.ensures.memory (memory_of refused.why is))

pub returns-in-Ok-written-clause-shown : goal.returns-in-Ok-written-clause-shown
returns-in-Ok-written-clause-shown g c =
    let look = c.in-Ok-look_at in
    has_shown _ _ _ _ (seen_by look.look) _ _ c.in-Ok.ensures.image look.ensures.answered.count look.ensures.of look.ensures.stands look.ensures.log c.in-Ok-written.ensures.ok

pub returns-in-Ok-written-clause-looked : goal.returns-in-Ok-written-clause-looked
returns-in-Ok-written-clause-looked g c = λ honest.
    subst (λ d. HasLooked (g.D.SectorDevice.disk c.args.device) (g.D.SectorDevice.disk d)) (sym c.into_device-device.ensures.device) (c.in-Ok-look_at.ensures.looked honest)

pub returns-clause-cause : goal.returns-clause-cause
returns-clause-cause g c =
    let look = c.in-Ok-look_at in (
      c.in-Ok.ensures.accepted.0 refl,
      is_unwritten _ _ _ _ (seen_by look.look) _ _ c.in-Ok.ensures.image look.ensures.answered.count look.ensures.of look.ensures.stands look.ensures.log c.in-Err-written.ensures.err,
    )

pub returns-clause-looked : goal.returns-clause-looked
returns-clause-looked g c = λ honest.
    subst (λ d. HasLooked (g.D.SectorDevice.disk c.args.device) (g.D.SectorDevice.disk d)) (sym c.into_device-device.ensures.device) (c.in-Ok-look_at.ensures.looked honest)

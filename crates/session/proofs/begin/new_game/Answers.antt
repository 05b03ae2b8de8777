use Rattle.std.proofs.Common.{[], inl, inr, refl, subst, ap, ◌∙◌}
use Rattle.machine.specs.Machine.{MachineState}
use Rattle.sector_device.specs.Runs.{HoldsSince}
use Rattle.session.specs.Calls.{HasOldContentOrGame}
use Rattle.session.specs.Stands.{IsAtRest, Position}
use Rattle.session.specs.Accessors.{device_of, left_by}
use Rattle.session.proofs.Beginnings.{if_ok, since_now}
use Rattle.session.proofs.Writes.{since_weaker}
use Rattle.session.proofs.begin.new_game.Goals as goal

pub returns-in_default-clause-images : goal.returns-in_default-clause-images
returns-in_default-clause-images g c = λ honest.
    since_weaker (since_now (g.D.SectorDevice.disk c.args.device) (g.met.D.SectorDevice.only_now c.args.device)) (λ image was. inl (record { before = image; stood = was; is = refl }))

pub returns-in_default-clause-refused : goal.returns-in_default-clause-refused
returns-in_default-clause-refused g c = record {
  can = tt;
  cause = tt;
  worn = λ worn honest. absurd (cc);
  memory = λ wanted. refl;
  failed = λ failed. absurd (cc);
  untouched = inr (λ honest. since_now (g.D.SectorDevice.disk c.args.device) (g.met.D.SectorDevice.only_now c.args.device));
}

pub returns-clause-refused : goal.returns-clause-refused
returns-clause-refused g c = c.new_game_from.ensures.refused

pub returns-clause-rests : goal.returns-clause-rests
returns-clause-rests g c =
    if_ok c.new_game_from.result c.new_game_from.ensures.rests
    (λ s rests honest. subst (λ (m : MachineState). IsAtRest c.args.cartridge.now (g.D.SectorDevice.disk (device_of s)) 0 [] m) c.in-Ok.ensures.start (rests honest))

pub returns-clause-images : goal.returns-clause-images
returns-clause-images g c = λ honest.
    subst (λ (m : MachineState). HoldsSince (g.D.SectorDevice.disk c.args.device) (g.D.SectorDevice.disk (left_by c.new_game_from.result))
    (HasOldContentOrGame c.args.cartridge.now m (g.D.SectorDevice.disk c.args.device))) c.in-Ok.ensures.start (c.new_game_from.ensures.images honest)

pub returns-clause-saved : goal.returns-clause-saved
returns-clause-saved g c =
    let of : MachineState → Position = λ m. record { count = 0; machine = m } in
    if_ok c.new_game_from.result c.new_game_from.ensures.saved (λ s saved. saved ∙ ap of c.in-Ok.ensures.start)

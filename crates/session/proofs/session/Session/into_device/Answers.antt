use Rattle.std.proofs.Common.{sym, subst}
use Rattle.session.specs.Stands.{IsAtRest, StandsAt}
use Rattle.session.specs.Accessors.{rom_of, saved_of}
use Rattle.session.proofs.AtRest.{device_rests}
use Rattle.session.proofs.session.Session.into_device.Goals as goal

pub returns-clause-rests : goal.returns-clause-rests
returns-clause-rests g c = λ whole logged.
    let self = c.args.self in
    subst (λ d. (g.D.SectorDevice.disk d).honest → IsAtRest (rom_of self) (g.D.SectorDevice.disk d) self.acknowledged self.pending.items self.machine) (sym c.into_device.ensures)
    (device_rests self whole logged)

pub returns-clause-stands : goal.returns-clause-stands
returns-clause-stands g c = λ whole.
    let self = c.args.self in
    subst (λ d. (g.D.SectorDevice.disk d).honest → StandsAt (rom_of self) (g.D.SectorDevice.disk d) (saved_of self)) (sym c.into_device.ensures)
    (λ honest. (self.rests whole honest).stood)

use Rattle.std.proofs.Common.{refl}
use Rattle.session.proofs.session.Session.machine.Goals as goal

pub returns-clause-of : goal.returns-clause-of
returns-clause-of g c =
    let own = c.args.self.now.own in
    record { rom = refl; kind = own.kind; rumble = own.rumble; ram_length = own.ram_length }

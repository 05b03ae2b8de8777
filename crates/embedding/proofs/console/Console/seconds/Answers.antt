use Rattle.std.proofs.Common.{◌∙◌}
use Rattle.machine.specs.Machine.{Seconds}
use Rattle.session.proofs.Beginnings.{own_again}
use Rattle.session.proofs.Saving.{same_after}
use Rattle.embedding.proofs.console.Console.seconds.Goals as goal

pub invariant_of-self : goal.invariant_of-self
invariant_of-self c =
    let old = c.args.self.now.machine in
    let new = c.apply.new.self in
    let same = same_after old new (Seconds c.args.seconds) tt c.apply.ensures in
    record { rom = same.rom ∙ c.args.self.now.rom; own = own_again old new same c.args.self.now.own }

use Rattle.std.proofs.Common.{rules, sym, ◌∙◌}
use Rattle.debugging.proofs.Restoring.{given_run, machine_given, nothing_given, same_run}
use Rattle.debugging.proofs.run.Run.restore.Goals as goal

pub returns-in-Ok-clause-run : goal.returns-in-Ok-clause-run
returns-in-Ok-clause-run c =
    let made = machine_given c.args.cartridge.now c.args.snapshot.now c.args.self c.requires c.decode_into.new.machine c.in-Ok.ensures.ok.0 c.in-Ok.ensures.ok.1 in
    given_run c.args.self c.from_parts.result c.decode_into.new.machine c.clear.new.self.capacity c.clear.new.self.items c.self.inside.sent.items c.self.inside.played c.from_parts.ensures (search rules) (search rules) (search rules) (search rules)
    ∙ sym made.1

pub returns-in-Ok-clause-restored : goal.returns-in-Ok-clause-restored
returns-in-Ok-clause-restored c =
    sym (machine_given c.args.cartridge.now c.args.snapshot.now c.args.self c.requires c.decode_into.new.machine c.in-Ok.ensures.ok.0 c.in-Ok.ensures.ok.1).0

pub returns-in-Err-clause-run : goal.returns-in-Err-clause-run
returns-in-Err-clause-run c =
    let none = nothing_given c.args.cartridge.now c.args.snapshot.now c.args.self c.requires c.in-Err.ensures.refused.1 in
    same_run c.args.self c.from_parts-in-Err.result c.decode_into.new.machine c.into_parts-machine.result.1.capacity c.into_parts-machine.result.1.items c.self.inside.sent.items c.self.inside.played c.from_parts-in-Err.ensures
    (search rules) (search rules) (search rules) (search rules) (search rules)
    ∙ sym none.1

pub returns-in-Err-clause-restored : goal.returns-in-Err-clause-restored
returns-in-Err-clause-restored c = sym (nothing_given c.args.cartridge.now c.args.snapshot.now c.args.self c.requires c.in-Err.ensures.refused.1).0

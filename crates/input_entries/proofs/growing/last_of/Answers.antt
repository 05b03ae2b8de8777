use Rattle.std.proofs.Common.{◌<◌, length, sym, arith}
use Rattle.std.proofs.lemmas.Bool.Decides.{nat_tests}
use Rattle.input_entries.proofs.MoreInputs.{last_at}
use Rattle.input_entries.proofs.growing.last_of.Goals as goal

pub returns : goal.returns
returns c =
    let some : 0 < length c.args.entries.now = grind (arith, nat_tests) in
    sym (last_at c.args.entries.now _ some)

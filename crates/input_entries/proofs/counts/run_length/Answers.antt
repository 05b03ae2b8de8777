use Rattle.std.proofs.Common.{rules, ◌≡◌, length, ap, ◌∙◌}
use Rattle.std.specs.Int.{w32, from_le_bytes}
use Rattle.input_entries.proofs.ShortLists.{rest_of_six}
use Rattle.input_entries.proofs.counts.run_length.Goals as goal

pub returns : goal.returns
returns c =
    let size : length c.args.entry.now.code ≡ 6 = search rules in
    c.from_le_bytes.ensures ∙ ap (from_le_bytes w32) (rest_of_six c.args.entry.now.code size)

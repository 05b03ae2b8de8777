use Rattle.std.proofs.Common.{rules, ◌≡◌, ◌<◌, length, get_or}
use Rattle.input_entries.proofs.Meanings.{four_of}
use Rattle.input_entries.proofs.logged.seconds_of.Goals as goal

pub returns : goal.returns
returns c =
    let code = c.args.entry.now.code in
    let size : length code ≡ 6 = search rules in
    let first : get_or code 1 0 < 256 = search rules in
    let second : get_or code 2 0 < 256 = search rules in
    let third : get_or code 3 0 < 256 = search rules in
    let fourth : get_or code 4 0 < 256 = search rules in
    four_of code c.from_le_bytes.result size (first, second, third, fourth) c.from_le_bytes.ensures

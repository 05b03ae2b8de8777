use Rattle.std.proofs.Common.{◌≡◌, ◌-◌, ◌*◌, ◌/◌, length, take, drop, ap, ◌∙◌, arith, length-append, length-take, length-drop}
use Rattle.std.proofs.lemmas.List.{take_all}
use Rattle.input_entries.specs.Growing.{with_inputs}
use Rattle.log_format.proofs.Adding.{grown_by}
use Rattle.log_format.proofs.entries.grown_length.Goals as goal

pub returns : goal.returns
returns c =
    let log = c.args.log.now in
    let es = c.args.more.now in
    let n = length log / 84 * 84 in
    let behind : take (length log - n) (drop n log) ≡ drop n log = take_all (length log - n) (drop n log) (omega (arith, length-drop n log)) in
    let rest : c.grown_length.result ≡ length (with_inputs (drop n log) es) = c.grown_length.ensures.length ∙ ap (λ l. length (with_inputs l es)) behind in
    omega (arith, rest, ap length (grown_by log es n (omega arith)), length-append (take n log) (with_inputs (drop n log) es), length-take n log)

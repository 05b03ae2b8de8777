use Rattle.std.proofs.Common.{rules, ◌≡◌, ◌<◌, ◌-◌, ◌++◌, ◌∷◌, [], length, take, drop, get_or, set, vec_capacity, length-append, length-take, ap, sym, ◌∙◌, arith}
use Rattle.input_entries.specs.Inputs.{longer, single, run_length}
use Rattle.input_entries.specs.Growing.{lengthens, with_input}
use Rattle.input_entries.proofs.MoreInputs.{lengthens_means}
use Rattle.log_format.proofs.Adding.{last_longer, adds_new, adds_first}
use Rattle.log_format.proofs.entries.add_input.Goals as goal
use Rattle.log_format.proofs.entries.add_input.Goals.{Joined-count-sealed, then-count-sealed+else-lengthens, else-count-sealed}

pub longer-requires : goal.longer-requires
longer-requires c =
    let short : run_length c.index.result.now < 216000 = (lengthens_means c.index.result.now c.args.input.now (sym c.lengthens.ensures.is ∙ c.if-lengthens.true)).1 in
    omega (arith, short)

pub returns-then-lengthens-clause-items : goal.returns-then-lengthens-clause-items
returns-then-lengthens-clause-items c =
    let log = c.args.log.now.items in
    let count : c.len-count.result ≡ length log = search rules in
    let last : c.index.result.now ≡ get_or log (length log - 1) c.index.result.now = c.index.ensures ∙ ap (λ n. get_or log (n - 1) c.index.result.now) count in
    (λ i. set log (count i - 1) ((c.longer.ensures ∙ ap longer last) i))
    ∙ last_longer log c.args.sealed c.requires.sealed c.index.result.now (omega (arith, count, c.if-count-sealed.true)) c.args.input.now
    (ap (λ x. lengthens x c.args.input.now) (sym last) ∙ sym c.lengthens.ensures.is ∙ c.if-lengthens.true)

-- the entry that is pushed is what the input makes of those that are not sealed
made : (c : Joined-count-sealed) → c.args.log.now.items ++ single c.args.input.now ∷ [] ≡ take c.args.sealed c.args.log.now.items ++ with_input (drop c.args.sealed c.args.log.now.items) c.args.input.now
made c =
    let log = c.args.log.now.items in
    let count : c.len-count.result ≡ length log = search rules in
    elim c.if-count-sealed.branch [
      | then-count-sealed+else-lengthens w ↦
          let last : w.index.result.now ≡ get_or log (length log - 1) w.index.result.now = w.index.ensures ∙ ap (λ n. get_or log (n - 1) w.index.result.now) count in
          adds_new log c.args.sealed c.requires.sealed w.index.result.now (omega (arith, count, w.if-count-sealed.true)) c.args.input.now (ap (λ x. lengthens x c.args.input.now) (sym last) ∙ sym w.lengthens.ensures.is ∙ w.if-lengthens.false)
      | else-count-sealed w ↦ adds_first log c.args.sealed c.requires.sealed c.args.input.now (omega (arith, count, w.if-count-sealed.false, c.requires.sealed))
    ]

pub push_reserved-requires : goal.push_reserved-requires
push_reserved-requires c =
    let log = c.args.log.now.items in
    let room : length log < vec_capacity c.args.log.now = omega (
      arith,
      ap length (made (goal.at.push_reserved-requires c).Joined-count-sealed),
      length-append log (single c.args.input.now ∷ []),
      c.requires.room,
      c.requires.sealed,
      length-append (take c.args.sealed log) (with_input (drop c.args.sealed log) c.args.input.now),
      length-take c.args.sealed log,
    ) in
    omega (arith, room)

pub returns-clause-items : goal.returns-clause-items
returns-clause-items c = c.push_reserved.ensures.items ∙ ap (λ s. c.args.log.now.items ++ s ∷ []) c.single.ensures.is ∙ made (goal.at.returns-clause-items c).Joined-count-sealed

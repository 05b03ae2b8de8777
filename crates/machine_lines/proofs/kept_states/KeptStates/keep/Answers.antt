use Rattle.std.proofs.Common.{◌∙◌, ap, length, arith}
use Rattle.std.specs.Prelude.{slice_set}
use Rattle.std.specs.Vec.{with_items}
use Rattle.std.proofs.lemmas.List.{map-set, with_items_is}
use Rattle.machine_lines.proofs.kept_states.KeptStates.keep.Goals as goal

pub returns-clause-kept : goal.returns-clause-kept
returns-clause-kept c =
    let items = with_items_is c.if-len-room.state c.encode.new.out (omega (arith, c.encode.auto.out, ap length c.deref_mut.ensures.value, c.if-len-room.state.ok)) in
    map-set (λ v. v.items) c.self.inside.states.items c.args.number (with_items c.if-len-room.state c.encode.new.out)
    ∙ (λ i. slice_set (c.self.view_is i) c.args.number ((items ∙ c.encode.ensures.encoded) i))

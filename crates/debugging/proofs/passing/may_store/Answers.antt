use Rattle.std.proofs.Common.{◌∙◌, ℕ, false, slice_index_or, ap, sym, arith}
use Rattle.debugging.specs.declared.passing.TheConstants.{STORES}
use Rattle.debugging.proofs.AccessTables.{stores_nothing}
use Rattle.debugging.proofs.passing.may_store.Goals as goal

pub returns : goal.returns
returns c = λ none. stores_nothing c.args.opcode (omega arith) (ap (λ (i : ℕ). slice_index_or STORES i false) (sym c.from.ensures) ∙ none)

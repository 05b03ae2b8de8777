use Rattle.std.proofs.Common.{◌∙◌, ℕ, false, slice_index_or, ap, sym, arith}
use Rattle.debugging.specs.declared.passing.TheConstants.{ACCESSES}
use Rattle.debugging.proofs.AccessTables.{accesses_nothing, loads_nothing}
use Rattle.debugging.proofs.passing.may_access.Goals as goal

pub returns-clause-stores : goal.returns-clause-stores
returns-clause-stores c = λ none. accesses_nothing c.args.opcode (omega arith) (ap (λ (i : ℕ). slice_index_or ACCESSES i false) (sym c.from.ensures) ∙ none)

pub returns-clause-loads : goal.returns-clause-loads
returns-clause-loads c = λ none. loads_nothing c.args.opcode (omega arith) (ap (λ (i : ℕ). slice_index_or ACCESSES i false) (sym c.from.ensures) ∙ none)

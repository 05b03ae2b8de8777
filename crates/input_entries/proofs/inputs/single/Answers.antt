use Rattle.std.proofs.Common.{rules, ◌≡◌, ◌==◌, ◌++◌, ℕ, List, [], ◌∷◌, Bool, true, false, if◌then◌else◌, length, ap, sym, ◌∙◌, arith}
use Rattle.std.proofs.lemmas.Bool.Decides.{nat_tests}
use Rattle.std.specs.Int.{w32, to_le_bytes}
use Rattle.input_entries.specs.Bytes.{byte}
use Rattle.input_entries.specs.Inputs.{single}
use Rattle.input_entries.proofs.ShortLists.{five_bytes}
use Rattle.input_entries.proofs.inputs.single.Goals as goal

pub returns-then-code-eq0-clause-is : goal.returns-then-code-eq0-clause-is
unfolding single
returns-then-code-eq0-clause-is c =
    let code = c.args.entry.now.code in
    let yes : (byte 0 code == 0) ≡ true = grind (arith, nat_tests) in
    sym (ap (λ (t : Bool). record { code = if t then 0 ∷ byte 1 code ∷ to_le_bytes w32 1 else code ++ 0 ∷ [] }) yes)

pub returns-else-code-eq0-clause-is : goal.returns-else-code-eq0-clause-is
unfolding single
returns-else-code-eq0-clause-is c =
    let code = c.args.entry.now.code in
    let no : (byte 0 code == 0) ≡ false = grind (arith, nat_tests) in
    let size : length code ≡ 5 = search rules in
    sym (ap (λ (t : Bool). record { code = if t then 0 ∷ byte 1 code ∷ to_le_bytes w32 1 else code ++ 0 ∷ [] }) no
    ∙ ap (λ (l : List ℕ). record { code = l ++ 0 ∷ [] }) (sym (five_bytes code size)))

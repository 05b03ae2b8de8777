use Rattle.std.proofs.Common.{rules, ◌≡◌, ◌+◌, ℕ, List, ◌∷◌, length, drop, ap, ◌∙◌}
use Rattle.std.specs.Int.{w32, to_le_bytes, from_le_bytes}
use Rattle.input_entries.specs.Bytes.{byte}
use Rattle.input_entries.specs.Inputs.{longer}
use Rattle.input_entries.proofs.ShortLists.{four_bytes, rest_of_six}
use Rattle.input_entries.proofs.inputs.longer.Goals as goal

pub returns : goal.returns
unfolding longer
returns c =
    let code = c.args.run.now.code in
    let size : length code ≡ 6 = search rules in
    let times : c.from_le_bytes-times.result ≡ from_le_bytes w32 (drop 2 code) = c.from_le_bytes-times.ensures ∙ ap (from_le_bytes w32) (rest_of_six code size) in
    let bytes = c.to_le_bytes-bytes.result in
    let is : bytes ≡ to_le_bytes w32 (from_le_bytes w32 (drop 2 code) + 1) = c.to_le_bytes-bytes.ensures ∙ ap (λ n. to_le_bytes w32 (n + 1)) times in
    let four : length bytes ≡ 4 = ap length is in
    ap (λ (l : List ℕ). record { code = 0 ∷ byte 1 code ∷ l }) (four_bytes bytes four ∙ is)

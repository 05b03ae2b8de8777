use Rattle.std.proofs.Common.{rules, ◌≡◌, ◌==◌, ◌&&◌, ◌%◌, ℕ, List, Some, true, false, length, take, drop, length-drop, sym, ap, ◌∙◌, arith}
use Rattle.std.proofs.lemmas.Bool.Decides.{nat_tests}
use Rattle.std.proofs.lemmas.List.{take_all}
use Rattle.input_entries.specs.Bytes.{begins_with, zeros}
use Rattle.log_format.specs.Content.{root_in, root_front, version_in}
use Rattle.log_format.proofs.Parsing.{and_false, and_last, no_root, is_valid}
use Rattle.log_format.proofs.parse.parse_root.Goals as goal

pub returns-then-not-begins_with : goal.returns-then-not-begins_with
returns-then-not-begins_with c =
    let sector = c.args.sector.now in
    let same : c.root_front.result ≡ root_front (version_in sector) = c.root_front.ensures ∙ ap root_front c.version_in-version.ensures in
    let magic : begins_with (root_front (version_in sector)) sector ≡ false = ap (λ (l : List ℕ). begins_with l sector) (sym same) ∙ sym c.begins_with.ensures ∙ c.if-not-begins_with.true in
    no_root c.args.slot sector (ap (λ b. b && zeros (drop 64 sector) && (root_in sector).generation % 2 == c.args.slot) magic)

pub returns-then-not-is_zeros : goal.returns-then-not-is_zeros
returns-then-not-is_zeros c =
    let sector = c.args.sector.now in
    let size : length sector ≡ 512 = search rules in
    let all : take 448 (drop 64 sector) ≡ drop 64 sector = take_all 448 (drop 64 sector) (omega (arith, length-drop 64 sector, size)) in
    let magic = begins_with (root_front (version_in sector)) sector in
    let parity = (root_in sector).generation % 2 == c.args.slot in
    no_root c.args.slot sector (ap (λ b. magic && b && parity) (ap zeros (sym all) ∙ sym c.is_zeros.ensures ∙ c.if-not-is_zeros.true) ∙ and_false magic parity)

pub returns-then-root-slot : goal.returns-then-root-slot
returns-then-root-slot c =
    let sector = c.args.sector.now in
    let magic = begins_with (root_front (version_in sector)) sector in
    let parity : ((root_in sector).generation % 2 == c.args.slot) ≡ false = ap (λ n. n % 2 == c.args.slot) (sym c.u64_at.ensures) ∙ grind (arith, nat_tests) in
    no_root c.args.slot sector (ap (λ b. magic && zeros (drop 64 sector) && b) parity ∙ and_last magic (zeros (drop 64 sector)))

pub returns : goal.returns
returns c =
    let sector = c.args.sector.now in
    let same : c.root_front.result ≡ root_front (version_in sector) = c.root_front.ensures ∙ ap root_front c.version_in-version.ensures in
    let magic : begins_with (root_front (version_in sector)) sector ≡ true = ap (λ (l : List ℕ). begins_with l sector) (sym same) ∙ sym c.begins_with.ensures ∙ c.if-not-begins_with.false in
    let size : length sector ≡ 512 = search rules in
    let all : take 448 (drop 64 sector) ≡ drop 64 sector = take_all 448 (drop 64 sector) (omega (arith, length-drop 64 sector, size)) in
    let blank : zeros (drop 64 sector) ≡ true = ap zeros (sym all) ∙ sym c.is_zeros.ensures ∙ c.if-not-is_zeros.false in
    let parity : ((root_in sector).generation % 2 == c.args.slot) ≡ true = ap (λ n. n % 2 == c.args.slot) (sym c.u64_at.ensures) ∙ grind (arith, nat_tests) in
    ap Some (λ i. record { version = c.version_in-version.ensures i; generation = c.u64_at.ensures i; id = c.id_at.ensures i; base = c.u64_at-2.ensures i; blob_length = c.u32_at.ensures i })
    ∙ sym (is_valid c.args.slot sector magic blank parity)

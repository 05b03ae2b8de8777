use Rattle.std.proofs.Common.{rules, ◌≡◌, ◌&&◌, length, take, drop, Bool, length-drop, sym, ap, ◌∙◌, arith}
use Rattle.std.proofs.lemmas.List.{take_all}
use Rattle.input_entries.specs.Bytes.{zeros}
use Rattle.recording.specs.Format.{is_head}
use Rattle.recording.proofs.parse.is_head.Goals as goal

pub returns : goal.returns
unfolding is_head
returns c =
    let sector = c.args.sector.now in
    let size : length sector ≡ 512 = search rules in
    let all : take 468 (drop 44 sector) ≡ drop 44 sector = take_all 468 (drop 44 sector) (omega (arith, length-drop 44 sector, size)) in
    c.is_zeros.ensures ∙ ap zeros all ∙ sym (ap (λ (b : Bool). b && zeros (drop 44 sector)) (sym c.begins_with.ensures ∙ c.if-not-begins_with.false))

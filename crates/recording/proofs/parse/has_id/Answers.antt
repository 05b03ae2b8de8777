use Rattle.std.proofs.Common.{rules, ◌≡◌, ◌&&◌, length, take, drop, Bool, length-drop, sym, ap, ◌∙◌, arith}
use Rattle.std.proofs.lemmas.List.{take_all}
use Rattle.input_entries.specs.Bytes.{begins_with}
use Rattle.recording.specs.Format.{is_head_of}
use Rattle.recording.proofs.parse.has_id.Goals as goal

pub returns : goal.returns
unfolding is_head_of
returns c =
    let sector = c.args.sector.now in
    let id = c.args.id.now in
    let size : length sector ≡ 512 = search rules in
    let all : take 500 (drop 12 sector) ≡ drop 12 sector = take_all 500 (drop 12 sector) (omega (arith, length-drop 12 sector, size)) in
    c.begins_with.ensures ∙ ap (begins_with id) all ∙ sym (ap (λ (b : Bool). b && begins_with id (drop 12 sector)) c.requires)

use Rattle.std.proofs.Common.{ℕ, List, subst, ◌≡◌, ◌+◌, ◌*◌, arith, ◌++◌, map, take, drop, ap, sym, ◌∙◌, append_assoc}
use Rattle.std.specs.List.{flat_map}
use Rattle.std.proofs.lemmas.List.{take_all, append-nil}
use Rattle.std.specs.Io.KnownBytes.{Appends}
use Rattle.exact_text.specs.Written.{AppendsProperPrefix}
use Rattle.exact_text.proofs.Writes.{whole_then_prefix, prefix_of_longer, appends_twice}
use Rattle.picture_unit.specs.Pgm.{header_text, row_text, picture_text}
use Rattle.picture_unit.proofs.Writing.{texts-more, texts-split}
use Rattle.picture_unit.proofs.pgm.write_rows.Goals as goal

pub returns-in-Err-clause-err : goal.returns-in-Err-clause-err
unfolding picture_text header_text
returns-in-Err-clause-err g c =
    prefix_of_longer _ _ header_text (flat_map row_text c.args.picture.now.rows) c.in-Err.ensures.err

pub loop-part-init : goal.loop-part-init
unfolding header_text
loop-part-init g c = rw (append-nil header_text) c.in_default.ensures.ok

pub loop-part-preserved : goal.loop-part-preserved
loop-part-preserved g c =
    let rows = c.args.picture.now.rows in
    let first = 24 * c.loop-part.part in
    let texts = flat_map (λ text. text) (map row_text (take 24 (drop first rows))) in
    let here : Appends (g.W.Output.contents c.loop-part.out) (g.W.Output.contents c.write_whole-in-loop-part.new.out) texts =
    rw (c.as_flattened.ensures.value, c.put_rows.ensures) at c.in_default-write_whole.ensures.ok in
    let next : first + 24 ≡ 24 * (c.loop-part.part + 1) = omega arith in
    let more : (header_text ++ flat_map row_text (take first rows)) ++ texts ≡ header_text ++ flat_map row_text (take (24 * (c.loop-part.part + 1)) rows) =
    append_assoc header_text (flat_map row_text (take first rows)) texts ∙ ap (λ l. header_text ++ l) (texts-more row_text rows first 24 ∙ ap (λ n. flat_map row_text (take n rows)) next) in
    subst (λ (text : List ℕ). Appends (g.W.Output.contents c.args.out.now) (g.W.Output.contents c.write_whole-in-loop-part.new.out) text) more
    (appends_twice _ _ _ (header_text ++ flat_map row_text (take first rows)) texts c.loop-part.invariant here)

pub returns-in-Err-write_whole-clause-err : goal.returns-in-Err-write_whole-clause-err
unfolding picture_text
returns-in-Err-write_whole-clause-err g c =
    let rows = c.args.picture.now.rows in
    let first = 24 * c.loop-part.part in
    let before = flat_map row_text (take first rows) in
    let texts = flat_map (λ text. text) (map row_text (take 24 (drop first rows))) in
    let after = flat_map row_text (drop (first + 24) rows) in
    let whole : header_text ++ flat_map row_text rows ≡ (header_text ++ before) ++ (texts ++ after) =
    ap (λ l. header_text ++ l) (texts-split row_text rows first 24) ∙ sym (append_assoc header_text before (texts ++ after)) in
    let part : AppendsProperPrefix (g.W.Output.contents c.loop-part.out) (g.W.Output.contents c.write_whole-in-loop-part.new.out) texts =
    rw (c.as_flattened.ensures.value, c.put_rows.ensures) at c.in-Err-write_whole.ensures.err in
    rw whole (whole_then_prefix _ _ _ (header_text ++ before) (texts ++ after) c.loop-part.invariant (prefix_of_longer _ _ texts after part))

pub returns-clause-ok : goal.returns-clause-ok
unfolding picture_text
returns-clause-ok g c =
    let rows = c.args.picture.now.rows in
    let all : take (24 * c.loop-part.part) rows ≡ rows = take_all (24 * c.loop-part.part) rows (omega (arith, c.loop-part-test.false, c.row_count-part-end.ensures.all, c.row_count-part-end.ensures.count)) in
    rw all at c.loop-part.invariant

use Rattle.std.proofs.Common.{◌≡◌, ◌∙◌, ◌++◌}
use Rattle.recording_marks.specs.Marks.{known_text, second_line}
use Rattle.recording_marks.proofs.text.read_mark.Goals as goal

pub returns : goal.returns
returns c =
    let name = c.in_ok-_name._name.now in
    let known = known_text c.in_ok-known.known in
    let line : c.as_bytes.result.now ≡ known = c.as_bytes.ensures.value ∙ c.deref.ensures.0 ∙ c.known_line-line.ensures in
    let whole : c.args.text.now ≡ c.in_ok-first.first.now ++ c.as_bytes.result.now = c.in_ok-first.ensures in
    let front : c.in_ok-first.first.now ≡ name ++ second_line = c.in_ok-_name.ensures in
    (name, whole ∙ (λ i. front i ++ line i))

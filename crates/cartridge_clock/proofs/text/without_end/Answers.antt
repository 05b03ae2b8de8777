use Rattle.std.proofs.Common.{◌∙◌, ◌++◌, ◌-◌, ℕ, List, length, take, drop, sym, ap}
use Rattle.std.proofs.lemmas.List.{take-append-drop}
use Rattle.std.specs.Cmp.Lexicographic.{same_text}
use Rattle.cartridge_clock.proofs.text.without_end.Goals as goal

pub returns-in-Some : goal.returns-in-Some
returns-in-Some c =
    let text = c.args.text.now in
    let n = length text - length c.args.end.now in
    let is = c.in-Some.ensures.cases in
    sym (take-append-drop n text) ∙ ap (λ (l : List ℕ). take n text ++ l) (same_text (drop n text) c.args.end.now (sym is.0)) ∙ ap (λ (l : List ℕ). l ++ c.args.end.now) (sym is.1)

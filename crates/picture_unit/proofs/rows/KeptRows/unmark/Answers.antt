use Rattle.std.proofs.Common.{◌≡◌, ◌≤◌, ◌+◌, ℕ, List, true, false, get_or, set, sym, ap, subst, ◌∙◌, arith, inl, inr}
use Rattle.std.proofs.lemmas.Bool.{cases_eq, cases_lt}
use Rattle.std.proofs.lemmas.List.{get_or_default}
use Rattle.picture_lines.specs.Pixel.{object_height}
use Rattle.picture_lines.specs.declared.registers.LineRegisters.{LineRegisters}
use Rattle.picture_lines.proofs.Objects.{height-small}
use Rattle.picture_unit.proofs.LateLines.{clear_at, still_set}
use Rattle.picture_unit.proofs.Touched.{above-object, below-object, far-below-object}
use Rattle.picture_unit.proofs.rows.KeptRows.unmark.Goals as goal
use Rattle.picture_unit.proofs.rows.KeptRows.unmark.Goals.{then-y-bottom, else-y-bottom}

pub overflow_add-bottom : goal.overflow_add-bottom
overflow_add-bottom c =
    let small : c.object_height.result ≤ 16 = rw c.object_height.ensures (height-small _) in
    omega (arith, small, c.from-bottom.ensures)

pub loop-y-preserved : goal.loop-y-preserved
loop-y-preserved c =
    let before = c.loop-y.invariant in
    let marks = c.loop-y.self.are_marked in
    let y = c.loop-y.y in
    elim c.if-y-bottom.branch [
      | then-y-bottom w ↦ rw w.self-is (record {
        lines = before.lines;
        some = before.some;
        fewer = λ j marked. before.fewer j (still_set marks y j marked);
        beside = λ j from below marked by place. elim (cases_eq j y) [
          | inl here ↦ absurd (let e : false ≡ true = sym (clear_at marks y) ∙ subst (λ (n : ℕ). get_or (set marks y false) n false ≡ true) here marked in cc)
          | inr other ↦ before.beside j from (omega arith) (still_set marks y j marked) by place
        ];
      })
      | else-y-bottom w ↦ rw w.self-is (record {
        lines = before.lines;
        some = before.some;
        fewer = before.fewer;
        beside = λ j from below marked by place. elim (cases_eq j y) [
          | inl here ↦
              let s : LineRegisters = get_or c.args.self.now.drawn_by j by in
              let line : get_or c.loop-y.self.drawn_by y by ≡ s = ap (λ (n : ℕ). get_or c.loop-y.self.drawn_by n by) (sym here) ∙ ap (λ (lines : List LineRegisters). get_or lines j by) before.lines in
              let height : c.object_height.result ≡ object_height s = c.object_height.ensures ∙ ap object_height (get_or_default c.loop-y.self.drawn_by y _ by (omega (arith, c.loop-y-test.true, c.min-y-end.ensures)) ∙ line) in
              below-object s c.args.object.now (omega (arith, height, place, here, c.from-bottom.ensures, w.if-y-bottom.false))
          | inr other ↦ before.beside j from (omega arith) marked by place
        ];
      })
    ]

pub returns-clause-beside : goal.returns-clause-beside
returns-clause-beside c = λ y within marked by place.
    let s = get_or c.args.self.now.drawn_by y by in
    elim (cases_lt (s.ly + 16) c.args.object.now.y) [
      | inl above ↦ above-object s c.args.object.now above
      | inr begun ↦ elim (cases_lt s.ly c.args.object.now.y) [
        | inl here ↦ c.loop-y.invariant.beside y (omega arith) (omega arith) marked by place
        | inr below ↦ far-below-object s c.args.object.now below
      ]
    ]

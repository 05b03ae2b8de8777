use Rattle.std.proofs.Common.{◌≡◌, ◌<◌, ◌≤◌, ℕ, List, Bool, false, get_or, set, length, refl, sym, ap, subst, ◌∙◌, arith, inl, inr}
use Rattle.std.specs.Prelude.{replicate}
use Rattle.std.proofs.lemmas.List.{get_or-set_same, get_or-set_other, length-set}
use Rattle.std.proofs.lemmas.Bool.{cases_eq, cases_lt}
use Rattle.picture_unit.specs.LateRows.{shown}
use Rattle.picture_unit.proofs.LateLines.{shown-none, shown-drawn, all_false}
use Rattle.picture_unit.proofs.rows.LateLines.draw.Goals as goal
use Rattle.picture_unit.proofs.rows.LateLines.draw.Goals.{then-self-y, else-self-y}

pub returns-then-not-self-clause-rows : goal.returns-then-not-self-clause-rows
returns-then-not-self-clause-rows c =
    let lines = c.args.self.now in
    let none : lines.has_some ≡ false = cc in
    sym (ap (λ (l : List Bool). shown l lines.drawn_by c.args.tiles.now c.args.oam.now c.args.rows.now) (c.requires.lines.none none) ∙ shown-none 144 lines.drawn_by c.args.tiles.now c.args.oam.now c.args.rows.now)

pub loop-y-init : goal.loop-y-init
loop-y-init c = record {
  tiles = refl;
  objects = c.none-objects.ensures c.args.oam.now;
  row_count = c.requires.row_count;
  late_count = omega arith;
  drawn_by = refl;
  some = c.begin.ensures.some;
  kept = c.begin.ensures.kept c.args.rows.now c.args.tiles.now c.args.oam.now c.requires.kept;
  none = c.requires.before;
  behind = c.requires.behind;
  rows = refl;
}

pub loop-y-preserved : goal.loop-y-preserved
loop-y-preserved c =
    let before = c.loop-y.invariant in
    let lines = c.args.self.now in
    let late = c.loop-y.self.are_late in
    let y = c.loop-y.y in
    elim c.if-self-y.branch [
      | then-self-y w ↦ rw (w.self-is, w.kept-is, w.tiles-is, w.rows-is, w.objects-is) (record {
        tiles = w.draw.ensures.tiles ∙ before.tiles;
        objects = w.draw.ensures.chosen;
        row_count = ap length w.draw.ensures.rows ∙ length-set c.loop-y.rows y _ ∙ before.row_count;
        some = w.draw.ensures.some;
        kept = rw before.tiles at w.draw.ensures.kept;
        late_count = length-set late y false ∙ before.late_count;
        drawn_by = before.drawn_by;
        none = λ j h. elim (cases_eq j y) [
          | inl here ↦ subst (λ (n : ℕ). get_or (set late y false) n false ≡ false) (sym here) (get_or-set_same late y false false (omega arith))
          | inr other ↦ get_or-set_other late y j false false other ∙ before.none j (omega arith)
        ];
        behind = λ j from h. get_or-set_other late y j false false (λ here. absurd (omega (arith, c.loop-y-test.true))) ∙ before.behind j from h;
        rows =
            ap (λ (rows : List (List ℕ)). shown (set late y false) lines.drawn_by c.args.tiles.now c.args.oam.now rows) (rw (before.drawn_by, before.tiles) at w.draw.ensures.rows)
            ∙ shown-drawn late lines.drawn_by c.args.tiles.now c.args.oam.now c.loop-y.rows y _ _ w.if-self-y.true (omega (arith, c.loop-y-test.true)) refl
            ∙ before.rows;
      })
      | else-self-y w ↦ rw (w.self-is, w.kept-is, w.tiles-is, w.rows-is, w.objects-is) (record {
        tiles = before.tiles;
        objects = before.objects;
        row_count = before.row_count;
        some = before.some;
        kept = before.kept;
        late_count = before.late_count;
        drawn_by = before.drawn_by;
        none = λ j h. elim (cases_eq j y) [
          | inl here ↦ subst (λ (n : ℕ). get_or late n false ≡ false) (sym here) w.if-self-y.false
          | inr other ↦ before.none j (omega arith)
        ];
        behind = before.behind;
        rows = before.rows;
      })
    ]

-- what was passed, and what is behind the end
left : (are_late : List Bool) (at end : ℕ) → end ≤ at → ((y : ℕ) → y < at → get_or are_late y false ≡ false) → ((y : ℕ) → end ≤ y → y < 144 → get_or are_late y false ≡ false) → (y : ℕ) → y < 144 → get_or are_late y false ≡ false
left are_late at end over passed behind y within = elim (cases_lt y at) [
  | inl before ↦ passed y before
  | inr after ↦ behind y (omega arith) within
]

pub returns-clause-none : goal.returns-clause-none
returns-clause-none c =
    all_false c.loop-y.self.are_late 144 c.loop-y.invariant.late_count (left c.loop-y.self.are_late c.loop-y.y c.args.end (omega arith) c.loop-y.invariant.none c.loop-y.invariant.behind)

pub returns-clause-lines : goal.returns-clause-lines
returns-clause-lines c =
    record {
      visible = rw c.loop-y.invariant.drawn_by c.requires.lines.visible;
      none = λ _. all_false c.loop-y.self.are_late 144 c.loop-y.invariant.late_count (left c.loop-y.self.are_late c.loop-y.y c.args.end (omega arith) c.loop-y.invariant.none c.loop-y.invariant.behind);
    }

pub returns-clause-rows : goal.returns-clause-rows
returns-clause-rows c =
    let lines = c.args.self.now in
    let none : c.loop-y.self.are_late ≡ replicate 144 false = all_false c.loop-y.self.are_late 144 c.loop-y.invariant.late_count (left c.loop-y.self.are_late c.loop-y.y c.args.end (omega arith) c.loop-y.invariant.none c.loop-y.invariant.behind) in
    sym (ap (λ (l : List Bool). shown l lines.drawn_by c.args.tiles.now c.args.oam.now c.loop-y.rows) none ∙ shown-none 144 lines.drawn_by c.args.tiles.now c.args.oam.now c.loop-y.rows)
    ∙ c.loop-y.invariant.rows

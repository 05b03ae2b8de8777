-- What it means for the rows that a line is noted, drawn, set or forgotten.
use Rattle.std.proofs.Common.{◌≡◌, ℕ, ◌<◌, Bool, true, false, cond, List, [], ◌∷◌, length, get_or, set, refl, sym, ap, subst, ◌∙◌, arith, zero, suc, inl, inr}
use Rattle.std.specs.Prelude.{All, replicate, if◌then◌else◌}
use Rattle.picture_lines.specs.Pixel.{drawn_row}
use Rattle.picture_lines.specs.declared.registers.LineRegisters.{LineRegisters}
use Rattle.std.proofs.lemmas.List.{length-set, set-get_or, get_or-set_same, get_or-set_other}
use Rattle.std.proofs.lemmas.Bool.{cases_eq}
use Rattle.std.proofs.lemmas.List.Elements.{All-set}
use Rattle.picture_unit.specs.declared.rows.KeptRows.{KeptRows}
use Rattle.picture_unit.specs.declared.rows.LateLines.{LateLines}
use Rattle.picture_unit.specs.declared.rows.Rows.{Rows}
use Rattle.picture_unit.specs.declared.state.PictureState.{PictureState}
use Rattle.picture_unit.specs.Picture.{IsWhole}
use Rattle.picture_unit.specs.LateRows.{shown, with_late, rows_of, earlier_vram, AreLines, IsKept, AreKept, AreRight}

pub length-shown : (are_late : List Bool) (drawn_by : List LineRegisters) (vram oam : List ℕ) (rows : List (List ℕ)) → length (shown are_late drawn_by vram oam rows) ≡ length rows
unfolding shown
length-shown [] drawn_by vram oam rows = refl
length-shown (is_late ∷ are_late) [] vram oam rows = refl
length-shown (is_late ∷ are_late) (by ∷ drawn_by) vram oam [] = refl
length-shown (is_late ∷ are_late) (by ∷ drawn_by) vram oam (row ∷ rows) = ap suc (length-shown are_late drawn_by vram oam rows)

pub shown-none : (n : ℕ) (drawn_by : List LineRegisters) (vram oam : List ℕ) (rows : List (List ℕ)) → shown (replicate n false) drawn_by vram oam rows ≡ rows
unfolding shown
shown-none zero drawn_by vram oam rows = refl
shown-none (suc n) [] vram oam rows = refl
shown-none (suc n) (by ∷ drawn_by) vram oam [] = refl
shown-none (suc n) (by ∷ drawn_by) vram oam (row ∷ rows) = ap (λ (l : List (List ℕ)). row ∷ l) (shown-none n drawn_by vram oam rows)

-- a late line is drawn
pub shown-drawn : (are_late : List Bool) (drawn_by : List LineRegisters) (vram oam : List ℕ) (rows : List (List ℕ)) (y : ℕ) (r : LineRegisters) (row : List ℕ) →
    get_or are_late y false ≡ true → y < length drawn_by → row ≡ drawn_row (get_or drawn_by y r) vram oam →
    shown (set are_late y false) drawn_by vram oam (set rows y row) ≡ shown are_late drawn_by vram oam rows
unfolding shown
shown-drawn [] drawn_by vram oam rows y r row late within is = absurd (let e : false ≡ true = late in cc)
shown-drawn (is_late ∷ are_late) [] vram oam rows y r row late within is = absurd (omega arith)
shown-drawn (is_late ∷ are_late) (by ∷ drawn_by) vram oam [] zero r row late within is = refl
shown-drawn (is_late ∷ are_late) (by ∷ drawn_by) vram oam [] (suc y) r row late within is = refl
shown-drawn (is_late ∷ are_late) (by ∷ drawn_by) vram oam (first ∷ rows) zero r row late within is =
    ap (λ (l : List ℕ). l ∷ shown are_late drawn_by vram oam rows) (is ∙ ap (λ b. cond b (drawn_row by vram oam) first) (sym late))
shown-drawn (is_late ∷ are_late) (by ∷ drawn_by) vram oam (first ∷ rows) (suc y) r row late within is =
    ap (λ (l : List (List ℕ)). (if is_late then drawn_row by vram oam else first) ∷ l) (shown-drawn are_late drawn_by vram oam rows y r row late (omega arith) is)

-- a row of a line that is late, and of one that is not
pub shown-late : (are_late : List Bool) (drawn_by : List LineRegisters) (vram oam : List ℕ) (rows : List (List ℕ)) (y : ℕ) (r : LineRegisters) →
    get_or are_late y false ≡ true → y < length drawn_by → y < length rows →
    get_or (shown are_late drawn_by vram oam rows) y [] ≡ drawn_row (get_or drawn_by y r) vram oam
unfolding shown
shown-late [] drawn_by vram oam rows y r late within in_rows = absurd (let e : false ≡ true = late in cc)
shown-late (is_late ∷ are_late) [] vram oam rows y r late within in_rows = absurd (omega arith)
shown-late (is_late ∷ are_late) (by ∷ drawn_by) vram oam [] y r late within in_rows = absurd (omega arith)
shown-late (is_late ∷ are_late) (by ∷ drawn_by) vram oam (first ∷ rows) zero r late within in_rows = ap (λ b. cond b (drawn_row by vram oam) first) late
shown-late (is_late ∷ are_late) (by ∷ drawn_by) vram oam (first ∷ rows) (suc y) r late within in_rows = shown-late are_late drawn_by vram oam rows y r late (omega arith) (omega arith)

pub shown-other : (are_late : List Bool) (drawn_by : List LineRegisters) (vram oam : List ℕ) (rows : List (List ℕ)) (y : ℕ) →
    get_or are_late y false ≡ false → get_or (shown are_late drawn_by vram oam rows) y [] ≡ get_or rows y []
unfolding shown
shown-other [] drawn_by vram oam rows y late = refl
shown-other (is_late ∷ are_late) [] vram oam rows y late = refl
shown-other (is_late ∷ are_late) (by ∷ drawn_by) vram oam [] y late = refl
shown-other (is_late ∷ are_late) (by ∷ drawn_by) vram oam (first ∷ rows) zero late = ap (λ b. cond b (drawn_row by vram oam) first) late
shown-other (is_late ∷ are_late) (by ∷ drawn_by) vram oam (first ∷ rows) (suc y) late = shown-other are_late drawn_by vram oam rows y late

module _ (vram oam vram' oam' : List ℕ) where
  -- a line is noted: it is no longer among those that were noted earlier
  pub shown-noted : (late : List Bool) (by : List LineRegisters) (late' : List Bool) (by' : List LineRegisters) (rows : List (List ℕ)) (y : ℕ) (r : LineRegisters) →
      y < length late → y < length by → y < length late' → y < length by' →
      shown (set late y true) (set by y r) vram oam (shown (set late' y false) by' vram' oam' rows)
      ≡ set (shown late by vram oam (shown late' by' vram' oam' rows)) y (drawn_row r vram oam)
  unfolding shown
  shown-noted [] by late' by' rows y r a b c d = absurd (omega arith)
  shown-noted (l ∷ ls) [] late' by' rows y r a b c d = absurd (omega arith)
  shown-noted (l ∷ ls) (s ∷ ss) [] by' rows y r a b c d = absurd (omega arith)
  shown-noted (l ∷ ls) (s ∷ ss) (l' ∷ ls') [] rows y r a b c d = absurd (omega arith)
  shown-noted (l ∷ ls) (s ∷ ss) (l' ∷ ls') (s' ∷ ss') [] zero r a b c d = refl
  shown-noted (l ∷ ls) (s ∷ ss) (l' ∷ ls') (s' ∷ ss') [] (suc y) r a b c d = refl
  shown-noted (l ∷ ls) (s ∷ ss) (l' ∷ ls') (s' ∷ ss') (row ∷ rows) zero r a b c d = refl
  shown-noted (l ∷ ls) (s ∷ ss) (l' ∷ ls') (s' ∷ ss') (row ∷ rows) (suc y) r a b c d =
      ap (λ (x : List (List ℕ)). (if l then drawn_row s vram oam else (if l' then drawn_row s' vram' oam' else row)) ∷ x)
      (shown-noted ls ss ls' ss' rows y r (omega arith) (omega arith) (omega arith) (omega arith))

  -- a row is set: its line is no longer late
  pub shown-set : (late : List Bool) (by : List LineRegisters) (late' : List Bool) (by' : List LineRegisters) (rows : List (List ℕ)) (y : ℕ) (row : List ℕ) →
      y < length late → y < length by → y < length late' → y < length by' →
      shown (set late y false) by vram oam (shown (set late' y false) by' vram' oam' (set rows y row))
      ≡ set (shown late by vram oam (shown late' by' vram' oam' rows)) y row
  unfolding shown
  shown-set [] by late' by' rows y r a b c d = absurd (omega arith)
  shown-set (l ∷ ls) [] late' by' rows y r a b c d = absurd (omega arith)
  shown-set (l ∷ ls) (s ∷ ss) [] by' rows y r a b c d = absurd (omega arith)
  shown-set (l ∷ ls) (s ∷ ss) (l' ∷ ls') [] rows y r a b c d = absurd (omega arith)
  shown-set (l ∷ ls) (s ∷ ss) (l' ∷ ls') (s' ∷ ss') [] zero r a b c d = refl
  shown-set (l ∷ ls) (s ∷ ss) (l' ∷ ls') (s' ∷ ss') [] (suc y) r a b c d = refl
  shown-set (l ∷ ls) (s ∷ ss) (l' ∷ ls') (s' ∷ ss') (row ∷ rows) zero r a b c d = refl
  shown-set (l ∷ ls) (s ∷ ss) (l' ∷ ls') (s' ∷ ss') (row ∷ rows) (suc y) r a b c d =
      ap (λ (x : List (List ℕ)). (if l then drawn_row s vram oam else (if l' then drawn_row s' vram' oam' else row)) ∷ x)
      (shown-set ls ss ls' ss' rows y r (omega arith) (omega arith) (omega arith) (omega arith))

pub cleared : (n y : ℕ) → set (replicate n false) y false ≡ replicate n false
cleared zero y = refl
cleared (suc n) zero = refl
cleared (suc n) (suc y) = ap (λ (l : List Bool). false ∷ l) (cleared n y)

-- flags of which none is set
pub all-false : (are_late : List Bool) → ((y : ℕ) → y < length are_late → get_or are_late y false ≡ false) → are_late ≡ replicate (length are_late) false
all-false [] none = refl
all-false (is_late ∷ are_late) none =
    ap (λ (b : Bool). b ∷ are_late) (none 0 (omega arith))
    ∙ ap (λ (l : List Bool). false ∷ l) (all-false are_late (λ y h. none (suc y) (omega arith)))

module _ (lines : LateLines) (at : ℕ) where
  pub lines-noted : (by : LineRegisters) → by.ly < 144 → AreLines lines → AreLines (record { are_late = set lines.are_late at true; drawn_by = set lines.drawn_by at by; has_some = true })
  lines-noted by within right = record {
    visible = All-set (λ (r : LineRegisters). r.ly < 144) lines.drawn_by at by within right.visible;
    none = λ none. absurd (let e : true ≡ false = none in cc);
  }

  pub lines-cleared : AreLines lines → AreLines (record lines { are_late = set lines.are_late at false })
  lines-cleared right = record {
    visible = right.visible;
    none = λ none. ap (λ (l : List Bool). set l at false) (right.none none) ∙ cleared 144 at;
  }

pub all_false : (are_late : List Bool) (n : ℕ) → length are_late ≡ n → ((y : ℕ) → y < n → get_or are_late y false ≡ false) → are_late ≡ replicate n false
all_false are_late n size none =
    all-false are_late (λ y h. none y (omega arith)) ∙ ap (λ (m : ℕ). replicate m false) size

-- the rows where no line is late
pub shown_as_is : (lines : LateLines) (vram oam : List ℕ) (rows : List (List ℕ)) → lines.are_late ≡ replicate 144 false → with_late lines vram oam rows ≡ rows
shown_as_is lines vram oam rows none =
    ap (λ (l : List Bool). shown l lines.drawn_by vram oam rows) none ∙ shown-none 144 lines.drawn_by vram oam rows

pub shown_blank : (late earlier : LateLines) (vram oam vram' oam' : List ℕ) (rows : List (List ℕ)) → late.are_late ≡ replicate 144 false → earlier.are_late ≡ replicate 144 false →
    with_late late vram oam (with_late earlier vram' oam' rows) ≡ rows
shown_blank late earlier vram oam vram' oam' rows none none' =
    shown_as_is late vram oam (with_late earlier vram' oam' rows) none ∙ shown_as_is earlier vram' oam' rows none'

-- a row of shades is set
pub whole_set : (p : PictureState) (oam : List ℕ) (rows : List (List ℕ)) (y : ℕ) (row : List ℕ) → All (λ shade. shade < 4) row → IsWhole p oam rows → IsWhole p oam (set rows y row)
whole_set p oam rows y row small whole = record {
  legal = whole.legal;
  oam_size = whole.oam_size;
  row_count = length-set rows y row ∙ whole.row_count;
  shades = All-set (λ (r : List ℕ). All (λ shade. shade < 4) r) rows y row small whole.shades;
}

-- VRAM or OAM changes, and the rows stay
pub whole_aside : (p : PictureState) (oam oam' : List ℕ) (rows rows' : List (List ℕ)) → length oam' ≡ 160 → rows' ≡ rows → IsWhole p oam rows → IsWhole p oam' rows'
whole_aside p oam oam' rows rows' size same whole = record {
  legal = whole.legal;
  oam_size = size;
  row_count = ap length same ∙ whole.row_count;
  shades = subst (λ (x : List (List ℕ)). All (λ row. All (λ shade. shade < 4) row) x) (sym same) whole.shades;
}

pub clear_at : (flags : List Bool) (y : ℕ) → get_or (set flags y false) y false ≡ false
clear_at [] y = refl
clear_at (flag ∷ flags) zero = refl
clear_at (flag ∷ flags) (suc y) = clear_at flags y

-- what is set after a flag was cleared
pub still_set : (flags : List Bool) (y j : ℕ) → get_or (set flags y false) j false ≡ true → get_or flags j false ≡ true
still_set flags y j is_set = elim (cases_eq j y) [
  | inl here ↦ absurd (let e : false ≡ true = sym (clear_at flags y) ∙ subst (λ (n : ℕ). get_or (set flags y false) n false ≡ true) here is_set in cc)
  | inr other ↦ sym (get_or-set_other flags y j false false other) ∙ is_set
]

module _ (k : KeptRows) (rows : List (List ℕ)) (vram oam : List ℕ) (y : ℕ) where
  -- a row is set: it is no longer kept
  pub kept_set : (row : List ℕ) → AreKept k rows vram oam → AreKept (record k { are_marked = set k.are_marked y false }) (set rows y row) vram oam
  kept_set row kept = λ some j within marked by. elim (cases_eq j y) [
    | inl here ↦ absurd (let e : false ≡ true = sym (clear_at k.are_marked y) ∙ subst (λ (n : ℕ). get_or (set k.are_marked y false) n false ≡ true) here marked in cc)
    | inr other ↦
        let was : IsKept (get_or k.drawn_by j by) j (get_or rows j []) vram oam = kept some j within (sym (get_or-set_other k.are_marked y j false false other) ∙ marked) by in
        record { place = was.place; row = get_or-set_other rows y j row [] other ∙ was.row }
  ]

  -- a row is drawn: it is kept by its registers, if it is that of their line
  pub kept_drawn : (s : LineRegisters) (is_placed : Bool) → (is_placed ≡ true → s.ly ≡ y) → y < length rows → y < length k.are_marked → y < length k.drawn_by → AreKept k rows vram oam → k.has_some ≡ true →
      AreKept (record k { are_marked = set k.are_marked y is_placed; drawn_by = set k.drawn_by y s }) (set rows y (drawn_row s vram oam)) vram oam
  kept_drawn s is_placed placed in_rows in_marks in_lines kept some = λ _ j within marked by. elim (cases_eq j y) [
    | inl here ↦
        let mark : is_placed ≡ true = sym (get_or-set_same k.are_marked y is_placed false in_marks) ∙ subst (λ (n : ℕ). get_or (set k.are_marked y is_placed) n false ≡ true) here marked in
        let line : get_or (set k.drawn_by y s) y by ≡ s = get_or-set_same k.drawn_by y s by in_lines in
        subst (λ (n : ℕ). IsKept (get_or (set k.drawn_by y s) n by) n (get_or (set rows y (drawn_row s vram oam)) n []) vram oam) (sym here)
        (subst (λ (l : LineRegisters). IsKept l y (get_or (set rows y (drawn_row s vram oam)) y []) vram oam) (sym line)
        (record { place = placed mark; row = get_or-set_same rows y (drawn_row s vram oam) [] in_rows }))
    | inr other ↦
        let was : IsKept (get_or k.drawn_by j by) j (get_or rows j []) vram oam = kept some j within (sym (get_or-set_other k.are_marked y j is_placed false other) ∙ marked) by in
        subst (λ (l : LineRegisters). IsKept l j (get_or (set rows y (drawn_row s vram oam)) j []) vram oam) (sym (get_or-set_other k.drawn_by y j s by other))
        (record { place = was.place; row = get_or-set_other rows y j (drawn_row s vram oam) [] other ∙ was.row })
  ]

  -- A kept row is as its registers would draw it.
  pub kept_stays : (s : LineRegisters) → y < 144 → AreKept k rows vram oam → k.has_some ≡ true → get_or k.are_marked y false ≡ true → get_or k.drawn_by y s ≡ s → rows ≡ set rows y (drawn_row s vram oam)
  kept_stays s visible kept some marked same =
      let here : get_or rows y [] ≡ drawn_row s vram oam = (kept some y visible marked s).row ∙ ap (λ (l : LineRegisters). drawn_row l vram oam) same in
      sym (subst (λ (row : List ℕ). set rows y row ≡ rows) here (set-get_or rows y []))

-- Where no line is late, the rows stay while VRAM and OAM change, once the earlier lines are drawn by a copy of VRAM.
pub rows_left : (a b : Rows) (vram oam vram' oam' : List ℕ) → a.late.are_late ≡ replicate 144 false → b.late ≡ a.late → b.earlier ≡ a.earlier → b.earlier_oam ≡ a.earlier_oam → b.drawn ≡ a.drawn → b.has_same_vram ≡ false →
    ((rows : List (List ℕ)) → with_late a.earlier b.earlier_tiles a.earlier_oam.items rows ≡ with_late a.earlier (earlier_vram a vram) a.earlier_oam.items rows) →
    rows_of b vram' oam' ≡ rows_of a vram oam
rows_left a b vram oam vram' oam' none late earlier earlier_oam drawn copied same =
    let none' : b.late.are_late ≡ replicate 144 false = ap (λ (lines : LateLines). lines.are_late) late ∙ none in
    let below : with_late b.earlier (earlier_vram b vram') b.earlier_oam.items b.drawn.items ≡ with_late a.earlier b.earlier_tiles a.earlier_oam.items a.drawn.items = rw (copied, earlier, earlier_oam, drawn) refl in
    shown_as_is b.late vram' oam' (with_late b.earlier (earlier_vram b vram') b.earlier_oam.items b.drawn.items) none'
    ∙ (below ∙ (same a.drawn.items ∙ sym (shown_as_is a.late vram oam (with_late a.earlier (earlier_vram a vram) a.earlier_oam.items a.drawn.items) none)))

-- Laws of n M-cycles, and of a line that is drawn.
use Rattle.std.specs.Prelude.{◌≡◌, ℕ, zero, suc, ◌+◌, ◌%◌, ◌<◌, Bool, true, false, ◌||◌, ◌&&◌, not, cond, refl, [], length}
use Rattle.std.specs.Fn.{iterate}
use Rattle.std.proofs.Common.{ap, ◌∙◌, sym, subst, arith}
use Rattle.std.proofs.lemmas.List.{get_or-set_other, get_or-set_same}
use Rattle.std.proofs.lemmas.List.FromFn.{get_or-map-range_with_len}
use Rattle.std.proofs.lemmas.Bool.Decides.{nat_tests}
use Rattle.picture_lines.specs.Pixel.{pixel, drawn_row}
use Rattle.picture_unit.specs.declared.state.PictureState.{PictureState}
use Rattle.picture_unit.specs.Laws.{HoldsItsPixels, frame_cycle}
use Rattle.picture_unit.proofs.Quiet.{stays_on}
use Rattle.std.proofs.Math.Bool.{or_assoc}
use Rattle.repeated_steps.proofs.Iterates.{iterate-along}
use Rattle.picture_unit.specs.Picture.{PictureUnit, PictureAndRequests, unrequested, is_on, stat_signal, advanced, entered, drawn, begins_vblank, moved, evaluated, tick, ticks, line_registers, line_drawn, IsLegalPicture}

abbrev pub pending : Bool → Bool → PictureAndRequests → PictureAndRequests
pending v l d = record d { vblank = v || d.vblank; stat = l || d.stat }

abbrev requesting : PictureUnit → Bool → Bool → PictureAndRequests
requesting s v l = record { picture = s; vblank = v; stat = l }

tick-pending : (v l : Bool) (d : PictureAndRequests) → pending v l (tick d) ≡ tick (pending v l d)
unfolding tick evaluated moved
tick-pending v l d =
    let next = entered (advanced d.picture.state) in
    let s = drawn (record d.picture { state = next }) in
    let rises = stat_signal s.state && not s.state.signal in
    let end = record s { state = record s.state { signal = stat_signal s.state } } in
    elim (is_on d.picture.state) as (λ b. pending v l (cond b (evaluated (moved d)) d) ≡ cond b (evaluated (moved (pending v l d))) (pending v l d)) [
      | true ↦ ap (λ (q : Bool). requesting end q (l || (d.stat || rises))) (sym (or_assoc v d.vblank (begins_vblank next))) ∙ ap (λ (q : Bool). requesting end ((v || d.vblank) || begins_vblank next) q) (sym (or_assoc l d.stat rises))
      | false ↦ refl
    ]

or_none : (b : Bool) → (b || false) ≡ b
or_none true = refl
or_none false = refl

pub picture_ticks : (v l : Bool) (n : ℕ) (s : PictureUnit) → iterate tick n (record { picture = s; vblank = v; stat = l }) ≡ pending v l (ticks n s)
unfolding unrequested
picture_ticks v l n s =
    ap (λ (q : Bool). iterate tick n (requesting s q l)) (sym (or_none v))
    ∙ ap (λ (q : Bool). iterate tick n (requesting s (v || false) q)) (sym (or_none l))
    ∙ sym (iterate-along tick tick (pending v l) (tick-pending v l) n (unrequested s))

-- a line that is drawn
pub drawn_line-pixels : (s : PictureUnit) → s.state.ly < length s.rows → HoldsItsPixels s (line_drawn s)
unfolding line_drawn drawn_row
drawn_line-pixels s within = record {
  drawn = λ x h.
      rw (get_or-set_same s.rows s.state.ly (drawn_row (line_registers s.state) s.vram s.oam) [] within)
      (get_or-map-range_with_len (pixel (line_registers s.state) s.vram s.oam) 0 160 x x 0 h (omega arith));
  others = λ y other. get_or-set_other s.rows s.state.ly y (drawn_row (line_registers s.state) s.vram s.oam) [] other;
}

-- the M-cycle of the frame
pub frame_cycle-drawn : (s : PictureUnit) → frame_cycle (drawn s).state ≡ frame_cycle s.state
unfolding drawn line_drawn
frame_cycle-drawn s = grind (arith, nat_tests)

pub frame_cycle-entered : (p : PictureState) → frame_cycle (entered p) ≡ frame_cycle p
unfolding entered
frame_cycle-entered p = grind (arith, nat_tests)

pub frame_cycle-advanced : (p : PictureState) → p.ly < 154 → p.m_cycle < 114 → frame_cycle (advanced p) ≡ (frame_cycle p + 1) % 17556
unfolding advanced
frame_cycle-advanced p ly m_cycle = grind (arith, nat_tests)

pub ly-drawn : (s : PictureUnit) → (drawn s).state.ly ≡ s.state.ly
unfolding drawn line_drawn
ly-drawn s = grind (arith, nat_tests)

pub m_cycle-drawn : (s : PictureUnit) → (drawn s).state.m_cycle ≡ s.state.m_cycle
unfolding drawn line_drawn
m_cycle-drawn s = grind (arith, nat_tests)

pub ly-entered : (p : PictureState) → (entered p).ly ≡ p.ly
unfolding entered
ly-entered p = grind (arith, nat_tests)

pub m_cycle-entered : (p : PictureState) → (entered p).m_cycle ≡ p.m_cycle
unfolding entered
m_cycle-entered p = grind (arith, nat_tests)

pub ly-advanced : (p : PictureState) → p.ly < 154 → (advanced p).ly < 154
unfolding advanced
ly-advanced p ly = grind (arith, nat_tests)

pub m_cycle-advanced : (p : PictureState) → p.m_cycle < 114 → (advanced p).m_cycle < 114
unfolding advanced
m_cycle-advanced p m_cycle = grind (arith, nat_tests)

module _ (d : PictureAndRequests) (on : is_on d.picture.state ≡ true) where
  run : tick d ≡ evaluated (moved d)
  unfolding tick
  run = ap (λ b. cond b (evaluated (moved d)) d) on

  pub frame_cycle-tick : d.picture.state.ly < 154 → d.picture.state.m_cycle < 114 → frame_cycle (tick d).picture.state ≡ (frame_cycle d.picture.state + 1) % 17556
  unfolding evaluated moved
  frame_cycle-tick ly m_cycle =
      ap (λ (e : PictureAndRequests). frame_cycle e.picture.state) run
      ∙ frame_cycle-drawn (record d.picture { state = entered (advanced d.picture.state) })
      ∙ frame_cycle-entered (advanced d.picture.state)
      ∙ frame_cycle-advanced d.picture.state ly m_cycle

  pub ly-tick : (tick d).picture.state.ly ≡ (advanced d.picture.state).ly
  unfolding evaluated moved
  ly-tick =
      ap (λ (e : PictureAndRequests). e.picture.state.ly) run
      ∙ ly-drawn (record d.picture { state = entered (advanced d.picture.state) })
      ∙ ly-entered (advanced d.picture.state)

  pub m_cycle-tick : (tick d).picture.state.m_cycle ≡ (advanced d.picture.state).m_cycle
  unfolding evaluated moved
  m_cycle-tick =
      ap (λ (e : PictureAndRequests). e.picture.state.m_cycle) run
      ∙ m_cycle-drawn (record d.picture { state = entered (advanced d.picture.state) })
      ∙ m_cycle-entered (advanced d.picture.state)

one_more : (f n : ℕ) → ((f + 1) % 17556 + n) % 17556 ≡ (f + suc n) % 17556
one_more f n = omega arith

whole_frame : (f : ℕ) → f < 17556 → f ≡ (f + zero) % 17556
whole_frame f h = omega arith

frame_cycle-ticks : (n : ℕ) (d : PictureAndRequests) → is_on d.picture.state ≡ true → d.picture.state.ly < 154 → d.picture.state.m_cycle < 114
    → frame_cycle (iterate tick n d).picture.state ≡ (frame_cycle d.picture.state + n) % 17556
frame_cycle-ticks zero d on ly m_cycle = whole_frame (frame_cycle d.picture.state) (omega (arith, ly, m_cycle))
frame_cycle-ticks (suc n) d on ly m_cycle =
    frame_cycle-ticks n (tick d) (stays_on d (tick d) on refl)
    (subst (λ (n : ℕ). n < 154) (sym (ly-tick d on)) (ly-advanced d.picture.state ly))
    (subst (λ (n : ℕ). n < 114) (sym (m_cycle-tick d on)) (m_cycle-advanced d.picture.state m_cycle))
    ∙ ap (λ (f : ℕ). (f + n) % 17556) (frame_cycle-tick d on ly m_cycle)
    ∙ one_more (frame_cycle d.picture.state) n

pub frame-cycles : (n : ℕ) (s : PictureUnit) → is_on s.state ≡ true → IsLegalPicture s.state → frame_cycle (ticks n s).picture.state ≡ (frame_cycle s.state + n) % 17556
unfolding unrequested
frame-cycles n s on legal = frame_cycle-ticks n (unrequested s) on legal.ly legal.m_cycle

-- The window counter counts the lines of a frame on which the window was drawn.
use Rattle.std.proofs.Common.{◌≡◌, ℕ, ◌+◌, ◌%◌, ◌<◌, Bool, true, false, List, [], ◌∷◌, refl, sym, ap, subst, ◌∙◌, arith, inl, inr, eqb-true}
use Rattle.std.specs.Prelude.{◌==◌, if◌then◌else◌}
use Rattle.std.proofs.lemmas.Bool.Decides.{nat_tests}
use Rattle.picture_unit.specs.declared.state.PictureState.{PictureState}
use Rattle.picture_unit.specs.Picture.{PictureUnit, PictureAndRequests, is_on, advanced, entered, draws, drawn, line_drawn, window_counter_after, moved, evaluated, tick}
use Rattle.picture_unit.specs.Registers.{register_stored, switched_off, switched_on, lcdc_written, stat_written, lyc_written, register_written}
use Rattle.picture_unit.specs.WindowLaws.{Event, Cycle, Write, after, draws_window, window_lines, EndsFrame, StayInFrame, WindowCounterCountsLines}
use Rattle.picture_unit.proofs.Quiet.{stays_on}
use Rattle.picture_unit.proofs.Steady.{bool_cases}

abbrev counter : PictureAndRequests → ℕ
counter d = d.picture.state.window_counter

-- ---- an M-cycle

counter-evaluated : (d : PictureAndRequests) → counter (evaluated d) ≡ counter d
unfolding evaluated
counter-evaluated d = refl

counter-moved : (d : PictureAndRequests) →
    counter (moved d) ≡ (if draws_window d.picture.state then ((entered (advanced d.picture.state)).window_counter + 1) % 256 else (entered (advanced d.picture.state)).window_counter)
unfolding moved drawn line_drawn window_counter_after
counter-moved d = grind (arith, nat_tests)

counter-tick : (d : PictureAndRequests) → is_on d.picture.state ≡ true →
    counter (tick d) ≡ (if draws_window d.picture.state then ((entered (advanced d.picture.state)).window_counter + 1) % 256 else (entered (advanced d.picture.state)).window_counter)
unfolding tick
counter-tick d on = rw on (counter-evaluated (moved d) ∙ counter-moved d)

counter-within : (p : PictureState) → (EndsFrame p → ⊥) → (entered (advanced p)).window_counter ≡ p.window_counter
unfolding entered advanced
counter-within p within =
    elim (bool_cases (p.m_cycle == 113)) [
      | inl last ↦
          let more : (p.ly == 153) ≡ false =
          elim (bool_cases (p.ly == 153)) [
            | inl end ↦ absurd (within (record { line = eqb-true p.ly 153 end; m_cycle = eqb-true p.m_cycle 113 last }))
            | inr other ↦ other
          ] in
          let next : (p.ly + 1 == 0) ≡ false = grind (arith, nat_tests) in
          rw (last, more, next) refl
      | inr more ↦
          let next : (p.m_cycle + 1 == 0) ≡ false = grind (arith, nat_tests) in
          rw (more, next) refl
    ]

counter-begins : (p : PictureState) → EndsFrame p → (entered (advanced p)).window_counter ≡ 0
unfolding entered advanced
counter-begins p ends = grind (arith, nat_tests, ends.line, ends.m_cycle)

draws_none : (p : PictureState) → EndsFrame p → draws_window p ≡ false
unfolding draws entered advanced
draws_none p ends = grind (arith, nat_tests, ends.line, ends.m_cycle)

begins_at_zero : (d : PictureAndRequests) → is_on d.picture.state ≡ true → EndsFrame d.picture.state → counter (tick d) ≡ 0
begins_at_zero d on ends = counter-tick d on ∙ rw (draws_none d.picture.state ends) (counter-begins d.picture.state ends)

-- ---- a write

counter-lcdc : (lcdc : ℕ) (s : PictureUnit) → is_on s.state ≡ true → is_on (lcdc_written lcdc s).state ≡ true → (lcdc_written lcdc s).state.window_counter ≡ s.state.window_counter
unfolding lcdc_written switched_off switched_on is_on
counter-lcdc lcdc s on stays = grind (arith, nat_tests, on, stays)

counter_if : (b : Bool) (n : ℕ) (d e : PictureAndRequests) → counter d ≡ n → counter e ≡ n → counter (if b then d else e) ≡ n
counter_if true n d e first second = first
counter_if false n d e first second = second

stored_if : (b : Bool) (n : ℕ) (p q : PictureState) → p.window_counter ≡ n → q.window_counter ≡ n → (if b then p else q).window_counter ≡ n
stored_if true n p q first second = first
stored_if false n p q first second = second

counter-stored : (address value : ℕ) (p : PictureState) → (register_stored address value p).window_counter ≡ p.window_counter
unfolding register_stored
counter-stored address value p =
    stored_if (address == 0xFF42) p.window_counter _ _ refl (stored_if (address == 0xFF43) p.window_counter _ _ refl
    (stored_if (address == 0xFF47) p.window_counter _ _ refl (stored_if (address == 0xFF48) p.window_counter _ _ refl
    (stored_if (address == 0xFF49) p.window_counter _ _ refl (stored_if (address == 0xFF4A) p.window_counter _ _ refl
    (stored_if (address == 0xFF4B) p.window_counter _ _ refl refl))))))

counter-write : (address value : ℕ) (d : PictureAndRequests) → is_on d.picture.state ≡ true → is_on (register_written address value d).picture.state ≡ true →
    counter (register_written address value d) ≡ counter d
unfolding register_written stat_written lyc_written evaluated is_on
counter-write address value d on stays =
    elim (bool_cases (address == 0xFF40)) [
      | inl lcdc ↦ let stays' = rw lcdc at stays in rw lcdc (counter-lcdc value d.picture on stays')
      | inr other ↦ rw other (counter_if (address == 0xFF41) (counter d) _ _ refl (counter_if (address == 0xFF45) (counter d) _ _ refl (counter-stored address value d.picture.state)))
    ]

-- ---- any number of both

one_more : (b : Bool) (w m n : ℕ) → w ≡ (if b then (m + 1) % 256 else m) → (w + n) % 256 ≡ (m + ((if b then 1 else 0) + n)) % 256
one_more true w m n e = omega (arith, e)
one_more false w m n e = omega (arith, e)

below : (b : Bool) (w m : ℕ) → m < 256 → w ≡ (if b then (m + 1) % 256 else m) → w < 256
below true w m small e = omega (arith, e)
below false w m small e = omega (arith, e)

counts_on : (events : List Event) (d : PictureAndRequests) → is_on d.picture.state ≡ true → counter d < 256 → StayInFrame events d →
    counter (after events d) ≡ (counter d + window_lines events d) % 256
counts_on [] d on small stay = omega arith
counts_on (Cycle ∷ events) d on small stay =
    let next : counter (tick d) ≡ (if draws_window d.picture.state then (counter d + 1) % 256 else counter d) =
    counter-tick d on ∙ ap (λ (w : ℕ). if draws_window d.picture.state then (w + 1) % 256 else w) (counter-within d.picture.state stay.0) in
    counts_on events (tick d) (stays_on d (tick d) on refl) (below (draws_window d.picture.state) (counter (tick d)) (counter d) small next) stay.1
    ∙ one_more (draws_window d.picture.state) (counter (tick d)) (counter d) (window_lines events (tick d)) next
counts_on (Write address value ∷ events) d on small stay =
    let same = counter-write address value d on stay.0 in
    counts_on events (register_written address value d) stay.0 (subst (λ (w : ℕ). w < 256) (sym same) small) stay.1
    ∙ ap (λ (w : ℕ). (w + window_lines events (register_written address value d)) % 256) same

from_zero : (w n : ℕ) → w ≡ 0 → (w + n) % 256 ≡ n % 256
from_zero w n e = omega arith

pub counts_lines : WindowCounterCountsLines
counts_lines = record {
  begins = begins_at_zero;
  counts = λ events d on zero stay. counts_on events d on (omega (arith, zero)) stay ∙ from_zero (counter d) (window_lines events d) zero;
}

-- The picture unit, which is given its M-cycles late.
use Rattle.std.proofs.Common.{◌≡◌, ℕ, zero, suc, ◌+◌, ◌-◌, ◌*◌, ◌/◌, ◌%◌, ◌<◌, ◌≤◌, Bool, true, false, cond, refl, sym, ap, subst, ◌∙◌, arith, inl, inr, List, length}
use Rattle.std.specs.Prelude.{◌⊎◌, ◌≢◌, not, Option, Some, None, slice_get, ◌&&◌, ◌||◌, ◌==◌, nat_lt, [], slice_set}
use Rattle.std.specs.Bool.{beq}
use Rattle.std.specs.Fn.{iterate}
use Rattle.std.proofs.lemmas.Option.{slice_get_within, slice_get-get_or, get_or_from_slice_get}
use Rattle.std.proofs.lemmas.List.{length-set, get_or-set_other, get_or-set_same}
use Rattle.picture_lines.specs.declared.registers.LineRegisters.{LineRegisters}
use Rattle.std.proofs.lemmas.Bool.Decides.{nat_tests}
use Rattle.std.proofs.Math.Bool.{or-false}
use Rattle.repeated_steps.proofs.Iterates.{iterate-add, iterate-keeps, iterate-along}
use Rattle.picture_lines.specs.Bits.{has_bit}
use Rattle.picture_lines.specs.Pixel.{drawn_row}
use Rattle.picture_lines.proofs.Shades.{drawn_row-small}
use Rattle.picture_unit.specs.declared.state.PictureState.{PictureState}
use Rattle.picture_unit.specs.Picture.{PictureUnit, PictureAndRequests, IsLegalPicture, IsWhole, unrequested, is_on, mode, is_source, stat_signal, advanced, entered, drawn, draws, begins_vblank, moved, evaluated, tick, ticks, line_registers, line_drawn, window_counter_after}
use Rattle.picture_unit.specs.Laws.{frame_cycle}
use Rattle.picture_unit.specs.LatePicture.{state_after, up_to, moment, IsLate, line_drawn_next, begins_line, begins_mode_2, begins_mode_0, NoneBefore}
use Rattle.picture_unit.specs.Quiet.{bare, AreQuiet}
use Rattle.picture_unit.specs.PictureJump as picture_jump
use Rattle.picture_unit.specs.PictureJump.{next_entry, next_change, skipped}
use Rattle.picture_unit.specs.declared.region.PictureRegion.{PictureRegion}
use Rattle.picture_unit.specs.declared.region.PictureRegion.TheVariants.{Vram, Oam}
use Rattle.picture_unit.specs.Registers.{register_stored}
use Rattle.picture_unit.specs.Stores.{region_of, byte_read, is_vram_closed, is_oam_closed, oam_copied, oam_written, vram_written}
use Rattle.picture_unit.proofs.Kept.{same_written}
use Rattle.picture_unit.proofs.Quiet.{stands_still, stays_on, stays_on_skipped, after_change}
use Rattle.std.proofs.lemmas.Bool.{cases_lt}
use Rattle.picture_unit.proofs.Steady.{bool_cases, tick_is_steady}
use Rattle.picture_unit.proofs.LateLines.{whole_set}
use Rattle.picture_unit.proofs.PictureLaws.{pending, picture_ticks, frame-cycles, frame_cycle-entered, frame_cycle-advanced, frame_cycle-tick, frame_cycle-drawn, ly-drawn, ly-entered, m_cycle-drawn, m_cycle-entered, ly-tick, m_cycle-tick, ly-advanced, m_cycle-advanced}

-- ---- neither what is requested nor the state depends on VRAM, OAM and rows

abbrev forgetful : PictureAndRequests → PictureAndRequests
forgetful d = record d { picture = bare d.picture.state }

abbrev with_state : PictureState → PictureUnit → PictureUnit
with_state p s = record s { state = p }

-- what an M-cycle leaves of state and requests, if the state is this after the drawing
abbrev run_to : PictureState → Bool → Bool → PictureAndRequests
run_to q v l = record { picture = bare (record q { signal = stat_signal q }); vblank = v; stat = l || (stat_signal q && not q.signal) }

drawn-bare : (s : PictureUnit) → (drawn s).state ≡ (drawn (bare s.state)).state
unfolding drawn line_drawn
drawn-bare s =
    elim (draws s.state) as (λ b. (cond b (line_drawn s) s).state ≡ (cond b (line_drawn (bare s.state)) (bare s.state)).state) [
      | true ↦ refl
      | false ↦ refl
    ]

tick-forgetful : (d : PictureAndRequests) → forgetful (tick d) ≡ forgetful (tick (forgetful d))
unfolding tick moved evaluated
tick-forgetful d =
    let next = entered (advanced d.picture.state) in
    let same = drawn-bare (with_state next d.picture) in
    elim (is_on d.picture.state) as (λ b. forgetful (cond b (evaluated (moved d)) d) ≡ forgetful (cond b (evaluated (moved (forgetful d))) (forgetful d))) [
      | true ↦ ap (λ (q : PictureState). run_to q (d.vblank || begins_vblank next) d.stat) same
      | false ↦ refl
    ]

abbrev bare_tick : PictureAndRequests → PictureAndRequests
bare_tick d = forgetful (tick d)

ticks-forgetful : (n : ℕ) (s : PictureUnit) → forgetful (ticks n s) ≡ forgetful (ticks n (bare s.state))
unfolding unrequested
ticks-forgetful n s =
    iterate-along tick bare_tick forgetful tick-forgetful n (unrequested s)
    ∙ sym (iterate-along tick bare_tick forgetful tick-forgetful n (unrequested (bare s.state)))

pub bare_state : (n : ℕ) (s : PictureUnit) → (ticks n s).picture.state ≡ state_after n s.state
bare_state n s = ap (λ (d : PictureAndRequests). d.picture.state) (ticks-forgetful n s)

pub bare_vblank : (n : ℕ) (s : PictureUnit) → (ticks n s).vblank ≡ (ticks n (bare s.state)).vblank
bare_vblank n s = ap (λ (d : PictureAndRequests). d.vblank) (ticks-forgetful n s)

pub bare_stat : (n : ℕ) (s : PictureUnit) → (ticks n s).stat ≡ (ticks n (bare s.state)).stat
bare_stat n s = ap (λ (d : PictureAndRequests). d.stat) (ticks-forgetful n s)

-- ---- n M-cycles and then m

pub ticks_apart : (n m : ℕ) (s : PictureUnit) → ticks (n + m) s ≡ pending (ticks n s).vblank (ticks n s).stat (ticks m (ticks n s).picture)
unfolding unrequested
ticks_apart n m s =
    iterate-add tick n m (unrequested s) ∙ picture_ticks (ticks n s).vblank (ticks n s).stat m (ticks n s).picture

pub picture_apart : (n m : ℕ) (s : PictureUnit) → (ticks (n + m) s).picture ≡ (ticks m (ticks n s).picture).picture
picture_apart n m s = ap (λ (d : PictureAndRequests). d.picture) (ticks_apart n m s)

pub next_state : (n : ℕ) (s : PictureUnit) → (ticks (n + 1) s).picture.state ≡ state_after 1 (ticks n s).picture.state
next_state n s =
    ap (λ (u : PictureUnit). u.state) (picture_apart n 1 s) ∙ bare_state 1 (ticks n s).picture

-- the rows, with the line that an M-cycle draws
abbrev rows_with : Option LineRegisters → PictureUnit → List (List ℕ)
rows_with None u = u.rows
rows_with (Some by) u = slice_set u.rows by.ly (drawn_row by u.vram u.oam)

rows_of_tick : (u : PictureUnit) → (ticks 1 u).picture.rows ≡ rows_with (line_drawn_next u.state) u
unfolding unrequested tick evaluated moved drawn line_drawn line_drawn_next line_registers
rows_of_tick u =
    let p = entered (advanced u.state) in
    let s = with_state p u in
    elim (is_on u.state) as (λ b. (cond b (evaluated (moved (unrequested u))) (unrequested u)).picture.rows ≡ rows_with (cond (b && draws p) (Some (line_registers p)) None) u) [
      | true ↦ elim (draws p) as (λ b. (cond b (line_drawn s) s).rows ≡ rows_with (cond b (Some (line_registers p)) None) u) [
        | true ↦ refl
        | false ↦ refl
      ]
      | false ↦ refl
    ]

-- ---- what stays

module _ (d : PictureAndRequests) where
  tick_is : (P : PictureAndRequests → Type 0) → P d → P (evaluated (record d { picture = with_state (entered (advanced d.picture.state)) d.picture; vblank = d.vblank || begins_vblank (entered (advanced d.picture.state)) }))
      → P (evaluated (record d { picture = line_drawn (with_state (entered (advanced d.picture.state)) d.picture); vblank = d.vblank || begins_vblank (entered (advanced d.picture.state)) }))
      → P (tick d)
  unfolding tick moved drawn
  tick_is P off not_drawn is_drawn =
      let next = entered (advanced d.picture.state) in
      let s = with_state next d.picture in
      let v = d.vblank || begins_vblank next in
      elim (is_on d.picture.state) as (λ b. P (cond b (evaluated (record { picture = cond (draws next) (line_drawn s) s; vblank = v; stat = d.stat })) d)) [
        | true ↦ elim (draws next) as (λ b. P (evaluated (record { picture = cond b (line_drawn s) s; vblank = v; stat = d.stat }))) [
          | true ↦ is_drawn
          | false ↦ not_drawn
        ]
        | false ↦ off
      ]

pub vram_kept : (n : ℕ) (s : PictureUnit) → (ticks n s).picture.vram ≡ s.vram
unfolding unrequested evaluated line_drawn
vram_kept n s =
    let P : PictureAndRequests → Type 0 = λ d. d.picture.vram ≡ s.vram in
    iterate-keeps P tick (λ d kept. tick_is d P kept kept kept) n (unrequested s) refl

pub oam_kept : (n : ℕ) (s : PictureUnit) → (ticks n s).picture.oam ≡ s.oam
unfolding unrequested evaluated line_drawn
oam_kept n s =
    let P : PictureAndRequests → Type 0 = λ d. d.picture.oam ≡ s.oam in
    iterate-keeps P tick (λ d kept. tick_is d P kept kept kept) n (unrequested s) refl

-- the registers, without what passes
abbrev pub registers : PictureState → PictureState
registers p = record p { ly = 0; m_cycle = 0; window_counter = 0; seen = false; signal = false }

registers-advanced : (p : PictureState) → registers (advanced p) ≡ registers p
unfolding advanced
registers-advanced p = elim (p.m_cycle == 113) as (λ b. registers (cond b (record p { m_cycle = 0; ly = cond (p.ly == 153) 0 (p.ly + 1) }) (record p { m_cycle = p.m_cycle + 1 })) ≡ registers p) [
  | true ↦ refl
  | false ↦ refl
]

registers-entered : (p : PictureState) → registers (entered p) ≡ registers p
unfolding entered
registers-entered p = elim (p.m_cycle == 0) as (λ b. registers (cond b (record p { window_counter = cond (p.ly == 0) 0 p.window_counter; seen = (nat_lt 0 p.ly && p.seen) || (nat_lt p.ly 144 && p.wy == p.ly) }) p) ≡ registers p) [
  | true ↦ refl
  | false ↦ refl
]

registers-drawn : (s : PictureUnit) → registers (drawn s).state ≡ registers s.state
unfolding drawn line_drawn
registers-drawn s = elim (draws s.state) as (λ b. registers (cond b (line_drawn s) s).state ≡ registers s.state) [
  | true ↦ refl
  | false ↦ refl
]

pub registers_kept : (n : ℕ) (s : PictureUnit) → registers (ticks n s).picture.state ≡ registers s.state
unfolding unrequested evaluated line_drawn
registers_kept n s =
    let P : PictureAndRequests → Type 0 = λ d. registers d.picture.state ≡ registers s.state in
    iterate-keeps P tick (λ d kept.
    let next = registers-entered (advanced d.picture.state) ∙ registers-advanced d.picture.state ∙ kept in
    tick_is d P kept next next) n (unrequested s) refl

pub on_kept : (n : ℕ) (s : PictureUnit) → is_on (ticks n s).picture.state ≡ is_on s.state
unfolding is_on
on_kept n s = ap (λ (p : PictureState). is_on p) (registers_kept n s)

-- ---- sizes and ranges

legal-next : (p : PictureState) → IsLegalPicture p → IsLegalPicture (entered (advanced p))
unfolding advanced entered
legal-next p legal = record {
  lcdc = grind (arith, nat_tests, legal.lcdc);
  stat = grind (arith, nat_tests, legal.stat);
  scy = grind (arith, nat_tests, legal.scy);
  scx = grind (arith, nat_tests, legal.scx);
  lyc = grind (arith, nat_tests, legal.lyc);
  bgp = grind (arith, nat_tests, legal.bgp);
  obp0 = grind (arith, nat_tests, legal.obp0);
  obp1 = grind (arith, nat_tests, legal.obp1);
  wy = grind (arith, nat_tests, legal.wy);
  wx = grind (arith, nat_tests, legal.wx);
  ly = grind (arith, nat_tests, legal.ly);
  m_cycle = grind (arith, nat_tests, legal.m_cycle);
  window_counter = grind (arith, nat_tests, legal.window_counter);
}

-- with another window counter, or another signal
legal-counted : (p : PictureState) (counter : ℕ) (signal : Bool) → counter < 256 → IsLegalPicture p → IsLegalPicture (record p { window_counter = counter; signal = signal })
legal-counted p counter signal few legal = record {
  lcdc = legal.lcdc;
  stat = legal.stat;
  scy = legal.scy;
  scx = legal.scx;
  lyc = legal.lyc;
  bgp = legal.bgp;
  obp0 = legal.obp0;
  obp1 = legal.obp1;
  wy = legal.wy;
  wx = legal.wx;
  ly = legal.ly;
  m_cycle = legal.m_cycle;
  window_counter = few;
}

few_rows : (p : PictureState) → p.window_counter < 256 → window_counter_after p < 256
unfolding window_counter_after
few_rows p few = grind (arith, nat_tests, few)

with_legal : (p q : PictureState) (oam : List ℕ) (rows : List (List ℕ)) → IsLegalPicture q → IsWhole p oam rows → IsWhole q oam rows
with_legal p q oam rows legal whole = record { legal = legal; oam_size = whole.oam_size; row_count = whole.row_count; shades = whole.shades }

pub legal_kept : (n : ℕ) (s : PictureUnit) → IsLegalPicture s.state → IsLegalPicture (ticks n s).picture.state
unfolding unrequested evaluated line_drawn
legal_kept n s legal =
    let P : PictureAndRequests → Type 0 = λ d. IsLegalPicture d.picture.state in
    iterate-keeps P tick (λ d kept.
    let p = entered (advanced d.picture.state) in
    let next = legal-next d.picture.state kept in
    tick_is d P kept (legal-counted p p.window_counter (stat_signal p) next.window_counter next)
    (legal-counted p (window_counter_after p) (stat_signal (record p { window_counter = window_counter_after p })) (few_rows p next.window_counter) next)) n (unrequested s) legal

pub whole_kept : (n : ℕ) (s : PictureUnit) → IsWhole s.state s.oam s.rows → IsWhole (ticks n s).picture.state (ticks n s).picture.oam (ticks n s).picture.rows
unfolding unrequested evaluated line_drawn
whole_kept n s whole =
    let P : PictureAndRequests → Type 0 = λ d. IsWhole d.picture.state d.picture.oam d.picture.rows in
    iterate-keeps P tick (λ d kept.
    let p = entered (advanced d.picture.state) in
    let legal = legal-next d.picture.state kept.legal in
    let drawn = whole_set d.picture.state d.picture.oam d.picture.rows p.ly (drawn_row (line_registers p) d.picture.vram d.picture.oam) (drawn_row-small _ _ _) kept in
    tick_is d P kept
    (with_legal _ _ _ _ (legal-counted p p.window_counter (stat_signal p) legal.window_counter legal) kept)
    (with_legal _ _ _ _ (legal-counted p (window_counter_after p) (stat_signal (record p { window_counter = window_counter_after p })) (few_rows p legal.window_counter) legal) drawn)) n (unrequested s) whole

-- ---- quiet M-cycles

-- none are
pub none_quiet : (n : ℕ) (p : PictureState) → n ≡ 0 → AreQuiet n p
none_quiet n p none = record {
  legal = λ pos. absurd (omega (arith, none));
  on = λ pos. absurd (omega (arith, none));
  frame = λ pos. absurd (omega (arith, none));
  vblank = λ pos. absurd (omega (arith, none));
  stat = λ pos. absurd (omega (arith, none));
}

pub no_vblank : (n : ℕ) (s : PictureUnit) → AreQuiet n s.state → (ticks n s).vblank ≡ false
unfolding unrequested
no_vblank zero s quiet = refl
no_vblank (suc n) s quiet = bare_vblank (suc n) s ∙ quiet.vblank (omega arith)

pub no_stat : (n : ℕ) (s : PictureUnit) → AreQuiet n s.state → (ticks n s).stat ≡ false
unfolding unrequested
no_stat zero s quiet = refl
no_stat (suc n) s quiet = bare_stat (suc n) s ∙ quiet.stat (omega arith)

-- as many as request nothing of any picture unit in this state
quiet_from : (n : ℕ) (s : PictureUnit) → (0 < n → IsLegalPicture s.state) → (0 < n → is_on s.state ≡ true) → (0 < n → frame_cycle s.state + n < 17556) → (ticks n s).vblank ≡ false → (ticks n s).stat ≡ false → AreQuiet n s.state
quiet_from n s legal on frame vblank stat = record {
  legal = legal;
  on = on;
  frame = frame;
  vblank = λ pos. sym (bare_vblank n s) ∙ vblank;
  stat = λ pos. sym (bare_stat n s) ∙ stat;
}

pub quiet_position : (n : ℕ) (s : PictureUnit) → AreQuiet n s.state → frame_cycle (ticks n s).picture.state ≡ frame_cycle s.state + n
unfolding unrequested
quiet_position zero s quiet = omega arith
quiet_position (suc n) s quiet =
    let lt = quiet.frame (omega arith) in
    let e = frame-cycles (suc n) s (quiet.on (omega arith)) (quiet.legal (omega arith)) in
    omega (arith, lt, e)

left_none : (p q : Bool) → (p || q) ≡ false → p ≡ false
left_none false q e = refl
left_none true q e = e

right_none : (p q : Bool) → (p || q) ≡ false → q ≡ false
right_none false q e = e
right_none true q e = cc

neither : (p q : Bool) → p ≡ false → q ≡ false → (p || q) ≡ false
neither p q e f = ap (λ (b : Bool). b || q) e ∙ f

-- of q quiet M-cycles the first n and the others
module _ (q n : ℕ) (s : PictureUnit) (le : n ≤ q) (quiet : AreQuiet q s.state) where
  whole : n + (q - n) ≡ q
  whole = omega (arith, le)

  vblank_apart : ((ticks n s).vblank || (ticks (q - n) (ticks n s).picture).vblank) ≡ false
  vblank_apart =
      sym (ap (λ (d : PictureAndRequests). d.vblank) (ticks_apart n (q - n) s)) ∙ ap (λ (k : ℕ). (ticks k s).vblank) whole ∙ no_vblank q s quiet

  stat_apart : ((ticks n s).stat || (ticks (q - n) (ticks n s).picture).stat) ≡ false
  stat_apart =
      sym (ap (λ (d : PictureAndRequests). d.stat) (ticks_apart n (q - n) s)) ∙ ap (λ (k : ℕ). (ticks k s).stat) whole ∙ no_stat q s quiet

  pub fewer_quiet : AreQuiet n s.state
  fewer_quiet =
      quiet_from n s (λ pos. quiet.legal (omega (arith, pos, le))) (λ pos. quiet.on (omega (arith, pos, le))) (λ pos. let lt = quiet.frame (omega (arith, pos, le)) in omega (arith, lt, le))
      (left_none _ _ vblank_apart) (left_none _ _ stat_apart)

  pub rest_quiet : AreQuiet (q - n) (ticks n s).picture.state
  rest_quiet =
      let at = quiet_position n s fewer_quiet in
      quiet_from (q - n) (ticks n s).picture (λ pos. legal_kept n s (quiet.legal (omega (arith, pos)))) (λ pos. on_kept n s ∙ quiet.on (omega (arith, pos)))
      (λ pos. let lt = quiet.frame (omega (arith, pos)) in omega (arith, lt, le, at))
      (right_none _ _ vblank_apart) (right_none _ _ stat_apart)

-- those after quiet ones
pub joined_quiet : (m n : ℕ) (s : PictureUnit) → AreQuiet m s.state → AreQuiet n (ticks m s).picture.state → AreQuiet (m + n) s.state
unfolding unrequested
joined_quiet m n s first second =
    let at = quiet_position m s first in
    let legal : 0 < m + n → IsLegalPicture s.state = λ pos. elim (cases_lt 0 m) [
      | inl some ↦ first.legal some
      | inr none ↦
          let zero_cycles : m ≡ 0 = omega (arith, none) in
          subst (λ (k : ℕ). IsLegalPicture (ticks k s).picture.state) zero_cycles (second.legal (omega (arith, pos, none)))
    ] in
    let on : 0 < m + n → is_on s.state ≡ true = λ pos. elim (cases_lt 0 m) [
      | inl some ↦ first.on some
      | inr none ↦ sym (on_kept m s) ∙ second.on (omega (arith, pos, none))
    ] in
    let frame : 0 < m + n → frame_cycle s.state + (m + n) < 17556 = λ pos. elim (cases_lt 0 n) [
      | inl some ↦ let lt = second.frame some in omega (arith, lt, at)
      | inr none ↦ let lt = first.frame (omega (arith, pos, none)) in omega (arith, lt, none)
    ] in
    quiet_from (m + n) s legal on frame
    (ap (λ (d : PictureAndRequests). d.vblank) (ticks_apart m n s) ∙ neither _ _ (no_vblank m s first) (no_vblank n (ticks m s).picture second))
    (ap (λ (d : PictureAndRequests). d.stat) (ticks_apart m n s) ∙ neither _ _ (no_stat m s first) (no_stat n (ticks m s).picture second))

-- those up to an M-cycle, n M-cycles on
pub quiet_until_after : (until now n : ℕ) (s : PictureUnit) → AreQuiet (until - now) s.state → AreQuiet (until - (now + n)) (ticks n s).picture.state
quiet_until_after until now n s quiet =
    elim (cases_lt until (now + n)) [
      | inl lt ↦ none_quiet (until - (now + n)) (ticks n s).picture.state (omega (arith, lt))
      | inr le ↦ let same : until - (now + n) ≡ until - now - n = omega arith in rw same (rest_quiet (until - now) n s (omega (arith, le)) quiet)
    ]

-- ---- a picture unit that is late

pub at_once : (n : ℕ) (s : PictureUnit) → n ≡ frame_cycle s.state → up_to n s ≡ s
unfolding unrequested
at_once n s e =
    let none : n - frame_cycle s.state ≡ 0 = omega (arith, e) in
    ap (λ (k : ℕ). (ticks k s).picture) none

pub later : (now n : ℕ) (s : PictureUnit) → frame_cycle s.state ≤ now → up_to (now + n) s ≡ (ticks n (up_to now s)).picture
later now n s le =
    let more : now + n - frame_cycle s.state ≡ now - frame_cycle s.state + n = omega (arith, le) in
    ap (λ (k : ℕ). (ticks k s).picture) more ∙ picture_apart (now - frame_cycle s.state) n s

-- caught up, and so many M-cycles are quiet
late_at_once : (now q : ℕ) (s : PictureUnit) → now ≡ frame_cycle s.state → IsWhole s.state s.oam s.rows → AreQuiet q s.state → IsLate now (now + q) s
late_at_once now q s at whole quiet =
    let same : now + q - now ≡ q = omega arith in record {
      whole = whole;
      late = omega (arith, at);
      passed = none_quiet (now - frame_cycle s.state) s.state (omega (arith, at));
      coming = rw same (subst (λ (u : PictureUnit). AreQuiet q u.state) (sym (at_once now s at)) quiet);
    }

module _ (now until : ℕ) (s : PictureUnit) (late : IsLate now until s) where
  -- it is at this M-cycle of the frame
  pub position : frame_cycle (up_to now s).state ≡ now
  position =
      let at = quiet_position (now - frame_cycle s.state) s late.passed in
      omega (arith, at, late.late)

  -- which is what is told of it
  pub is_moment : (k : ℕ) (u : PictureUnit) → up_to now s ≡ u → k ≡ frame_cycle u.state → k ≡ now
  is_moment k u same e = e ∙ sym (ap (λ (u : PictureUnit). frame_cycle u.state) same) ∙ position

  pub whole_now : IsWhole (up_to now s).state (up_to now s).oam (up_to now s).rows
  whole_now = whole_kept (now - frame_cycle s.state) s late.whole

  -- quiet M-cycles on
  pub late_after : (n : ℕ) → AreQuiet n (up_to now s).state → IsLate (now + n) until s
  late_after n quiet =
      let more : now + n - frame_cycle s.state ≡ now - frame_cycle s.state + n = omega (arith, late.late) in record {
        whole = late.whole;
        late = omega (arith, late.late);
        passed = rw more (joined_quiet (now - frame_cycle s.state) n s late.passed quiet);
        coming = subst (λ (u : PictureUnit). AreQuiet (until - (now + n)) u.state) (sym (later now n s late.late)) (quiet_until_after until now n (up_to now s) late.coming);
      }

in_frame : (n : ℕ) (p : PictureState) → IsLegalPicture p → AreQuiet n p → frame_cycle p + n < 17556
in_frame zero p legal quiet = omega (arith, legal.ly, legal.m_cycle)
in_frame (suc n) p legal quiet = quiet.frame (omega arith)

pub quiet_in_frame : (now until : ℕ) (s : PictureUnit) → IsLate now until s → frame_cycle (up_to now s).state + (until - now) < 17556
quiet_in_frame now until s late = in_frame (until - now) (up_to now s).state (whole_now now until s late).legal late.coming

-- caught up, and in the same state: the same M-cycles are quiet
late_kept_at : (now until now' : ℕ) (s t : PictureUnit) → IsLate now until s → t.state ≡ (up_to now s).state → now' ≡ frame_cycle t.state → IsWhole t.state t.oam t.rows → IsLate now' until t
late_kept_at now until now' s t late same at whole =
    let here : now' ≡ now = at ∙ ap (λ (p : PictureState). frame_cycle p) same ∙ position now until s late in record {
      whole = whole;
      late = omega (arith, at);
      passed = none_quiet (now' - frame_cycle t.state) t.state (omega (arith, at));
      coming = rw here (subst (λ (p : PictureState). AreQuiet (until - now) p) (sym (ap (λ (u : PictureUnit). u.state) (at_once now t (sym here ∙ at)) ∙ same)) late.coming);
    }

-- ---- what is counted, the LCD on or off

pub moment_on : (counted : ℕ) (s : PictureUnit) → is_on s.state ≡ true → moment counted s ≡ counted
moment_on counted s on = ap (λ (b : Bool). cond b counted (frame_cycle s.state)) on

pub moment_off : (counted : ℕ) (s : PictureUnit) → is_on s.state ≡ false → moment counted s ≡ frame_cycle s.state
moment_off counted s off = ap (λ (b : Bool). cond b counted (frame_cycle s.state)) off

-- caught up
moment_now : (n : ℕ) (s : PictureUnit) → n ≡ frame_cycle s.state → moment n s ≡ frame_cycle s.state
moment_now n s e =
    elim (is_on s.state) as (λ b. cond b n (frame_cycle s.state) ≡ frame_cycle s.state) [
      | true ↦ e
      | false ↦ refl
    ]

pub caught_up_now : (n : ℕ) (s : PictureUnit) → n ≡ frame_cycle s.state → up_to (moment n s) s ≡ s
caught_up_now n s e = at_once (moment n s) s (moment_now n s e)

pub late_now : (n until q : ℕ) (s : PictureUnit) → n ≡ frame_cycle s.state → until ≡ n + q → IsWhole s.state s.oam s.rows → AreQuiet q s.state → IsLate (moment n s) until s
late_now n until q s e at whole quiet =
    let here = moment_now n s e in
    let same : moment n s + q ≡ until = omega (arith, here, e, at) in
    subst (λ (k : ℕ). IsLate (moment n s) k s) same (late_at_once (moment n s) q s here whole quiet)

pub late_kept : (now until n : ℕ) (s t : PictureUnit) → IsLate now until s → t.state ≡ (up_to now s).state → n ≡ frame_cycle t.state → IsWhole t.state t.oam t.rows → IsLate (moment n t) until t
late_kept now until n s t late same e whole = late_kept_at now until (moment n t) s t late same (moment_now n t e) whole

-- while the LCD is off it stays as it is
off_still : (now : ℕ) (s : PictureUnit) → is_on s.state ≡ false → up_to now s ≡ s
unfolding unrequested
off_still now s off = ap (λ (d : PictureAndRequests). d.picture) (stands_still (now - frame_cycle s.state) (unrequested s) off)

-- to be given the M-cycles up to what is counted is to be given those up to the moment
pub to_the_moment : (counted : ℕ) (s : PictureUnit) → up_to counted s ≡ up_to (moment counted s) s
to_the_moment counted s =
    elim (bool_cases (is_on s.state)) [
      | inl on ↦ sym (ap (λ (k : ℕ). up_to k s) (moment_on counted s on))
      | inr off ↦ off_still counted s off ∙ sym (off_still (moment counted s) s off)
    ]

module _ (counted until n : ℕ) (s : PictureUnit) (late : IsLate (moment counted s) until s) (quiet : is_on (up_to (moment counted s) s).state ≡ true → AreQuiet n (up_to (moment counted s) s).state) where
  on_now : is_on s.state ≡ true → is_on (up_to (moment counted s) s).state ≡ true
  on_now on = on_kept (moment counted s - frame_cycle s.state) s ∙ on

  counted_on : is_on s.state ≡ true → moment ((counted + n) % 65536) s ≡ moment counted s + n
  counted_on on =
      let here = moment_on counted s on in
      let there = moment_on ((counted + n) % 65536) s on in
      let few = in_frame n (up_to (moment counted s) s).state (whole_now (moment counted s) until s late).legal (quiet (on_now on)) in
      let at = position (moment counted s) until s late in
      omega (arith, here, there, few, at)

  -- the count after some M-cycles, which are quiet while the LCD is on
  pub counted_late : IsLate (moment ((counted + n) % 65536) s) until s
  counted_late =
      elim (bool_cases (is_on s.state)) [
        | inl on ↦ subst (λ (k : ℕ). IsLate k until s) (sym (counted_on on)) (late_after (moment counted s) until s late n (quiet (on_now on)))
        | inr off ↦ subst (λ (k : ℕ). IsLate k until s) (moment_off counted s off ∙ sym (moment_off ((counted + n) % 65536) s off)) late
      ]

  still_off : is_on s.state ≡ false → up_to (moment ((counted + n) % 65536) s) s ≡ (ticks n (up_to (moment counted s) s)).picture
  unfolding unrequested
  still_off off =
      let u = up_to (moment counted s) s in
      let dark : is_on u.state ≡ false = on_kept (moment counted s - frame_cycle s.state) s ∙ off in
      off_still (moment ((counted + n) % 65536) s) s off ∙ sym (off_still (moment counted s) s off)
      ∙ sym (ap (λ (d : PictureAndRequests). d.picture) (stands_still n (unrequested u) dark))

  pub counted_up_to : up_to (moment ((counted + n) % 65536) s) s ≡ (ticks n (up_to (moment counted s) s)).picture
  counted_up_to =
      elim (bool_cases (is_on s.state)) [
        | inl on ↦ ap (λ (k : ℕ). up_to k s) (counted_on on) ∙ later (moment counted s) n s late.late
        | inr off ↦ still_off off
      ]

line_and_cycle : (ly m_cycle now : ℕ) → m_cycle < 114 → 114 * ly + m_cycle ≡ now → (ly ≡ now / 114) × (m_cycle ≡ now % 114)
line_and_cycle ly m_cycle now few e = (omega (arith, few, e), omega (arith, few, e))

abbrev placed : PictureState → (ly m_cycle counter : ℕ) → (seen signal : Bool) → PictureState
placed p ly m_cycle counter seen signal = record p { ly = ly; m_cycle = m_cycle; window_counter = counter; seen = seen; signal = signal }

-- LY and the M-cycle are those of the frame's M-cycle, and the registers as they were
pub state_now : (now until : ℕ) (s : PictureUnit) → IsLate now until s →
    (up_to now s).state ≡ placed s.state (now / 114) (now % 114) (up_to now s).state.window_counter (up_to now s).state.seen (up_to now s).state.signal
state_now now until s late =
    let p = (up_to now s).state in
    let at = line_and_cycle p.ly p.m_cycle now (whole_now now until s late).legal.m_cycle (position now until s late) in
    ap (λ (r : PictureState). placed r p.ly p.m_cycle p.window_counter p.seen p.signal) (registers_kept (now - frame_cycle s.state) s)
    ∙ ap (λ (k : ℕ). placed s.state k p.m_cycle p.window_counter p.seen p.signal) at.0
    ∙ ap (λ (k : ℕ). placed s.state (now / 114) k p.window_counter p.seen p.signal) at.1

-- ---- a row after M-cycles

module _ (n y : ℕ) (s : PictureUnit) where
  next_rows : (line : Option LineRegisters) (vram oam : List ℕ) → line ≡ line_drawn_next (ticks n s).picture.state → vram ≡ s.vram → oam ≡ s.oam
      → (ticks (n + 1) s).picture.rows ≡ rows_with line (record (ticks n s).picture { vram = vram; oam = oam })
  next_rows line vram oam e f g =
      let u = (ticks n s).picture in
      ap (λ (u : PictureUnit). u.rows) (picture_apart n 1 s) ∙ rows_of_tick u
      ∙ ap (λ (l : Option LineRegisters). rows_with l u) (sym e)
      ∙ ap (λ (v : List ℕ). rows_with line (record u { vram = v })) (vram_kept n s ∙ sym f)
      ∙ ap (λ (o : List ℕ). rows_with line (record u { vram = vram; oam = o })) (oam_kept n s ∙ sym g)

  abbrev row_is : ℕ → List ℕ → Type 0
  row_is k row = slice_get (ticks k s).picture.rows y ≡ Some row

  -- no line is drawn
  pub row_stays : (row : List ℕ) → None ≡ line_drawn_next (ticks n s).picture.state → row_is n row → row_is (n + 1) row
  row_stays row e is = ap (λ (rows : List (List ℕ)). slice_get rows y) (next_rows None s.vram s.oam e refl refl) ∙ is

  -- another line is
  pub row_of_other : (by : LineRegisters) (row : List ℕ) → Some by ≡ line_drawn_next (ticks n s).picture.state → y ≢ by.ly → row_is n row → row_is (n + 1) row
  row_of_other by row e other is =
      let rows = (ticks n s).picture.rows in
      let new = drawn_row by s.vram s.oam in
      let within : y < length rows = slice_get_within rows y row is in
      ap (λ (rows : List (List ℕ)). slice_get rows y) (next_rows (Some by) s.vram s.oam e refl refl)
      ∙ slice_get-get_or (slice_set rows by.ly new) y [] (omega (arith, within, length-set rows by.ly new))
      ∙ ap Some (get_or-set_other rows by.ly y new [] other ∙ get_or_from_slice_get rows y row [] is)

  -- this one is
  pub row_is_drawn : (by : LineRegisters) (vram oam row new : List ℕ) → Some by ≡ line_drawn_next (ticks n s).picture.state → by.ly ≡ y → vram ≡ s.vram → oam ≡ s.oam → row_is n row
      → new ≡ drawn_row by vram oam → row_is (n + 1) new
  row_is_drawn by vram oam row new e here f g is drawing =
      let rows = (ticks n s).picture.rows in
      let within : y < length rows = slice_get_within rows y row is in
      ap (λ (rows : List (List ℕ)). slice_get rows y) (next_rows (Some by) vram oam e f g)
      ∙ ap (λ (k : ℕ). slice_get (slice_set rows k (drawn_row by vram oam)) y) here
      ∙ slice_get-get_or (slice_set rows y (drawn_row by vram oam)) y [] (omega (arith, within, length-set rows y (drawn_row by vram oam)))
      ∙ ap Some (get_or-set_same rows y (drawn_row by vram oam) [] within ∙ sym drawing)

-- ---- M-cycles with which no source begins

tick_registers : (d : PictureAndRequests) → registers (tick d).picture.state ≡ registers d.picture.state
unfolding evaluated line_drawn
tick_registers d =
    let next = registers-entered (advanced d.picture.state) ∙ registers-advanced d.picture.state in
    tick_is d (λ e. registers e.picture.state ≡ registers d.picture.state) refl next next

-- the M-cycles up to the n-th miss this one of the frame
abbrev Misses : (cycle n at : ℕ) → Type 0
Misses cycle n at = (cycle + n < at) ⊎ (at ≤ cycle)

missed : (cycle n at next : ℕ) → next ≡ cycle + 1 → Misses cycle (suc n) at → (next < at) ⊎ (at < next)
missed cycle n at next e (inl before) = inl (omega (arith, before, e))
missed cycle n at next e (inr after) = inr (omega (arith, after, e))

miss_more : (cycle n at next : ℕ) → next ≡ cycle + 1 → Misses cycle (suc n) at → Misses next n at
miss_more cycle n at next e (inl before) = inl (omega (arith, before, e))
miss_more cycle n at next e (inr after) = inr (omega (arith, after, e))

elsewhere : (p : PictureState) → (frame_cycle p < 16416) ⊎ (16416 < frame_cycle p) → begins_vblank p ≡ false
unfolding begins_vblank
elsewhere p (inl before) = grind (arith, nat_tests, before)
elsewhere p (inr after) = grind (arith, nat_tests, after)

-- a state at another place of the frame
abbrev at_place : PictureState → (ly m_cycle : ℕ) → PictureState
at_place p ly m_cycle = record p { ly = ly; m_cycle = m_cycle }

-- a source that STAT enables begins
abbrev begins : PictureState → Bool
begins p = begins_line p || (begins_mode_2 p || begins_mode_0 p)

-- The signal does not rise within a line,
no_rise_inside : (p : PictureState) → p.m_cycle + 1 < 114 → begins (at_place p p.ly (p.m_cycle + 1)) ≡ false
    → (stat_signal (at_place p p.ly (p.m_cycle + 1)) && not (stat_signal p)) ≡ false
unfolding begins_line begins_mode_2 begins_mode_0 stat_signal is_source mode is_on
no_rise_inside p few none = grind (arith, nat_tests, few, none)

-- nor with the next one, if that is not line 144.
no_rise_first : (p : PictureState) → p.m_cycle ≡ 113 → (p.ly < 143) ⊎ (143 < p.ly) → begins (at_place p (p.ly + 1) 0) ≡ false
    → (stat_signal (at_place p (p.ly + 1) 0) && not (stat_signal p)) ≡ false
unfolding begins_line begins_mode_2 begins_mode_0 stat_signal is_source mode is_on
no_rise_first p last (inl visible) none = grind (arith, nat_tests, last, visible, none)
no_rise_first p last (inr blank) none = grind (arith, nat_tests, last, blank, none)

-- where the next M-cycle is
next_place : (p : PictureState) → p.m_cycle < 114 → frame_cycle p + 1 < 17556
    → ((p.m_cycle + 1 < 114) × (((advanced p).ly ≡ p.ly) × ((advanced p).m_cycle ≡ p.m_cycle + 1)))
    ⊎ ((p.m_cycle ≡ 113) × (((advanced p).ly ≡ p.ly + 1) × ((advanced p).m_cycle ≡ 0)))
unfolding advanced
next_place p few within =
    elim (bool_cases (p.m_cycle == 113)) [
      | inl e ↦
          let last : p.m_cycle ≡ 113 = grind (arith, nat_tests, e) in
          let more : (p.ly == 153) ≡ false = grind (arith, nat_tests, last, within) in
          inr (last, (grind (arith, nat_tests, e, more), grind (arith, nat_tests, e)))
      | inr e ↦ inl (grind (arith, nat_tests, e, few), (grind (arith, nat_tests, e), grind (arith, nat_tests, e)))
    ]

no_rise_next : (p : PictureState) (ly m_cycle : ℕ) → ly ≡ (advanced p).ly → m_cycle ≡ (advanced p).m_cycle → p.m_cycle < 114 → frame_cycle p + 1 < 17556
    → (frame_cycle p + 1 < 16416) ⊎ (16416 < frame_cycle p + 1) → begins (at_place p ly m_cycle) ≡ false → (stat_signal (at_place p ly m_cycle) && not (stat_signal p)) ≡ false
no_rise_next p ly m_cycle line cycle few within misses none =
    elim (next_place p few within) [
      | inl (inside, (l, c)) ↦
          let e = line ∙ l in
          let f = cycle ∙ c in
          ap (λ (k : ℕ). stat_signal (at_place p k m_cycle) && not (stat_signal p)) e ∙ ap (λ (k : ℕ). stat_signal (at_place p p.ly k) && not (stat_signal p)) f
          ∙ no_rise_inside p inside (sym (ap (λ (k : ℕ). begins (at_place p k m_cycle)) e ∙ ap (λ (k : ℕ). begins (at_place p p.ly k)) f) ∙ none)
      | inr (last, (l, c)) ↦
          let e = line ∙ l in
          let f = cycle ∙ c in
          let other : (p.ly < 143) ⊎ (143 < p.ly) = elim misses [
            | inl before ↦ inl (omega (arith, before, last))
            | inr after ↦ inr (omega (arith, after, last))
          ] in
          ap (λ (k : ℕ). stat_signal (at_place p k m_cycle) && not (stat_signal p)) e ∙ ap (λ (k : ℕ). stat_signal (at_place p (p.ly + 1) k) && not (stat_signal p)) f
          ∙ no_rise_first p last other (sym (ap (λ (k : ℕ). begins (at_place p k m_cycle)) e ∙ ap (λ (k : ℕ). begins (at_place p (p.ly + 1) k)) f) ∙ none)
    ]

-- the signal and what begins are of the registers and the place
signal_there : (p q : PictureState) → registers q ≡ registers p → stat_signal q ≡ stat_signal (at_place p q.ly q.m_cycle)
unfolding stat_signal is_source mode is_on
signal_there p q same = ap (λ (r : PictureState). stat_signal (at_place r q.ly q.m_cycle)) same

begins_there : (p q : PictureState) (ly m_cycle : ℕ) → registers q ≡ registers p → begins (at_place q ly m_cycle) ≡ begins (at_place p ly m_cycle)
unfolding begins_line begins_mode_2 begins_mode_0
begins_there p q ly m_cycle same = ap (λ (r : PictureState). begins (at_place r ly m_cycle)) same

-- none begins with the next n M-cycles
abbrev pub NoneBegins : ℕ → PictureState → Type 0
NoneBegins n p = (ly m_cycle : ℕ) → m_cycle < 114 → frame_cycle p < 114 * ly + m_cycle → 114 * ly + m_cycle ≤ frame_cycle p + n → begins (at_place p ly m_cycle) ≡ false

signal-advanced : (p : PictureState) → (advanced p).signal ≡ p.signal
unfolding advanced
signal-advanced p = elim (p.m_cycle == 113) as (λ b. (cond b (record p { m_cycle = 0; ly = cond (p.ly == 153) 0 (p.ly + 1) }) (record p { m_cycle = p.m_cycle + 1 })).signal ≡ p.signal) [
  | true ↦ refl
  | false ↦ refl
]

signal-entered : (p : PictureState) → (entered p).signal ≡ p.signal
unfolding entered
signal-entered p = elim (p.m_cycle == 0) as (λ b. (cond b (record p { window_counter = cond (p.ly == 0) 0 p.window_counter; seen = (nat_lt 0 p.ly && p.seen) || (nat_lt p.ly 144 && p.wy == p.ly) }) p).signal ≡ p.signal) [
  | true ↦ refl
  | false ↦ refl
]

signal-drawn : (s : PictureUnit) → (drawn s).state.signal ≡ s.state.signal
unfolding drawn line_drawn
signal-drawn s = elim (draws s.state) as (λ b. (cond b (line_drawn s) s).state.signal ≡ s.state.signal) [
  | true ↦ refl
  | false ↦ refl
]

module _ (d : PictureAndRequests) (n : ℕ) (on : is_on d.picture.state ≡ true) (steady : stat_signal d.picture.state ≡ d.picture.state.signal)
    (ly : d.picture.state.ly < 154) (m_cycle : d.picture.state.m_cycle < 114) (within : frame_cycle d.picture.state + suc n < 17556)
    (misses : Misses (frame_cycle d.picture.state) (suc n) 16416) (none : NoneBegins (suc n) d.picture.state) where
  one_on : frame_cycle (tick d).picture.state ≡ frame_cycle d.picture.state + 1
  one_on =
      let e = frame_cycle-tick d on ly m_cycle in
      omega (arith, e, within)

  next_at : frame_cycle (entered (advanced d.picture.state)) ≡ frame_cycle d.picture.state + 1
  next_at =
      let e = frame_cycle-entered (advanced d.picture.state) ∙ frame_cycle-advanced d.picture.state ly m_cycle in
      omega (arith, e, within)

  vblank_stays : (tick d).vblank ≡ d.vblank
  unfolding tick evaluated moved
  vblank_stays =
      let next = entered (advanced d.picture.state) in
      ap (λ b. (cond b (evaluated (moved d)) d).vblank) on
      ∙ ap (λ (b : Bool). d.vblank || b) (elsewhere next (missed (frame_cycle d.picture.state) n 16416 (frame_cycle next) next_at misses)) ∙ or-false d.vblank

  stat_stays : (tick d).stat ≡ d.stat
  unfolding tick evaluated moved
  stat_stays =
      let p = d.picture.state in
      let a = advanced p in
      let next = entered a in
      let q = (drawn (with_state next d.picture)).state in
      let same : registers q ≡ registers p = registers-drawn (with_state next d.picture) ∙ registers-entered a ∙ registers-advanced p in
      let was : q.signal ≡ p.signal = signal-drawn (with_state next d.picture) ∙ signal-entered a ∙ signal-advanced p in
      let line : q.ly ≡ a.ly = ly-drawn (with_state next d.picture) ∙ ly-entered a in
      let cycle : q.m_cycle ≡ a.m_cycle = m_cycle-drawn (with_state next d.picture) ∙ m_cycle-entered a in
      let at : frame_cycle q ≡ frame_cycle p + 1 = frame_cycle-drawn (with_state next d.picture) ∙ next_at in
      let few : q.m_cycle < 114 = subst (λ (k : ℕ). k < 114) (sym cycle) (m_cycle-advanced p m_cycle) in
      let beyond : (frame_cycle p + 1 < 16416) ⊎ (16416 < frame_cycle p + 1) = missed (frame_cycle p) n 16416 (frame_cycle p + 1) refl misses in
      let quiet : (stat_signal q && not q.signal) ≡ false =
      ap (λ (b : Bool). stat_signal q && not b) (was ∙ sym steady) ∙ ap (λ (b : Bool). b && not (stat_signal p)) (signal_there p q same)
      ∙ no_rise_next p q.ly q.m_cycle line cycle m_cycle (omega (arith, within)) beyond (none q.ly q.m_cycle few (omega (arith, at)) (omega (arith, at))) in
      ap (λ b. (cond b (evaluated (moved d)) d).stat) on ∙ ap (λ (b : Bool). d.stat || b) quiet ∙ or-false d.stat

no_requests : (n : ℕ) (d : PictureAndRequests) → is_on d.picture.state ≡ true → stat_signal d.picture.state ≡ d.picture.state.signal
    → d.picture.state.ly < 154 → d.picture.state.m_cycle < 114 → frame_cycle d.picture.state + n < 17556
    → Misses (frame_cycle d.picture.state) n 16416 → NoneBegins n d.picture.state
    → ((iterate tick n d).vblank ≡ d.vblank) × ((iterate tick n d).stat ≡ d.stat)
no_requests zero d on steady ly m_cycle within misses none = (refl, refl)
no_requests (suc n) d on steady ly m_cycle within misses none =
    let at = one_on d n on steady ly m_cycle within misses none in
    let on' = stays_on d (tick d) on refl in
    let rest =
    no_requests n (tick d) on' (tick_is_steady d on')
    (subst (λ (k : ℕ). k < 154) (sym (ly-tick d on)) (ly-advanced d.picture.state ly))
    (subst (λ (k : ℕ). k < 114) (sym (m_cycle-tick d on)) (m_cycle-advanced d.picture.state m_cycle))
    (omega (arith, at, within)) (miss_more (frame_cycle d.picture.state) n 16416 (frame_cycle (tick d).picture.state) at misses)
    (λ l c few after before. begins_there d.picture.state (tick d).picture.state l c (tick_registers d) ∙ none l c few (omega (arith, at, after)) (omega (arith, at, before))) in
    (rest.0 ∙ vblank_stays d n on steady ly m_cycle within misses none, rest.1 ∙ stat_stays d n on steady ly m_cycle within misses none)

-- where no source begins: STAT does not enable it,
pub line_off : (p : PictureState) (ly m_cycle : ℕ) → p.stat / 64 % 2 ≡ 0 → begins_line (at_place p ly m_cycle) ≡ false
unfolding begins_line has_bit
line_off p ly m_cycle off = grind (arith, nat_tests, off)

pub mode_2_off : (p : PictureState) (ly m_cycle : ℕ) → p.stat / 32 % 2 ≡ 0 → begins_mode_2 (at_place p ly m_cycle) ≡ false
unfolding begins_mode_2 has_bit
mode_2_off p ly m_cycle off = grind (arith, nat_tests, off)

pub mode_0_off : (p : PictureState) (ly m_cycle : ℕ) → p.stat / 8 % 2 ≡ 0 → begins_mode_0 (at_place p ly m_cycle) ≡ false
unfolding begins_mode_0 has_bit
mode_0_off p ly m_cycle off = grind (arith, nat_tests, off)

-- or it is another place
pub not_line : (p : PictureState) (ly m_cycle : ℕ) → (m_cycle ≡ 0 → (ly < p.lyc) ⊎ (p.lyc < ly)) → begins_line (at_place p ly m_cycle) ≡ false
unfolding begins_line
not_line p ly m_cycle other =
    elim (bool_cases (m_cycle == 0)) [
      | inl e ↦ elim (other (grind (arith, nat_tests, e))) [
        | inl before ↦ grind (arith, nat_tests, e, before)
        | inr after ↦ grind (arith, nat_tests, e, after)
      ]
      | inr e ↦ grind (arith, nat_tests, e)
    ]

pub not_mode_2 : (p : PictureState) (ly m_cycle : ℕ) → (m_cycle ≡ 0 → 144 ≤ ly) → begins_mode_2 (at_place p ly m_cycle) ≡ false
unfolding begins_mode_2
not_mode_2 p ly m_cycle other =
    elim (bool_cases (m_cycle == 0)) [
      | inl e ↦ let below = other (grind (arith, nat_tests, e)) in grind (arith, nat_tests, e, below)
      | inr e ↦ grind (arith, nat_tests, e)
    ]

pub not_mode_0 : (p : PictureState) (ly m_cycle : ℕ) → (m_cycle ≡ 63 → 144 ≤ ly) → begins_mode_0 (at_place p ly m_cycle) ≡ false
unfolding begins_mode_0
not_mode_0 p ly m_cycle other =
    elim (bool_cases (m_cycle == 63)) [
      | inl e ↦ let below = other (grind (arith, nat_tests, e)) in grind (arith, nat_tests, e, below)
      | inr e ↦ grind (arith, nat_tests, e)
    ]

or_none : (a b c : Bool) → a ≡ false → b ≡ false → c ≡ false → (a || (b || c)) ≡ false
or_none false false false e f g = refl
or_none true b c e f g = e
or_none false true c e f g = f
or_none false false true e f g = g

-- Neither VBlank begins, nor a source that STAT enables: those after `now` and before `next`.
pub quiet_before_source : (next : ℕ) (p : PictureState) → IsLegalPicture p → is_on p ≡ true → stat_signal p ≡ p.signal → frame_cycle p < next → next ≤ 17556
    → (frame_cycle p < 16416 → next ≤ 16416) → NoneBefore begins_line (frame_cycle p) next p → NoneBefore begins_mode_2 (frame_cycle p) next p → NoneBefore begins_mode_0 (frame_cycle p) next p
    → AreQuiet (next - 1 - frame_cycle p) p
unfolding unrequested
quiet_before_source next p legal on steady ahead in_frame vblank line mode_2 mode_0 =
    let n = next - 1 - frame_cycle p in
    let within : frame_cycle p + n < 17556 = omega (arith, ahead, in_frame) in
    let misses : Misses (frame_cycle p) n 16416 = elim (cases_lt (frame_cycle p) 16416) [
      | inl before ↦ let le = vblank before in inl (omega (arith, le, ahead))
      | inr after ↦ inr (omega (arith, after))
    ] in
    let none : NoneBegins n p = λ l c few after before.
    let lt : 114 * l + c < next = omega (arith, before, ahead) in
    or_none _ _ _ (line l c few after lt) (mode_2 l c few after lt) (mode_0 l c few after lt) in
    let still = no_requests n (unrequested (bare p)) on steady legal.ly legal.m_cycle within misses none in record {
      legal = λ _. legal;
      on = λ _. on;
      frame = λ _. within;
      vblank = λ _. still.0;
      stat = λ _. still.1;
    }

-- ---- a register is written that the signal does not depend on

-- what the requests depend on
abbrev timing : PictureState → PictureState
timing p = record p { scy = 0; scx = 0; bgp = 0; obp0 = 0; obp1 = 0; wy = 0; wx = 0; window_counter = 0; seen = false }

abbrev timed : PictureAndRequests → PictureAndRequests
timed d = record d { picture = bare (timing d.picture.state) }

timing-advanced : (p : PictureState) → timing (advanced p) ≡ timing (advanced (timing p))
unfolding advanced
timing-advanced p = elim (p.m_cycle == 113) as (λ b. timing (cond b (record p { m_cycle = 0; ly = cond (p.ly == 153) 0 (p.ly + 1) }) (record p { m_cycle = p.m_cycle + 1 }))
    ≡ timing (cond b (record (timing p) { m_cycle = 0; ly = cond (p.ly == 153) 0 (p.ly + 1) }) (record (timing p) { m_cycle = p.m_cycle + 1 }))) [
      | true ↦ refl
      | false ↦ refl
    ]

timing-entered : (p : PictureState) → timing (entered p) ≡ timing p
unfolding entered
timing-entered p = elim (p.m_cycle == 0) as (λ b. timing (cond b (record p { window_counter = cond (p.ly == 0) 0 p.window_counter; seen = (nat_lt 0 p.ly && p.seen) || (nat_lt p.ly 144 && p.wy == p.ly) }) p) ≡ timing p) [
  | true ↦ refl
  | false ↦ refl
]

timing-drawn : (s : PictureUnit) → timing (drawn s).state ≡ timing s.state
unfolding drawn line_drawn
timing-drawn s = elim (draws s.state) as (λ b. timing (cond b (line_drawn s) s).state ≡ timing s.state) [
  | true ↦ refl
  | false ↦ refl
]

-- what an M-cycle leaves, if it comes to this
abbrev requested_at : Bool → Bool → PictureState → PictureAndRequests
requested_at v l p = record { picture = bare (record p { signal = stat_signal p }); vblank = v || begins_vblank p; stat = l || (stat_signal p && not p.signal) }

timed-moved : (d : PictureAndRequests) → timed (evaluated (moved d)) ≡ requested_at d.vblank d.stat (timing (advanced (timing d.picture.state)))
unfolding moved evaluated stat_signal is_source mode is_on begins_vblank
timed-moved d =
    let next = entered (advanced d.picture.state) in
    let placed = timing-entered (advanced d.picture.state) ∙ timing-advanced d.picture.state in
    ap (λ (q : PictureState). record (requested_at d.vblank d.stat q) { vblank = d.vblank || begins_vblank (timing next) }) (timing-drawn (with_state next d.picture))
    ∙ ap (λ (q : PictureState). requested_at d.vblank d.stat q) placed

timed-tick : (d : PictureAndRequests) → timed (tick d) ≡ timed (tick (timed d))
unfolding tick is_on
timed-tick d =
    let p = d.picture.state in
    let both : timed (evaluated (moved d)) ≡ timed (evaluated (moved (timed d))) = timed-moved d ∙ sym (timed-moved (timed d)) in
    elim (is_on p) as (λ b. timed (cond b (evaluated (moved d)) d) ≡ timed (cond b (evaluated (moved (timed d))) (timed d))) [
      | true ↦ both
      | false ↦ refl
    ]

abbrev timed_tick : PictureAndRequests → PictureAndRequests
timed_tick d = timed (tick d)

stored_if : (b : Bool) (p q r : PictureState) → timing q ≡ timing p → timing r ≡ timing p → timing (cond b q r) ≡ timing p
stored_if true p q r e f = e
stored_if false p q r e f = f

timing-stored : (address value : ℕ) (p : PictureState) → timing (register_stored address value p) ≡ timing p
unfolding register_stored
timing-stored address value p =
    stored_if (address == 0xFF42) p _ _ refl
    (stored_if (address == 0xFF43) p _ _ refl
    (stored_if (address == 0xFF47) p _ _ refl
    (stored_if (address == 0xFF48) p _ _ refl
    (stored_if (address == 0xFF49) p _ _ refl
    (stored_if (address == 0xFF4A) p _ _ refl
    (stored_if (address == 0xFF4B) p _ _ refl refl))))))

ticks_stored : (n address value : ℕ) (p : PictureState) → timed (ticks n (bare (register_stored address value p))) ≡ timed (ticks n (bare p))
unfolding unrequested
ticks_stored n address value p =
    iterate-along tick timed_tick timed timed-tick n (unrequested (bare (register_stored address value p)))
    ∙ ap (λ (q : PictureState). iterate timed_tick n (unrequested (bare q))) (timing-stored address value p)
    ∙ sym (iterate-along tick timed_tick timed timed-tick n (unrequested (bare p)))

pub on_stored : (address value : ℕ) (p : PictureState) → is_on (register_stored address value p) ≡ is_on p
unfolding is_on
on_stored address value p = ap is_on (timing-stored address value p)

pub frame_cycle-stored : (address value : ℕ) (p : PictureState) → frame_cycle (register_stored address value p) ≡ frame_cycle p
frame_cycle-stored address value p = ap (λ (q : PictureState). frame_cycle q) (timing-stored address value p)

-- The same M-cycles are quiet.
pub quiet_stored : (n address value : ℕ) (p : PictureState) → (0 < n → IsLegalPicture (register_stored address value p)) → AreQuiet n p → AreQuiet n (register_stored address value p)
quiet_stored n address value p legal quiet =
    let same = ticks_stored n address value p in record {
      legal = legal;
      on = λ pos. on_stored address value p ∙ quiet.on pos;
      frame = λ pos. let lt = quiet.frame pos in let e = frame_cycle-stored address value p in omega (arith, lt, e);
      vblank = λ pos. ap (λ (d : PictureAndRequests). d.vblank) same ∙ quiet.vblank pos;
      stat = λ pos. ap (λ (d : PictureAndRequests). d.stat) same ∙ quiet.stat pos;
    }

pub late_stored : (now until n address value : ℕ) (s t : PictureUnit) → IsLate now until s → t.state ≡ register_stored address value (up_to now s).state → n ≡ frame_cycle t.state
    → IsWhole t.state t.oam t.rows → IsLate (moment n t) until t
late_stored now until n address value s t late same e whole =
    let p = (up_to now s).state in
    let caught_up : moment n t ≡ frame_cycle t.state = moment_now n t e in
    let here : moment n t ≡ now = caught_up ∙ ap (λ (q : PictureState). frame_cycle q) same ∙ frame_cycle-stored address value p ∙ position now until s late in
    let quiet : AreQuiet (until - now) t.state =
    subst (λ (q : PictureState). AreQuiet (until - now) q) (sym same) (quiet_stored (until - now) address value p (λ _. subst (λ (q : PictureState). IsLegalPicture q) same whole.legal) late.coming) in record {
      whole = whole;
      late = omega (arith, caught_up);
      passed = none_quiet (moment n t - frame_cycle t.state) t.state (omega (arith, caught_up));
      coming = rw here (subst (λ (q : PictureState). AreQuiet (until - now) q) (sym (ap (λ (u : PictureUnit). u.state) (at_once now t (sym here ∙ caught_up)))) quiet);
    }

pub region_kept : (now : ℕ) (s : PictureUnit) (region : PictureRegion) → region_of (up_to now s) region ≡ region_of s region
unfolding region_of
region_kept now s Vram = vram_kept (now - frame_cycle s.state) s
region_kept now s Oam = oam_kept (now - frame_cycle s.state) s

pub same_bool : (a b : Bool) → not (beq a b) ≡ false → a ≡ b
same_bool true true e = refl
same_bool false false e = refl
same_bool true false e = cc
same_bool false true e = cc

-- ---- a whole line while STAT enables no mode

pub up_to_drawing : (p : PictureState) → p.m_cycle ≡ 0 → p.ly < 143 → 19 < next_change p
unfolding next_change next_entry
up_to_drawing p first visible = grind (arith, nat_tests, first, visible)

from_drawing : (p : PictureState) → p.stat % 64 ≡ 0 → p.m_cycle ≡ 20 → 93 < next_change p
unfolding next_change
from_drawing p none at = grind (arith, nat_tests, none, at)

drawing_at : (p : PictureState) → p.m_cycle ≡ 19 → (advanced p).m_cycle ≡ 20
unfolding advanced
drawing_at p at = grind (arith, nat_tests, at)

pub up_to_next_line : (d e f : PictureAndRequests) → is_on d.picture.state ≡ true → d.picture.state.stat % 64 ≡ 0 → d.picture.state.m_cycle ≡ 0 → e ≡ skipped 19 d → f ≡ tick e → 93 < next_change f.picture.state
unfolding skipped picture_jump.later evaluated
up_to_next_line d e f on none first skip ran =
    let on' = stays_on_skipped 19 d e on skip in
    let none' : f.picture.state.stat % 64 ≡ 0 = ap (λ (x : PictureAndRequests). x.picture.state.stat % 64) ran ∙ ap (λ (r : PictureState). r.stat % 64) (tick_registers e) ∙ ap (λ (x : PictureAndRequests). x.picture.state.stat % 64) skip ∙ none in
    let at : e.picture.state.m_cycle ≡ 19 = ap (λ (x : PictureAndRequests). x.picture.state.m_cycle) skip ∙ ap (λ (k : ℕ). k + 19) first in
    let at' : f.picture.state.m_cycle ≡ 20 = ap (λ (x : PictureAndRequests). x.picture.state.m_cycle) ran ∙ m_cycle-tick e on' ∙ drawing_at e.picture.state at in
    from_drawing f.picture.state none' at'

pub line_passed : (d e f g h : PictureAndRequests) → is_on d.picture.state ≡ true → d.picture.state.stat % 64 ≡ 0 → d.picture.state.m_cycle ≡ 0 → d.picture.state.ly < 143
    → e ≡ skipped 19 d → f ≡ tick e → g ≡ skipped 93 f → h ≡ tick g → h ≡ iterate tick 114 d
line_passed d e f g h on none first visible skip ran skip' ran' =
    let on' = stays_on e f (stays_on_skipped 19 d e on skip) ran in
    after_change 94 93 f g h (omega arith) on' (up_to_next_line d e f on none first skip ran) skip' ran'
    ∙ after_change 114 19 d e f (omega arith) on (up_to_drawing d.picture.state first visible) skip ran

pub line_of_many : (n : ℕ) (d e : PictureAndRequests) → 114 ≤ n → e ≡ iterate tick 114 d → iterate tick (n - 114) e ≡ iterate tick n d
line_of_many n d e le ran =
    let whole : 114 + (n - 114) ≡ n = omega (arith, le) in
    ap (iterate tick (n - 114)) ran ∙ sym (iterate-add tick 114 (n - 114) d) ∙ ap (λ (k : ℕ). iterate tick k d) whole

-- ---- writes that keep the state

pub state-oam_copied : (offset value : ℕ) (s : PictureUnit) → (oam_copied offset value s).state ≡ s.state
unfolding oam_copied
state-oam_copied offset value s = refl

pub state-oam_written : (offset value : ℕ) (s : PictureUnit) → (oam_written offset value s).state ≡ s.state
unfolding oam_written oam_copied
state-oam_written offset value s = elim (is_oam_closed s.state) as (λ b. (cond b s (oam_copied offset value s)).state ≡ s.state) [
  | true ↦ refl
  | false ↦ refl
]

pub state-vram_written : (offset value : ℕ) (s : PictureUnit) → (vram_written offset value s).state ≡ s.state
unfolding vram_written
state-vram_written offset value s = elim (is_vram_closed s.state) as (λ b. (cond b s (record s { vram = slice_set s.vram offset value })).state ≡ s.state) [
  | true ↦ refl
  | false ↦ refl
]

-- a byte that is there already
pub same_copied : (offset value : ℕ) (s : PictureUnit) → byte_read false s.oam offset ≡ value → s ≡ oam_copied offset value s
unfolding oam_copied byte_read
same_copied offset value s same = sym (ap (λ (o : List ℕ). record s { oam = o }) (same_written s.oam offset value same))

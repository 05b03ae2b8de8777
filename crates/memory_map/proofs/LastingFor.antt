-- For how long LY, STAT, DIV and TIMA stay the same.
use Rattle.std.proofs.Common.{◌≡◌, ◌∙◌, ℕ, zero, suc, ◌+◌, ◌-◌, ◌/◌, ◌%◌, ◌<◌, ◌≤◌, Bool, true, false, cond, Option, Some, None, refl, sym, ap, subst, arith, inl, inr}
use Rattle.std.specs.Prelude.{◌==◌, not, nat_lt, nat_le, if◌then◌else◌}
use Rattle.std.specs.Fn.{iterate}
use Rattle.std.proofs.lemmas.Bool.Decides.{nat_tests}
use Rattle.repeated_steps.specs.NextEvent.{IsNextEvent}
use Rattle.repeated_steps.proofs.Iterates.{iterate-suc}
use Rattle.timer_unit.specs.Timer as timer
use Rattle.timer_unit.specs.declared.timer.TimerState.{TimerState}
use Rattle.picture_unit.specs.Picture as picture
use Rattle.picture_unit.specs.Quiet as picture_quiet
use Rattle.picture_unit.specs.Registers as registers
use Rattle.picture_unit.specs.Laws.{frame_cycle}
use Rattle.picture_unit.specs.declared.state.PictureState.{PictureState}
use Rattle.picture_unit.proofs.Steady.{bool_cases}
use Rattle.picture_unit.proofs.LatePictures.{registers_kept, legal_kept, quiet_position}
use Rattle.memory_map.specs.State.{BusState}
use Rattle.memory_map.specs.Bus.{register_value, read_at}
use Rattle.memory_map.specs.Ticks.{tick}
use Rattle.memory_map.specs.Quiet.{AreQuietOn}
use Rattle.memory_map.specs.Lasting.{LastsFor}
use Rattle.memory_map.specs.LastingFor.{mode_lasts_from, before_fall}
use Rattle.memory_map.proofs.QuietCycles.{gone_on, further, quiet_pass, stays_dark, counter_after, goes_on}

-- ---- what is read

ly_read : (b : BusState) → read_at b 0xFF44 ≡ b.picture.picture.state.ly
unfolding read_at register_value registers.register_value
ly_read b = refl

stat_read : (b : BusState) → read_at b 0xFF41 ≡ registers.stat_value b.picture.picture.state
unfolding read_at register_value registers.register_value
stat_read b = refl

div_read : (b : BusState) → read_at b 0xFF04 ≡ b.timer.timer.counter / 256
unfolding read_at register_value
div_read b = refl

tima_read : (b : BusState) → read_at b 0xFF05 ≡ b.timer.timer.tima
unfolding read_at register_value
tima_read b = refl

gone : (k a : ℕ) (b : BusState) → AreQuietOn k b → read_at (iterate tick k b) a ≡ read_at (gone_on k b) a
gone k a b quiet = ap (λ (c : BusState). read_at c a) (sym (quiet_pass k k b (omega arith) quiet))

pub at_once : (a : ℕ) (b : BusState) → LastsFor 0 a b
at_once a b zero le quiet = refl
at_once a b (suc k) le quiet = absurd (omega (arith, le))

-- ---- the picture unit after quiet M-cycles

-- on the same line
pub same_line : (k : ℕ) (s : picture.PictureUnit) → (picture.is_on s.state ≡ true → picture_quiet.AreQuiet k s.state) → k ≤ 113 - frame_cycle s.state % 114
    → (further k s).state.ly ≡ s.state.ly
unfolding picture.unrequested
same_line zero s quiet le = refl
same_line (suc k) s quiet le =
    elim (bool_cases (picture.is_on s.state)) [
      | inl on ↦
          let q = quiet on in
          let legal = q.legal (omega arith) in
          let after = legal_kept (suc k) s legal in
          let at = quiet_position (suc k) s q in
          let here = legal.m_cycle in
          let there = after.m_cycle in
          omega (arith, here, there, at, le)
      | inr off ↦ ap (λ (u : picture.PictureUnit). u.state.ly) (stays_dark (suc k) s off)
    ]

-- STAT by what it depends on
abbrev stat_with : PictureState → (ly : ℕ) → (mode : ℕ) → ℕ
stat_with p ly mode = 128 + p.stat + (if ly == p.lyc then 4 else 0) + mode

abbrev mode_with : Bool → (vblank mode_2 mode_3 : Bool) → ℕ
mode_with on vblank mode_2 mode_3 = if not on then 0 else if vblank then 1 else if mode_2 then 2 else if mode_3 then 3 else 0

abbrev placed : PictureState → (ly m_cycle counter : ℕ) → (seen signal : Bool) → PictureState
placed p ly m_cycle counter seen signal = record p { ly = ly; m_cycle = m_cycle; window_counter = counter; seen = seen; signal = signal }

stat_of_placed : (p : PictureState) (ly m_cycle counter : ℕ) (seen signal : Bool)
    → registers.stat_value (placed p ly m_cycle counter seen signal)
    ≡ stat_with p ly (mode_with (picture.is_on p) (nat_le 144 ly) (nat_lt m_cycle 20) (nat_lt m_cycle 63))
unfolding registers.stat_value picture.mode picture.is_on
stat_of_placed p ly m_cycle counter seen signal = refl

same_mode : (on vblank a b c d : Bool) → (vblank ≡ false → a ≡ b) → (vblank ≡ false → c ≡ d) → mode_with on vblank a c ≡ mode_with on vblank b d
same_mode false vblank a b c d e f = refl
same_mode true true a b c d e f = refl
same_mode true false a b c d e f = ap (λ (x : Bool). mode_with true false x c) (e refl) ∙ ap (λ (x : Bool). mode_with true false b x) (f refl)

pub same_stat : (k : ℕ) (s : picture.PictureUnit) → (picture.is_on s.state ≡ true → picture_quiet.AreQuiet k s.state) → k ≤ mode_lasts_from (frame_cycle s.state)
    → registers.stat_value (further k s).state ≡ registers.stat_value s.state
unfolding picture.unrequested
same_stat zero s quiet le = refl
same_stat (suc k) s quiet le =
    elim (bool_cases (picture.is_on s.state)) [
      | inl on ↦
          let q = quiet on in
          let p = s.state in
          let t = (further (suc k) s).state in
          let legal = q.legal (omega arith) in
          let after = legal_kept (suc k) s legal in
          let at = quiet_position (suc k) s q in
          let here = legal.m_cycle in
          let there = after.m_cycle in
          let line : t.ly ≡ p.ly = same_line (suc k) s quiet (grind (arith, nat_tests, le)) in
          let cycle : t.m_cycle ≡ p.m_cycle + suc k = omega (arith, at, line) in
          let mode_2 : nat_le 144 p.ly ≡ false → nat_lt t.m_cycle 20 ≡ nat_lt p.m_cycle 20 = λ drawn. grind (arith, nat_tests, le, cycle, here, drawn) in
          let mode_3 : nat_le 144 p.ly ≡ false → nat_lt t.m_cycle 63 ≡ nat_lt p.m_cycle 63 = λ drawn. grind (arith, nat_tests, le, cycle, here, drawn) in
          ap (λ (r : PictureState). registers.stat_value (placed r t.ly t.m_cycle t.window_counter t.seen t.signal)) (registers_kept (suc k) s)
          ∙ stat_of_placed p t.ly t.m_cycle t.window_counter t.seen t.signal
          ∙ ap (λ (ly : ℕ). stat_with p ly (mode_with (picture.is_on p) (nat_le 144 ly) (nat_lt t.m_cycle 20) (nat_lt t.m_cycle 63))) line
          ∙ ap (stat_with p p.ly) (same_mode (picture.is_on p) (nat_le 144 p.ly) (nat_lt t.m_cycle 20) (nat_lt p.m_cycle 20) (nat_lt t.m_cycle 63) (nat_lt p.m_cycle 63) mode_2 mode_3)
          ∙ sym (stat_of_placed p p.ly p.m_cycle p.window_counter p.seen p.signal)
      | inr off ↦ ap (λ (u : picture.PictureUnit). registers.stat_value u.state) (stays_dark (suc k) s off)
    ]

pub line_lasts : (now : ℕ) (b : BusState) → now ≡ frame_cycle b.picture.picture.state → LastsFor (113 - now % 114) 0xFF44 b
line_lasts now b here k le quiet =
    gone k 0xFF44 b quiet ∙ ly_read (gone_on k b) ∙ same_line k b.picture.picture quiet.lit (omega (arith, le, here)) ∙ sym (ly_read b)

pub mode_lasts : (now lasts : ℕ) (b : BusState) → now ≡ frame_cycle b.picture.picture.state → lasts ≡ mode_lasts_from now → LastsFor lasts 0xFF41 b
mode_lasts now lasts b here e k le quiet =
    let bound : k ≤ mode_lasts_from (frame_cycle b.picture.picture.state) = subst (λ (n : ℕ). k ≤ n) (e ∙ ap mode_lasts_from here) le in
    gone k 0xFF41 b quiet ∙ stat_read (gone_on k b) ∙ same_stat k b.picture.picture quiet.lit bound ∙ sym (stat_read b)

-- ---- the timer

pub div_lasts : (counter : ℕ) (b : BusState) → counter ≡ b.timer.timer.counter → counter < 65536 → LastsFor (63 - counter / 4 % 64) 0xFF04 b
div_lasts counter b e few k le quiet =
    let at = counter_after k b.timer (λ pos. omega (arith, e, few, le)) in
    let same : (iterate timer.tick k b.timer).timer.counter / 256 ≡ b.timer.timer.counter / 256 = omega (arith, at, e, few, le) in
    gone k 0xFF04 b quiet ∙ div_read (gone_on k b) ∙ same ∙ sym (div_read b)

abbrev counted : timer.TimerAndRequest → timer.TimerAndRequest
counted s = record { timer = record s.timer { counter = (s.timer.counter + 4) % 65536; tac = s.timer.tac }; requested = s.requested }

tick_keeps_tima : (s : timer.TimerAndRequest) → timer.signal_falls s ≡ false → (timer.tick s).timer.tima ≡ s.timer.tima
tick_keeps_tima s e = ap (λ (b : Bool). (cond b (timer.increment_tima (counted s)) (counted s)).timer.tima) e

tima_stays : (k : ℕ) (s : timer.TimerAndRequest) → ((j : ℕ) → j < k → timer.signal_falls (iterate timer.tick j s) ≡ false) → (iterate timer.tick k s).timer.tima ≡ s.timer.tima
tima_stays zero s none = refl
tima_stays (suc k) s none =
    ap (λ (t : timer.TimerAndRequest). t.timer.tima) (iterate-suc timer.tick k s)
    ∙ tick_keeps_tima (iterate timer.tick k s) (none k (omega arith))
    ∙ tima_stays k s (λ j lt. none j (omega (arith, lt)))

abbrev falls_of : TimerState → Bool
falls_of t = timer.signal_falls (record { timer = t; requested = false })

none_falls : (due : Option ℕ) (s : timer.TimerAndRequest) → IsNextEvent timer.tick timer.signal_falls (timer.unrequested s.timer) due → (j k : ℕ) → j < k → k ≤ before_fall due
    → timer.signal_falls (iterate timer.tick j s) ≡ false
none_falls None s next j k lt le = ap falls_of (goes_on j s) ∙ next j
none_falls (Some n) s next j k lt le = ap falls_of (goes_on j s) ∙ next.2 j (let pos = next.0 in omega (arith, lt, le, pos))

pub tima_lasts : (due : Option ℕ) (b : BusState) → IsNextEvent timer.tick timer.signal_falls (timer.unrequested b.timer.timer) due → LastsFor (before_fall due) 0xFF05 b
tima_lasts due b next k le quiet =
    gone k 0xFF05 b quiet ∙ tima_read (gone_on k b) ∙ tima_stays k b.timer (λ j lt. none_falls due b.timer next j k lt le) ∙ sym (tima_read b)

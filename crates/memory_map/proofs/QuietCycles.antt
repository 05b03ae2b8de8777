-- Quiet M-cycles of the bus at once.
use Rattle.std.proofs.Common.{◌≡◌, ℕ, zero, suc, ◌+◌, ◌-◌, ◌*◌, ◌/◌, ◌%◌, ◌<◌, ◌≤◌, Bool, true, false, cond, min, refl, sym, ap, subst, ◌∙◌, arith, inl, inr}
use Rattle.std.specs.Prelude.{◌||◌, ◌&&◌, ◌==◌, not}
use Rattle.std.specs.Fn.{iterate}
use Rattle.std.proofs.lemmas.Bool.{cases_lt}
use Rattle.std.proofs.lemmas.Bool.Decides.{nat_tests}
use Rattle.std.proofs.Math.Bool.{or-false}
use Rattle.repeated_steps.proofs.Iterates.{iterate-add}
use Rattle.timer_unit.specs.Timer as timer
use Rattle.timer_unit.specs.Serial as serial
use Rattle.timer_unit.specs.declared.timer.TimerState.{TimerState}
use Rattle.timer_unit.proofs.Requested.{timer_request_added}
use Rattle.timer_unit.proofs.SerialJump as serial_jump
use Rattle.picture_unit.specs.Picture as picture
use Rattle.picture_unit.specs.Quiet as picture_quiet
use Rattle.picture_unit.specs.declared.state.PictureState.{PictureState}
use Rattle.picture_unit.proofs.Quiet.{stands_still}
use Rattle.picture_unit.proofs.Steady.{bool_cases, both_ways}
use Rattle.picture_unit.proofs.LatePictures.{none_quiet, fewer_quiet, rest_quiet, no_vblank, no_stat, on_kept}
use Rattle.picture_unit.proofs.PictureLaws.{picture_ticks}
use Rattle.memory_map.specs.State.{BusState}
use Rattle.memory_map.specs.Bus.{pending_interrupts}
use Rattle.memory_map.specs.Ticks.{tick}
use Rattle.memory_map.specs.Quiet.{AreQuiet, AreQuietOn, IsCalm}
use Rattle.memory_map.proofs.NextBusEvent.{ticks_apart}

pub none_are_quiet : (n copied : ℕ) (t : TimerState) (left : ℕ) (p : PictureState) → n ≡ 0 → AreQuiet n copied t left p
none_are_quiet n copied t left p none = record {
  copy = λ pos. absurd (omega (arith, none));
  timer = λ pos. absurd (omega (arith, none));
  serial = λ pos. absurd (omega (arith, none));
  lit = λ on. none_quiet n p none;
  dark = λ pos off. absurd (omega (arith, none));
}

-- ---- the timer requests nothing

left_none : (p q : Bool) → (p || q) ≡ false → p ≡ false
left_none false q e = refl
left_none true q e = e

right_none : (p q : Bool) → (p || q) ≡ false → q ≡ false
right_none false q e = e
right_none true q e = cc

-- what is not requested in q M-cycles is not requested in the first n of them, nor in the others
requested_apart : (q n : ℕ) (t : TimerState) → n ≤ q → (timer.ticks q t).requested ≡ false
    → ((timer.ticks n t).requested ≡ false) × ((timer.ticks (q - n) (timer.ticks n t).timer).requested ≡ false)
requested_apart q n t le none =
    let s = timer.ticks n t in
    let all : n + (q - n) ≡ q = omega (arith, le) in
    let whole : (s.requested || (timer.ticks (q - n) s.timer).requested) ≡ false =
    sym (ap (λ (x : timer.TimerAndRequest). x.requested) (timer_request_added s.requested (q - n) s.timer))
    ∙ sym (ap (λ (x : timer.TimerAndRequest). x.requested) (iterate-add timer.tick n (q - n) (timer.unrequested t)))
    ∙ ap (λ (k : ℕ). (timer.ticks k t).requested) all ∙ none in
    (left_none s.requested (timer.ticks (q - n) s.timer).requested whole, right_none s.requested (timer.ticks (q - n) s.timer).requested whole)

-- n M-cycles of a timer that requests nothing in them
pub still_requested : (n : ℕ) (s : timer.TimerAndRequest) → (timer.ticks n s.timer).requested ≡ false
    → (iterate timer.tick n s).requested ≡ s.requested
still_requested n s none =
    ap (λ (x : timer.TimerAndRequest). x.requested) (timer_request_added s.requested n s.timer)
    ∙ ap (λ (r : Bool). s.requested || r) none ∙ or-false s.requested

pub goes_on : (n : ℕ) (s : timer.TimerAndRequest) → (iterate timer.tick n s).timer ≡ (timer.ticks n s.timer).timer
goes_on n s = ap (λ (x : timer.TimerAndRequest). x.timer) (timer_request_added s.requested n s.timer)

-- ---- the counter of DIV

-- a new counter and TAC
pub counter_set : (counter tac : ℕ) (s : timer.TimerAndRequest) → (timer.with_counter_and_tac counter tac s).timer.counter ≡ counter
counter_set counter tac s =
    let changed : timer.TimerAndRequest = record { timer = record s.timer { counter = counter; tac = tac }; requested = s.requested } in
    let counted : timer.TimerAndRequest = record { timer = record changed.timer { tima = s.timer.tima + 1 }; requested = s.requested } in
    let reloaded : timer.TimerAndRequest = record { timer = record changed.timer { tima = s.timer.tma }; requested = true } in
    elim (timer.signal s.timer.tac s.timer.counter && not (timer.signal tac counter)) as (λ b. (cond b (timer.increment_tima changed) changed).timer.counter ≡ counter) [
      | true ↦ elim (s.timer.tima == 255) as (λ b. (cond b reloaded counted).timer.counter ≡ counter) [
        | true ↦ refl
        | false ↦ refl
      ]
      | false ↦ refl
    ]

-- n M-cycles in which it does not overflow
pub counter_after : (n : ℕ) (s : timer.TimerAndRequest) → (0 < n → s.timer.counter / 4 + n < 16384) → (iterate timer.tick n s).timer.counter ≡ s.timer.counter + 4 * n
counter_after zero s below = omega arith
counter_after (suc n) s below =
    let first = counter_set ((s.timer.counter + 4) % 65536) s.timer.tac s in
    let lt = below (omega arith) in
    let rest = counter_after n (timer.tick s) (λ pos. omega (arith, lt, first)) in
    omega (arith, lt, first, rest)

-- ---- the other units

serial_stays : (n : ℕ) (s : serial.SerialAndRequest) → s.serial.cycles_left ≡ 0 → iterate serial.tick n s ≡ s
serial_stays n s none = serial_jump.ticks_by_jump n s ∙ grind (arith, nat_tests)

abbrev pub further : ℕ → picture.PictureUnit → picture.PictureUnit
further n s = (picture.ticks n s).picture

abbrev with_picture : picture.PictureUnit → Bool → Bool → picture.PictureAndRequests
with_picture s v l = record { picture = s; vblank = v; stat = l }

picture_goes_on : (q n : ℕ) (d : picture.PictureAndRequests) → n ≤ q → picture_quiet.AreQuiet q d.picture.state → iterate picture.tick n d ≡ record d { picture = further n d.picture }
picture_goes_on q n d le quiet =
    let few = fewer_quiet q n d.picture le quiet in
    picture_ticks d.vblank d.stat n d.picture
    ∙ ap (λ (v : Bool). with_picture (further n d.picture) (d.vblank || v) (d.stat || (picture.ticks n d.picture).stat)) (no_vblank n d.picture few)
    ∙ ap (λ (l : Bool). with_picture (further n d.picture) (d.vblank || false) (d.stat || l)) (no_stat n d.picture few)
    ∙ ap (λ (v : Bool). with_picture (further n d.picture) v (d.stat || false)) (or-false d.vblank)
    ∙ ap (λ (l : Bool). with_picture (further n d.picture) d.vblank l) (or-false d.stat)

-- the LCD is off
pub stays_dark : (n : ℕ) (s : picture.PictureUnit) → picture.is_on s.state ≡ false → further n s ≡ s
unfolding picture.unrequested
stays_dark n s off = ap (λ (d : picture.PictureAndRequests). d.picture) (stands_still n (picture.unrequested s) off)

picture_passes : (q n : ℕ) (d : picture.PictureAndRequests) → n ≤ q → (picture.is_on d.picture.state ≡ true → picture_quiet.AreQuiet q d.picture.state)
    → iterate picture.tick n d ≡ record d { picture = further n d.picture }
picture_passes q n d le quiet =
    elim (bool_cases (picture.is_on d.picture.state)) [
      | inl on ↦ picture_goes_on q n d le (quiet on)
      | inr off ↦ stands_still n d off ∙ sym (ap (λ (s : picture.PictureUnit). with_picture s d.vblank d.stat) (stays_dark n d.picture off))
    ]

-- ---- the bus

-- what n quiet M-cycles leave
abbrev pub gone_on : ℕ → BusState → BusState
gone_on n b = record b {
  timer = iterate timer.tick n b.timer;
  picture = record b.picture { picture = further n b.picture.picture };
}

abbrev with_units : timer.TimerAndRequest → serial.SerialAndRequest → picture.PictureAndRequests → BusState → BusState
with_units t s p b = record b { timer = t; serial = s; picture = p }

pub quiet_pass : (q n : ℕ) (b : BusState) → n ≤ q → AreQuietOn q b → gone_on n b ≡ iterate tick n b
unfolding picture.unrequested
quiet_pass q zero b le quiet = refl
quiet_pass q (suc n) b le quiet =
    let s = serial_stays (suc n) b.serial (quiet.serial (omega arith)) in
    let p = picture_passes q (suc n) b.picture le quiet.lit in
    sym (ticks_apart (suc n) b (quiet.copy (omega arith))
    ∙ ap (λ (x : serial.SerialAndRequest). with_units (iterate timer.tick (suc n) b.timer) x (iterate picture.tick (suc n) b.picture) b) s
    ∙ ap (λ (x : picture.PictureAndRequests). with_units (iterate timer.tick (suc n) b.timer) b.serial x b) p)

-- what is quiet after n quiet M-cycles
pub quiet_after : (q n : ℕ) (b : BusState) → n ≤ q → AreQuietOn q b → AreQuietOn (q - n) (gone_on n b)
quiet_after q n b le quiet = record {
  copy = λ pos. quiet.copy (omega arith);
  timer = λ pos. ap (λ (t : TimerState). (timer.ticks (q - n) t).requested) (goes_on n b.timer) ∙ (requested_apart q n b.timer.timer le (quiet.timer (omega arith))).1;
  serial = λ pos. quiet.serial (omega arith);
  lit = λ on. rest_quiet q n b.picture.picture le (quiet.lit (sym (on_kept n b.picture.picture) ∙ on));
  dark = λ pos off.
      let lt = quiet.dark (omega (arith, pos)) (sym (on_kept n b.picture.picture) ∙ off) in
      let counted = counter_after n b.timer (λ some. omega (arith, lt, le)) in
      omega (arith, lt, le, counted);
}

-- fewer are quiet too
pub fewer_are_quiet : (q n : ℕ) (b : BusState) → n ≤ q → AreQuietOn q b → AreQuietOn n b
fewer_are_quiet q n b le quiet = record {
  copy = λ pos. quiet.copy (omega arith);
  timer = λ pos. (requested_apart q n b.timer.timer le (quiet.timer (omega arith))).0;
  serial = λ pos. quiet.serial (omega arith);
  lit = λ on. fewer_quiet q n b.picture.picture le (quiet.lit on);
  dark = λ pos off. let lt = quiet.dark (omega (arith, pos, le)) off in omega (arith, lt, le);
}

-- those up to an M-cycle of the clock, n quiet M-cycles on
pub quiet_until_after : (until clock n : ℕ) (b : BusState) → AreQuietOn (until - clock) b → AreQuietOn (until - (clock + n)) (gone_on n b)
quiet_until_after until clock n b quiet =
    elim (cases_lt until (clock + n)) [
      | inl lt ↦ none_are_quiet (until - (clock + n)) (gone_on n b).control.dma_copied (gone_on n b).timer.timer (gone_on n b).serial.serial.cycles_left (gone_on n b).picture.picture.state (omega (arith, lt))
      | inr le ↦ let same : until - (clock + n) ≡ until - clock - n = omega arith in rw same (quiet_after (until - clock) n b (omega (arith, le)) quiet)
    ]

-- as many as are quiet for the timer, and for the picture unit while it is on
pub lit_quiet : (n m q copied : ℕ) (t : TimerState) (left : ℕ) (s : picture.PictureUnit) → n ≡ min m q → 160 ≤ copied → left ≡ 0
    → (timer.ticks m t).requested ≡ false → picture.is_on s.state ≡ true → picture_quiet.AreQuiet q s.state → AreQuiet n copied t left s.state
lit_quiet n m q copied t left s e copy none still on quiet = record {
  copy = λ _. copy;
  timer = λ _. (requested_apart m n t (omega arith) still).0;
  serial = λ _. none;
  lit = λ _. fewer_quiet q n s (omega arith) quiet;
  dark = λ _ off. both_ways (picture.is_on s.state) on off;
}

-- and up to the overflow of DIV's counter while it is off
pub dark_quiet : (n m q copied : ℕ) (t : TimerState) (left : ℕ) (s : picture.PictureUnit) → n ≡ min m q → 160 ≤ copied → left ≡ 0
    → (timer.ticks m t).requested ≡ false → picture.is_on s.state ≡ false → t.counter / 4 + q < 16384 → AreQuiet n copied t left s.state
dark_quiet n m q copied t left s e copy none still off below = record {
  copy = λ _. copy;
  timer = λ _. (requested_apart m n t (omega arith) still).0;
  serial = λ _. none;
  lit = λ on. both_ways (picture.is_on s.state) on off;
  dark = λ _ _. omega (arith, below, e);
}

abbrev pending_with : Bool → BusState → ℕ
pending_with r b = pending_interrupts (record b { timer = record b.timer { requested = r } })

-- quiet M-cycles request nothing
pub pending_after : (n : ℕ) (b : BusState) → AreQuietOn n b → pending_interrupts (gone_on n b) ≡ pending_interrupts b
pending_after zero b quiet = refl
pending_after (suc n) b quiet = ap (λ (r : Bool). pending_with r b) (still_requested (suc n) b.timer (quiet.timer (omega arith)))

-- before each of n M-cycles, of which all but the last are quiet, IE and IF share what they share now
pub pending_while_quiet : (n k : ℕ) (b : BusState) → k < n → AreQuietOn (n - 1) b → pending_interrupts (iterate tick k b) ≡ pending_interrupts b
pending_while_quiet n k b below quiet =
    ap pending_interrupts (sym (quiet_pass (n - 1) k b (omega arith) quiet)) ∙ pending_after k b (fewer_are_quiet (n - 1) k b (omega arith) quiet)

-- fewer are calm too
pub fewer_are_calm : (n m : ℕ) (b : BusState) → m ≤ n → IsCalm n b → IsCalm m b
fewer_are_calm n m b le calm = record {
  quiet = fewer_are_quiet (n - 1) (m - 1) b (omega arith) calm.quiet;
  none_pending = λ some. calm.none_pending (omega arith);
}

-- what is calm after k of them
pub calm_after : (n k : ℕ) (b : BusState) → k < n → IsCalm n b → IsCalm (n - k) (iterate tick k b)
calm_after n k b below calm =
    let left : n - k - 1 ≡ n - 1 - k = omega arith in record {
      quiet = rw left (subst (AreQuietOn (n - 1 - k)) (quiet_pass (n - 1) k b (omega arith) calm.quiet) (quiet_after (n - 1) k b (omega arith) calm.quiet));
      none_pending = λ some. pending_while_quiet n k b below calm.quiet ∙ calm.none_pending (omega arith);
    }

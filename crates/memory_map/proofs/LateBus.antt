-- What is known of a bus beside its value, after quiet M-cycles and where the timer has caught up.
use Rattle.std.proofs.Common.{◌≡◌, ℕ, zero, suc, ◌+◌, ◌-◌, ◌*◌, ◌≤◌, true, false, refl, sym, ap, subst, ◌∙◌, arith}
use Rattle.std.specs.Prelude.{length}
use Rattle.std.specs.Fn.{iterate}
use Rattle.timer_unit.specs.Timer as timer
use Rattle.picture_unit.specs.Picture.{PictureUnit, is_on}
use Rattle.picture_unit.specs.Laws.{frame_cycle}
use Rattle.picture_unit.specs.Quiet as picture
use Rattle.picture_unit.proofs.LatePictures.{quiet_position, on_kept}
use Rattle.memory_map.specs.declared.late_timer.LateTimer.{LateTimer}
use Rattle.memory_map.specs.LateTimer.{up_to}
use Rattle.memory_map.specs.State.{BusState, IsLegalControl}
use Rattle.memory_map.specs.Quiet.{AreQuietOn}
use Rattle.memory_map.specs.Invariant.{IsConsistent}
use Rattle.memory_map.proofs.LateTimers.{later, not_late}
use Rattle.memory_map.proofs.QuietCycles.{gone_on, further, none_are_quiet, quiet_until_after, pending_after, still_requested, counter_after}

abbrev pub with_timer_and_picture : timer.TimerAndRequest → PictureUnit → BusState → BusState
with_timer_and_picture t p b = record b { timer = t; picture = record b.picture { picture = p } }

-- the clock and the picture unit have gone on
pub moved : (n clock : ℕ) (l : LateTimer) (b : BusState) (p : PictureUnit) → b.timer ≡ up_to clock l → l.at ≤ clock → p ≡ further n b.picture.picture
    → with_timer_and_picture (up_to (clock + n) l) p b ≡ gone_on n b
moved n clock l b p e le f =
    ap (λ (q : PictureUnit). with_timer_and_picture (up_to (clock + n) l) q b) f
    ∙ ap (λ (t : timer.TimerAndRequest). with_timer_and_picture t (further n b.picture.picture) b) (later clock n l le ∙ ap (iterate timer.tick n) (sym e))

pub requested_after : (n : ℕ) (b : BusState) → AreQuietOn n b → (gone_on n b).timer.requested ≡ b.timer.requested
requested_after zero b quiet = refl
requested_after (suc n) b quiet = still_requested (suc n) b.timer (quiet.timer (omega arith))

pub consistent_after : (calm_until quiet_until clock n : ℕ) (l : LateTimer) (b c : BusState) → c ≡ gone_on n b → AreQuietOn n b → IsConsistent calm_until quiet_until clock l b
    → IsConsistent calm_until quiet_until (clock + n) l c
consistent_after calm_until quiet_until clock n l b c e quiet known =
    let s = b.picture.picture in
    subst (IsConsistent calm_until quiet_until (clock + n) l) (sym e) (record {
      wram = known.wram;
      control = known.control;
      lit = λ on.
          let was = sym (on_kept n s) ∙ on in
          let at = quiet_position n s (quiet.lit was) in
          let here = known.lit was in
          omega (arith, here, at);
      dark = λ off.
          let was = sym (on_kept n s) ∙ off in
          let counted = counter_after n b.timer (λ pos. quiet.dark pos was) in
          let low = known.dark was in
          omega (arith, low, counted);
      waiting = quiet_until_after (calm_until - 1) clock n b known.waiting;
      asked = quiet_until_after quiet_until clock n b known.asked;
      none_pending = λ below. pending_after n b quiet ∙ known.none_pending (omega (arith, below));
      late = omega (arith, known.late);
      requested = requested_after n b quiet ∙ known.requested;
    })

-- the timer has caught up, and nothing is known to be quiet
pub consistent_now : (clock : ℕ) (l : LateTimer) (b : BusState) → (is_on b.picture.picture.state ≡ true → clock ≡ frame_cycle b.picture.picture.state)
    → (is_on b.picture.picture.state ≡ false → 4 * clock ≤ b.timer.timer.counter) → l.at ≡ clock → b.timer ≡ up_to clock l → length b.wram ≡ 8192
    → IsLegalControl b.control → IsConsistent 0 0 clock l b
consistent_now clock l b lit dark at e wram control = record {
  wram = wram;
  control = control;
  lit = lit;
  dark = dark;
  waiting = none_are_quiet (0 - 1 - clock) b.control.dma_copied b.timer.timer b.serial.serial.cycles_left b.picture.picture.state (omega arith);
  asked = none_are_quiet (0 - clock) b.control.dma_copied b.timer.timer b.serial.serial.cycles_left b.picture.picture.state (omega arith);
  none_pending = λ below. absurd (omega (arith, below));
  late = omega (arith, at);
  requested = ap (λ (t : timer.TimerAndRequest). t.requested) (e ∙ not_late clock l at);
}

-- The picture unit is another one that is as quiet.
still_quiet : (n : ℕ) (b : BusState) (p : PictureUnit) → is_on p.state ≡ is_on b.picture.picture.state → ((n : ℕ) → picture.AreQuiet n b.picture.picture.state → picture.AreQuiet n p.state)
    → AreQuietOn n b → AreQuietOn n (with_timer_and_picture b.timer p b)
still_quiet n b p same keeps quiet = record {
  copy = quiet.copy;
  timer = quiet.timer;
  serial = quiet.serial;
  lit = λ on. keeps n (quiet.lit (sym same ∙ on));
  dark = λ pos off. quiet.dark pos (sym same ∙ off);
}

pub consistent_stored : (calm_until quiet_until clock : ℕ) (l : LateTimer) (b : BusState) (p : PictureUnit) → is_on p.state ≡ is_on b.picture.picture.state
    → frame_cycle p.state ≡ frame_cycle b.picture.picture.state → ((n : ℕ) → picture.AreQuiet n b.picture.picture.state → picture.AreQuiet n p.state)
    → IsConsistent calm_until quiet_until clock l b → IsConsistent calm_until quiet_until clock l (with_timer_and_picture b.timer p b)
consistent_stored calm_until quiet_until clock l b p same there keeps known = record {
  wram = known.wram;
  control = known.control;
  lit = λ on. known.lit (sym same ∙ on) ∙ sym there;
  dark = λ off. known.dark (sym same ∙ off);
  waiting = still_quiet (calm_until - 1 - clock) b p same keeps known.waiting;
  asked = still_quiet (quiet_until - clock) b p same keeps known.asked;
  none_pending = known.none_pending;
  late = known.late;
  requested = known.requested;
}

-- The STAT interrupt is requested exactly where the STAT signal rises.
use Rattle.std.proofs.Common.{◌≡◌, ℕ, Bool, true, false, refl, sym, ap, ◌∙◌, arith, inl, inr}
use Rattle.std.specs.Prelude.{not, ◌&&◌, ◌||◌, ◌==◌, nat_le, nat_lt, if◌then◌else◌}
use Rattle.std.proofs.lemmas.Bool.Decides.{nat_tests}
use Rattle.picture_lines.specs.Bits.{has_bit}
use Rattle.picture_unit.specs.declared.state.PictureState.{PictureState}
use Rattle.picture_unit.specs.Picture.{PictureUnit, PictureAndRequests, is_on, mode, is_source, stat_signal, advanced, entered, drawn, line_drawn, moved, evaluated, tick, picture_at_power_on, state_at_power_on}
use Rattle.picture_unit.specs.Registers.{register_stored, switched_off, switched_on, lcdc_written, stat_written, lyc_written, register_written}
use Rattle.picture_unit.specs.SignalLaws.{IsEvaluated, RequestsItsRise, StatIsRequestedAtRises}
use Rattle.picture_unit.proofs.Steady.{bool_cases}

both : (a b : Bool) → (a && not b) ≡ (not b && a)
both true true = refl
both true false = refl
both false true = refl
both false false = refl

no_rise : (r b : Bool) → r ≡ (r || (not b && b))
no_rise true true = refl
no_rise true false = refl
no_rise false true = refl
no_rise false false = refl

-- whatever became of the screen but for the signal that was evaluated last, the next taking sees a rise
evaluated_rise : (d e : PictureAndRequests) → e.stat ≡ d.stat → e.picture.state.signal ≡ stat_signal d.picture.state → RequestsItsRise d (evaluated e)
unfolding evaluated stat_signal is_on is_source mode
evaluated_rise d e pending before = record {
  requested = rw (pending, before) (ap (λ q. d.stat || q) (both (stat_signal e.picture.state) (stat_signal d.picture.state)));
  evaluated = refl;
}

signal_moved : (d : PictureAndRequests) → (moved d).picture.state.signal ≡ d.picture.state.signal
unfolding moved drawn line_drawn entered advanced
signal_moved d = grind (arith, nat_tests)

stat_moved : (d : PictureAndRequests) → (moved d).stat ≡ d.stat
unfolding moved
stat_moved d = refl

-- nothing that the signal goes by has changed
still : (d e : PictureAndRequests) → e.stat ≡ d.stat → e.picture.state.signal ≡ d.picture.state.signal → stat_signal e.picture.state ≡ stat_signal d.picture.state → IsEvaluated d.picture → RequestsItsRise d e
still d e pending kept same before = record {
  requested = pending ∙ no_rise d.stat (stat_signal d.picture.state) ∙ ap (λ q. d.stat || (not (stat_signal d.picture.state) && q)) (sym same);
  evaluated = kept ∙ before ∙ sym same;
}

of_m_cycle : (d : PictureAndRequests) → IsEvaluated d.picture → RequestsItsRise d (tick d)
unfolding tick
of_m_cycle d before =
    elim (bool_cases (is_on d.picture.state)) [
      | inl on ↦ rw on (evaluated_rise d (moved d) (stat_moved d) (signal_moved d ∙ before))
      | inr off ↦ rw off (still d d refl refl refl before)
    ]

-- ---- writes

none_off : (r b : Bool) → (r || (false && not false)) ≡ (r || (not b && false))
none_off true b = refl
none_off false true = refl
none_off false false = refl

of_switched_off : (lcdc : ℕ) (d : PictureAndRequests) → nat_lt lcdc 128 ≡ true → RequestsItsRise d (evaluated (record d { picture = switched_off lcdc d.picture }))
unfolding evaluated stat_signal is_on is_source mode switched_off
of_switched_off lcdc d low =
    let off : nat_le 128 lcdc ≡ false = grind (arith, nat_tests) in record {
      requested = rw off (none_off d.stat (stat_signal d.picture.state));
      evaluated = refl;
    }

abbrev with_picture : PictureUnit → PictureAndRequests → PictureAndRequests
with_picture s d = record d { picture = s }

lcdc_if : (b : Bool) (d : PictureAndRequests) (s t : PictureUnit) → (b ≡ true → RequestsItsRise d (evaluated (with_picture s d))) → RequestsItsRise d (evaluated (with_picture t d))
    → RequestsItsRise d (evaluated (with_picture (if b then s else t) d))
lcdc_if true d s t first second = first refl
lcdc_if false d s t first second = second

second_of : (a b : Bool) → (a && b) ≡ true → b ≡ true
second_of true b e = e
second_of false b e = absurd (cc)

of_lcdc : (lcdc : ℕ) (d : PictureAndRequests) → IsEvaluated d.picture → RequestsItsRise d (evaluated (record d { picture = lcdc_written lcdc d.picture }))
unfolding lcdc_written switched_on
of_lcdc lcdc d before =
    lcdc_if (is_on d.picture.state && nat_lt lcdc 128) d _ _ (λ e. of_switched_off lcdc d (second_of (is_on d.picture.state) (nat_lt lcdc 128) e))
    (lcdc_if (not (is_on d.picture.state) && nat_le 128 lcdc) d _ _ (λ e. evaluated_rise d _ refl before) (evaluated_rise d _ refl before))

record IsAsBefore (p q : PictureState) : Type 0 where
  signal : q.signal ≡ p.signal
  level : stat_signal q ≡ stat_signal p

as_if : (b : Bool) (p q r : PictureState) → IsAsBefore p q → IsAsBefore p r → IsAsBefore p (if b then q else r)
as_if true p q r first second = first
as_if false p q r first second = second

stored_as : (address value : ℕ) (p : PictureState) → IsAsBefore p (register_stored address value p)
unfolding register_stored stat_signal is_on is_source mode
stored_as address value p =
    as_if (address == 0xFF42) p _ _ (record { signal = refl; level = refl })
    (as_if (address == 0xFF43) p _ _ (record { signal = refl; level = refl })
    (as_if (address == 0xFF47) p _ _ (record { signal = refl; level = refl })
    (as_if (address == 0xFF48) p _ _ (record { signal = refl; level = refl })
    (as_if (address == 0xFF49) p _ _ (record { signal = refl; level = refl })
    (as_if (address == 0xFF4A) p _ _ (record { signal = refl; level = refl })
    (as_if (address == 0xFF4B) p _ _ (record { signal = refl; level = refl }) (record { signal = refl; level = refl })))))))

of_stored : (address value : ℕ) (d : PictureAndRequests) → IsEvaluated d.picture → RequestsItsRise d (record d { picture = record d.picture { state = register_stored address value d.picture.state } })
of_stored address value d before =
    let same = stored_as address value d.picture.state in
    still d _ refl same.signal same.level before

requests_if : (b : Bool) (d e f : PictureAndRequests) → RequestsItsRise d e → RequestsItsRise d f → RequestsItsRise d (if b then e else f)
requests_if true d e f first second = first
requests_if false d e f first second = second

of_write : (address value : ℕ) (d : PictureAndRequests) → IsEvaluated d.picture → RequestsItsRise d (register_written address value d)
unfolding register_written stat_written lyc_written
of_write address value d before =
    requests_if (address == 0xFF40) d _ _ (of_lcdc value d before)
    (requests_if (address == 0xFF41) d _ _ (evaluated_rise d _ refl before)
    (requests_if (address == 0xFF45) d _ _ (evaluated_rise d _ refl before) (of_stored address value d before)))

pub requested_at_rises : StatIsRequestedAtRises
unfolding picture_at_power_on state_at_power_on stat_signal is_on is_source mode has_bit
requested_at_rises = record { power_on = refl; m_cycle = of_m_cycle; write = of_write }

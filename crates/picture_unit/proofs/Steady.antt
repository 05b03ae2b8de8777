-- M-cycles without an entry request nothing, once the STAT signal was evaluated as it is.
use Rattle.std.proofs.Common.{◌≡◌, ℕ, zero, suc, ◌+◌, ◌<◌, Bool, true, false, cond, refl, sym, ap, subst, ◌∙◌, arith, inl, inr}
use Rattle.std.specs.Prelude.{◌⊎◌, not, ◌&&◌, ◌||◌, ◌==◌}
use Rattle.std.specs.Fn.{iterate}
use Rattle.std.proofs.lemmas.Bool.Decides.{nat_tests}
use Rattle.picture_unit.specs.declared.state.PictureState.{PictureState}
use Rattle.picture_unit.specs.Picture.{PictureAndRequests, is_on, mode, stat_signal, is_source, advanced, entered, draws, drawn, begins_vblank, moved, evaluated, tick, is_entry}
use Rattle.picture_unit.specs.PictureJump.{later, IsSteady}
use Rattle.repeated_steps.proofs.Iterates.{iterate-suc}

pub bool_cases : (b : Bool) → (b ≡ true) ⊎ (b ≡ false)
bool_cases true = inl refl
bool_cases false = inr refl

pub both_ways : {A : Type 0} (b : Bool) → b ≡ true → b ≡ false → A
both_ways b t f =
    let e : true ≡ false = sym t ∙ f in
    cc

runs : (d : PictureAndRequests) → is_on d.picture.state ≡ true → tick d ≡ evaluated (moved d)
unfolding tick
runs d on = ap (λ b. cond b (evaluated (moved d)) d) on

stands : (d : PictureAndRequests) → is_on d.picture.state ≡ false → tick d ≡ d
unfolding tick
stands d off = ap (λ b. cond b (evaluated (moved d)) d) off

evaluated_is_steady : (d : PictureAndRequests) → stat_signal (evaluated d).picture.state ≡ (evaluated d).picture.state.signal
unfolding evaluated stat_signal is_on is_source mode
evaluated_is_steady d = refl

pub tick_is_steady : (d : PictureAndRequests) → IsSteady (tick d)
tick_is_steady d =
    elim (bool_cases (is_on d.picture.state)) [
      | inl on ↦ subst IsSteady (sym (runs d on)) (λ _. evaluated_is_steady (moved d))
      | inr off ↦ subst IsSteady (sym (stands d off)) (λ on. both_ways (is_on d.picture.state) on off)
    ]

quiet_advance : (d : PictureAndRequests) → is_on d.picture.state ≡ true → is_entry d ≡ false →
    entered (advanced d.picture.state) ≡ record d.picture.state { m_cycle = d.picture.state.m_cycle + 1 }
unfolding is_entry advanced entered
quiet_advance d on quiet =
    let p = d.picture.state in
    let a : (p.m_cycle == 113) ≡ false = grind (arith, nat_tests, on, quiet) in
    let b : (p.m_cycle + 1 == 0) ≡ false = grind (arith, nat_tests) in
    rw (a, b) refl

quiet_draws : (d : PictureAndRequests) → is_on d.picture.state ≡ true → is_entry d ≡ false →
    draws (record d.picture.state { m_cycle = d.picture.state.m_cycle + 1 }) ≡ false
unfolding is_entry advanced draws
quiet_draws d on quiet = grind (arith, nat_tests, on, quiet)

quiet_vblank : (p : PictureState) → begins_vblank (record p { m_cycle = p.m_cycle + 1 }) ≡ false
unfolding begins_vblank
quiet_vblank p = grind (arith, nat_tests)

same_mode : (d : PictureAndRequests) → is_on d.picture.state ≡ true → is_entry d ≡ false →
    mode (record d.picture.state { m_cycle = d.picture.state.m_cycle + 1 }) ≡ mode d.picture.state
unfolding is_entry advanced mode is_on
same_mode d on quiet = grind (arith, nat_tests, on, quiet)

same_signal : (d : PictureAndRequests) → is_on d.picture.state ≡ true → is_entry d ≡ false →
    stat_signal (record d.picture.state { m_cycle = d.picture.state.m_cycle + 1 }) ≡ stat_signal d.picture.state
unfolding stat_signal is_on
same_signal d on quiet = let p = d.picture.state in ap (λ (m : ℕ). is_on p && is_source p.stat m (p.ly == p.lyc)) (same_mode d on quiet)

or_false : (b : Bool) → (b || false) ≡ b
or_false true = refl
or_false false = refl

no_rise : (r s : Bool) → (r || (s && not s)) ≡ r
no_rise true s = refl
no_rise false true = refl
no_rise false false = refl

quiet_moved : (d : PictureAndRequests) → is_on d.picture.state ≡ true → is_entry d ≡ false → moved d ≡ later 1 d
unfolding moved later drawn
quiet_moved d on quiet = rw (quiet_advance d on quiet, quiet_draws d on quiet, quiet_vblank d.picture.state, or_false d.vblank) refl

later_requests : (d : PictureAndRequests) → is_on d.picture.state ≡ true → is_entry d ≡ false → IsSteady d →
    ((evaluated (later 1 d)).vblank ≡ d.vblank) × ((evaluated (later 1 d)).stat ≡ d.stat)
unfolding evaluated later
later_requests d on quiet steady =
    (refl, ap (λ s. d.stat || (s && not d.picture.state.signal)) (same_signal d on quiet ∙ steady on) ∙ no_rise d.stat d.picture.state.signal)

pub quiet_requests : (d : PictureAndRequests) → is_entry d ≡ false → IsSteady d → ((tick d).vblank ≡ d.vblank) × ((tick d).stat ≡ d.stat)
quiet_requests d quiet steady =
    elim (bool_cases (is_on d.picture.state)) [
      | inl on ↦
          let e : tick d ≡ evaluated (later 1 d) = runs d on ∙ ap evaluated (quiet_moved d on quiet) in
          let l = later_requests d on quiet steady in
          (ap (λ (x : PictureAndRequests). x.vblank) e ∙ l.0, ap (λ (x : PictureAndRequests). x.stat) e ∙ l.1)
      | inr off ↦ (ap (λ (x : PictureAndRequests). x.vblank) (stands d off), ap (λ (x : PictureAndRequests). x.stat) (stands d off))
    ]

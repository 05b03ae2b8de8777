-- M-cycles before the next change: no line begins, and the mode stays or makes no STAT signal.
use Rattle.std.proofs.Common.{◌≡◌, ℕ, zero, suc, ◌+◌, ◌-◌, ◌/◌, ◌%◌, ◌<◌, ◌≤◌, Bool, true, false, cond, refl, sym, ap, subst, ◌∙◌, arith, inl, inr}
use Rattle.std.specs.Prelude.{not, ◌&&◌, ◌||◌, ◌==◌, Some, None}
use Rattle.std.specs.Fn.{iterate}
use Rattle.std.proofs.lemmas.Bool.Decides.{nat_tests}
use Rattle.picture_lines.specs.Bits.{has_bit}
use Rattle.picture_unit.specs.declared.state.PictureState.{PictureState}
use Rattle.picture_unit.specs.Picture.{PictureUnit, PictureAndRequests, unrequested, ticks, is_on, mode, stat_signal, is_source, advanced, entered, draws, drawn, begins_vblank, line_drawn, moved, evaluated, tick, is_entry}
use Rattle.picture_unit.specs.PictureJump.{next_entry, next_change, later, skipped}
use Rattle.picture_unit.proofs.Steady.{bool_cases}
use Rattle.repeated_steps.specs.NextEvent.{IsNextEvent}
use Rattle.repeated_steps.proofs.Iterates.{iterate-add}

quiet_advance : (p : PictureState) → 1 < next_change p → entered (advanced p) ≡ record p { m_cycle = p.m_cycle + 1 }
unfolding advanced entered next_entry next_change
quiet_advance p h =
    let a : (p.m_cycle == 113) ≡ false = grind (arith, nat_tests) in
    let b : (p.m_cycle + 1 == 0) ≡ false = grind (arith, nat_tests) in
    rw (a, b) refl

quiet_draws : (p : PictureState) → 1 < next_change p → draws (record p { m_cycle = p.m_cycle + 1 }) ≡ false
unfolding draws next_entry next_change
quiet_draws p h = grind (arith, nat_tests)

quiet_vblank : (p : PictureState) → begins_vblank (record p { m_cycle = p.m_cycle + 1 }) ≡ false
unfolding begins_vblank
quiet_vblank p = grind (arith, nat_tests)

or_false : (b : Bool) → (b || false) ≡ b
or_false true = refl
or_false false = refl

quiet_tick : (d : PictureAndRequests) → is_on d.picture.state ≡ true → 1 < next_change d.picture.state → tick d ≡ evaluated (later 1 d)
unfolding tick moved later drawn evaluated
quiet_tick d on h =
    let p = d.picture.state in
    let run : tick d ≡ evaluated (moved d) = ap (λ b. cond b (evaluated (moved d)) d) on in
    let same : moved d ≡ later 1 d = rw (quiet_advance p h, quiet_draws p h, quiet_vblank p, or_false d.vblank) refl in
    run ∙ ap evaluated same

-- the STAT signal stays

bit_clear : (n k : ℕ) → (n / k % 2) ≡ 0 → (n / k % 2 == 1) ≡ false
bit_clear n k e = grind (arith, nat_tests, e)

-- where no mode is enabled it is that of the line
pub by_line : (p : PictureState) → p.stat % 64 ≡ 0 → stat_signal p ≡ (is_on p && (has_bit p.stat 6 && p.ly == p.lyc))
unfolding stat_signal is_source has_bit is_on
by_line p e =
    let a : (p.stat / 8 % 2 == 1) ≡ false = bit_clear p.stat 8 (omega (arith, e)) in
    let b : (p.stat / 16 % 2 == 1) ≡ false = bit_clear p.stat 16 (omega (arith, e)) in
    let c : (p.stat / 32 % 2 == 1) ≡ false = bit_clear p.stat 32 (omega (arith, e)) in
    let line = p.stat / 64 % 2 == 1 && p.ly == p.lyc in
    rw (a, b, c) (ap (λ (x : Bool). is_on p && x) (or_false (line || false || false) ∙ or_false (line || false) ∙ or_false line))

before_entry : (p : PictureState) (n : ℕ) → (p.stat % 64 == 0) ≡ false → n < next_change p → n < next_entry p
unfolding next_change
before_entry p n e h = grind (arith, nat_tests, e)

stays_in_mode : (p : PictureState) (n : ℕ) → n < next_entry p → mode (record p { m_cycle = p.m_cycle + n }) ≡ mode p
unfolding mode next_entry is_on
stays_in_mode p n h = grind (arith, nat_tests)

keeps_signal : (p : PictureState) (n : ℕ) → n < next_change p → stat_signal (record p { m_cycle = p.m_cycle + n }) ≡ stat_signal p
unfolding stat_signal is_on
keeps_signal p n h =
    elim (bool_cases (p.stat % 64 == 0)) [
      | inl none ↦
          let e : p.stat % 64 ≡ 0 = grind (arith, nat_tests, none) in
          by_line (record p { m_cycle = p.m_cycle + n }) e ∙ sym (by_line p e)
      | inr some ↦ ap (λ (m : ℕ). is_on p && is_source p.stat m (p.ly == p.lyc)) (stays_in_mode p n (before_entry p n some h))
    ]

same_signal : (p : PictureState) (n : ℕ) → 0 < n → n < next_change p → stat_signal (record p { m_cycle = p.m_cycle + 1 }) ≡ stat_signal (record p { m_cycle = p.m_cycle + n })
same_signal p n pos h = keeps_signal p 1 (omega arith) ∙ sym (keeps_signal p n h)

steady : (r l s : Bool) → ((r || (l && not s)) || (l && not l)) ≡ (r || (l && not s))
steady true l s = refl
steady false true true = refl
steady false true false = refl
steady false false s = refl

skip_more : (n : ℕ) (d : PictureAndRequests) → suc n < next_change d.picture.state → skipped n (evaluated (later 1 d)) ≡ evaluated (later (suc n) d)
unfolding skipped later evaluated is_on stat_signal is_source mode
skip_more zero d h = refl
skip_more (suc n) d h =
    let p = d.picture.state in
    let further : p.m_cycle + 1 + suc n ≡ p.m_cycle + suc (suc n) = omega arith in
    let stays : stat_signal (record p { m_cycle = p.m_cycle + 1 }) ≡ stat_signal (record p { m_cycle = p.m_cycle + suc (suc n) }) = same_signal p (suc (suc n)) (omega arith) h in
    rw (further, stays, steady d.stat (stat_signal (record p { m_cycle = p.m_cycle + suc (suc n) })) p.signal) refl

-- one M-cycle on, the change is one M-cycle nearer
nearer : (p : PictureState) (n : ℕ) → suc n < next_change p → n < next_change (record p { m_cycle = p.m_cycle + 1 })
unfolding next_entry next_change
nearer p n h = grind (arith, nat_tests)

pub skips : (n : ℕ) (d : PictureAndRequests) → is_on d.picture.state ≡ true → n < next_change d.picture.state → iterate tick n d ≡ skipped n d
unfolding skipped later evaluated is_on stat_signal next_entry next_change
skips zero d on h = refl
skips (suc n) d on h =
    ap (iterate tick n) (quiet_tick d on (omega arith))
    ∙ skips n (evaluated (later 1 d)) on (nearer d.picture.state n h)
    ∙ skip_more n d h

off_tick : (d : PictureAndRequests) → is_on d.picture.state ≡ false → tick d ≡ d
unfolding tick
off_tick d off = ap (λ b. cond b (evaluated (moved d)) d) off

pub stands_still : (n : ℕ) (d : PictureAndRequests) → is_on d.picture.state ≡ false → iterate tick n d ≡ d
stands_still zero d off = refl
stands_still (suc n) d off = ap (iterate tick n) (off_tick d off) ∙ stands_still n d off

-- the next entry

no_entry : (n : ℕ) (d : PictureAndRequests) → n + 1 < next_entry d.picture.state → is_entry (later n d) ≡ false
unfolding next_entry is_entry advanced later
no_entry n d h = grind (arith, nat_tests)

an_entry : (n : ℕ) (d : PictureAndRequests) → is_on d.picture.state ≡ true → d.picture.state.m_cycle < 114 → n + 1 ≡ next_entry d.picture.state → is_entry (later n d) ≡ true
unfolding next_entry is_entry advanced later is_on
an_entry n d on legal h = grind (arith, nat_tests)

-- whether the next M-cycle is an entry does not depend on the signal
entry_evaluated : (d : PictureAndRequests) → is_entry (evaluated d) ≡ is_entry d
unfolding evaluated is_entry advanced is_on
entry_evaluated d = grind (arith, nat_tests)

entry_later : (n : ℕ) (d : PictureAndRequests) → is_entry (skipped n d) ≡ is_entry (later n d)
unfolding skipped later
entry_later zero d = let e : d.picture.state.m_cycle ≡ d.picture.state.m_cycle + 0 = omega arith in ap (λ (k : ℕ). is_entry (record d { picture = record d.picture { state = record d.picture.state { m_cycle = k } } })) e
entry_later (suc n) d = entry_evaluated (later (suc n) d)

pub never_due : (d : PictureAndRequests) → is_on d.picture.state ≡ false → IsNextEvent tick is_entry d None
unfolding is_entry
never_due d off k = ap is_entry (stands_still k d off) ∙ grind arith

-- no change comes after the next entry
entry_first : (p : PictureState) → next_entry p ≤ next_change p
unfolding next_entry next_change
entry_first p = grind (arith, nat_tests)

pub is_due : (d : PictureAndRequests) → is_on d.picture.state ≡ true → d.picture.state.m_cycle < 114 → IsNextEvent tick is_entry d (Some (next_entry d.picture.state))
unfolding next_entry
is_due d on legal =
    let p = d.picture.state in
    let pos : 0 < next_entry p = grind (arith, nat_tests) in
    let first : next_entry p ≤ next_change p = entry_first p in (
      pos,
      ap is_entry (skips (next_entry p - 1) d on (omega arith)) ∙ entry_later (next_entry p - 1) d ∙ an_entry (next_entry p - 1) d on legal (omega arith),
      λ k lt. ap is_entry (skips k d on (omega arith)) ∙ entry_later k d ∙ no_entry k d lt,
    )

-- a picture unit stays on

on_entered : (p : PictureState) → is_on (entered (advanced p)) ≡ is_on p
unfolding is_on advanced entered
on_entered p = grind (arith, nat_tests)

on_drawn : (s : PictureUnit) → is_on (drawn s).state ≡ is_on s.state
unfolding is_on drawn line_drawn
on_drawn s = grind (arith, nat_tests)

on_tick : (d : PictureAndRequests) → is_on d.picture.state ≡ true → is_on (tick d).picture.state ≡ true
unfolding tick evaluated moved is_on
on_tick d on =
    let run : tick d ≡ evaluated (moved d) = ap (λ b. cond b (evaluated (moved d)) d) on in
    ap (λ (e : PictureAndRequests). is_on e.picture.state) run ∙ on_drawn (record d.picture { state = entered (advanced d.picture.state) }) ∙ on_entered d.picture.state ∙ on

on_skipped : (n : ℕ) (d : PictureAndRequests) → is_on (skipped n d).picture.state ≡ is_on d.picture.state
unfolding skipped evaluated later is_on
on_skipped zero d = refl
on_skipped (suc n) d = refl

pub stays_on : (d e : PictureAndRequests) → is_on d.picture.state ≡ true → e ≡ tick d → is_on e.picture.state ≡ true
stays_on d e on h = ap (λ (e : PictureAndRequests). is_on e.picture.state) h ∙ on_tick d on

pub stays_on_skipped : (n : ℕ) (d e : PictureAndRequests) → is_on d.picture.state ≡ true → e ≡ skipped n d → is_on e.picture.state ≡ true
stays_on_skipped n d e on h = ap (λ (e : PictureAndRequests). is_on e.picture.state) h ∙ on_skipped n d ∙ on

-- quiet M-cycles, and then the others
after_quiet : (n q : ℕ) (d e : PictureAndRequests) → q ≤ n → is_on d.picture.state ≡ true → q < next_change d.picture.state → e ≡ skipped q d → iterate tick (n - q) e ≡ iterate tick n d
after_quiet n q d e le on lt h =
    let whole : q + (n - q) ≡ n = omega arith in
    ap (iterate tick (n - q)) (h ∙ sym (skips q d on lt)) ∙ sym (iterate-add tick q (n - q) d) ∙ ap (λ (k : ℕ). iterate tick k d) whole

-- the M-cycles up to and with the next change, and then the others
pub after_change : (n q : ℕ) (d e f : PictureAndRequests) → q < n → is_on d.picture.state ≡ true → q < next_change d.picture.state → e ≡ skipped q d → f ≡ tick e → iterate tick (n - (q + 1)) f ≡ iterate tick n d
after_change n q d e f lt on before skip ran =
    let whole : n - q ≡ suc (n - (q + 1)) = omega arith in
    ap (iterate tick (n - (q + 1))) ran ∙ sym (ap (λ (k : ℕ). iterate tick k e) whole) ∙ after_quiet n q d e (omega arith) on before skip

pub all_quiet : (n : ℕ) (d e : PictureAndRequests) → is_on d.picture.state ≡ true → n < next_change d.picture.state → e ≡ skipped n d → iterate tick 0 e ≡ iterate tick n d
all_quiet n d e on before skip = skip ∙ sym (skips n d on before)

-- the same, where the state is known by another name and the number by an equation
pub is_due_at : (p : PictureState) (n : ℕ) (d : PictureAndRequests) → p ≡ d.picture.state → is_on p ≡ true → p.m_cycle < 114 → n ≡ next_entry p → IsNextEvent tick is_entry d (Some n)
is_due_at p n d same on legal e =
    let on' : is_on d.picture.state ≡ true = ap is_on (sym same) ∙ on in
    let legal' : d.picture.state.m_cycle < 114 = subst (λ (p : PictureState). p.m_cycle < 114) same legal in
    subst (λ (n : ℕ). IsNextEvent tick is_entry d (Some n)) (sym (e ∙ ap next_entry same)) (is_due d on' legal')

-- what is known of `pass`, of the state by another name
pub ticks_when_off : (n : ℕ) (p : PictureState) (s : PictureUnit) → p ≡ s.state → is_on p ≡ false → ticks n s ≡ unrequested s
unfolding unrequested
ticks_when_off n p s same off = stands_still n (unrequested s) (ap is_on (sym same) ∙ off)

-- the state by another name
pub skips_before : (n : ℕ) (p : PictureState) (s : PictureUnit) (e : PictureAndRequests) → p ≡ s.state → is_on p ≡ true → n < next_change p → e ≡ skipped n (unrequested s) → e ≡ ticks n s
unfolding unrequested
skips_before n p s e same on before skip =
    skip ∙ sym (skips n (unrequested s) (ap is_on (sym same) ∙ on) (subst (λ (p : PictureState). n < next_change p) same before))

-- What SAVE.time says of SAVE, wherever a save is cut.
use Rattle.std.proofs.Common.{◌≡◌, ◌∙◌, ℕ, ◌+◌, ◌-◌, ◌≤◌, ◌^◌, min, Bool, true, false, cond, ◌||◌, ◌==◌, nat_le, nat_lt, Option, None, Some, [], ◌∷◌, sym, ap, subst, arith}
use Rattle.cartridge_clock.specs.declared.until.Line.{Line}
use Rattle.cartridge_clock.specs.declared.lives.Session.{Session}
use Rattle.cartridge_clock.specs.declared.lives.World.{World}
use Rattle.cartridge_clock.specs.declared.lives.Event.TheVariants.{Gave, Saved, Cut}
use Rattle.cartridge_clock.specs.declared.lives.Outcome.TheVariants.{Done}
use Rattle.cartridge_clock.specs.declared.giving.TheConstants.{LAST_SECOND}
use Rattle.cartridge_clock.specs.Lines.{until_by}
use Rattle.cartridge_clock.specs.Clocks.{due_at, claiming, claimed_by, giving}
use Rattle.cartridge_clock.specs.Lives.{worlds, lines_of, can_give, claims_line}
use Rattle.cartridge_clock.specs.Laws.{NoSecondLost}
use Rattle.cartridge_clock.proofs.Told.{both_exact}

claimed_is : (b : Bool) (made line : Line) → cond b None (Some made) ≡ Some line → made ≡ line
claimed_is true made line e = absurd (cc)
claimed_is false made line e = cc

module _ (w : World) (s : Session) (line : Line) (inputs : ℕ) where
  abbrev claimed : World
  claimed = claims_line (record w { session = Some s }) s (Some line) Done

  abbrev saved : World → World
  saved v = worlds v (Saved inputs ∷ Cut ∷ [])

  abbrev IsExact : World → Type 0
  IsExact v = until_by (lines_of v.file) v.saved ≡ cond (nat_le (s.count + 1) v.saved) line.until s.clock.until

  module _ (few : s.clock.written.count ≤ w.saved) (same : s.clock.written.until ≡ s.clock.until) (within : w.saved ≤ s.count) (next : line.count ≡ s.count + 1) (ahead : s.clock.until ≤ line.until) where
    at : (n : ℕ) → s.clock.written.count ≤ n → until_by (line ∷ s.clock.written ∷ []) n ≡ cond (nat_le (s.count + 1) n) line.until s.clock.until
    at n h =
        both_exact line s.clock.written n h (omega (arith, same, ahead))
        ∙ ap (λ (c : ℕ). cond (nat_le c n) line.until s.clock.written.until) next
        ∙ ap (λ (v : ℕ). cond (nat_le (s.count + 1) n) line.until v) same

    given_exact : (b : Bool) → IsExact (saved (cond b (record claimed { session = Some (record { clock = giving (claimed_by (claiming s.clock) line); count = s.count + 1 }) }) claimed))
    given_exact true = at (min (w.saved + inputs) (s.count + 1)) (omega (arith, few, within))
    given_exact false = at (min (w.saved + inputs) s.count) (omega (arith, few, within))

    save_exact : IsExact (worlds claimed (Gave ∷ Saved inputs ∷ Cut ∷ []))
    save_exact = given_exact (can_give (record s { clock = claimed_by (claiming s.clock) line }))

pub no_second_lost : NoSecondLost
no_second_lost w s line inputs few same within e =
    let made : Line = record { count = s.count + 1; until = s.clock.until + due_at s.clock w.moment } in
    let is : made ≡ line = claimed_is (due_at s.clock w.moment == 0 || (nat_le (2 ^ 64 - 1) s.count || nat_lt LAST_SECOND s.clock.until)) made line e in
    let next : line.count ≡ s.count + 1 = sym (ap (λ (l : Line). l.count) is) in
    let until_is : line.until ≡ made.until = sym (ap (λ (l : Line). l.until) is) in
    let ahead : s.clock.until ≤ line.until = omega (arith, until_is) in
    subst (λ (o : Option Line). IsExact w s line inputs (worlds (claims_line (record w { session = Some s }) s o Done) (Gave ∷ Saved inputs ∷ Cut ∷ []))) (sym e)
    (save_exact w s line inputs few same within next ahead)

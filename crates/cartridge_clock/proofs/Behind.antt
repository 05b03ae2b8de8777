-- What follows a save whose writes are made in order.
use Rattle.std.proofs.Common.{◌≡◌, ℕ, ◌+◌, ◌-◌, ◌*◌, ◌/◌, ◌^◌, ◌<◌, ◌≤◌, min, List, [], ◌∷◌, Bool, true, false, cond, ◌&&◌, ◌||◌, ◌==◌, nat_le, nat_lt, Option, None, Some, refl, sym, ap, subst, arith, lt-ltb, leb-false}
use Rattle.std.proofs.lemmas.Bool.Decides.{nat_tests}
use Rattle.cartridge_clock.specs.declared.giving.TheConstants.{LAST_SECOND, MOST_SECONDS}
use Rattle.cartridge_clock.specs.declared.until.Line.{Line}
use Rattle.cartridge_clock.specs.declared.lives.Held.{Held}
use Rattle.cartridge_clock.specs.declared.lives.Held.TheVariants.{Both}
use Rattle.cartridge_clock.specs.declared.lives.Session.{Session}
use Rattle.cartridge_clock.specs.declared.lives.World.{World}
use Rattle.cartridge_clock.specs.declared.lives.Event.TheVariants.{Gave, Saved}
use Rattle.cartridge_clock.specs.declared.lives.Outcome.TheVariants.{Done}
use Rattle.cartridge_clock.specs.Clocks.{due_at, claim_of, claiming, claimed_by, giving}
use Rattle.cartridge_clock.specs.Lives.{Given, Life, can_give, claims_line, worlds, lived}
use Rattle.cartridge_clock.specs.Laws.{behind, begun, FairBehindASave}
use Rattle.cartridge_clock.proofs.Told.{both_known, both_claim}
use Rattle.cartridge_clock.proofs.Fair.{Inv, IsKept, world, due_passed, due_last, whole, first, fair}

claim_made : (b : Bool) (made line : Line) → cond b None (Some made) ≡ Some line → (b ≡ false) × (made ≡ line)
claim_made true made line e = absurd (cc)
claim_made false made line e = (refl, cc)

both_false : (a b : Bool) → (a || b) ≡ false → (a ≡ false) × (b ≡ false)
both_false false false e = (refl, refl)
both_false false true e = absurd (cc)
both_false true b e = absurd (cc)

both_true : (a b : Bool) → a ≡ true → b ≡ true → (a && b) ≡ true
both_true a b e h = cc

some_due : (n : ℕ) → (n == 0) ≡ false → 0 < n
some_due n e = grind (arith, nat_tests)

module _ (start : ℕ) (file : Held) (saved moment : ℕ) (given : List Given) (seen : ℕ) (s : Session) (line : Line) (i : Inv start file saved moment (Some s) given seen) where
  module _ (next : line.count ≡ s.count + 1) (until_is : line.until ≡ s.clock.until + due_at s.clock moment) (some : 0 < due_at s.clock moment) (few : s.count < 2 ^ 64 - 1) where
    abbrev now : ℕ
    now = s.clock.opened + (moment - s.clock.began)

    abbrev claimed : Session
    claimed = record s { clock = claimed_by (claiming s.clock) line }

    abbrev gave : World
    gave = world (Both line s.clock.written) saved moment (Some (record { clock = giving claimed.clock; count = s.count + 1 }))

    abbrev behind_by : World → Life
    behind_by v = record { world = worlds v (Saved (2 ^ 64 - 1) ∷ []); given = []; seen = now }

    passed : line.until * 1000 ≤ now
    passed = omega (arith, until_is, due_passed s.clock.opened (moment - s.clock.began) s.clock.until now i.sound.passed (omega arith))

    last : line.until ≤ LAST_SECOND
    last = omega (arith, until_is, due_last ((s.clock.opened + (moment - s.clock.began)) / 1000) s.clock.until i.sound.last)

    gave_kept : IsKept line.until (behind_by gave)
    gave_kept = record {
      order = tt;
      last = last;
      room = omega (arith, few);
      ticks = i.ticks;
      good = record {
        there = tt;
        told = λ n h. both_claim line s.clock.written n (omega (arith, next, few, h));
        known = λ n. both_known line s.clock.written n now passed i.sound.written_passed;
      };
      sound = record {
        until = omega (arith, until_is);
        passed = omega (arith, until_is, passed);
        last = omega (arith, until_is, last);
        written = omega arith;
        written_passed = passed;
        time = omega arith;
        few = omega arith;
        full = omega (arith, few);
        pending = tt;
      };
    }

    gives : can_give claimed ≡ true
    gives = both_true (nat_lt s.count (2 ^ 64 - 1)) (nat_lt 0 (min (line.until - s.clock.until) MOST_SECONDS)) (lt-ltb s.count (2 ^ 64 - 1) few)
        (lt-ltb 0 (min (line.until - s.clock.until) MOST_SECONDS) (omega (arith, until_is, some)))

    claimed_kept : IsKept line.until (record { world = worlds (claims_line (world file saved moment (Some s)) s (Some line) Done) (Gave ∷ Saved (2 ^ 64 - 1) ∷ []); given = []; seen = now })
    claimed_kept = subst (λ (b : Bool). IsKept line.until (behind_by (cond b gave (world (Both line s.clock.written) saved moment (Some claimed))))) (sym gives) gave_kept

  behind_kept : claim_of s.clock s.count moment ≡ Some line → IsKept line.until (behind (world file saved moment (Some s)) s)
  behind_kept e =
      let made : Line = record { count = s.count + 1; until = s.clock.until + due_at s.clock moment } in
      let is = claim_made (due_at s.clock moment == 0 || (nat_le (2 ^ 64 - 1) s.count || nat_lt LAST_SECOND s.clock.until)) made line e in
      let parts = both_false (due_at s.clock moment == 0) (nat_le (2 ^ 64 - 1) s.count || nat_lt LAST_SECOND s.clock.until) is.0 in
      let room = both_false (nat_le (2 ^ 64 - 1) s.count) (nat_lt LAST_SECOND s.clock.until) parts.1 in
      subst (λ (o : Option Line). IsKept line.until (record {
        world = worlds (claims_line (world file saved moment (Some s)) s o Done) (Gave ∷ Saved (2 ^ 64 - 1) ∷ []);
        given = [];
        seen = s.clock.opened + (moment - s.clock.began);
      })) (sym e)
      (claimed_kept (sym (ap (λ (l : Line). l.count) is.1)) (sym (ap (λ (l : Line). l.until) is.1)) (some_due (due_at s.clock moment) parts.0)
      (leb-false (2 ^ 64 - 1) s.count room.0))

behind_all : (start : ℕ) (w : World) (given : List Given) (seen : ℕ) (s : Session) (line : Line) (o : Option Session) → o ≡ Some s
    → Inv start w.file w.saved w.moment o given seen → claim_of s.clock s.count w.moment ≡ Some line
    → IsKept line.until (behind (world w.file w.saved w.moment o) s)
behind_all start w given seen s line o e i h =
    subst (λ (p : Option Session). IsKept line.until (behind (world w.file w.saved w.moment p) s)) (sym e)
    (behind_kept start w.file w.saved w.moment given seen s line (subst (λ (p : Option Session). Inv start w.file w.saved w.moment p given seen) e i) h)

pub fair_behind : FairBehindASave
fair_behind second w before s line events last room ticks e h =
    let life : Life = lived (begun second w) before in
    let kept : IsKept second life = whole second (begun second w) before (first second w last room ticks) in
    let from : IsKept line.until (behind life.world s) = behind_all second life.world life.given life.seen s line life.world.session e kept h in
    fair line.until (lived (behind life.world s) events) (whole line.until (behind life.world s) events from)

-- What is promised of a cartridge's clock, whatever happens.
use Rattle.std.specs.Prelude.{◌≡◌, ℕ, ◌+◌, ◌-◌, ◌*◌, ◌/◌, ◌≤◌, ◌<◌, ◌^◌, List, [], ◌∷◌, nat_le, nat_lt, ◌&&◌, None, Some, if◌then◌else◌}
use Rattle.std.specs.List.{sum_by, count_by}
use Rattle.cartridge_clock.specs.declared.giving.TheConstants.{LAST_SECOND}
use Rattle.cartridge_clock.specs.declared.until.Line.{Line}
use Rattle.cartridge_clock.specs.declared.lives.Held.TheVariants.{One}
use Rattle.cartridge_clock.specs.declared.lives.World.{World}
use Rattle.cartridge_clock.specs.declared.lives.Event.{Event}
use Rattle.cartridge_clock.specs.Lines.{until_by}
use Rattle.cartridge_clock.specs.declared.lives.Event.TheVariants.{Claimed, Gave, Saved, Cut}
use Rattle.cartridge_clock.specs.declared.lives.Outcome.TheVariants.{Done}
use Rattle.cartridge_clock.specs.declared.lives.Session.{Session}
use Rattle.cartridge_clock.specs.Clocks.{claim_of}
use Rattle.cartridge_clock.specs.Lives.{worlds, Given, Life, among, lines_of, lived}

-- how many of these inputs give this second
abbrev pub givers : ℕ → List Given → ℕ
givers second given = count_by (λ (g : Given). nat_le g.from second && nat_lt second g.until) given

-- until when the last of them gave; until this second where there is none
abbrev pub reached : (second : ℕ) → List Given → ℕ
reached second [] = second
reached second (g ∷ older) = g.until

-- how many seconds they give
abbrev pub total : List Given → ℕ
total given = sum_by (λ (g : Given). g.until - g.from) given

-- the first opening has written SAVE.time, at this second; so much is on the disk then
abbrev pub begun : (second : ℕ) → World → Life
begun second w = record { world = record w { file = One (record { count = w.saved; until = second }); session = None }; given = []; seen = second * 1000 }

-- those that are saved, and until when SAVE.time says of SAVE that its clock was given
abbrev pub saved_of : Life → List Given
saved_of life = among life.world.saved life.given

abbrev pub told_by : Life → ℕ
told_by life = until_by (lines_of life.world.file) life.world.saved

-- what is promised of a life that began at this second
pub record IsFair (second : ℕ) (life : Life) : Type 0 where
  -- a second lies in at most one saved input
  pub once : (moment : ℕ) → givers moment (saved_of life) ≤ 1
  -- the saved seconds are at most what passed since the beginning, forward of the greatest date seen
  pub passed : second + total (saved_of life) ≤ life.seen / 1000
  -- SAVE.time counts each saved second as given
  pub told : reached second (saved_of life) ≤ told_by life
  -- and none that has not passed: what a cut loses lies between the last second that is saved and the last look
  pub lost : told_by life ≤ life.seen / 1000

-- over every list of events and cuts
abbrev pub NoSecondTwice : Type 0
NoSecondTwice = (second : ℕ) (w : World) (events : List Event) → second ≤ LAST_SECOND → w.saved < 2 ^ 64 → w.moment < 2 ^ 64 → IsFair second (lived (begun second w) events)

-- where SAVE has the inputs that the line in SAVE.time speaks of, and the claim of the seconds that are due is followed by their input, a cut at any
-- point of the save loses no second and gives none twice: SAVE.time says until when SAVE was given
abbrev pub NoSecondLost : Type 0
NoSecondLost = (w : World) (s : Session) (line : Line) (inputs : ℕ)
    → s.clock.written.count ≤ w.saved → s.clock.written.until ≡ s.clock.until → w.saved ≤ s.count
    → claim_of s.clock s.count w.moment ≡ Some line
    → let cut = worlds (record w { session = Some s }) (Claimed Done ∷ Gave ∷ Saved inputs ∷ Cut ∷ []) in
    until_by (lines_of cut.file) cut.saved ≡ (if nat_le (s.count + 1) cut.saved then line.until else s.clock.until)

-- a save whose writes are made in order: the claim of the seconds that are due, the input that gives them, and all inputs saved. The session has come
-- to this moment, and what follows is looked at alone
abbrev pub behind : World → Session → Life
behind w s = record { world = worlds w (Claimed Done ∷ Gave ∷ Saved (2 ^ 64 - 1) ∷ []); given = []; seen = s.clock.opened + (w.moment - s.clock.began) }

-- whatever came before, all that is promised holds behind such a save from the second on that it gave up to: what a cut loses passed since the last save
abbrev pub FairBehindASave : Type 0
FairBehindASave = (second : ℕ) (w : World) (before : List Event) (s : Session) (line : Line) (events : List Event)
    → second ≤ LAST_SECOND → w.saved < 2 ^ 64 → w.moment < 2 ^ 64
    → let world = (lived (begun second w) before).world in world.session ≡ Some s → claim_of s.clock s.count world.moment ≡ Some line
    → IsFair line.until (lived (behind world s) events)

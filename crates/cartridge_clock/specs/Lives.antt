-- A SAVE and its SAVE.time, whatever happens: games are opened, played, saved and cut.
use Rattle.std.specs.Prelude.{ℕ, ◌+◌, ◌-◌, ◌^◌, min, max, List, [], ◌∷◌, Option, None, Some, nat_le, nat_lt, Bool, ◌&&◌, if◌then◌else◌}
use Rattle.std.specs.List.{filter, fold}
use Rattle.cartridge_clock.specs.declared.until.Line.{Line}
use Rattle.cartridge_clock.specs.declared.giving.Clock.{Clock}
use Rattle.cartridge_clock.specs.declared.giving.Answer.{Answer}
use Rattle.cartridge_clock.specs.declared.lives.Held.{Held}
use Rattle.cartridge_clock.specs.declared.lives.Held.TheVariants.{Nothing, One, Both}
use Rattle.cartridge_clock.specs.declared.lives.Outcome.{Outcome}
use Rattle.cartridge_clock.specs.declared.lives.Outcome.TheVariants.{Done, Failed, Doubtful}
use Rattle.cartridge_clock.specs.declared.lives.Session.{Session}
use Rattle.cartridge_clock.specs.declared.lives.World.{World}
use Rattle.cartridge_clock.specs.declared.lives.Event.{Event}
use Rattle.cartridge_clock.specs.declared.lives.Event.TheVariants.{Opened, Passed, Played, Claimed, Gave, Saved, Noted, Cut}
use Rattle.cartridge_clock.specs.Clocks.{opened, claim_of, claiming, claimed_by, to_give, giving, note_of, noted_by}

-- ---- SAVE.time

abbrev pub lines_of : Held → List Line
lines_of Nothing = []
lines_of (One line) = line ∷ []
lines_of (Both line before) = line ∷ before ∷ []

-- what a write leaves: of one that is told as failed the new lines may stand there, too
abbrev pub left_by : Outcome → (old new : Held) → Held
left_by Done old new = new
left_by Doubtful old new = new
left_by Failed old new = old

-- the clock is told of a write that was done, and of no other
abbrev pub told_claim : Outcome → Clock → Line → Clock
told_claim Done clock line = claimed_by clock line
told_claim Doubtful clock line = clock
told_claim Failed clock line = clock

abbrev pub told_note : Outcome → Clock → Line → Clock
told_note Done clock line = noted_by clock line
told_note Doubtful clock line = clock
told_note Failed clock line = clock

-- ---- what happens

abbrev pub with_session : World → Session → World
with_session w s = record w { session = Some s }

-- a game is opened, where none is, and SAVE.time is written anew
abbrev pub opens : World → Option Session → (date : ℕ) → Option Answer → Outcome → World
opens w (Some s) date answer how = w
opens w None date answer how =
    let clock = opened (lines_of w.file) w.saved date w.moment answer in
    record w { file = left_by how w.file (One clock.written); session = Some (record { clock = clock; count = w.saved }) }

-- so many other inputs
abbrev pub plays : World → Option Session → ℕ → World
plays w None inputs = w
plays w (Some s) inputs = with_session w (record s { count = min (s.count + inputs) (2 ^ 64 - 1) })

-- SAVE.time is to say that the next input gives what is due
abbrev pub claims_line : World → Session → Option Line → Outcome → World
claims_line w s None how = with_session w (record s { clock = claiming s.clock })
claims_line w s (Some line) how =
    record w { file = left_by how w.file (Both line s.clock.written); session = Some (record s { clock = told_claim how (claiming s.clock) line }) }

abbrev pub claims : World → Option Session → Outcome → World
claims w None how = w
claims w (Some s) how = claims_line w s (claim_of s.clock s.count w.moment) how

-- an input gives what was claimed, where there is a number for it and a second to give
abbrev pub can_give : Session → Bool
can_give s = nat_lt s.count (2 ^ 64 - 1) && nat_lt 0 (to_give s.clock)

abbrev pub gives : World → Option Session → World
gives w None = w
gives w (Some s) = if can_give s then with_session w (record { clock = giving s.clock; count = s.count + 1 }) else w

-- so many more inputs are on the disk: all, or some of a save that is cut
abbrev pub saves : World → Option Session → ℕ → World
saves w None inputs = w
saves w (Some s) inputs = record w { saved = min (w.saved + inputs) s.count }

abbrev pub notes_line : World → Session → Option Line → Outcome → World
notes_line w s None how = with_session w (record s { clock = claiming s.clock })
notes_line w s (Some line) how = record w { file = left_by how w.file (One line); session = Some (record s { clock = told_note how (claiming s.clock) line }) }

abbrev pub notes : World → Option Session → Outcome → World
notes w None how = w
notes w (Some s) how = notes_line w s (note_of s.clock w.saved) how

abbrev pub after : World → Event → World
after w (Opened date answer how) = opens w w.session date answer how
after w (Passed time) = record w { moment = min (w.moment + time) (2 ^ 64 - 1) }
after w (Played inputs) = plays w w.session inputs
after w (Claimed how) = claims w w.session how
after w Gave = gives w w.session
after w (Saved inputs) = saves w w.session inputs
after w (Noted how) = notes w w.session how
after w Cut = record w { session = None }

-- ---- the inputs that gave seconds

-- input `at` gives the seconds from `from` on up to `until`
pub record Given : Type 0 where
  pub at : ℕ
  pub from : ℕ
  pub until : ℕ

-- those among the first inputs, so many
abbrev pub among : ℕ → List Given → List Given
among count given = filter (λ (g : Given). nat_le g.at count) given

-- the session's input, if one is given
abbrev pub more_given : Option Session → List Given → List Given
more_given None given = given
more_given (Some s) given =
    if can_give s
    then record { at = s.count + 1; from = s.clock.until; until = s.clock.until + to_give s.clock } ∷ given
    else given

-- those of the game, the last one first: a cut takes those that are not saved
abbrev pub given_after : World → List Given → Event → List Given
given_after w given (Opened date answer how) = given
given_after w given (Passed time) = given
given_after w given (Played inputs) = given
given_after w given (Claimed how) = given
given_after w given Gave = more_given w.session given
given_after w given (Saved inputs) = given
given_after w given (Noted how) = given
given_after w given Cut = among w.saved given

-- the greatest date seen, in milliseconds, and what passed since by the clock that nobody sets
abbrev pub seen_after : ℕ → Event → ℕ
seen_after seen (Opened date answer how) = max seen date
seen_after seen (Passed time) = seen + time
seen_after seen (Played inputs) = seen
seen_after seen (Claimed how) = seen
seen_after seen Gave = seen
seen_after seen (Saved inputs) = seen
seen_after seen (Noted how) = seen
seen_after seen Cut = seen

-- ---- a life

pub record Life : Type 0 where
  pub world : World
  pub given : List Given
  pub seen : ℕ

abbrev pub then_after : Life → Event → Life
then_after life event = record {
  world = after life.world event;
  given = given_after life.world life.given event;
  seen = seen_after life.seen event;
}

-- the world after these events
abbrev pub worlds : World → List Event → World
worlds w events = fold after w events

abbrev pub lived : Life → List Event → Life
lived life events = fold then_after life events

-- The law of lives, which a public function states.
use Rattle.std.specs.Prelude.{◌≡◌, ◌≤◌, ℕ, List, [], ◌∷◌, ◌++◌, All}
use Rattle.std.specs.Option.{option_map}
use Rattle.machine.specs.Machine.{Input}
use Rattle.playing.specs.Lines.{Line}
use Rattle.session.specs.Stands.{behind}
use Rattle.whole_lives.specs.Lives.{Files, Agree, Asking, Played, kept_of, position, IsLife}

-- what the cuts kept of each round's inputs, one round after the other
abbrev pub all_kept : List Played → List Input
all_kept [] = []
all_kept (round ∷ rounds) = kept_of round ++ all_kept rounds

-- each count that was told in any of these rounds is at most this
abbrev pub AreTold : (most : ℕ) → List Played → Type 0
AreTold most rounds = All (λ round. All (λ line. line.told ≤ most) round.told) rounds

-- a round that was taken up tells first where it goes on, which is no less than each count that was told before it
abbrev pub NeverFalls : List Played → Type 0
NeverFalls rounds =
    (before : List Played) (round : Played) (later : List Played) (line : Line) (lines : List Line) → rounds ≡ before ++ round ∷ later → round.told ≡ line ∷ lines → AreTold line.told before

pub record KeepsWhatWasSaved (rom : List ℕ) (rounds : List Played) (first last : Files) : Type 0 where
  pub agree : Agree rom last
  -- the game that is taken up next has exactly the inputs that were kept behind those that it had
  pub position_is : position rom last ≡ behind (position rom first) (all_kept rounds)
  -- and so has its recording
  pub recorded_is : last.recorded ≡ option_map (λ recorded. recorded ++ all_kept rounds) first.recorded
  -- nothing that was told is lost, at the end or on the way
  pub saved : AreTold last.save.count rounds
  pub never_falls : NeverFalls rounds

abbrev pub NoLifeLosesWhatWasSaved : Asking → Type 0
NoLifeLosesWhatWasSaved asks = (rom : List ℕ) (rounds : List Played) (first last : Files) → Agree rom first → IsLife asks rom rounds first last → KeepsWhatWasSaved rom rounds first last

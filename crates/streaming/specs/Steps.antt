-- What one line leaves; a reader needs none of this.
use Rattle.std.specs.Prelude.{◌≡◌, ◌⊎◌, ℕ, List, ◌∷◌, [], length, Option, None}
use Rattle.std.specs.Io.KnownBytes.{Consumes, IsAtEnd}
use Rattle.snapshot.specs.Reading.{machine_in}
use Rattle.state_header.specs.States.{snapshot_in, IsOfAnotherRom}
use Rattle.script.specs.declared.moves.Move.TheVariants.{Power}
use Rattle.machine_lines.specs.KeptStates.{KeptMachine, kept_under}
use Rattle.machine_lines.specs.Slots.{AreKept}
use Rattle.machine_lines.specs.Taking.{IsNoState, TakesAll, TakesFewer}
use Rattle.playing.specs.declared.playable.Playable.{Ghosts}
use Rattle.streaming.specs.Orders.{Deed, GoesOnWith, order_in, IsDoneBy, kept_behind}
use Rattle.streaming.specs.Obeying.{AdvancesByDeeds, StopsByDeeds}
use Rattle.streaming.specs.declared.order.Order.{Order}
use Rattle.streaming.specs.declared.order.Order.TheVariants.{Make, Keep, Back, Restore}
use Rattle.streaming.specs.declared.obeying.Went.{Went}
use Rattle.streaming.specs.declared.obeying.Went.TheVariants.{On, Wrong, Damaged, OtherCartridge, NoMemory, Failed}

-- what an input has left before and since, with what was read of it, and what it has left that was not
pub record Left : Type 0 where
  pub before : Option (List ℕ)
  pub since : Option (List ℕ)
  pub unread : Option (List ℕ)

-- so many bytes were taken, and are no state, or there are fewer to the end
abbrev pub IsBad : (rom : List ℕ) → (n : ℕ) → Left → Type 0
IsBad rom n left = TakesAll (IsNoState rom) n left.before left.since ⊎ (TakesFewer n left.before left.unread × IsAtEnd left.unread)

-- they are a state of another cartridge
abbrev pub IsAnother : (rom : List ℕ) → (n : ℕ) → Left → Type 0
IsAnother rom n left = TakesAll (IsOfAnotherRom rom) n left.before left.since

-- fewer were read
abbrev pub IsShort : (n : ℕ) → Left → Type 0
IsShort n left = TakesFewer n left.before left.unread

module _ {G F : Type 0} (game : Ghosts G F) (old new : G) (before since : Option (List ℕ)) (left : Left) (rom : List ℕ) (kept : List KeptMachine) (order : Order) where
  -- it was done, and the machines are kept as they are then
  pub record IsObeyed (states : List (List ℕ)) : Type 0 where
    pub bytes : List ℕ
    pub deed : Deed
    pub order_is : order_in deed ≡ order
    pub done : IsDoneBy rom kept bytes deed
    pub took : Consumes left.before left.since bytes
    pub obeys : AdvancesByDeeds game old new before since (deed ∷ [])
    pub kept_is : AreKept rom states (kept_behind (game.machine old) kept deed)

  -- nothing was done
  pub record IsStill : Type 0 where
    pub same : new ≡ old
    pub quiet : since ≡ before

  abbrev pub IsStep : (states : List (List ℕ)) → Went → Type 0
  IsStep states On = IsObeyed states
  IsStep states Wrong = IsStill × ((k : ℕ) × (order ≡ Back k) × (kept_under k kept ≡ None)) × Consumes left.before left.since []
  IsStep states Damaged = IsStill × ((n : ℕ) × (order ≡ Restore n) × IsBad rom n left)
  IsStep states OtherCartridge = IsStill × ((n : ℕ) × (order ≡ Restore n) × IsAnother rom n left)
  IsStep states NoMemory = IsStill × ((order ≡ Make Power) ⊎ ((k : ℕ) × (order ≡ Keep k) × (kept_under k kept ≡ None))) × Consumes left.before left.since []
  IsStep states Failed = IsStill × ((n : ℕ) × (order ≡ Restore n) × IsShort n left)

  -- it was refused
  pub record IsRefused (has_failed : Type 0) (why : F) : Type 0 where
    pub bytes : List ℕ
    pub deed : Deed
    pub order_is : order_in deed ≡ order
    pub asked : IsDoneBy rom kept bytes deed ⊎ ((n : ℕ) × (order ≡ Restore n) × (length bytes ≡ n) × (deed ≡ GoesOnWith (Restore n) (machine_in rom (snapshot_in bytes))))
    pub took : Consumes left.before left.since bytes
    pub stops : StopsByDeeds game old new before since has_failed (deed ∷ []) why

-- Laws of steps taken n times and of their next event, which public functions of this crate state for every type.
use Rattle.std.specs.Prelude.{◌≡◌, ℕ, ◌+◌, Bool, Option, ◌||◌}
use Rattle.std.specs.Fn.{iterate}
use Rattle.repeated_steps.specs.NextEvent.{IsNextEvent, earlier}

-- m + n steps are m steps and then n
abbrev pub StepsAddUp : {State : Type 0} → (State → State) → Type 0
StepsAddUp {State} step = (m n : ℕ) (x : State) → iterate step (m + n) x ≡ iterate step n (iterate step m x)

-- where two steps may change places, n times both is n times the first and then n times the second
abbrev pub StepsCommute : {State : Type 0} → (State → State) → (State → State) → Type 0
StepsCommute {State} first second =
    ((x : State) → first (second x) ≡ second (first x))
    → (n : ℕ) (x : State) → iterate (λ y. second (first y)) n x ≡ iterate second n (iterate first n x)

-- two answers that are both the next event are the same
abbrev pub NextEventIsUnique : {State : Type 0} → (State → State) → (State → Bool) → Type 0
NextEventIsUnique {State} step happens =
    (x : State) (a b : Option ℕ) → IsNextEvent step happens x a → IsNextEvent step happens x b → a ≡ b

-- the next event of either kind is the earlier of the next of each
abbrev pub NextOfEitherIsEarlier : {State : Type 0} → (State → State) → (State → Bool) → (State → Bool) → Type 0
NextOfEitherIsEarlier {State} step first second =
    (x : State) (a b : Option ℕ) → IsNextEvent step first x a → IsNextEvent step second x b
    → IsNextEvent step (λ y. first y || second y) x (earlier a b)

-- The next event of a state that takes one step after another. `iterate step k x` is x after k steps, and `happens`
-- sees from the state before a step whether the step is an event.
use Rattle.std.specs.Prelude.{◌≡◌, ℕ, ◌+◌, ◌-◌, ◌<◌, min, Bool, true, false, Option, Some, None}
use Rattle.std.specs.Fn.{iterate}

-- Some n: the n-th step from now is an event, and none before it is. None: no step ever is.
abbrev pub IsNextEvent : {State : Type 0} → (State → State) → (State → Bool) → State → Option ℕ → Type 0
IsNextEvent step happens x None = (k : ℕ) → happens (iterate step k x) ≡ false
IsNextEvent step happens x (Some n) =
    (0 < n) × (happens (iterate step (n - 1) x) ≡ true) × ((k : ℕ) → k + 1 < n → happens (iterate step k x) ≡ false)

-- the smaller of two numbers of which either may be missing
abbrev pub earlier : Option ℕ → Option ℕ → Option ℕ
earlier None b = b
earlier (Some m) None = Some m
earlier (Some m) (Some n) = Some (min m n)

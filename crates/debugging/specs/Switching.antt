-- What a line of the power switch or of a kept state leaves and answers, and why it was not done.
use Rattle.std.specs.Prelude.{◌≡◌, ℕ, Bool, true, List, codes, if◌then◌else◌, Option, Some}
use Rattle.std.specs.Io.KnownBytes.{Appends}
use Rattle.exact_text.specs.Written.{AppendsProperPrefix}
use Rattle.debugging.specs.declared.error.DebugError.{DebugError}
use Rattle.debugging.specs.declared.error.DebugError.TheVariants.{Input, Output, Memory}
use Rattle.debugging.specs.declared.order.StateOrder.{StateOrder}
use Rattle.debugging.specs.Run.{RunState}
use Rattle.debugging.specs.KeptStates.{DebugState}
use Rattle.debugging.specs.Answers.{after_state_order, answer_state_order, takes_memory, wrong_line}
use Rattle.machine_lines.specs.Slots.{AreKept}
use Rattle.machine_lines.specs.Texts.{count_line}

-- it was done and answered
pub record HasSwitched (rom : List ℕ) (order : StateOrder) (number : ℕ) (old : DebugState) (now : RunState) (states : List (List ℕ)) (before since : Option (List ℕ)) : Type 0 where
  pub run : now ≡ (after_state_order order old).run
  pub kept : AreKept rom states (after_state_order order old).kept
  pub told : Appends before since (answer_state_order order number old)

-- the answer to `back`, by whether there was a machine
abbrev pub back_text : Bool → (kept number : ℕ) → List ℕ
back_text is_there kept number = if is_there then count_line (codes "back") kept else wrong_line number

-- of an answer: a write of it failed; or there was no memory, and nothing went out
abbrev pub IsRefusedAnswer : DebugError → (text : List ℕ) → (before since : Option (List ℕ)) → Type 0
IsRefusedAnswer Input text before since = ⊥
IsRefusedAnswer Output text before since = AppendsProperPrefix before since text
IsRefusedAnswer Memory text before since = since ≡ before

-- a write failed; or there was no memory, and nothing went out
abbrev pub IsNotSwitched : DebugError → StateOrder → (number : ℕ) → DebugState → (before since : Option (List ℕ)) → Type 0
IsNotSwitched Input order number old before since = ⊥
IsNotSwitched Output order number old before since = AppendsProperPrefix before since (answer_state_order order number old)
IsNotSwitched Memory order number old before since = (since ≡ before) × (takes_memory (Some order) old ≡ true)

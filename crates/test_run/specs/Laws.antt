-- What a test that has ended may still do.
use Rattle.std.specs.Prelude.{◌≡◌, ◌⊎◌, ℕ, List, []}
use Rattle.memory_map.specs.State.{BusState}
use Rattle.memory_map.specs.BusRules.{bus_rules}
use Rattle.sm83_processor.specs.Steps.{after_steps}
use Rattle.sm83_processor.specs.declared.processor.Processor.{Processor}
use Rattle.machine.specs.Sent.{sent_in}
use Rattle.script.specs.declared.moves.Move.{Move}
use Rattle.test_run.specs.declared.ends.End.TheVariants.{Locked, Loop}
use Rattle.test_run.specs.Tested.{test_of}

-- after any number of further steps the registers are these, and nothing was sent in them
pub record StaysThere (p : Processor BusState) : Type 0 where
  pub registers : (steps : ℕ) → (after_steps bus_rules steps p).registers ≡ p.registers
  pub silent : (steps : ℕ) → sent_in steps p ≡ []

-- so it is where a test ended as locked, or in a loop
abbrev pub NothingMoreHappens : Type 0
NothingMoreHappens = (rom : List ℕ) (moves : List Move) (frames : ℕ)
    → ((test_of rom moves frames).why ≡ Locked) ⊎ ((test_of rom moves frames).why ≡ Loop) → StaysThere (test_of rom moves frames).processor

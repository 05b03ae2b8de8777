-- Laws of what is sent and of watched frames, which public functions state.
use Rattle.std.specs.Prelude.{◌≡◌, ◌<◌, ◌≤◌, ◌⊎◌, ℕ, ◌+◌, false, [], ◌∷◌}
use Rattle.memory_map.specs.State.{BusState}
use Rattle.memory_map.specs.BusRules.{bus_rules}
use Rattle.sm83_processor.specs.Steps.{after_steps, step_of}
use Rattle.sm83_processor.specs.declared.processor.Processor.{Processor}
use Rattle.machine.specs.Machine.{MachineState, cycles_of_steps, frame_played}
use Rattle.machine.specs.Sent.{sent_in, sent_in_step, serial_at_accesses}
use Rattle.machine.specs.Watched.{FrameState, Seen, begun_with, machine_after, seen_in}

-- a step sends SB if a transfer ends in its M-cycles, and else nothing: so one byte at most
pub record SendsOnTime (p : Processor BusState) : Type 0 where
  pub some : 0 < (serial_at_accesses p).cycles_left → (serial_at_accesses p).cycles_left ≤ (step_of bus_rules p).stepped.cycles →
      sent_in_step p ≡ (serial_at_accesses p).sb ∷ []
  pub none : ((serial_at_accesses p).cycles_left ≡ 0) ⊎ ((step_of bus_rules p).stepped.cycles < (serial_at_accesses p).cycles_left) → sent_in_step p ≡ []

abbrev pub StepSendsOnTime : Type 0
StepSendsOnTime = (p : Processor BusState) → SendsOnTime p

-- what is seen is of this many steps: where they lead, their M-cycles, and the bytes that they send
pub record IsOfSteps (f : FrameState) (seen : Seen) : Type 0 where
  pub steps : ℕ
  pub reached : seen.end.processor ≡ after_steps bus_rules steps f.processor
  pub passed : seen.end.passed ≡ f.passed + cycles_of_steps bus_rules steps f.processor
  pub sent : seen.sent ≡ sent_in steps f.processor

-- in a frame just the bytes of its steps are seen
abbrev pub SeesItsSteps : Type 0
SeesItsSteps = (f : FrameState) → IsOfSteps f (seen_in f)

-- a frame that is not broken off leaves what it leaves where nobody looks
abbrev pub WatchingChangesNothing : Type 0
WatchingChangesNothing = (buttons : ℕ) (m : MachineState) → (seen_in (begun_with buttons m)).breaks ≡ false →
    machine_after (seen_in (begun_with buttons m)).end ≡ frame_played buttons m

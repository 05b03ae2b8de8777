-- A frame in which it is seen what is sent over the serial port, and which ends early after `LD B,B`.
use Rattle.std.specs.Prelude.{ℕ, zero, suc, ◌+◌, ◌-◌, ◌==◌, Bool, true, false, List, [], ◌∷◌, ◌++◌, slice_index, nat_lt, if◌then◌else◌, Option, Some, None}
use Rattle.sm83_processor.specs.Steps.{step_of}
use Rattle.sm83_processor.specs.declared.processor.Processor.{Processor}
use Rattle.sm83_processor.specs.declared.step.StepKind.{StepKind}
use Rattle.sm83_processor.specs.declared.step.StepKind.TheVariants.{Dispatch, Wait, Ran}
use Rattle.memory_map.specs.State.{BusState}
use Rattle.memory_map.specs.Bus.{buttons_set}
use Rattle.memory_map.specs.BusRules.{bus_rules}
use Rattle.machine.specs.Machine.{MachineState, cycles_per_frame}
use Rattle.machine.specs.Sent.{sent_in_step}

-- a processor in a frame of which so many M-cycles have passed
pub record FrameState : Type 0 where
  pub processor : Processor BusState
  pub passed : ℕ

-- a step ran `LD B,B`, which has the opcode 40 and changes nothing: test ROMs run it where they are done
abbrev pub is_breakpoint : StepKind → Bool
is_breakpoint (Dispatch vector) = false
is_breakpoint Wait = false
is_breakpoint (Ran seen) = slice_index seen.bytes 0 == 0x40

-- where a frame ends, what was sent in it, and whether its last step ran `LD B,B`
pub record Seen : Type 0 where
  pub end : FrameState
  pub sent : List ℕ
  pub breaks : Bool

-- nothing more is seen in a frame that ends here
abbrev pub ended : FrameState → Seen
ended f = record { end = f; sent = []; breaks = false }

-- its last step ran `LD B,B`
abbrev pub broken_off : FrameState → Seen
broken_off f = record { end = f; sent = []; breaks = true }

-- these bytes were sent before
abbrev pub sent_before : List ℕ → Seen → Seen
sent_before bytes seen = record { end = seen.end; sent = bytes ++ seen.sent; breaks = seen.breaks }

abbrev pub after_step : FrameState → FrameState
after_step f = record {
  processor = (step_of bus_rules f.processor).after;
  passed = f.passed + (step_of bus_rules f.processor).stepped.cycles;
}

-- steps until 17,556 M-cycles have passed, up to one that runs `LD B,B`; at most k steps
unfoldable pub seen_until : ℕ → FrameState → Seen
seen_until zero f = ended f
seen_until (suc k) f =
    if nat_lt f.passed cycles_per_frame
    then sent_before (sent_in_step f.processor)
    (if is_breakpoint (step_of bus_rules f.processor).stepped.kind then broken_off (after_step f) else seen_until k (after_step f))
    else ended f

-- the rest of a frame: each step takes an M-cycle at least, so 17,556 steps are enough
abbrev pub seen_in : FrameState → Seen
seen_in f = seen_until cycles_per_frame f

-- a frame begins with these buttons
abbrev pub begun_with : ℕ → MachineState → FrameState
begun_with buttons m = record {
  processor = record m.processor { memory = buttons_set buttons m.processor.memory };
  passed = m.overrun;
}

-- the machine after a frame that is over
abbrev pub machine_after : FrameState → MachineState
machine_after f = record { processor = f.processor; overrun = f.passed - cycles_per_frame }

-- what is still to be seen, where a frame was played up to here
abbrev pub seen_from : (breaks : Bool) → FrameState → Seen
seen_from breaks f = if breaks then broken_off f else seen_in f

-- a byte, if there is one
abbrev pub byte_list : Option ℕ → List ℕ
byte_list None = []
byte_list (Some byte) = byte ∷ []

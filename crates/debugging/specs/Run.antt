-- How a debugger's machine runs: steps, steps up to a place, frames.
use Rattle.std.specs.Prelude.{ℕ, zero, suc, ◌==◌, ◌&&◌, not, Bool, true, false, Option, None, Some, List, [], ◌++◌, nat_lt, slice_index, if◌then◌else◌}
use Rattle.std.specs.Fn.{iterate}
use Rattle.circular_buffer.specs.Buffer.{keep_last}
use Rattle.memory_map.specs.State.{BusState}
use Rattle.memory_map.specs.Bus.{peeked}
use Rattle.memory_map.specs.BusRules.{bus_rules}
use Rattle.sm83_processor.specs.Steps.{step_of}
use Rattle.sm83_processor.specs.declared.processor.Processor.{Processor}
use Rattle.sm83_processor.specs.declared.step.StepKind.{StepKind}
use Rattle.sm83_processor.specs.declared.step.StepKind.TheVariants.{Dispatch, Wait, Ran}
use Rattle.machine.specs.Machine.{MachineState, cycles_of_steps, cycles_per_frame, frame_played, seconds_passed}
use Rattle.machine.specs.Sent.{sent_in, sent_in_step}
use Rattle.machine.specs.Watched.{FrameState, after_step, begun_with}
use Rattle.debugger.specs.History.{DebuggerState, after_run}
use Rattle.debugging.specs.declared.order.Place.{Place}
use Rattle.debugging.specs.declared.position.Played.{Played}
use Rattle.debugging.specs.Banks.{bank_at}
use Rattle.debugging.specs.Position.{frame_cycles, none_played, with_cycles, with_frame}

-- a debugger, the bytes that its machine sent over the serial port and that were not told yet, and what was played since it began
pub record RunState : Type 0 where
  pub debugger : DebuggerState
  pub sent : List ℕ
  pub played : Played

abbrev pub processor_of : RunState → Processor BusState
processor_of r = r.debugger.machine.processor

-- the most bytes that are kept until they are told: the last ones
abbrev pub most_sent : ℕ
most_sent = 65536

-- the most instructions of the history
abbrev pub most_history : ℕ
most_history = 1024

abbrev pub begun : MachineState → RunState
begun m = record { debugger = record { machine = m; size = most_history; history = [] }; sent = []; played = none_played }

-- ---- steps

abbrev pub after_steps_of : ℕ → RunState → RunState
after_steps_of n r = record {
  debugger = after_run n r.debugger;
  sent = keep_last most_sent (r.sent ++ sent_in n (processor_of r));
  played = with_cycles (cycles_of_steps bus_rules n (processor_of r)) r.played;
}

-- the steps that are made of at most n, up to the first that begins at such a place
unfoldable pub steps_before : (Processor BusState → Bool) → ℕ → Processor BusState → ℕ
steps_before is_there zero p = 0
steps_before is_there (suc n) p = if is_there p then 0 else suc (steps_before is_there n (step_of bus_rules p).after)

-- the same, but the first step is made wherever it begins
abbrev pub steps_up_to : (Processor BusState → Bool) → ℕ → Processor BusState → ℕ
steps_up_to is_there zero p = 0
steps_up_to is_there (suc n) p = suc (steps_before is_there n (step_of bus_rules p).after)

-- the bank that is asked for, if one is
abbrev pub is_bank : Option ℕ → ℕ → Bool
is_bank None bank = true
is_bank (Some asked) bank = asked == bank

-- PC is at this place, and its bank is mapped there
abbrev pub is_place : Processor BusState → Place → Bool
is_place p place = place.address == p.registers.pc && is_bank place.bank (bank_at p.memory place.address)

-- the byte that a look at this address shows is another than this one
abbrev pub is_changed : (address byte : ℕ) → Processor BusState → Bool
is_changed address byte p = not (peeked p.memory address == byte)

-- what a step did was to run an instruction with this opcode, and not to wait or to take an interrupt
abbrev pub has_run : ℕ → StepKind → Bool
has_run opcode (Ran seen) = slice_index seen.bytes 0 == opcode
has_run opcode Wait = false
has_run opcode (Dispatch vector) = false

-- the next step does so, be it the one that ends a halt
abbrev pub is_before : ℕ → Processor BusState → Bool
is_before opcode p = has_run opcode (step_of bus_rules p).stepped.kind

-- ---- frames

-- where a frame ends, and what was sent in it
pub record Rest : Type 0 where
  pub end : FrameState
  pub sent : List ℕ

abbrev pub sent_first : List ℕ → Rest → Rest
sent_first bytes rest = record { end = rest.end; sent = bytes ++ rest.sent }

-- steps until 17,556 M-cycles have passed; at most k steps
unfoldable pub rest_until : ℕ → FrameState → Rest
rest_until zero f = record { end = f; sent = [] }
rest_until (suc k) f =
    if nat_lt f.passed cycles_per_frame then sent_first (sent_in_step f.processor) (rest_until k (after_step f))
    else record { end = f; sent = [] }

-- the rest of a frame: each step takes an M-cycle at least, so 17,556 steps are enough
abbrev pub rest_in : FrameState → Rest
rest_in f = rest_until cycles_per_frame f

-- a frame with these buttons; none of its instructions are kept, so the history is empty after it
abbrev pub after_frame : ℕ → RunState → RunState
after_frame buttons r = record {
  debugger = record r.debugger { machine = frame_played buttons r.debugger.machine; history = [] };
  sent = keep_last most_sent (r.sent ++ (rest_in (begun_with buttons r.debugger.machine)).sent);
  played = with_frame (frame_cycles r.debugger.machine (frame_played buttons r.debugger.machine)) r.played;
}

abbrev pub after_frames : ℕ → ℕ → RunState → RunState
after_frames times buttons r = iterate (after_frame buttons) times r

abbrev pub after_seconds : ℕ → RunState → RunState
after_seconds n r = record r { debugger = record r.debugger { machine = seconds_passed n r.debugger.machine } }

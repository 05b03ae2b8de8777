-- A test of a ROM: which inputs it is given, and where it ends.
use Rattle.std.specs.Prelude.{ℕ, ◌+◌, ◌==◌, if◌then◌else◌, List, [], ◌∷◌, ◌++◌, replicate, Option, Some, None}
use Rattle.script.specs.declared.moves.Move.{Move}
use Rattle.script.specs.Inputs.{inputs_of_moves}
use Rattle.machine.specs.Machine.{Input, Frame, Seconds, MachineState, seconds_passed, start, Power, State, powered}
use Rattle.machine.specs.Watched.{Seen, begun_with, machine_after, seen_in}
use Rattle.memory_map.specs.State.{BusState}
use Rattle.sm83_processor.specs.declared.processor.Processor.{Processor}
use Rattle.test_run.specs.declared.ends.End.{End}
use Rattle.test_run.specs.declared.ends.End.TheVariants.{Frames, Locked, Breakpoint, Loop, Memory}
use Rattle.test_run.specs.Ends.{end_seen}

-- ---- the run

-- where a test ended: its processor, the frames that were done, the bytes that were sent, and why
pub record Tested : Type 0 where
  pub processor : Processor BusState
  pub frames : ℕ
  pub sent : List ℕ
  pub why : End

abbrev pub ended_at : Processor BusState → ℕ → End → Tested
ended_at p frames why = record { processor = p; frames = frames; sent = []; why = why }

-- these bytes were sent before
abbrev pub sent_first : List ℕ → Tested → Tested
sent_first bytes t = record { processor = t.processor; frames = t.frames; sent = bytes ++ t.sent; why = t.why }

-- the frames that are done where so many were done before, and the test ends in this frame or after it
abbrev pub frames_with : End → ℕ → ℕ
frames_with Breakpoint done = done
frames_with Frames done = done + 1
frames_with Locked done = done + 1
frames_with Loop done = done + 1
frames_with (Memory status) done = done + 1

-- a frame was played; if it does not end the test, the rest is this
abbrev pub played_then : Option End → Processor BusState → (done : ℕ) → Tested → Tested
played_then (Some why) p done rest = ended_at p (frames_with why done) why
played_then None p done rest = rest

-- a test of at most `limit` frames, of which so many are done, with these inputs still to be given
unfoldable pub tested : (limit done : ℕ) → List Input → MachineState → Tested
tested limit done [] m = ended_at m.processor done Frames
tested limit done (Seconds n ∷ inputs) m = tested limit done inputs (seconds_passed n m)
tested limit done (Power ∷ inputs) m = tested limit done inputs (powered m)
tested limit done (State machine ∷ inputs) m = tested limit done inputs machine
tested limit done (Frame buttons ∷ inputs) m =
    if done == limit then ended_at m.processor done Frames
    else (let seen : Seen = seen_in (begun_with buttons m) in
    sent_first seen.sent
    (played_then (end_seen seen) seen.end.processor done (tested limit (done + 1) inputs (machine_after seen.end))))

-- A test of this ROM: the script's moves from power-on, and then frames without buttons, until so many frames are done, or it ends
-- before.
unfoldable pub test_of : (rom : List ℕ) → List Move → (frames : ℕ) → Tested
test_of rom moves frames = tested frames 0 (inputs_of_moves moves ++ replicate frames (Frame 0)) (start rom)

-- A frame's steps in which nothing is seen, for private functions alone.
use Rattle.std.specs.Prelude.{◌≡◌, ◌<◌, ◌⊎◌, ℕ}
use Rattle.sm83_processor.specs.declared.processor.Processor.{Processor}
use Rattle.memory_map.specs.State.{BusState}
use Rattle.machine.specs.Watched.{FrameState}

-- this processor in a frame of which so many M-cycles have passed
abbrev pub in_frame : ℕ → Processor BusState → FrameState
in_frame passed p = record { processor = p; passed = passed }

-- no transfer runs
abbrev pub IsSilent : BusState → Type 0
IsSilent b = b.serial.serial.cycles_left ≡ 0

-- no transfer ends in the next step, where so many M-cycles of one are left
abbrev pub IsFar : ℕ → Type 0
IsFar left = (left ≡ 0) ⊎ (6 < left)

-- Where in time a run is: what was played, and where the picture is.
use Rattle.std.specs.Prelude.{ℕ, ◌+◌, ◌-◌, ◌%◌, ◌^◌, List, ◌++◌, codes, decimal}
use Rattle.picture_unit.specs.Picture.{mode}
use Rattle.picture_unit.specs.declared.state.PictureState.{PictureState}
use Rattle.machine.specs.Machine.{MachineState, cycles_per_frame}
use Rattle.debugging.specs.declared.position.Played.{Played}

-- nothing was played yet
abbrev pub none_played : Played
none_played = record { cycles = 0; frames = 0 }

-- so many M-cycles more, modulo 2^64: some 500,000 years
abbrev pub with_cycles : ℕ → Played → Played
with_cycles n played = record { cycles = (played.cycles + n) % 2 ^ 64; frames = played.frames }

-- a frame more, of so many M-cycles
abbrev pub with_frame : ℕ → Played → Played
with_frame n played = record { cycles = (played.cycles + n) % 2 ^ 64; frames = (played.frames + 1) % 2 ^ 64 }

-- the M-cycles of a frame, by the machines before and after it: some of them may have passed in the last step of the frame before
abbrev pub frame_cycles : (before after : MachineState) → ℕ
frame_cycles before after = cycles_per_frame + after.overrun - before.overrun

-- M-cycles and frames, the line, its M-cycle, and the mode as STAT shows it
unfoldable pub position_line : Played → PictureState → List ℕ
position_line played picture =
    codes "position" ++ codes " " ++ decimal played.cycles ++ codes " " ++ decimal played.frames ++ codes " " ++ decimal picture.ly
    ++ codes " " ++ decimal picture.m_cycle ++ codes " " ++ decimal (mode picture) ++ codes "\n"

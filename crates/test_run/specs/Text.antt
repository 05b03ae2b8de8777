-- What a test writes: the bytes that were sent, as they are; on a line of its own the registers; the count of frames; why it ended.
use Rattle.std.specs.Prelude.{ℕ, ◌-◌, ◌==◌, ◌||◌, if◌then◌else◌, List, [], ◌∷◌, ◌++◌, length, codes, decimal, slice_index}
use Rattle.debugger.specs.Registers.{register_line}
use Rattle.test_run.specs.declared.ends.End.{End}
use Rattle.test_run.specs.declared.ends.End.TheVariants.{Frames, Locked, Breakpoint, Loop, Memory}
use Rattle.test_run.specs.Tested.{Tested}

-- a newline, unless nothing was sent or the last byte was one
abbrev pub line_end : List ℕ → List ℕ
line_end sent = if length sent == 0 || slice_index sent (length sent - 1) == 10 then [] else 10 ∷ []

abbrev pub frames_line : ℕ → List ℕ
frames_line frames = codes "frames " ++ (decimal frames ++ codes "\n")

abbrev pub ended_line : End → List ℕ
ended_line Frames = codes "ended frames\n"
ended_line Locked = codes "ended locked\n"
ended_line Breakpoint = codes "ended breakpoint\n"
ended_line Loop = codes "ended loop\n"
ended_line (Memory status) = codes "ended memory\n"

abbrev pub last_lines : Tested → List ℕ
last_lines t = register_line t.processor ++ (frames_line t.frames ++ ended_line t.why)

abbrev pub test_text : Tested → List ℕ
test_text t = t.sent ++ (line_end t.sent ++ last_lines t)

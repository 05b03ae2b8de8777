-- The script of inputs: the lines that ask for exactly these inputs again.
use Rattle.std.specs.Prelude.{◌==◌, ◌&&◌, ◌++◌, ◌+◌, ℕ, List, [], ◌∷◌, codes, decimal, nat_lt, if◌then◌else◌}
use Rattle.exact_text.specs.Hex.{byte_text}
use Rattle.machine.specs.Machine.{Input, Frame, Seconds, Power, State}

-- the most frames of one line
abbrev pub most_times : ℕ
most_times = 1000000

-- `frames BB N`; of no frames there is no line
unfoldable pub frames_line : (buttons times : ℕ) → List ℕ
frames_line buttons times = if times == 0 then [] else codes "frames " ++ (byte_text buttons ++ (codes " " ++ (decimal times ++ codes "\n")))

-- `seconds N`
unfoldable pub seconds_line : (seconds : ℕ) → List ℕ
seconds_line seconds = codes "seconds " ++ (decimal seconds ++ codes "\n")

-- The lines of so many frames with these buttons and of the inputs after them: an equal frame lengthens the run, up to 1,000,000
-- frames, and any other input ends it. A power switch and another machine are in no recording, and have no line.
unfoldable pub lines_after : (buttons times : ℕ) → List Input → List ℕ
lines_after buttons times [] = frames_line buttons times
lines_after buttons times (Frame next ∷ inputs) =
    if next == buttons && nat_lt times most_times then lines_after buttons (times + 1) inputs else frames_line buttons times ++ lines_after next 1 inputs
lines_after buttons times (Seconds seconds ∷ inputs) = frames_line buttons times ++ (seconds_line seconds ++ lines_after buttons 0 inputs)
lines_after buttons times (Power ∷ inputs) = frames_line buttons times ++ lines_after buttons 0 inputs
lines_after buttons times (State machine ∷ inputs) = frames_line buttons times ++ lines_after buttons 0 inputs

abbrev pub script_of : List Input → List ℕ
script_of inputs = lines_after 0 0 inputs

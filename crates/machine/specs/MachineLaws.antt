-- Laws of frames and inputs, which public functions state.
use Rattle.std.specs.Prelude.{◌≡◌, ℕ, ◌<◌, List, ◌++◌, All}
use Rattle.bank_controllers.specs.CartridgeState.{IsSameCartridge}
use Rattle.sm83_processor.specs.declared.processor.Processor.{Processor}
use Rattle.sm83_processor.specs.Rules.{Rules}
use Rattle.machine.specs.Machine.{MachineState, IsFrame, frame_of, Input, PassesTime, after}

-- a frame ends with the first step that completes 17,556 M-cycles, over every memory
abbrev pub FrameIsLeast : (M : Type 0) → Type 0
FrameIsLeast M = (rules : Rules M) (overrun : ℕ) (p : Processor M) → overrun < 6 → IsFrame rules overrun p (frame_of rules overrun p)

-- inputs one after another are the whole list
abbrev pub InputsAddUp : Type 0
InputsAddUp = (m : MachineState) (first second : List Input) → after (after m first) second ≡ after m (first ++ second)

-- no frame and no second changes which cartridge is in the machine: its ROM, kind, motor and length of RAM stay
abbrev pub CartridgeStays : Type 0
CartridgeStays = (m : MachineState) (inputs : List Input) → All PassesTime inputs → IsSameCartridge m.processor.memory.banks (after m inputs).processor.memory.banks

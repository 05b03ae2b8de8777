-- Laws of scripts and of new files, which public functions state.
use Rattle.std.specs.Prelude.{◌≡◌, ◌<◌, ◌^◌, ℕ, List, [], Ok, Some}
use Rattle.std.specs.List.{All}
use Rattle.sha2.specs.Sha256.{sha256}
use Rattle.machine.specs.Machine.{Input, Frame, Seconds, Power, State, start}
use Rattle.script.specs.Script.{lines_of, moves_from}
use Rattle.script.specs.declared.moves.Move.{Move}
use Rattle.recording.specs.Recorded.{recorded}
use Rattle.log_format.specs.Content.{content}
use Rattle.session.specs.Stands.{stands}
use Rattle.script.specs.Inputs.{inputs_of_moves}
use Rattle.replaying.specs.Agreeing.{Agrees}
use Rattle.replaying.specs.Script.{script_of}

-- a frame whose buttons are a byte, or seconds that a `u32` holds
abbrev pub HasWidth : Input → Type 0
HasWidth (Frame buttons) = buttons < 256
HasWidth (Seconds seconds) = seconds < 2 ^ 32
HasWidth Power = ⊥
HasWidth (State machine) = ⊥

-- each line of the script of inputs is right, and the moves of its lines are these inputs
abbrev pub TheScriptGivesTheInputsBack : Type 0
TheScriptGivesTheInputsBack =
    (inputs : List Input) → All HasWidth inputs → (moves : List Move) × (moves_from 1 (lines_of (script_of inputs)) ≡ Ok moves) × (inputs_of_moves moves ≡ inputs)

-- an image that stands for a new game, with the machine at power-on, and an image of an empty recording agree
abbrev pub NewFilesAgree : Type 0
NewFilesAgree =
    (rom : List ℕ) (save recording : List (List ℕ)) → stands rom (content save) ≡ Some (record { count = 0; machine = start rom })
    → recorded (sha256 rom) recording ≡ Some [] → Agrees rom save recording

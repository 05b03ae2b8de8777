-- What the lines of a stream ask for.
use Rattle.std.specs.Prelude.{◌≡◌, ◌⊎◌, ◌<◌, ℕ, Bool, true, false, List, [], ◌∷◌, codes, length, nat_le, if◌then◌else◌, Option, None, Some, ⊤}
use Rattle.std.specs.Option.{option_map}
use Rattle.std.specs.Str.{bytes_eq}
use Rattle.machine.specs.Machine.{MachineState}
use Rattle.snapshot.specs.Reading.{machine_in}
use Rattle.state_header.specs.States.{snapshot_in, IsLegalState}
use Rattle.input_lines.specs.Newlines.{HasNoNewline}
use Rattle.input_lines.specs.Given.{Given}
use Rattle.script.specs.declared.moves.Move.{Move}
use Rattle.script.specs.declared.moves.Move.TheVariants.{Power}
use Rattle.script.specs.Line.{move_of_line, words_of}
use Rattle.machine_lines.specs.KeptStates.{KeptMachine, kept_under}
use Rattle.machine_lines.specs.Looks.{look_of}
use Rattle.machine_lines.specs.Words.{size_of, slot_of}
use Rattle.machine_lines.specs.declared.looks.Look.{Look}
use Rattle.streaming.specs.declared.order.Order.{Order}
use Rattle.streaming.specs.declared.order.Order.TheVariants.{Make, Look as Looks, Keep, Back, Restore}

-- ---- a line

-- `keep K`, `back K`, `restore N`
abbrev pub order_of_two : List ℕ → List ℕ → Option Order
order_of_two name word =
    if bytes_eq name (codes "keep") then option_map Keep (slot_of word)
    else (if bytes_eq name (codes "back") then option_map Back (slot_of word)
    else (if bytes_eq name (codes "restore") then option_map Restore (size_of word) else None))

abbrev pub state_order_of : List (List ℕ) → Option Order
state_order_of (name ∷ word ∷ []) = order_of_two name word
state_order_of words = None

-- a look at the machine, or one of these
abbrev pub look_or_state : Option Look → List (List ℕ) → Option Order
look_or_state (Some look) words = Some (Looks look)
look_or_state None words = state_order_of words

abbrev pub order_of_words : List (List ℕ) → Option Order
order_of_words words = look_or_state (look_of words) words

abbrev pub is_power : Move → Bool
is_power Power = true
is_power move = false

-- an order that needs the power switch or another machine to be inputs of the game
abbrev pub needs_states : Order → Bool
needs_states (Make move) = is_power move
needs_states (Keep k) = true
needs_states (Back k) = true
needs_states (Restore n) = true
needs_states order = false

-- where they are none, such an order is none
abbrev pub order_for : (states : Bool) → Option Order → Option Order
order_for true order = order
order_for false None = None
order_for false (Some order) = if needs_states order then None else Some order

-- a move of a script, or an order by words
abbrev pub order_by : Option Order → List ℕ → Option Order
order_by (Some order) line = Some order
order_by None line = order_of_words (words_of line)

-- A line of a script, or one of the lines above; none where it is neither or has more than 64 bytes.
abbrev pub order_of : (states : Bool) → List ℕ → Option Order
order_of states line =
    if nat_le (length line) 64 then order_for states (order_by (option_map Make (move_of_line line)) line) else None

-- how many bytes an order asks for, and a line
abbrev pub asked_by : Option Order → ℕ
asked_by (Some (Restore n)) = n
asked_by order = 0

abbrev pub asked : (states : Bool) → List ℕ → ℕ
asked states line = asked_by (order_of states line)

-- a line that is empty or asks for something
pub record IsRight (states : Bool) (line : List ℕ) : Type 0 where
  pub one_line : HasNoNewline line
  pub right : (length line ≡ 0) ⊎ ((order : Order) × (order_of states line ≡ Some order))

-- a line that is not empty and asks for nothing
pub record IsWrong (states : Bool) (line : List ℕ) : Type 0 where
  pub one_line : HasNoNewline line
  pub some : 0 < length line
  pub wrong : order_of states line ≡ None

-- ---- what is done for a line

-- an order that leaves the machine to its moves, or one that goes on with another machine
pub data Deed : Type 0 where
  Does : Order → Deed
  GoesOnWith : Order → MachineState → Deed

abbrev pub order_in : Deed → Order
order_in (Does order) = order
order_in (GoesOnWith order machine) = order

abbrev pub IsOwn : Order → Type 0
IsOwn (Back k) = ⊥
IsOwn (Restore n) = ⊥
IsOwn order = ⊤

-- with these machines kept, and these bytes behind the line: the machine is the one that was kept last under the number, or the one of the
-- bytes, which are a state of the cartridge
abbrev pub IsOther : (rom : List ℕ) → List KeptMachine → (bytes : List ℕ) → Order → MachineState → Type 0
IsOther rom kept bytes (Back k) machine = (bytes ≡ []) × (kept_under k kept ≡ Some machine)
IsOther rom kept bytes (Restore n) machine = (length bytes ≡ n) × IsLegalState rom bytes × (machine ≡ machine_in rom (snapshot_in bytes))
IsOther rom kept bytes order machine = ⊥

abbrev pub IsDoneBy : (rom : List ℕ) → List KeptMachine → (bytes : List ℕ) → Deed → Type 0
IsDoneBy rom kept bytes (Does order) = (bytes ≡ []) × IsOwn order
IsDoneBy rom kept bytes (GoesOnWith order machine) = IsOther rom kept bytes order machine

-- the line asks for this, and this is done
pub record IsAskedFor (states : Bool) (rom : List ℕ) (kept : List KeptMachine) (given : Given) (deed : Deed) : Type 0 where
  pub one_line : HasNoNewline given.line
  pub some : 0 < length given.line
  pub order_is : order_of states given.line ≡ Some (order_in deed)
  pub done : IsDoneBy rom kept given.bytes deed

-- the machines that are kept after it, the latest first
abbrev pub kept_behind : MachineState → List KeptMachine → Deed → List KeptMachine
kept_behind machine kept (Does (Keep k)) = record { number = k; machine = machine } ∷ kept
kept_behind machine kept deed = kept

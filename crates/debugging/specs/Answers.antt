-- What a debugger answers, and how it is then.
use Rattle.std.specs.Prelude.{ℕ, ◌+◌, ◌==◌, not, is_some, Bool, true, false, List, [], ◌∷◌, ◌++◌, codes, decimal, length, nat_lt, if◌then◌else◌, Option, None, Some}
use Rattle.std.specs.List.{flat_map}
use Rattle.hex.specs.Hex.{encode_lower}
use Rattle.sha2.specs.Sha256.{sha256}
use Rattle.circular_buffer.specs.Buffer.{keep_last}
use Rattle.exact_text.specs.Hex.{word_text}
use Rattle.memory_map.specs.State.{BusState}
use Rattle.memory_map.specs.BusRules.{bus_rules}
use Rattle.sm83_processor.specs.declared.processor.Processor.{Processor}
use Rattle.sm83_processor.specs.declared.step.Executed.{Executed}
use Rattle.machine.specs.Machine.{MachineState}
use Rattle.snapshot.specs.Encoding.{encoded}
use Rattle.state_header.specs.States.{snapshot_in}
use Rattle.debugger.specs.Listing.{lines_from}
use Rattle.debugger.specs.Registers.{register_line}
use Rattle.debugger.specs.Report.{line_seen, step_lines}
use Rattle.debugging.specs.declared.order.Order.{Order}
use Rattle.debugging.specs.declared.order.Order.TheVariants.{Frames, Seconds, Step, Until, Continue, Set, SetRegister, Registers, History, List as Listing, Look, Bank, Serial, Digest, Position}
use Rattle.debugging.specs.declared.order.StateOrder.{StateOrder}
use Rattle.debugging.specs.declared.order.StateOrder.TheVariants.{Power, Keep, Back, Profile}
use Rattle.debugging.specs.Position.{position_line}
use Rattle.debugging.specs.Profile.{cycles_text, no_cycles, with_steps}
use Rattle.debugging.specs.Setting.{byte_set, register_set}
use Rattle.debugging.specs.Orders.{order_of, restore_of, state_order_of}
use Rattle.debugging.specs.States.{after_power, is_given, restored, rom_of, with_machine}
use Rattle.debugging.specs.KeptStates.{DebugState}
use Rattle.input_lines.specs.Given.{Given}
use Rattle.debugging.specs.declared.order.Condition.{Condition}
use Rattle.debugging.specs.Banks.{bank_at}
use Rattle.debugging.specs.Conditions.{holds, is_met, number_of}
use Rattle.debugging.specs.Run.{RunState, processor_of, after_steps_of, steps_up_to, after_frames, after_seconds}
use Rattle.machine_lines.specs.KeptStates.{kept_under}
use Rattle.machine_lines.specs.Looks.{look_text}
use Rattle.machine_lines.specs.Texts.{count_line}

-- ---- texts

-- where a run stands, and whether it stopped before all its steps were made
abbrev pub place_text : Bool → Processor BusState → List ℕ
place_text is_there p = (if is_there then codes "stopped " else codes "limit ") ++ (word_text p.registers.pc ++ codes "\n")

-- the last n instructions, or all if there are fewer: how many, and their lines, the oldest first
abbrev pub history_text : ℕ → List Executed → List ℕ
history_text n history = count_line (codes "history") (length (keep_last n history)) ++ flat_map line_seen (keep_last n history)

-- a bank in four digits
abbrev pub bank_line : ℕ → List ℕ
bank_line bank = codes "bank " ++ (word_text bank ++ codes "\n")

-- how many bytes, then the bytes, and a newline
abbrev pub serial_text : List ℕ → List ℕ
serial_text sent = count_line (codes "serial") (length sent) ++ (sent ++ codes "\n")

-- a digest in lower-case hexadecimal digits
abbrev pub digest_line : List ℕ → List ℕ
digest_line digest = codes "digest " ++ (encode_lower digest ++ codes "\n")

-- the SHA-256 of the machine's snapshot
abbrev pub digest_text : MachineState → List ℕ
digest_text m = digest_line (sha256 (encoded m))

-- ---- orders

-- how many steps a run up to one of these conditions makes
abbrev pub until_steps : ℕ → List Condition → RunState → ℕ
until_steps limit conditions r = steps_up_to (is_met (processor_of r).memory conditions) limit (processor_of r)

-- which condition stopped it, by its number, if one did before all steps were made
abbrev pub met_text : Bool → (number : ℕ) → Processor BusState → List ℕ
met_text true number p = codes "stopped " ++ (word_text p.registers.pc ++ (codes " " ++ (decimal number ++ codes "\n")))
met_text false number p = place_text false p

abbrev pub continue_text : ℕ → List Condition → (old new : RunState) → List ℕ
continue_text limit conditions old new =
    met_text (nat_lt (until_steps limit conditions old) limit) (number_of (holds (processor_of old).memory (processor_of new)) conditions) (processor_of new)

abbrev pub after_order : Order → RunState → RunState
after_order (Frames buttons times) r = after_frames times buttons r
after_order (Seconds n) r = after_seconds n r
after_order (Step n) r = after_steps_of n r
after_order (Until limit conditions) r = after_steps_of (until_steps limit conditions.items r) r
after_order (Continue limit conditions) r = after_steps_of (until_steps limit conditions.items r) r
after_order (Set address byte) r = with_machine (byte_set address byte r.debugger.machine) r
after_order (SetRegister value) r = with_machine (register_set value r.debugger.machine) r
after_order Registers r = r
after_order (History n) r = r
after_order (Listing address n) r = r
after_order (Look look) r = r
after_order (Bank address) r = r
after_order Serial r = record r { sent = [] }
after_order Digest r = r
after_order Position r = r

-- the answer to an order that leaves the debugger as `new`
abbrev pub answer_from : Order → (old new : RunState) → List ℕ
answer_from (Frames buttons times) old new = codes "done\n"
answer_from (Seconds n) old new = codes "done\n"
answer_from (Step n) old new = step_lines bus_rules n (processor_of old)
answer_from (Until limit conditions) old new = place_text (nat_lt (until_steps limit conditions.items old) limit) (processor_of new)
answer_from (Continue limit conditions) old new = continue_text limit conditions.items old new
answer_from (Set address byte) old new = codes "done\n"
answer_from (SetRegister value) old new = codes "done\n"
answer_from Registers old new = register_line (processor_of old)
answer_from (History n) old new = history_text n old.debugger.history
answer_from (Listing address n) old new = lines_from old.debugger.machine address n
answer_from (Look look) old new = look_text look old.debugger.machine
answer_from (Bank address) old new = bank_line (bank_at (processor_of old).memory address)
answer_from Serial old new = serial_text old.sent
answer_from Digest old new = digest_text old.debugger.machine
answer_from Position old new = position_line old.played (processor_of old).memory.picture.picture.state

abbrev pub answer_to : Order → RunState → List ℕ
answer_to order r = answer_from order r (after_order order r)

-- ---- lines

abbrev pub wrong_line : ℕ → List ℕ
wrong_line number = codes "wrong " ++ (decimal number ++ codes "\n")

abbrev pub after_asked : Option Order → RunState → RunState
after_asked None r = r
after_asked (Some order) r = after_order order r

abbrev pub answer_asked : Option Order → (number : ℕ) → RunState → List ℕ
answer_asked None number r = wrong_line number
answer_asked (Some order) number r = answer_to order r

-- an empty line asks for nothing
abbrev pub after_line : List ℕ → RunState → RunState
after_line line r = if length line == 0 then r else after_asked (order_of line) r

abbrev pub answer_line : List ℕ → (number : ℕ) → RunState → List ℕ
answer_line line number r = if length line == 0 then [] else answer_asked (order_of line) number r

-- `restore N` and the bytes behind it: where they are no state of the cartridge, nothing is done
abbrev pub after_restore : (n : ℕ) → (bytes : List ℕ) → RunState → RunState
after_restore n bytes r = if is_given n bytes r then restored (snapshot_in bytes) r else r

-- by whether there was a machine
abbrev pub restored_text : Bool → (number : ℕ) → List ℕ
restored_text is_there number = if is_there then codes "restored\n" else wrong_line number

abbrev pub answer_restore : (n : ℕ) → (bytes : List ℕ) → (number : ℕ) → RunState → List ℕ
answer_restore n bytes number r = restored_text (is_given n bytes r) number

-- ---- the power switch, states that are kept, and a run that is measured

-- where no machine is kept under a number, nothing is done
abbrev pub after_back : Option MachineState → DebugState → DebugState
after_back None d = d
after_back (Some m) d = record d { run = with_machine m d.run }

abbrev pub answer_back : Option MachineState → (kept number : ℕ) → List ℕ
answer_back None kept number = wrong_line number
answer_back (Some m) kept number = count_line (codes "back") kept

-- where so many steps lead, and the M-cycles of each
abbrev pub profile_text : (steps limit : ℕ) → RunState → List ℕ
profile_text steps limit r =
    place_text (nat_lt steps limit) (processor_of (after_steps_of steps r)) ++ cycles_text (with_steps steps (processor_of r) (no_cycles (length (rom_of r))))

abbrev pub after_state_order : StateOrder → DebugState → DebugState
after_state_order Power d = record d { run = after_power d.run }
after_state_order (Keep n) d = record d { kept = record { number = n; machine = d.run.debugger.machine } ∷ d.kept }
after_state_order (Back n) d = after_back (kept_under n d.kept) d
after_state_order (Profile limit conditions) d = record d { run = after_steps_of (until_steps limit conditions.items d.run) d.run }

abbrev pub answer_state_order : StateOrder → (number : ℕ) → DebugState → List ℕ
answer_state_order Power number d = codes "done\n"
answer_state_order (Keep n) number d = count_line (codes "kept") n
answer_state_order (Back n) number d = answer_back (kept_under n d.kept) n number
answer_state_order (Profile limit conditions) number d = profile_text (until_steps limit conditions.items d.run) limit d.run

-- ---- lines, and the bytes that they ask for

-- a line that asks for none
abbrev pub after_plain : Option StateOrder → List ℕ → DebugState → DebugState
after_plain None line d = record d { run = after_line line d.run }
after_plain (Some order) line d = after_state_order order d

abbrev pub answer_plain : Option StateOrder → List ℕ → (number : ℕ) → DebugState → List ℕ
answer_plain None line number d = answer_line line number d.run
answer_plain (Some order) line number d = answer_state_order order number d

abbrev pub after_either : Option ℕ → Given → DebugState → DebugState
after_either None given d = after_plain (state_order_of given.line) given.line d
after_either (Some n) given d = record d { run = after_restore n given.bytes d.run }

abbrev pub answer_either : Option ℕ → Given → (number : ℕ) → DebugState → List ℕ
answer_either None given number d = answer_plain (state_order_of given.line) given.line number d
answer_either (Some n) given number d = answer_restore n given.bytes number d.run

abbrev pub after_given : Given → DebugState → DebugState
after_given given d = after_either (restore_of given.line) given d

abbrev pub answer_given : Given → (number : ℕ) → DebugState → List ℕ
answer_given given number d = answer_either (restore_of given.line) given number d

-- the answers to these lines, the first of which has this number
unfoldable pub answers : (number : ℕ) → List Given → DebugState → List ℕ
answers number [] d = []
answers number (given ∷ rest) d = answer_given given number d ++ answers (number + 1) rest (after_given given d)

unfoldable pub after_lines : List Given → DebugState → DebugState
after_lines [] d = d
after_lines (given ∷ rest) d = after_lines rest (after_given given d)

-- ---- memory

-- the machine at power-on takes some, and so do the first state that is kept under a number and the counts of a profile
abbrev pub takes_memory : Option StateOrder → DebugState → Bool
takes_memory (Some Power) d = true
takes_memory (Some (Keep n)) d = not (is_some (kept_under n d.kept))
takes_memory (Some (Profile limit conditions)) d = true
takes_memory order d = false

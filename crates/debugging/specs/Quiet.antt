-- Parts of a run, as the code makes them.
use Rattle.std.specs.Prelude.{◌≡◌, ◌⊎◌, ◌<◌, ◌≤◌, ◌*◌, ◌%◌, ◌==◌, ◌&&◌, ◌||◌, not, ℕ, Bool, true, false, List, length}
use Rattle.std.specs.List.{list_any}
use Rattle.memory_map.specs.State.{BusState}
use Rattle.memory_map.specs.Bus.{peeked}
use Rattle.memory_map.specs.BusRules.{bus_rules}
use Rattle.sm83_processor.specs.Steps.{after_steps}
use Rattle.sm83_processor.specs.declared.processor.Processor.{Processor}
use Rattle.machine.specs.Machine.{cycles_of_steps}
use Rattle.debugger.specs.History.{DebuggerState, after_run}
use Rattle.debugging.specs.Run.{RunState, after_steps_of, is_before, is_changed, is_place, processor_of}
use Rattle.debugging.specs.Accesses.{is_reading, is_writing}
use Rattle.debugging.specs.declared.order.Condition.{Condition}
use Rattle.debugging.specs.declared.order.Condition.TheVariants.{At, Runs, Reads, Writes, Changes}
use Rattle.debugging.specs.declared.aims.Aim.{Aim}
use Rattle.debugging.specs.declared.aims.Aim.TheVariants.{Place, Opcode, Read, Write, Other}

-- no transfer can end in so many steps: each takes six M-cycles at most, and a transfer that begins 1,024
pub record IsQuietFor (steps : ℕ) (p : Processor BusState) : Type 0 where
  pub few : steps ≤ 170
  pub far : (p.memory.serial.serial.cycles_left ≡ 0) ⊎ (6 * steps < p.memory.serial.serial.cycles_left)

-- so many steps were made, and none but the first began at such a place
pub record Makes (is_there : Processor BusState → Bool) (steps : ℕ) (old new : RunState) : Type 0 where
  pub some : 0 < steps
  pub past : (k : ℕ) → 0 < k → k < steps → is_there (after_steps bus_rules k (processor_of old)) ≡ false
  pub run : new ≡ after_steps_of steps old

-- fewer than `limit` steps were made, and the next one would begin at such a place
pub record StopsBefore (is_there : Processor BusState → Bool) (limit : ℕ) (old new : RunState) : Type 0 where
  pub steps : ℕ
  pub made : Makes is_there steps old new
  pub due : steps < limit
  pub there : is_there (processor_of new) ≡ true

-- the same of a debugger alone, and the M-cycles of the steps
pub record MakesIn (is_there : Processor BusState → Bool) (steps cycles : ℕ) (old new : DebuggerState) : Type 0 where
  pub some : 0 < steps
  pub past : (k : ℕ) → 0 < k → k < steps → is_there (after_steps bus_rules k old.machine.processor) ≡ false
  pub run : new ≡ after_run steps old
  pub took : cycles ≡ cycles_of_steps bus_rules steps old.machine.processor

pub record StopsIn (is_there : Processor BusState → Bool) (limit cycles : ℕ) (old new : DebuggerState) : Type 0 where
  pub steps : ℕ
  pub made : MakesIn is_there steps cycles old new
  pub due : steps < limit
  pub there : is_there new.machine.processor ≡ true

-- PC is one of these addresses, in whichever bank
abbrev pub has_pc : List ℕ → Processor BusState → Bool
has_pc addresses p = list_any (λ address. address == p.registers.pc) addresses

-- what a run looks for, before its next step
abbrev pub is_aim : Processor BusState → Aim → Bool
is_aim p (Place place) = is_place p place
is_aim p (Opcode opcode) = is_before opcode p
is_aim p (Read span) = is_reading span p
is_aim p (Write span) = is_writing span p
is_aim p (Other address byte) = is_changed address byte p

abbrev pub is_any : List Aim → Processor BusState → Bool
is_any aims p = list_any (is_aim p) aims

-- of a run that begins with this memory
abbrev pub aim_of : BusState → Condition → Aim
aim_of began (At place) = Place place
aim_of began (Runs opcode) = Opcode opcode
aim_of began (Reads span) = Read span
aim_of began (Writes span) = Write span
aim_of began (Changes address) = Other address (peeked began address)

-- the ROM has so many bytes, two banks at least
pub record HasRom (rom : ℕ) (b : BusState) : Type 0 where
  pub size : rom ≡ length b.banks.rom
  pub least : 32768 ≤ rom

-- the processor waits: it is locked, stopped with no button that is looked at, or halted with no interrupt that waits
abbrev pub is_waiting : Processor BusState → Bool
is_waiting p =
    p.state.locked
    || ((p.state.stopped && bus_rules.value_at p.memory 0xFF00 % 16 == 15) || (p.state.halted && bus_rules.pending_interrupts p.memory == 0))

-- an interrupt waits and is let in
abbrev pub is_interrupted : Processor BusState → Bool
is_interrupted p = p.state.ime && not (bus_rules.pending_interrupts p.memory == 0)

-- neither, and this opcode is at PC
abbrev pub is_next : ℕ → Processor BusState → Bool
is_next opcode p = not (is_waiting p) && (not (is_interrupted p) && bus_rules.value_at p.memory p.registers.pc == opcode)

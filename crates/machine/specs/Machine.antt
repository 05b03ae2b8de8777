-- The whole machine: power-on, steps, frames and inputs.
use Rattle.std.specs.Prelude.{◌≡◌, ℕ, zero, suc, ◌+◌, ◌-◌, ◌<◌, ◌≤◌, true, false, not, ◌==◌, List, fold, nat_lt, if◌then◌else◌, ⊤}
use Rattle.std.specs.Fn.{iterate}
use Rattle.sm83_alu.specs.declared.register_file.Registers.{Registers}
use Rattle.cartridge.specs.Header.{stored_checksum_of, has_battery}
use Rattle.bank_controllers.specs.declared.clock.ClockRegisters.{ClockRegisters}
use Rattle.bank_controllers.specs.CartridgeState.{CartridgeState, second}
use Rattle.memory_map.specs.State.{BusState, bus_at_power_on}
use Rattle.memory_map.specs.Bus.{buttons_set}
use Rattle.sm83_processor.specs.declared.processor.Processor.{Processor}
use Rattle.sm83_processor.specs.declared.processor.ProcessorState.{ProcessorState}
use Rattle.machine.specs.declared.input.Input.{Input as PassingInput}
use Rattle.machine.specs.declared.input.Input.TheVariants.{Frame as FrameInput, Seconds as SecondsInput}
use Rattle.sm83_processor.specs.Rules.{Rules}
use Rattle.sm83_processor.specs.Steps.{step_of, after_steps}
use Rattle.memory_map.specs.BusRules.{bus_rules}

-- the processor with the bus, and the M-cycles by which the last frame was longer than a frame
pub record MachineState : Type 0 where
  pub processor : Processor BusState
  pub overrun : ℕ

-- the 144 rows of the picture, of 160 shades each
abbrev pub picture_rows : MachineState → List (List ℕ)
picture_rows m = m.processor.memory.picture.picture.rows

-- ---- power-on: Pan Docs, "Power-Up Sequence", column DMG

-- H and C are clear where the header's checksum is 00
abbrev pub registers_at_power_on : ℕ → Registers
registers_at_power_on checksum = let some = not (checksum == 0) in record {
  a = 0x01;
  flags = record { zero = true; subtract = false; half_carry = some; carry = some };
  b = 0x00;
  c = 0x13;
  d = 0x00;
  e = 0xD8;
  h = 0x01;
  l = 0x4D;
  sp = 0xFFFE;
  pc = 0x0100;
}

-- nothing is set (fixed profile)
abbrev pub state_at_power_on : ProcessorState
state_at_power_on = record { ime = false; ime_pending = false; halted = false; stopped = false; locked = false; halt_bug = false }

-- of an accepted image
abbrev pub start : List ℕ → MachineState
start image = record {
  processor = record { registers = registers_at_power_on (stored_checksum_of image); state = state_at_power_on; memory = bus_at_power_on image };
  overrun = 0;
}

-- ---- frames of 154 lines of 114 M-cycles: Pan Docs, "Rendering"

abbrev pub cycles_per_frame : ℕ
cycles_per_frame = 17556

-- the M-cycles of the next n steps
unfoldable pub cycles_of_steps : {M : Type 0} → Rules M → ℕ → Processor M → ℕ
cycles_of_steps rules zero p = 0
cycles_of_steps rules (suc n) p = (step_of rules p).stepped.cycles + cycles_of_steps rules n (step_of rules p).after

-- a processor, and the M-cycles by which it is over a frame
pub record Ahead (M : Type 0) : Type 0 where
  pub after : Processor M
  pub overrun : ℕ

-- steps until 17,556 M-cycles have passed, of which `passed` have; at most k steps
unfoldable pub steps_until : {M : Type 0} → Rules M → ℕ → ℕ → Processor M → Ahead M
steps_until rules zero passed p = record { after = p; overrun = passed - cycles_per_frame }
steps_until rules (suc k) passed p =
    if nat_lt passed cycles_per_frame
    then steps_until rules k (passed + (step_of rules p).stepped.cycles) (step_of rules p).after
    else record { after = p; overrun = passed - cycles_per_frame }

-- a frame from an overrun: each step takes an M-cycle at least, so 17,556 steps are enough
abbrev pub frame_of : {M : Type 0} → Rules M → ℕ → Processor M → Ahead M
frame_of rules overrun p = steps_until rules cycles_per_frame overrun p

-- `steps` is the least number of steps with which the overrun of before and their M-cycles make 17,556 or more; the
-- processor is after these steps, and what is more is the new overrun
pub record IsFrame {M : Type 0} (rules : Rules M) (overrun : ℕ) (old : Processor M) (new : Ahead M) : Type 0 where
  pub steps : ℕ
  pub enough : cycles_per_frame ≤ overrun + cycles_of_steps rules steps old
  pub least : (k : ℕ) → k < steps → overrun + cycles_of_steps rules k old < cycles_per_frame
  pub reached : new.after ≡ after_steps rules steps old
  pub excess : new.overrun ≡ overrun + cycles_of_steps rules steps old - cycles_per_frame
  pub few : new.overrun < 6

-- ---- the power switch

abbrev pub with_ram : List ℕ → MachineState → MachineState
with_ram ram m =
    let memory : BusState = m.processor.memory in
    record m { processor = record m.processor { memory = record memory { banks = record memory.banks { ram = ram } } } }

abbrev pub with_clocks : (live latched : ClockRegisters) → MachineState → MachineState
with_clocks live latched m =
    let memory : BusState = m.processor.memory in
    let banks : CartridgeState = memory.banks in
    record m {
      processor = record m.processor {
        memory = record memory { banks = record banks { state = record banks.state { clock = live; latched = latched } } };
      };
    }

-- off and on again: what a battery keeps, the RAM and the clocks, is as it was, and all else as at power-on
unfoldable pub powered : MachineState → MachineState
powered m =
    let banks : CartridgeState = m.processor.memory.banks in
    if has_battery banks.rom
    then with_clocks banks.state.clock banks.state.latched (with_ram banks.ram (start banks.rom))
    else start banks.rom

-- ---- inputs

-- a frame with buttons, seconds of the clock, the power switch, or another machine of the same cartridge
pub data Input : Type 0 where
  Frame : ℕ → Input
  Seconds : ℕ → Input
  Power : Input
  State : MachineState → Input

-- the input of the code's type, which has those that pass time
abbrev pub as_input : PassingInput → Input
as_input (FrameInput buttons) = Frame buttons
as_input (SecondsInput n) = Seconds n

-- a frame or seconds
abbrev pub PassesTime : Input → Type 0
PassesTime (Frame buttons) = ⊤
PassesTime (Seconds n) = ⊤
PassesTime Power = ⊥
PassesTime (State machine) = ⊥

-- the buttons are set, then a frame passes
abbrev pub frame_played : ℕ → MachineState → MachineState
frame_played buttons m =
    let begun = record m.processor { memory = buttons_set buttons m.processor.memory } in
    let end = frame_of bus_rules m.overrun begun in
    record { processor = end.after; overrun = end.overrun }

-- n seconds of the MBC3 clock
abbrev pub seconds_passed : ℕ → MachineState → MachineState
seconds_passed n m =
    record m { processor = record m.processor { memory = record m.processor.memory { banks = iterate second n m.processor.memory.banks } } }

abbrev pub applied : Input → MachineState → MachineState
applied (Frame buttons) m = frame_played buttons m
applied (Seconds n) m = seconds_passed n m
applied Power m = powered m
applied (State machine) m = machine

-- the machine after a list of inputs
unfoldable pub after : MachineState → List Input → MachineState
after m inputs = fold (λ n input. applied input n) m inputs

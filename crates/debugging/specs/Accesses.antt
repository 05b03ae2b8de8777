-- What the next step reads and writes of memory, by the addresses that the program names: Pan Docs, "CPU Instruction Set" and "OAM DMA Transfer".
-- That an address is an echo of another one, or that a mode closes it, changes nothing.
use Rattle.std.specs.Prelude.{ℕ, ◌+◌, ◌*◌, ◌-◌, ◌==◌, ◌&&◌, ◌||◌, Bool, false, List, [], ◌∷◌, nat_le, nat_lt, slice_index, if◌then◌else◌}
use Rattle.std.specs.Fn.{iterate}
use Rattle.std.specs.List.{list_any}
use Rattle.opcode_table.specs.Table.{instruction_of}
use Rattle.opcode_table.specs.declared.instruction.Instr.{Instr}
use Rattle.opcode_table.specs.declared.instruction.Instr.TheVariants as instr
use Rattle.opcode_table.specs.declared.instruction.Operand8.{Operand8}
use Rattle.opcode_table.specs.declared.instruction.Operand8.TheVariants as operand
use Rattle.sm83_alu.specs.declared.register_file.Registers.{Registers}
use Rattle.sm83_processor.specs.Execution.{high_address}
use Rattle.sm83_processor.specs.RegisterOperations.{condition_holds, indirect_address, next_address}
use Rattle.sm83_processor.specs.RegisterPairs.{hl_of}
use Rattle.sm83_processor.specs.Rules.{Rules}
use Rattle.sm83_processor.specs.Steps.{Step, step_of}
use Rattle.sm83_processor.specs.declared.processor.Processor.{Processor}
use Rattle.sm83_processor.specs.declared.step.StepKind.{StepKind}
use Rattle.sm83_processor.specs.declared.step.StepKind.TheVariants.{Dispatch, Wait, Ran}
use Rattle.memory_map.specs.Bus.{pending_interrupts, read_at}
use Rattle.memory_map.specs.State.{BusState}
use Rattle.debugging.specs.declared.order.Span.{Span}

-- from the first of these addresses to the last
abbrev pub is_in : Span → ℕ → Bool
is_in span address = nat_le span.first address && nat_le address span.last

-- ---- what an instruction reads, beside its own bytes

abbrev pub operand_reads : Operand8 → Registers → List ℕ
operand_reads operand.B r = []
operand_reads operand.C r = []
operand_reads operand.D r = []
operand_reads operand.E r = []
operand_reads operand.H r = []
operand_reads operand.L r = []
operand_reads operand.AtHl r = hl_of r ∷ []
operand_reads operand.A r = []

-- the low byte at SP, then the high byte
abbrev pub popped_reads : Registers → List ℕ
popped_reads r = r.sp ∷ next_address r.sp ∷ []

-- with the registers of before
abbrev pub instruction_reads : Instr → Registers → List ℕ
instruction_reads instr.Nop r = []
instruction_reads (instr.StoreSp w) r = []
instruction_reads instr.Stop r = []
instruction_reads (instr.JumpRelative b) r = []
instruction_reads (instr.JumpRelativeIf c b) r = []
instruction_reads (instr.LoadRegister16 p w) r = []
instruction_reads (instr.AddHl p) r = []
instruction_reads (instr.StoreAccumulator p) r = []
instruction_reads (instr.LoadAccumulator p) r = indirect_address p r ∷ []
instruction_reads (instr.IncrementRegister16 p) r = []
instruction_reads (instr.DecrementRegister16 p) r = []
instruction_reads (instr.Increment p) r = operand_reads p r
instruction_reads (instr.Decrement p) r = operand_reads p r
instruction_reads (instr.LoadByte p b) r = []
instruction_reads (instr.Accumulator o) r = []
instruction_reads (instr.Load to from) r = operand_reads from r
instruction_reads instr.Halt r = []
instruction_reads (instr.Operate o p) r = operand_reads p r
instruction_reads (instr.OperateByte o b) r = []
instruction_reads (instr.ReturnIf c) r = if condition_holds c r.flags then popped_reads r else []
instruction_reads (instr.StoreHigh b) r = []
instruction_reads (instr.AddSp b) r = []
instruction_reads (instr.LoadHigh b) r = high_address b ∷ []
instruction_reads (instr.LoadHlSp b) r = []
instruction_reads (instr.Pop p) r = popped_reads r
instruction_reads instr.Return r = popped_reads r
instruction_reads instr.ReturnFromInterrupt r = popped_reads r
instruction_reads instr.JumpHl r = []
instruction_reads instr.LoadSpHl r = []
instruction_reads (instr.JumpIf c w) r = []
instruction_reads instr.StoreHighC r = []
instruction_reads (instr.StoreAt w) r = []
instruction_reads instr.LoadHighC r = high_address r.c ∷ []
instruction_reads (instr.LoadAt w) r = w ∷ []
instruction_reads (instr.Jump w) r = []
instruction_reads instr.DisableInterrupts r = []
instruction_reads instr.EnableInterrupts r = []
instruction_reads (instr.CallIf c w) r = []
instruction_reads (instr.Push p) r = []
instruction_reads (instr.Call w) r = []
instruction_reads (instr.Restart n) r = []
instruction_reads (instr.Shift h p) r = operand_reads p r
instruction_reads (instr.TestBit n p) r = operand_reads p r
instruction_reads (instr.ResetBit n p) r = operand_reads p r
instruction_reads (instr.SetBit n p) r = operand_reads p r
instruction_reads (instr.Undefined o) r = []

-- a wait and a dispatch read nothing
abbrev pub step_reads : StepKind → Registers → List ℕ
step_reads (Dispatch vector) r = []
step_reads Wait r = []
step_reads (Ran seen) r = instruction_reads (instruction_of (slice_index seen.bytes 0) (slice_index seen.bytes 1) (slice_index seen.bytes 2)) r

-- ---- what a step writes, and what a copy to OAM reads and writes in its M-cycles

-- A bus that is only looked at. Of a step it is noted whether it writes one of these addresses, and the copy that then runs, and whether that
-- reads or writes one of them. `dma` is the register, and `dma_copied` how many bytes are copied.
pub record Watched : Type 0 where
  pub bus : BusState
  pub span : Span
  pub dma : ℕ
  pub dma_copied : ℕ
  pub is_read : Bool
  pub is_written : Bool

-- a write to DMA, at FF46, begins a copy
abbrev pub write_noted : (address value : ℕ) → Watched → Watched
write_noted address value w = record w {
  is_written = w.is_written || is_in w.span address;
  dma = if address == 0xFF46 then value else w.dma;
  dma_copied = if address == 0xFF46 then 0 else w.dma_copied;
}

-- where the next byte of a copy comes from, as the bus has it
abbrev pub source_of : (dma copied : ℕ) → ℕ
source_of dma copied = 256 * (if nat_lt dma 0xE0 then dma else dma - 0x20) + copied

-- an M-cycle: a copy runs while fewer than 160 bytes are copied
abbrev pub cycle_noted : Watched → Watched
cycle_noted w =
    if nat_lt w.dma_copied 160
    then record w {
      is_read = w.is_read || is_in w.span (source_of w.dma w.dma_copied);
      is_written = w.is_written || is_in w.span (0xFE00 + w.dma_copied);
      dma_copied = w.dma_copied + 1;
    }
    else w

-- No step reads after it has written, so what reads give is what they give as it begins.
abbrev pub watching : Rules Watched
watching = record {
  value_at = λ w address. read_at w.bus address;
  written = λ w address value. write_noted address value w;
  pending_interrupts = λ w. pending_interrupts w.bus;
  acknowledged = λ w bit. w;
  passed = λ w cycles. iterate cycle_noted cycles w;
}

-- how many bytes of a copy are made; 160 where none runs
abbrev pub copied_of : BusState → ℕ
copied_of b = if nat_lt b.control.dma_copied 160 then b.control.dma_copied else 160

abbrev pub watched : Span → Processor BusState → Processor Watched
watched span p = record {
  registers = p.registers;
  state = p.state;
  memory = record { bus = p.memory; span = span; dma = p.memory.control.dma; dma_copied = copied_of p.memory; is_read = false; is_written = false };
}

-- the next step over a bus that is watched
abbrev pub watched_step : Span → Processor BusState → Step Watched
watched_step span p = step_of watching (watched span p)

-- ---- steps

-- the next step writes one of these addresses
abbrev pub is_writing : Span → Processor BusState → Bool
is_writing span p = (watched_step span p).after.memory.is_written

-- the next step reads one of them, beside the instruction's own bytes
abbrev pub is_reading : Span → Processor BusState → Bool
is_reading span p =
    let s = watched_step span p in list_any (is_in span) (step_reads s.stepped.kind p.registers) || s.after.memory.is_read

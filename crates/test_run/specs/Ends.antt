-- Where nothing can happen any more, or a result stands in the memory.
use Rattle.std.specs.Prelude.{ℕ, ◌+◌, ◌/◌, ◌%◌, Bool, not, nat_le, nat_lt, ◌==◌, ◌&&◌, ◌||◌, if◌then◌else◌, Option, Some, None}
use Rattle.memory_map.specs.State.{BusState}
use Rattle.memory_map.specs.Bus.{peeked}
use Rattle.sm83_processor.specs.declared.processor.Processor.{Processor}
use Rattle.sm83_processor.specs.declared.processor.ProcessorState.{ProcessorState}
use Rattle.machine.specs.Watched.{Seen}
use Rattle.test_run.specs.declared.ends.End.{End}
use Rattle.test_run.specs.declared.ends.End.TheVariants.{Locked, Breakpoint, Loop, Memory}

-- the next step is an instruction, and no interrupt can come
abbrev pub is_still : ProcessorState → Bool
is_still s = not (s.ime || s.ime_pending || s.halted || s.stopped || s.locked || s.halt_bug)

-- so many bytes from there lie in ROM, in WRAM or in HRAM, where only the processor changes them
abbrev pub is_in_place : (pc bytes : ℕ) → Bool
is_in_place pc bytes = nat_le (pc + bytes) 0x8000 || (nat_le 0xC000 pc && nat_le (pc + bytes) 0xE000) || (nat_le 0xFF80 pc && nat_le (pc + bytes) 0xFFFF)

-- `JR` by minus two, from the byte after it
abbrev pub jumps_by : BusState → ℕ → Bool
jumps_by b pc = is_in_place pc 2 && peeked b pc == 0x18 && peeked b ((pc + 1) % 65536) == 0xFE

-- `JP` to its own address, whose low byte comes first
abbrev pub jumps_at : BusState → ℕ → Bool
jumps_at b pc = is_in_place pc 3 && peeked b pc == 0xC3 && peeked b ((pc + 1) % 65536) == pc % 256 && peeked b ((pc + 2) % 65536) == pc / 256

abbrev pub jumps_to_itself : Processor BusState → Bool
jumps_to_itself p =
    is_still p.state && (jumps_by p.memory p.registers.pc || jumps_at p.memory p.registers.pc)

-- no byte is being sent
abbrev pub is_idle : Processor BusState → Bool
is_idle p = p.memory.serial.serial.cycles_left == 0

-- the three bytes that stand behind the status of a test
abbrev pub has_signature : BusState → Bool
has_signature b = peeked b 0xA001 == 0xDE && peeked b 0xA002 == 0xB0 && peeked b 0xA003 == 0x61

-- the result of a test: a status behind which the signature stands; one of 80 and above is no result
abbrev pub result_of : BusState → Option ℕ
result_of b = if has_signature b && nat_lt (peeked b 0xA000) 0x80 then Some (peeked b 0xA000) else None

-- nothing can happen any more
abbrev pub end_without_result : Processor BusState → Option End
end_without_result p = if p.state.locked then Some Locked else (if jumps_to_itself p then Some Loop else None)

abbrev pub end_with : Option ℕ → Processor BusState → Option End
end_with (Some status) p = Some (Memory status)
end_with None p = end_without_result p

-- why a test ends after a frame: a result stands in the memory, or nothing can happen any more
abbrev pub end_of : Processor BusState → Option End
end_of p = if is_idle p then end_with (result_of p.memory) p else None

-- why it ends in a frame or after it
abbrev pub end_seen : Seen → Option End
end_seen seen = if seen.breaks then Some Breakpoint else end_of seen.end.processor

-- What is sent over the serial port: Pan Docs, "Serial Data Transfer". A byte leaves while a transfer runs, and it is sent when the
-- transfer is complete. Since its bits are not seen shifting, it is the byte in SB as the last M-cycle of the transfer begins.
use Rattle.std.specs.Prelude.{ℕ, zero, suc, List, [], ◌∷◌, ◌++◌, ◌==◌, if◌then◌else◌}
use Rattle.timer_unit.specs.declared.serial.SerialState.{SerialState}
use Rattle.timer_unit.specs.Serial.{tick, unrequested}
use Rattle.sm83_processor.specs.Rules.{Rules}
use Rattle.sm83_processor.specs.Steps.{step_of}
use Rattle.sm83_processor.specs.declared.processor.Processor.{Processor}
use Rattle.memory_map.specs.State.{BusState}
use Rattle.memory_map.specs.BusRules.{bus_rules}

-- the byte that is sent in the next M-cycle: SB, if it is the last of a transfer
abbrev pub sent_in_cycle : SerialState → List ℕ
sent_in_cycle s = if s.cycles_left == 1 then s.sb ∷ [] else []

-- the bytes that are sent in the next n M-cycles, in which no register is written
unfoldable pub sent_in_cycles : ℕ → SerialState → List ℕ
sent_in_cycles zero s = []
sent_in_cycles (suc n) s = sent_in_cycle s ++ sent_in_cycles n (tick (unrequested s)).serial

-- the same accesses of a memory in which no M-cycle passes
abbrev pub untimed : {M : Type 0} → Rules M → Rules M
untimed rules = record {
  value_at = rules.value_at;
  written = rules.written;
  pending_interrupts = rules.pending_interrupts;
  acknowledged = rules.acknowledged;
  passed = λ memory cycles. memory;
}

-- the serial port when the accesses of the next step are made, and its M-cycles begin to pass
abbrev pub serial_at_accesses : Processor BusState → SerialState
serial_at_accesses p = (step_of (untimed bus_rules) p).after.memory.serial.serial

-- the bytes that are sent in the next step: one at most, since a transfer takes 1,024 M-cycles and a step 6 at most
abbrev pub sent_in_step : Processor BusState → List ℕ
sent_in_step p = sent_in_cycles (step_of bus_rules p).stepped.cycles (serial_at_accesses p)

-- the bytes that are sent in the next n steps, the first of them first
unfoldable pub sent_in : ℕ → Processor BusState → List ℕ
sent_in zero p = []
sent_in (suc n) p = sent_in_step p ++ sent_in n (step_of bus_rules p).after

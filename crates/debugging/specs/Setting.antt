-- A byte or a register that a line sets.
use Rattle.std.specs.Prelude.{ℕ, ◌/◌, ◌%◌, ◌==◌, List, codes, length, if◌then◌else◌, Option, None, Some}
use Rattle.std.specs.Str.{bytes_eq}
use Rattle.sm83_alu.specs.Flags.{flags_of}
use Rattle.sm83_alu.specs.declared.register_file.Registers.{Registers}
use Rattle.memory_map.specs.Bus.{written}
use Rattle.machine.specs.Machine.{MachineState}
use Rattle.machine_lines.specs.Words.{address_of, hex_of}
use Rattle.debugging.specs.declared.registers.RegisterValue.{RegisterValue}
use Rattle.debugging.specs.declared.registers.RegisterValue.TheVariants.{A, F, B, C, D, E, H, L, Af, Bc, De, Hl, Sp, Pc}

-- ---- words

-- a register of a byte
abbrev pub byte_register : List ℕ → ℕ → Option RegisterValue
byte_register name value =
    if bytes_eq name (codes "A") then Some (A value)
    else (if bytes_eq name (codes "F") then Some (F value)
    else (if bytes_eq name (codes "B") then Some (B value)
    else (if bytes_eq name (codes "C") then Some (C value)
    else (if bytes_eq name (codes "D") then Some (D value)
    else (if bytes_eq name (codes "E") then Some (E value)
    else (if bytes_eq name (codes "H") then Some (H value)
    else (if bytes_eq name (codes "L") then Some (L value) else None)))))))

-- a register of two bytes, or two registers of a byte
abbrev pub word_register : List ℕ → ℕ → Option RegisterValue
word_register name value =
    if bytes_eq name (codes "AF") then Some (Af value)
    else (if bytes_eq name (codes "BC") then Some (Bc value)
    else (if bytes_eq name (codes "DE") then Some (De value)
    else (if bytes_eq name (codes "HL") then Some (Hl value)
    else (if bytes_eq name (codes "SP") then Some (Sp value)
    else (if bytes_eq name (codes "PC") then Some (Pc value) else None)))))

abbrev pub with_value : (ℕ → Option RegisterValue) → Option ℕ → Option RegisterValue
with_value register None = None
with_value register (Some value) = register value

-- a name of one letter and one digit or two, or a longer name and one digit to four
abbrev pub register_of : List ℕ → List ℕ → Option RegisterValue
register_of name value =
    if length name == 1 then with_value (byte_register name) (hex_of 2 value) else with_value (word_register name) (address_of value)

-- ---- what is set

-- the low four bits of F are always 0
abbrev pub with_register : RegisterValue → Registers → Registers
with_register (A value) r = record r { a = value }
with_register (F value) r = record r { flags = flags_of value }
with_register (B value) r = record r { b = value }
with_register (C value) r = record r { c = value }
with_register (D value) r = record r { d = value }
with_register (E value) r = record r { e = value }
with_register (H value) r = record r { h = value }
with_register (L value) r = record r { l = value }
with_register (Af value) r = record r { a = value / 256; flags = flags_of (value % 256) }
with_register (Bc value) r = record r { b = value / 256; c = value % 256 }
with_register (De value) r = record r { d = value / 256; e = value % 256 }
with_register (Hl value) r = record r { h = value / 256; l = value % 256 }
with_register (Sp value) r = record r { sp = value }
with_register (Pc value) r = record r { pc = value }

abbrev pub register_set : RegisterValue → MachineState → MachineState
register_set value m = record m { processor = record m.processor { registers = with_register value m.processor.registers } }

-- the byte is written as by an instruction at this moment, and no M-cycle passes
abbrev pub byte_set : (address byte : ℕ) → MachineState → MachineState
byte_set address byte m = record m { processor = record m.processor { memory = written address byte m.processor.memory } }

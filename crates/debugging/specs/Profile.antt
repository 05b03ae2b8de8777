-- How long the instructions of a run took, by the byte of ROM with which each begins.
use Rattle.std.specs.Prelude.{ℕ, zero, suc, ◌+◌, ◌/◌, ◌%◌, ◌==◌, not, Bool, List, [], ◌∷◌, ◌++◌, codes, decimal, replicate, slice_index, slice_set, if◌then◌else◌, Option, None, Some}
use Rattle.std.specs.List.{count_by}
use Rattle.exact_text.specs.Hex.{word_text}
use Rattle.bank_controllers.specs.CartridgeState.{place_of}
use Rattle.bank_controllers.specs.Places.{Place, Rom, Ram, HalfByte, Register, Nowhere}
use Rattle.memory_map.specs.State.{BusState}
use Rattle.memory_map.specs.BusRules.{bus_rules}
use Rattle.sm83_processor.specs.Steps.{step_of}
use Rattle.sm83_processor.specs.declared.processor.Processor.{Processor}
use Rattle.sm83_processor.specs.declared.step.StepKind.{StepKind}
use Rattle.sm83_processor.specs.declared.step.StepKind.TheVariants.{Dispatch, Wait, Ran}
use Rattle.machine_lines.specs.Texts.{count_line}

-- the M-cycles of the instructions that begin with each byte of ROM, and those of all other steps
pub record Cycles : Type 0 where
  pub rom : List ℕ
  pub elsewhere : ℕ

-- nothing was run yet, of a ROM of so many bytes
abbrev pub no_cycles : ℕ → Cycles
no_cycles size = record { rom = replicate size 0; elsewhere = 0 }

-- ---- steps

abbrev pub rom_offset : Place → Option ℕ
rom_offset (Rom offset) = Some offset
rom_offset (Ram offset) = None
rom_offset (HalfByte offset) = None
rom_offset (Register register) = None
rom_offset Nowhere = None

-- the byte of ROM that PC is at
abbrev pub rom_at : Processor BusState → Option ℕ
rom_at p = rom_offset (place_of p.memory.banks p.registers.pc)

-- the byte of ROM with which the instruction begins that a step runs; none where it waits, takes an interrupt or runs one of RAM
abbrev pub begins_at : StepKind → Option ℕ → Option ℕ
begins_at (Ran seen) at = at
begins_at Wait at = None
begins_at (Dispatch vector) at = None

abbrev pub with_cycles : Option ℕ → ℕ → Cycles → Cycles
with_cycles None n c = record c { elsewhere = c.elsewhere + n }
with_cycles (Some offset) n c = record c { rom = slice_set c.rom offset (slice_index c.rom offset + n) }

abbrev pub with_step : Processor BusState → Cycles → Cycles
with_step p c = with_cycles (begins_at (step_of bus_rules p).stepped.kind (rom_at p)) (step_of bus_rules p).stepped.cycles c

-- n steps more
unfoldable pub with_steps : ℕ → Processor BusState → Cycles → Cycles
with_steps zero p c = c
with_steps (suc n) p c = with_steps n (step_of bus_rules p).after (with_step p c)

-- ---- text

-- where a byte of ROM is seen: the first 16 KiB at 0000, each other bank at 4000
abbrev pub address_of_offset : ℕ → ℕ
address_of_offset offset = if offset / 16384 == 0 then offset else 16384 + offset % 16384

-- BANK:ADDR and the M-cycles
abbrev pub cycles_line : ℕ → ℕ → List ℕ
cycles_line offset n = word_text (offset / 16384) ++ (codes ":" ++ (word_text (address_of_offset offset) ++ (codes " " ++ (decimal n ++ codes "\n"))))

-- a line for each byte, from this offset on, with which an instruction began
unfoldable pub cycles_lines : (offset : ℕ) → List ℕ → List ℕ
cycles_lines offset [] = []
cycles_lines offset (n ∷ rest) = (if n == 0 then [] else cycles_line offset n) ++ cycles_lines (offset + 1) rest

abbrev pub is_some_cycle : ℕ → Bool
is_some_cycle n = not (n == 0)

-- how many lines follow, and they
abbrev pub rom_text : List ℕ → List ℕ
rom_text rom = count_line (codes "profile") (count_by is_some_cycle rom) ++ cycles_lines 0 rom

abbrev pub cycles_text : Cycles → List ℕ
cycles_text c = count_line (codes "elsewhere") c.elsewhere ++ rom_text c.rom

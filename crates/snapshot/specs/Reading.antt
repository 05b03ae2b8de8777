-- What the bytes of a snapshot stand for, whether they are legal or not.
use Rattle.std.specs.Prelude.{ℕ, ◌+◌, ◌*◌, ◌/◌, ◌%◌, Bool, List, length, map, slice_index, slice_range, ◌==◌, if◌then◌else◌}
use Rattle.std.specs.List.{range_with_len}
use Rattle.sm83_alu.specs.Flags.{flags_of}
use Rattle.cartridge.specs.declared.controller.Controller.{Controller}
use Rattle.bank_controllers.specs.declared.clock.ClockRegisters.{ClockRegisters}
use Rattle.picture_unit.specs.Picture.{PictureUnit}
use Rattle.memory_map.specs.State.{BusState}
use Rattle.memory_map.specs.declared.region.Region.{Region}
use Rattle.memory_map.specs.declared.region.Region.TheVariants.{Vram, Wram, Oam, Hram, Sound, CartRam}
use Rattle.memory_map.specs.Stores.{region_filled}
use Rattle.sm83_processor.specs.declared.processor.ProcessorState.{ProcessorState}
use Rattle.machine.specs.declared.machine_without_memory.MachineWithoutMemory.{MachineWithoutMemory}
use Rattle.machine.specs.Machine.{MachineState, start}
use Rattle.machine.specs.MachineStores.{restored}
use Rattle.snapshot.specs.Table.{kind_of_image}
use Rattle.snapshot.specs.Layout.{at}

abbrev pub word_at : List ℕ → (offset : ℕ) → ℕ
word_at bytes offset = slice_index bytes offset + 256 * slice_index bytes (offset + 1)

-- whether the bit of this weight is set
abbrev pub has : (byte weight : ℕ) → Bool
has byte weight = byte / weight % 2 == 1

abbrev pub processor_of : ℕ → ProcessorState
processor_of byte = record {
  ime = has byte 1;
  ime_pending = has byte 2;
  halted = has byte 4;
  stopped = has byte 8;
  locked = has byte 16;
  halt_bug = has byte 32;
}

abbrev pub clock_at : List ℕ → (offset : ℕ) → ClockRegisters
clock_at bytes offset = record {
  seconds = slice_index bytes offset;
  minutes = slice_index bytes (offset + 1);
  hours = slice_index bytes (offset + 2);
  day_low = slice_index bytes (offset + 3);
  day_high = slice_index bytes (offset + 4);
}

-- of a cartridge with this controller
abbrev pub registers_in : Controller → List ℕ → MachineWithoutMemory
registers_in kind bytes = record {
  registers = record {
    a = slice_index bytes at.a;
    flags = flags_of (slice_index bytes at.f);
    b = slice_index bytes at.b;
    c = slice_index bytes at.c;
    d = slice_index bytes at.d;
    e = slice_index bytes at.e;
    h = slice_index bytes at.h;
    l = slice_index bytes at.l;
    sp = word_at bytes at.sp;
    pc = word_at bytes at.pc;
  };
  state = processor_of (slice_index bytes at.processor);
  overrun = slice_index bytes at.overrun;
  bus = record {
    ie = slice_index bytes at.ie;
    interrupt_flag = slice_index bytes at.interrupt_flag;
    buttons = slice_index bytes at.buttons;
    p1_select = slice_index bytes at.p1_select;
    timer = record {
      counter = word_at bytes at.counter;
      tima = slice_index bytes at.tima;
      tma = slice_index bytes at.tma;
      tac = slice_index bytes at.tac;
    };
    serial = record {
      sb = slice_index bytes at.sb;
      sc = slice_index bytes at.sc;
      cycles_left = word_at bytes at.cycles_left;
    };
    dma = slice_index bytes at.dma;
    dma_copied = slice_index bytes at.dma_copied;
    picture = record {
      lcdc = slice_index bytes at.lcdc;
      stat = slice_index bytes at.stat;
      scy = slice_index bytes at.scy;
      scx = slice_index bytes at.scx;
      lyc = slice_index bytes at.lyc;
      bgp = slice_index bytes at.bgp;
      obp0 = slice_index bytes at.obp0;
      obp1 = slice_index bytes at.obp1;
      wy = slice_index bytes at.wy;
      wx = slice_index bytes at.wx;
      ly = slice_index bytes at.ly;
      m_cycle = slice_index bytes at.m_cycle;
      window_counter = slice_index bytes at.window_counter;
      seen = has (slice_index bytes at.seen_and_signal) 1;
      signal = has (slice_index bytes at.seen_and_signal) 2;
    };
    banks = record {
      kind = kind;
      ram_enabled = slice_index bytes at.ram_enabled == 1;
      rom_bank = word_at bytes at.rom_bank;
      ram_bank = slice_index bytes at.ram_bank;
      mode = slice_index bytes at.mode == 1;
      clock = clock_at bytes at.clock;
      latched = clock_at bytes at.latched;
    };
  };
}

-- a shade of a byte of four
abbrev pub shade_in : (byte place : ℕ) → ℕ
shade_in byte place =
    if place == 0 then byte / 64 else (if place == 1 then byte / 16 % 4 else (if place == 2 then byte / 4 % 4 else byte % 4))

-- row y of a picture of 40 bytes a row
unfoldable pub row_in : (picture : List ℕ) (y : ℕ) → List ℕ
row_in picture y = map (λ x. shade_in (slice_index picture (40 * y + x / 4)) (x % 4)) (range_with_len 0 160)

unfoldable pub rows_in : List ℕ → List (List ℕ)
rows_in picture = map (row_in picture) (range_with_len 0 144)

abbrev pub with_rows : List (List ℕ) → MachineState → MachineState
with_rows rows m =
    let memory : BusState = m.processor.memory in
    let picture : PictureUnit = memory.picture.picture in
    record m {
      processor = record m.processor { memory = record memory { picture = record memory.picture { picture = record picture { rows = rows } } } };
    }

-- the machine with these bytes in a region
abbrev pub with_region : Region → List ℕ → MachineState → MachineState
with_region region bytes m = record m { processor = record m.processor { memory = region_filled region bytes m.processor.memory } }

-- the machine with the stores of a snapshot
abbrev pub with_stores : List ℕ → MachineState → MachineState
with_stores bytes m =
    with_region CartRam (slice_range bytes at.ram (length bytes))
    (with_rows (rows_in (slice_range bytes at.rows at.ram))
    (with_region Sound (slice_range bytes at.sound at.rows)
    (with_region Hram (slice_range bytes at.hram at.sound)
    (with_region Oam (slice_range bytes at.oam at.hram)
    (with_region Wram (slice_range bytes at.wram at.oam)
    (with_region Vram (slice_range bytes at.vram at.wram) m))))))

-- the machine of this image that a snapshot stands for
unfoldable pub machine_in : (image bytes : List ℕ) → MachineState
machine_in image bytes = with_stores bytes (restored (registers_in (kind_of_image image) bytes) (start image))

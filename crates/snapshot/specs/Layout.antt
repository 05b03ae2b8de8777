-- Where each field of a snapshot begins.
use Rattle.std.specs.Prelude.{ℕ}

pub record Offsets : Type 0 where
  -- GBSNAP01
  pub magic : ℕ
  -- A F B C D E H L, SP and PC
  pub a : ℕ
  pub f : ℕ
  pub b : ℕ
  pub c : ℕ
  pub d : ℕ
  pub e : ℕ
  pub h : ℕ
  pub l : ℕ
  pub sp : ℕ
  pub pc : ℕ
  -- IME, ime_pending, halted, stopped, locked and halt_bug as bits 0 to 5; the overrun
  pub processor : ℕ
  pub overrun : ℕ
  -- IE, IF, the buttons, the select bits of P1
  pub ie : ℕ
  pub interrupt_flag : ℕ
  pub buttons : ℕ
  pub p1_select : ℕ
  -- the timer's counter, TIMA, TMA and TAC
  pub counter : ℕ
  pub tima : ℕ
  pub tma : ℕ
  pub tac : ℕ
  -- SB, SC and the M-cycles left of a serial transfer
  pub sb : ℕ
  pub sc : ℕ
  pub cycles_left : ℕ
  -- the DMA register and the bytes copied
  pub dma : ℕ
  pub dma_copied : ℕ
  -- the registers of the picture unit
  pub lcdc : ℕ
  pub stat : ℕ
  pub scy : ℕ
  pub scx : ℕ
  pub lyc : ℕ
  pub bgp : ℕ
  pub obp0 : ℕ
  pub obp1 : ℕ
  pub wy : ℕ
  pub wx : ℕ
  -- the line, its M-cycle, the window counter; that WY was seen and the STAT signal as bits 0 and 1
  pub ly : ℕ
  pub m_cycle : ℕ
  pub window_counter : ℕ
  pub seen_and_signal : ℕ
  -- the controller: its kind, RAM enabled, the ROM bank, the RAM bank (MBC1's upper bits, MBC3's select), MBC1's mode or the armed latch
  pub kind : ℕ
  pub ram_enabled : ℕ
  pub rom_bank : ℕ
  pub ram_bank : ℕ
  pub mode : ℕ
  -- the live clock and the latched one, five bytes each: seconds, minutes, hours, day low, day high
  pub clock : ℕ
  pub latched : ℕ
  -- 61 bytes 0
  pub unused : ℕ
  -- the stores: VRAM, WRAM, OAM, HRAM, the sound bytes, the rows of the picture and the cartridge's RAM
  pub vram : ℕ
  pub wram : ℕ
  pub oam : ℕ
  pub hram : ℕ
  pub sound : ℕ
  pub rows : ℕ
  pub ram : ℕ

abbrev pub at : Offsets
at = record {
  magic = 0;
  a = 8;
  f = 9;
  b = 10;
  c = 11;
  d = 12;
  e = 13;
  h = 14;
  l = 15;
  sp = 16;
  pc = 18;
  processor = 20;
  overrun = 21;
  ie = 22;
  interrupt_flag = 23;
  buttons = 24;
  p1_select = 25;
  counter = 26;
  tima = 28;
  tma = 29;
  tac = 30;
  sb = 31;
  sc = 32;
  cycles_left = 33;
  dma = 35;
  dma_copied = 36;
  lcdc = 37;
  stat = 38;
  scy = 39;
  scx = 40;
  lyc = 41;
  bgp = 42;
  obp0 = 43;
  obp1 = 44;
  wy = 45;
  wx = 46;
  ly = 47;
  m_cycle = 48;
  window_counter = 49;
  seen_and_signal = 50;
  kind = 51;
  ram_enabled = 52;
  rom_bank = 53;
  ram_bank = 55;
  mode = 56;
  clock = 57;
  latched = 62;
  unused = 67;
  vram = 128;
  wram = 8320;
  oam = 16512;
  hram = 16672;
  sound = 16799;
  rows = 16847;
  ram = 22607;
}

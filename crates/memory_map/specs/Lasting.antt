-- Bytes that quiet M-cycles leave as they are: for the calls that pass many of them fast.
use Rattle.std.specs.Prelude.{◌≡◌, ℕ, ◌≤◌, Bool, true, false, ◌==◌, ◌||◌}
use Rattle.std.specs.Fn.{iterate}
use Rattle.memory_map.specs.declared.place.Place.{Place}
use Rattle.memory_map.specs.declared.place.Place.TheVariants.{Cartridge, Vram, Wram, Oam, Unused, Sound, Register, Hram, InterruptEnable}
use Rattle.memory_map.specs.State.{BusState}
use Rattle.memory_map.specs.Bus.{read_at}
use Rattle.memory_map.specs.Ticks.{tick}
use Rattle.memory_map.specs.Quiet.{AreQuietOn}

-- the byte at an address is the same after quiet M-cycles
abbrev pub IsLasting : ℕ → Type 0
IsLasting a = (n : ℕ) (b : BusState) → AreQuietOn n b → read_at (iterate tick n b) a ≡ read_at b a

-- the byte at an address is the same after each of the next m M-cycles, as long as they are quiet
abbrev pub LastsFor : (m a : ℕ) → BusState → Type 0
LastsFor m a b = (k : ℕ) → k ≤ m → AreQuietOn k b → read_at (iterate tick k b) a ≡ read_at b a

-- All that is neither VRAM nor OAM, which modes close, nor a register that counts; of the registers P1 and IF.
abbrev pub lasts : Place → Bool
lasts (Cartridge a) = true
lasts (Vram i) = false
lasts (Wram i) = true
lasts (Oam i) = false
lasts Unused = true
lasts (Sound i) = true
lasts (Register a) = a == 0xFF00 || a == 0xFF0F
lasts (Hram i) = true
lasts InterruptEnable = true

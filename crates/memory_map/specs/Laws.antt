-- The memory map as a table of rows, which public functions state of `place`.
use Rattle.std.specs.Prelude.{◌≡◌, ℕ, ◌-◌, ◌≤◌, List, [], ◌∷◌, All}
use Rattle.memory_map.specs.declared.place.Place.{Place}
use Rattle.memory_map.specs.declared.place.Place.TheVariants.{Cartridge, Vram, Wram, Oam, Unused, Sound, Register, Hram, InterruptEnable}
use Rattle.memory_map.specs.Map.{place}

-- the addresses from `first` to `last` are the place that `at` gives of an address
pub record MapRow : Type 0 where
  pub first : ℕ
  pub last : ℕ
  pub at : ℕ → Place

abbrev pub map_rows : List MapRow
map_rows =
    record { first = 0x0000; last = 0x7FFF; at = Cartridge }
    ∷ record { first = 0x8000; last = 0x9FFF; at = λ a. Vram (a - 0x8000) }
    ∷ record { first = 0xA000; last = 0xBFFF; at = Cartridge }
    ∷ record { first = 0xC000; last = 0xDFFF; at = λ a. Wram (a - 0xC000) }
    ∷ record { first = 0xE000; last = 0xFDFF; at = λ a. Wram (a - 0xE000) }
    ∷ record { first = 0xFE00; last = 0xFE9F; at = λ a. Oam (a - 0xFE00) }
    ∷ record { first = 0xFEA0; last = 0xFEFF; at = λ a. Unused }
    ∷ record { first = 0xFF00; last = 0xFF0F; at = Register }
    ∷ record { first = 0xFF10; last = 0xFF3F; at = λ a. Sound (a - 0xFF10) }
    ∷ record { first = 0xFF40; last = 0xFF7F; at = Register }
    ∷ record { first = 0xFF80; last = 0xFFFE; at = λ a. Hram (a - 0xFF80) }
    ∷ record { first = 0xFFFF; last = 0xFFFF; at = λ a. InterruptEnable }
    ∷ []

abbrev pub HasItsPlace : MapRow → Type 0
HasItsPlace r = (a : ℕ) → r.first ≤ a → a ≤ r.last → place a ≡ r.at a

-- each address of a row has the row's place
abbrev pub EachRowIsMapped : Type 0
EachRowIsMapped = All HasItsPlace map_rows

-- Laws of cartridges that public functions state.
use Rattle.std.specs.Prelude.{◌≡◌, ◌≢◌, ℕ, ◌+◌, ◌-◌, ◌*◌, ◌%◌, ◌<◌, ◌≤◌, true, List, [], ◌∷◌, length}
use Rattle.cartridge.specs.declared.controller.Controller.{Controller}
use Rattle.cartridge.specs.declared.controller.Controller.TheVariants.{NoMbc, Mbc1, Mbc2, Mbc3, Mbc3Clock, Mbc5}
use Rattle.bank_controllers.specs.Places.{Rom}
use Rattle.bank_controllers.specs.CartridgeState.{CartridgeState, IsLegalCartridge, place_of, read_at, written}

-- ---- the banks that MBC1 can't show

pub record Write : Type 0 where
  pub address : ℕ
  pub value : ℕ

-- after these writes, the first of them first
abbrev pub after_writes : List Write → CartridgeState → CartridgeState
after_writes [] b = b
after_writes (w ∷ writes) b = after_writes writes (written w.address w.value b)

-- 4000-7FFF show this bank of 16 KiB
abbrev pub ShowsAt4000 : ℕ → CartridgeState → Type 0
ShowsAt4000 bank b = (a : ℕ) → 0x4000 ≤ a → a < 0x8000 → place_of b a ≡ Rom (16384 * bank + (a - 0x4000))

-- 4000-7FFF show a bank that is none of these four
pub record ShowsNoneOfFour (b : CartridgeState) : Type 0 where
  pub bank : ℕ
  pub present : bank < 128
  pub not_0 : bank ≢ 0
  pub not_32 : bank ≢ 32
  pub not_64 : bank ≢ 64
  pub not_96 : bank ≢ 96
  pub shown : ShowsAt4000 bank b

-- whatever is written to an MBC1 of 128 banks: Pan Docs, "MBC1", "2000-3FFF - ROM Bank Number"
abbrev pub Mbc1NeverShowsFourBanks : Type 0
Mbc1NeverShowsFourBanks = (b : CartridgeState) (writes : List Write) →
    IsLegalCartridge b → b.state.kind ≡ Mbc1 → length b.rom ≡ 128 * 16384 → ShowsNoneOfFour (after_writes writes b)

-- ---- RAM

-- A000-BFFF show RAM: it is there, it is enabled, and no register of a clock is selected
abbrev pub IsRamShown : Controller → CartridgeState → Type 0
IsRamShown NoMbc b = 8192 ≤ length b.ram
IsRamShown Mbc1 b = (8192 ≤ length b.ram) × (b.state.ram_enabled ≡ true)
IsRamShown Mbc2 b = b.state.ram_enabled ≡ true
IsRamShown Mbc3 b = (8192 ≤ length b.ram) × (b.state.ram_enabled ≡ true) × (b.state.ram_bank < 8)
IsRamShown Mbc3Clock b = (8192 ≤ length b.ram) × (b.state.ram_enabled ≡ true) × (b.state.ram_bank < 8)
IsRamShown Mbc5 b = (8192 ≤ length b.ram) × (b.state.ram_enabled ≡ true)

-- what a read gives of a value that RAM took: MBC2 keeps four bits, and the upper ones read 1
abbrev pub kept_of : Controller → ℕ → ℕ
kept_of NoMbc value = value
kept_of Mbc1 value = value
kept_of Mbc2 value = 0xF0 + value % 16
kept_of Mbc3 value = value
kept_of Mbc3Clock value = value
kept_of Mbc5 value = value

-- what is written is read there, and what is shown of another place reads as before
pub record TakesTheWrite (b : CartridgeState) (a value : ℕ) : Type 0 where
  pub there : read_at (written a value b) a ≡ kept_of b.state.kind value
  pub elsewhere : (other : ℕ) → 0xA000 ≤ other → other < 0xC000 → place_of b other ≢ place_of b a → read_at (written a value b) other ≡ read_at b other

abbrev pub RamReadsWhatWasWritten : Type 0
RamReadsWhatWasWritten = (b : CartridgeState) (a value : ℕ) →
    IsLegalCartridge b → IsRamShown b.state.kind b → 0xA000 ≤ a → a < 0xC000 → TakesTheWrite b a value

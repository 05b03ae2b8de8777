-- An object DMA as a whole, which a public function states: Pan Docs, "OAM DMA Transfer".
use Rattle.std.specs.Prelude.{◌≡◌, ℕ, ◌+◌, ◌-◌, ◌*◌, ◌<◌, ◌≤◌, false, length, slice_index, nat_lt, if◌then◌else◌}
use Rattle.std.specs.Fn.{iterate}
use Rattle.memory_map.specs.State.{BusState}
use Rattle.memory_map.specs.Bus.{peeked, read_at, written}
use Rattle.memory_map.specs.Ticks.{tick, copies}

-- the first address of page xx: E0 to FF are read as C0 to DF (fixed profile), so that it is ROM, cartridge RAM, VRAM or WRAM
abbrev pub source_page : (xx : ℕ) → ℕ
source_page xx = 256 * (if nat_lt xx 0xE0 then xx else xx - 0x20)

-- n M-cycles after xx was written to FF46, in which nothing else is written
unfoldable pub copying_for : (n xx : ℕ) → BusState → BusState
copying_for n xx b = iterate tick n (written 0xFF46 xx b)

-- Each of 160 M-cycles copies one byte of the source page, as it is when the copy begins. Until the last of them OAM reads FF.
pub record CopiesThePage (xx : ℕ) (b : BusState) : Type 0 where
  pub copied : (n i : ℕ) → n ≤ 160 → i < n → slice_index (copying_for n xx b).picture.picture.oam i ≡ peeked b (source_page xx + i)
  pub not_yet : (n i : ℕ) → n ≤ 160 → n ≤ i → slice_index (copying_for n xx b).picture.picture.oam i ≡ slice_index b.picture.picture.oam i
  pub closed : (n a : ℕ) → n < 160 → 0xFE00 ≤ a → a < 0xFEA0 → read_at (copying_for n xx b) a ≡ 0xFF
  pub over : copies (copying_for 160 xx b) ≡ false

abbrev pub OamHoldsTheSourcePage : Type 0
OamHoldsTheSourcePage = (xx : ℕ) (b : BusState) → xx < 256 → length b.picture.picture.oam ≡ 160 → CopiesThePage xx b

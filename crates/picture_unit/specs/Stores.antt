-- VRAM and OAM, by the offset from where they begin: Pan Docs, "Accessing VRAM and OAM".
use Rattle.std.specs.Prelude.{ℕ, List, slice_index, slice_set, Bool, ◌||◌, ◌==◌, if◌then◌else◌}
use Rattle.picture_unit.specs.declared.state.PictureState.{PictureState}
use Rattle.picture_unit.specs.declared.region.PictureRegion.{PictureRegion}
use Rattle.picture_unit.specs.declared.region.PictureRegion.TheVariants.{Vram, Oam}
use Rattle.picture_unit.specs.Picture.{PictureUnit, mode}

-- mode 3 closes VRAM
unfoldable pub is_vram_closed : PictureState → Bool
is_vram_closed p = mode p == 3

-- modes 2 and 3 close OAM, and nothing else spoils it (fixed profile)
unfoldable pub is_oam_closed : PictureState → Bool
is_oam_closed p = mode p == 2 || mode p == 3

-- what is read: FF where the bytes are closed (and 00 beyond them)
unfoldable pub byte_read : (is_closed : Bool) → List ℕ → (offset : ℕ) → ℕ
byte_read is_closed bytes offset = if is_closed then 255 else slice_index bytes offset

-- A write to VRAM is ignored where VRAM is closed (and beyond it).
unfoldable pub vram_written : (offset value : ℕ) → PictureUnit → PictureUnit
vram_written offset value s =
    if is_vram_closed s.state then s else record s { vram = slice_set s.vram offset value }

-- a write to OAM that no mode closes, as the object DMA makes it; beyond OAM it is ignored
unfoldable pub oam_copied : (offset value : ℕ) → PictureUnit → PictureUnit
oam_copied offset value s = record s { oam = slice_set s.oam offset value }

-- A write to OAM is ignored where OAM is closed.
unfoldable pub oam_written : (offset value : ℕ) → PictureUnit → PictureUnit
oam_written offset value s = if is_oam_closed s.state then s else oam_copied offset value s

-- the bytes of a region
unfoldable pub region_of : PictureUnit → PictureRegion → List ℕ
region_of s Vram = s.vram
region_of s Oam = s.oam

unfoldable pub region_length : PictureRegion → ℕ
region_length Vram = 8192
region_length Oam = 160

unfoldable pub region_filled : PictureUnit → PictureRegion → List ℕ → PictureUnit
region_filled s Vram bytes = record s { vram = bytes }
region_filled s Oam bytes = record s { oam = bytes }

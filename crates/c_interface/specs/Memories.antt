-- The memories of a machine by their numbers in C.
use Rattle.std.specs.Prelude.{◌≡◌, ◌⊎◌, ◌≤◌, ◌<◌, ℕ, List, Option, None, Some, ◌==◌, length, take, if◌then◌else◌}
use Rattle.memory_map.specs.State.{BusState}
use Rattle.memory_map.specs.Stores.{region_of}
use Rattle.memory_map.specs.declared.region.Region.{Region}
use Rattle.memory_map.specs.declared.region.Region.TheVariants.{Vram, Wram, Oam, Hram, CartRam}
use Rattle.refusals.specs.Codes.{done}
use Rattle.c_interface.specs.Codes.{wrong_length}

abbrev pub region_at : ℕ → Option Region
region_at which = if which == 0 then Some Vram else (if which == 1 then Some Wram else (if which == 2 then Some Oam else
    (if which == 3 then Some Hram else (if which == 4 then Some CartRam else None))))

-- as many of the first bytes are copied as there is room for, where there are so many
abbrev pub IsCopied : (from old new : List ℕ) → (code : ℕ) → Type 0
IsCopied from old new code = ((code ≡ done) × ((new ≡ take (length old) from) × (length old ≤ length from))) ⊎
    ((code ≡ wrong_length) × ((new ≡ old) × (length from < length old)))

-- the first bytes of a memory are copied; a number that is none is refused as a wrong length is
abbrev pub IsRegionAnswer : Option Region → BusState → (old new : List ℕ) → (code : ℕ) → Type 0
IsRegionAnswer None memory old new code = (code ≡ wrong_length) × (new ≡ old)
IsRegionAnswer (Some region) memory old new code = IsCopied (region_of memory region) old new code

-- Which images are accepted, and why another one is refused. (fixed profile: neither the checksum nor the ROM code
-- is enforced)
use Rattle.std.specs.Prelude.{ℕ, ◌≤◌, List, length, Option, Some, None, is_some, IsSome, nat_le, if◌then◌else◌}
use Rattle.std.specs.Option.{option_map_or}
use Rattle.cartridge.specs.declared.controller.Controller.{Controller}
use Rattle.cartridge.specs.declared.error.CartError.{CartError}
use Rattle.cartridge.specs.declared.error.CartError.TheVariants.{Length, Kind, RamCode, TooManyBanks}
use Rattle.cartridge.specs.Controllers.{most_banks_of, ram_of}
use Rattle.cartridge.specs.Header.{kind_of, ram_code_of, controller_of, banks_of, most_banks, asked_ram}
use Rattle.cartridge.specs.Length.{IsImageLength, is_image_length}

pub record IsAccepted (image : List ℕ) : Type 0 where
  pub length : IsImageLength (length image)
  pub kind : IsSome (controller_of image)
  pub ram : IsSome (asked_ram image)
  pub banks : banks_of image ≤ most_banks image

-- of an image whose length and type are good
abbrev pub refusal_under : List ℕ → Controller → Option CartError
refusal_under image controller =
    if is_some (ram_of controller (ram_code_of image))
    then (if nat_le (banks_of image) (most_banks_of controller) then None else Some (TooManyBanks (banks_of image)))
    else Some (RamCode (ram_code_of image))

-- the first rule that an image breaks: its length, its type, its RAM code, its number of banks
abbrev pub refusal_of : List ℕ → Option CartError
refusal_of image =
    if is_image_length (length image)
    then option_map_or (refusal_under image) (controller_of image) (Some (Kind (kind_of image)))
    else Some (Length (length image))

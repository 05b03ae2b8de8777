-- An image is accepted exactly where no rule refuses it, and what an accepted one has.
use Rattle.std.proofs.Common.{◌≡◌, ℕ, suc, ◌^◌, ◌<◌, ◌≤◌, List, length, Bool, true, false, arith, inl, inr, refl, lit<}
use Rattle.std.specs.Prelude.{Option, Some, None, IsSome, is_some, nat_le, ◌==◌, if◌then◌else◌}
use Rattle.std.specs.List.{Contains}
use Rattle.std.specs.Option.{option_and_then, option_map_or, unwrap_or}
use Rattle.std.proofs.lemmas.Bool.{cases_lt}
use Rattle.std.proofs.lemmas.Bool.Decides.{nat_tests}
use Rattle.std.proofs.Math.Nat.{pow-suc, pow-le-pow_right}
use Rattle.cartridge.specs.declared.controller.Controller.{Controller}
use Rattle.cartridge.specs.declared.controller.Controller.TheVariants.{NoMbc, Mbc1, Mbc2, Mbc3, Mbc3Clock, Mbc5}
use Rattle.cartridge.specs.declared.error.CartError.{CartError}
use Rattle.cartridge.specs.declared.error.CartError.TheVariants.{Length, Kind, RamCode, TooManyBanks}
use Rattle.cartridge.specs.Accepted.{IsAccepted, refusal_of, refusal_under}
use Rattle.cartridge.specs.Controllers.{most_banks_of, ram_of, coded_ram, ram_lengths}
use Rattle.cartridge.specs.Header.{kind_of, controller_of, ram_code_of, banks_of}
use Rattle.cartridge.specs.Length.{IsBankCount, is_image_length}
use Rattle.cartridge.proofs.Lengths.{is_image_length-sound, is_image_length-complete}

-- ---- accepted is not refused

abbrev ram_refusal : Option ℕ → ℕ → ℕ → ℕ → Option CartError
ram_refusal r banks most code = if is_some r then (if nat_le banks most then None else Some (TooManyBanks banks)) else Some (RamCode code)

by_ram : (r : Option ℕ) (banks most code : ℕ)
    → ram_refusal r banks most code ≡ None → IsSome r × (banks ≤ most)
by_ram None banks most code h = cc
by_ram (Some x) banks most code h =
    elim (cases_lt most banks) [
      | inl above ↦ let many : nat_le banks most ≡ false = grind (arith, nat_tests) in let refused = rw many at h in cc
      | inr within ↦ (refl, within)
    ]

by_controller : (c : Option Controller) (image : List ℕ) → option_map_or (refusal_under image) c (Some (Kind (kind_of image))) ≡ None
    → IsSome c × IsSome (option_and_then (λ k. ram_of k (ram_code_of image)) c) × (banks_of image ≤ option_map_or most_banks_of c 0)
by_controller None image h = cc
by_controller (Some c) image h =
    let rest = by_ram (ram_of c (ram_code_of image)) (banks_of image) (most_banks_of c) (ram_code_of image) h in
    (refl, rest.0, rest.1)

by_length : (b : Bool) (c : Option CartError) (n : ℕ) → (if b then c else Some (Length n)) ≡ None → (b ≡ true) × (c ≡ None)
by_length true c n h = (refl, h)
by_length false c n h = cc

pub accepted_unrefused : (image : List ℕ) → refusal_of image ≡ None → IsAccepted image
accepted_unrefused image h =
    let good = by_length (is_image_length (length image)) _ (length image) h in
    let rest = by_controller (controller_of image) image good.1 in record {
      length = is_image_length-sound (length image) good.0;
      kind = rest.0;
      ram = rest.1;
      banks = rest.2;
    }

to_ram : (r : Option ℕ) (banks most code : ℕ) → IsSome r → banks ≤ most
    → ram_refusal r banks most code ≡ None
to_ram r banks most code some within =
    let few : nat_le banks most ≡ true = grind (arith, nat_tests) in
    rw (some, few) refl

to_controller : (c : Option Controller) (image : List ℕ) → IsSome c → IsSome (option_and_then (λ k. ram_of k (ram_code_of image)) c) → banks_of image ≤ option_map_or most_banks_of c 0
    → option_map_or (refusal_under image) c (Some (Kind (kind_of image))) ≡ None
to_controller None image known ram banks = cc
to_controller (Some c) image known ram banks = to_ram (ram_of c (ram_code_of image)) (banks_of image) (most_banks_of c) (ram_code_of image) ram banks

pub refusal_of-accepted : (image : List ℕ) → IsAccepted image → refusal_of image ≡ None
refusal_of-accepted image is =
    rw (is_image_length-complete (length image) is.length) (to_controller (controller_of image) image is.kind is.ram is.banks)

-- ---- what an accepted image has

reach : (c : Option Controller) → option_map_or most_banks_of c 0 ≤ 512
reach None = omega arith
reach (Some NoMbc) = omega arith
reach (Some Mbc1) = omega arith
reach (Some Mbc2) = omega arith
reach (Some Mbc3) = omega arith
reach (Some Mbc3Clock) = omega arith
reach (Some Mbc5) = omega arith

exponent_within : (k : ℕ) → 2 ^ k ≤ 512 → k ≤ 9
exponent_within k within =
    elim (cases_lt 9 k) [
      | inl above ↦
          let ten : 10 ≤ k = omega arith in
          let two : 0 < 2 = omega arith in
          let more : 2 ^ 10 ≤ 2 ^ k = pow-le-pow_right two ten in
          absurd (omega (arith, more, within))
      | inr at_most ↦ at_most
    ]

pub bank_count : (image : List ℕ) → IsAccepted image → IsBankCount (banks_of image)
bank_count image is =
    let banks : banks_of image ≡ 2 ^ suc is.length.0 = omega (arith, is.length.1, pow-suc 2 is.length.0) in
    let few : 2 ^ suc is.length.0 ≤ 512 = omega (arith, banks, is.banks, reach (controller_of image)) in record {
      exponent = suc is.length.0;
      least = omega arith;
      most = exponent_within (suc is.length.0) few;
      power = banks;
    }

chosen : (b : Bool) (o p : Option ℕ) → Contains ram_lengths (unwrap_or o 0) → Contains ram_lengths (unwrap_or p 0) → Contains ram_lengths (unwrap_or (if b then o else p) 0)
chosen true o p first second = first
chosen false o p first second = second

coded_listed : (code : ℕ) → Contains ram_lengths (unwrap_or (coded_ram code) 0)
coded_listed code =
    chosen (code == 0x00) _ _ (0, lit< tt, refl) (chosen (code == 0x02) _ _ (2, lit< tt, refl)
    (chosen (code == 0x03) _ _ (3, lit< tt, refl) (chosen (code == 0x04) _ _ (5, lit< tt, refl)
    (chosen (code == 0x05) _ _ (4, lit< tt, refl) (0, lit< tt, refl)))))

pub ram_listed : (c : Controller) (code : ℕ) → Contains ram_lengths (unwrap_or (ram_of c code) 0)
ram_listed NoMbc code = coded_listed code
ram_listed Mbc1 code = coded_listed code
ram_listed Mbc2 code = (1, lit< tt, refl)
ram_listed Mbc3 code = coded_listed code
ram_listed Mbc3Clock code = coded_listed code
ram_listed Mbc5 code = coded_listed code

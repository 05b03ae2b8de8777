-- Which bytes quiet M-cycles leave as they are.
use Rattle.std.proofs.Common.{◌≡◌, ◌∙◌, ℕ, ◌+◌, Bool, true, false, eqb-true, refl, sym, ap, arith}
use Rattle.std.specs.Prelude.{◌==◌, ◌||◌, if◌then◌else◌}
use Rattle.memory_map.specs.declared.place.Place.{Place}
use Rattle.memory_map.specs.declared.place.Place.TheVariants.{Cartridge, Vram, Wram, Oam, Unused, Sound, Register, Hram, InterruptEnable}
use Rattle.memory_map.specs.Map.{place}
use Rattle.memory_map.specs.State.{BusState}
use Rattle.memory_map.specs.Bus.{interrupt_flag, register_value, value_at, is_closed, read_at}
use Rattle.memory_map.specs.Quiet.{AreQuietOn}
use Rattle.memory_map.specs.Lasting.{IsLasting, lasts}
use Rattle.memory_map.proofs.QuietCycles.{gone_on, quiet_pass}
use Rattle.memory_map.proofs.LateBus.{requested_after}

same_joypad : (n : ℕ) (b : BusState) → register_value (gone_on n b) 0xFF00 ≡ register_value b 0xFF00
unfolding register_value
same_joypad n b = refl

abbrev flag_with : Bool → BusState → ℕ
flag_with r b = 0xE0 + interrupt_flag (record b { timer = record b.timer { requested = r } })

same_interrupts : (n : ℕ) (b : BusState) → AreQuietOn n b → register_value (gone_on n b) 0xFF0F ≡ register_value b 0xFF0F
unfolding register_value
same_interrupts n b quiet = ap (λ (r : Bool). flag_with r b) (requested_after n b quiet)

same_register : (a : ℕ) (n : ℕ) (b : BusState) → (joypad interrupts : Bool) → (a == 0xFF00) ≡ joypad → (a == 0xFF0F) ≡ interrupts → (joypad || interrupts) ≡ true
    → AreQuietOn n b → register_value (gone_on n b) a ≡ register_value b a
same_register a n b true interrupts e f sure quiet =
    let here = eqb-true a 0xFF00 e in
    ap (register_value (gone_on n b)) here ∙ same_joypad n b ∙ sym (ap (register_value b) here)
same_register a n b false true e f sure quiet =
    let here = eqb-true a 0xFF0F f in
    ap (register_value (gone_on n b)) here ∙ same_interrupts n b quiet ∙ sym (ap (register_value b) here)
same_register a n b false false e f sure quiet = cc

abbrev byte_of : BusState → Place → ℕ
byte_of b p = if is_closed b p then 0xFF else value_at b p

same_byte : (p : Place) (n : ℕ) (b : BusState) → lasts p ≡ true → AreQuietOn n b → byte_of (gone_on n b) p ≡ byte_of b p
same_byte (Cartridge a) n b sure quiet = refl
same_byte (Vram i) n b sure quiet = cc
same_byte (Wram i) n b sure quiet = refl
same_byte (Oam i) n b sure quiet = cc
same_byte Unused n b sure quiet = refl
same_byte (Sound i) n b sure quiet = refl
same_byte (Register a) n b sure quiet = same_register a n b (a == 0xFF00) (a == 0xFF0F) refl refl sure quiet
same_byte (Hram i) n b sure quiet = refl
same_byte InterruptEnable n b sure quiet = refl

pub is_lasting : (a : ℕ) → lasts (place a) ≡ true → IsLasting a
unfolding read_at
is_lasting a sure n b quiet = ap (λ (c : BusState). byte_of c (place a)) (sym (quiet_pass n n b (omega arith) quiet)) ∙ same_byte (place a) n b sure quiet

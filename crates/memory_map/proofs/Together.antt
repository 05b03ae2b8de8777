-- n M-cycles of all units are n of the timer, then n of the serial port, then n of the copy and the picture unit, which
-- sees what is copied.
use Rattle.std.proofs.Common.{◌≡◌, ℕ, suc, ◌+◌, ◌-◌, ◌<◌, ◌≤◌, true, false, ltb, cond, refl, sym, ap, subst, ◌∙◌, arith, inl, inr}
use Rattle.std.specs.Prelude.{slice_set}
use Rattle.std.specs.Fn.{iterate}
use Rattle.std.proofs.lemmas.Bool.{le-ltb, lt-ltb, cases_lt}
use Rattle.std.proofs.lemmas.Bool.Decides.{nat_tests}
use Rattle.repeated_steps.proofs.Iterates.{iterate-same, iterate-both}
use Rattle.timer_unit.specs.Timer as timer
use Rattle.timer_unit.specs.Serial as serial
use Rattle.memory_map.specs.declared.place.Place.{Place}
use Rattle.memory_map.specs.declared.place.Place.TheVariants.{Cartridge, Vram, Wram, Oam, Unused, Sound, Register, Hram, InterruptEnable}
use Rattle.memory_map.specs.declared.control.Control.{Control}
use Rattle.memory_map.specs.Map.{place}
use Rattle.memory_map.specs.State.{BusState}
use Rattle.memory_map.specs.Bus.{peeked, value_at, with_oam}
use Rattle.memory_map.specs.Ticks.{tick_timer, tick_serial, tick_picture, tick_dma_and_picture, tick, copied_byte, dma_source}

-- ---- the copy reads no register

abbrev after_wram : ℕ → Place
after_wram a =
    cond (ltb a 0xFE00) (Wram (a - 0xE000)) (cond (ltb a 0xFEA0) (Oam (a - 0xFE00)) (cond (ltb a 0xFF00) Unused (cond (ltb a 0xFF10) (Register a)
    (cond (ltb a 0xFF40) (Sound (a - 0xFF10)) (cond (ltb a 0xFF80) (Register a) (cond (ltb a 0xFFFF) (Hram (a - 0xFF80)) InterruptEnable))))))

abbrev after_cart : ℕ → Place
after_cart a = cond (ltb a 0xE000) (Wram (a - 0xC000)) (after_wram a)

abbrev after_vram : ℕ → Place
after_vram a = cond (ltb a 0xC000) (Cartridge a) (after_cart a)

abbrev after_rom : ℕ → Place
after_rom a = cond (ltb a 0xA000) (Vram (a - 0x8000)) (after_vram a)

pub low_place : (P : Place → Type 0) (a : ℕ) → a < 0xE000 → ((i : ℕ) → P (Cartridge i)) → ((i : ℕ) → P (Vram i)) → ((i : ℕ) → P (Wram i)) → P (place a)
low_place P a h cartridge vram wram =
    let low : ltb a 0xE000 ≡ true = lt-ltb a 0xE000 h in
    elim (ltb a 0x8000) as (λ t. P (cond t (Cartridge a) (after_rom a))) [
      | true ↦ cartridge a
      | false ↦ elim (ltb a 0xA000) as (λ t. P (cond t (Vram (a - 0x8000)) (after_vram a))) [
        | true ↦ vram (a - 0x8000)
        | false ↦ elim (ltb a 0xC000) as (λ t. P (cond t (Cartridge a) (after_cart a))) [
          | true ↦ cartridge a
          | false ↦ subst (λ t. P (cond t (Wram (a - 0xC000)) (after_wram a))) (sym low) (wram (a - 0xC000))
        ]
      ]
    ]

pub dma_source_low : (c : Control) → c.dma < 256 → c.dma_copied < 160 → dma_source c < 0xE000
dma_source_low c h k = grind (arith, nat_tests)

peeked_timer : (b : BusState) (t : timer.TimerAndRequest) (a : ℕ) → a < 0xE000 → peeked (record b { timer = t }) a ≡ peeked b a
unfolding peeked
peeked_timer b t a h = low_place (λ p. value_at (record b { timer = t }) p ≡ value_at b p) a h (λ i. refl) (λ i. refl) (λ i. refl)

peeked_serial : (b : BusState) (t : serial.SerialAndRequest) (a : ℕ) → a < 0xE000 → peeked (record b { serial = t }) a ≡ peeked b a
unfolding peeked
peeked_serial b t a h = low_place (λ p. value_at (record b { serial = t }) p ≡ value_at b p) a h (λ i. refl) (λ i. refl) (λ i. refl)

-- ---- timer and serial port go past the others

abbrev pub IsPaged : BusState → Type 0
IsPaged b = b.control.dma < 256

abbrev copying : BusState → ℕ → BusState
copying b v =
    let c = with_oam (slice_set b.picture.picture.oam b.control.dma_copied v) b in
    record c { control = record b.control { dma_copied = b.control.dma_copied + 1 } }

copy_past_timer : (b : BusState) → IsPaged b → tick_timer (tick_dma_and_picture b) ≡ tick_dma_and_picture (tick_timer b)
copy_past_timer b p =
    elim (cases_lt b.control.dma_copied 160) [
      | inl lt ↦
          let on : ltb b.control.dma_copied 160 ≡ true = lt-ltb _ _ lt in
          let same : peeked (tick_timer b) (dma_source b.control) ≡ peeked b (dma_source b.control) = peeked_timer b (timer.tick b.timer) (dma_source b.control) (dma_source_low b.control p lt) in
          ap (λ t. tick_timer (tick_picture (cond t (copied_byte b) b))) on
          ∙ ap (λ (v : ℕ). tick_picture (copying (tick_timer b) v)) (sym same)
          ∙ ap (λ t. tick_picture (cond t (copied_byte (tick_timer b)) (tick_timer b))) (sym on)
      | inr le ↦
          let off : ltb b.control.dma_copied 160 ≡ false = le-ltb _ _ le in
          ap (λ t. tick_timer (tick_picture (cond t (copied_byte b) b))) off ∙ ap (λ t. tick_picture (cond t (copied_byte (tick_timer b)) (tick_timer b))) (sym off)
    ]

copy_past_serial : (b : BusState) → IsPaged b → tick_serial (tick_dma_and_picture b) ≡ tick_dma_and_picture (tick_serial b)
copy_past_serial b p =
    elim (cases_lt b.control.dma_copied 160) [
      | inl lt ↦
          let on : ltb b.control.dma_copied 160 ≡ true = lt-ltb _ _ lt in
          let same : peeked (tick_serial b) (dma_source b.control) ≡ peeked b (dma_source b.control) = peeked_serial b (serial.tick b.serial) (dma_source b.control) (dma_source_low b.control p lt) in
          ap (λ t. tick_serial (tick_picture (cond t (copied_byte b) b))) on
          ∙ ap (λ (v : ℕ). tick_picture (copying (tick_serial b) v)) (sym same)
          ∙ ap (λ t. tick_picture (cond t (copied_byte (tick_serial b)) (tick_serial b))) (sym on)
      | inr le ↦
          let off : ltb b.control.dma_copied 160 ≡ false = le-ltb _ _ le in
          ap (λ t. tick_serial (tick_picture (cond t (copied_byte b) b))) off ∙ ap (λ t. tick_picture (cond t (copied_byte (tick_serial b)) (tick_serial b))) (sym off)
    ]

copying_keeps : (b : BusState) → IsPaged b → IsPaged (tick_dma_and_picture b)
copying_keeps b p = elim (ltb b.control.dma_copied 160) as (λ t. IsPaged (tick_picture (cond t (copied_byte b) b))) [ true ↦ p | false ↦ p ]

pub together : (n : ℕ) (b : BusState) → IsPaged b → iterate tick_dma_and_picture n (iterate tick_serial n (iterate tick_timer n b)) ≡ iterate tick n b
together n b p =
    let two : iterate (λ (b : BusState). tick_serial (tick_timer b)) n b ≡ iterate tick_serial n (iterate tick_timer n b) =
    iterate-both IsPaged tick_timer tick_serial (λ b p. p) (λ b p. p) (λ b p. refl) n b p in
    let three : iterate (λ (b : BusState). tick_dma_and_picture (tick_serial (tick_timer b))) n b ≡ iterate tick_dma_and_picture n (iterate (λ (b : BusState). tick_serial (tick_timer b)) n b) =
    iterate-both IsPaged (λ (b : BusState). tick_serial (tick_timer b)) tick_dma_and_picture (λ b p. p) copying_keeps
    (λ b p. ap tick_serial (copy_past_timer b p) ∙ copy_past_serial (tick_timer b) p) n b p in
    sym (three ∙ ap (iterate tick_dma_and_picture n) two)

-- ---- the copy

pub after_byte : (n : ℕ) (b c d : BusState) → 0 < n → b.control.dma_copied < 160 → c ≡ copied_byte b → d ≡ iterate tick_picture 1 c → iterate tick_dma_and_picture (n - 1) d ≡ iterate tick_dma_and_picture n b
after_byte n b c d pos lt e f =
    let on : ltb b.control.dma_copied 160 ≡ true = lt-ltb _ _ lt in
    let whole : n ≡ suc (n - 1) = omega arith in
    let one : d ≡ tick_dma_and_picture b = f ∙ ap tick_picture (e ∙ ap (λ t. cond t (copied_byte b) b) (sym on)) in
    ap (iterate tick_dma_and_picture (n - 1)) one ∙ sym (ap (λ (k : ℕ). iterate tick_dma_and_picture k b) whole)

pub no_copy : (n : ℕ) (b : BusState) → 160 ≤ b.control.dma_copied → iterate tick_picture n b ≡ iterate tick_dma_and_picture n b
no_copy n b le =
    sym (iterate-same (λ (b : BusState). 160 ≤ b.control.dma_copied) tick_dma_and_picture tick_picture (λ b p. p)
    (λ b p. ap (λ t. tick_picture (cond t (copied_byte b) b)) (le-ltb _ _ p)) n b le)

-- M-cycles without an event request nothing.
use Rattle.std.proofs.Common.{◌≡◌, ℕ, zero, suc, ◌+◌, ◌-◌, ◌*◌, ◌%◌, ◌<◌, Bool, Option, Some, None, true, false, cond, refl, ap, ◌∙◌, arith}
use Rattle.std.specs.Prelude.{◌||◌, ◌==◌, bit_and}
use Rattle.std.specs.Fn.{iterate}
use Rattle.repeated_steps.specs.NextEvent.{IsNextEvent}
use Rattle.repeated_steps.proofs.Iterates.{iterate-keeps}
use Rattle.timer_unit.specs.Timer as timer
use Rattle.timer_unit.specs.Serial as serial
use Rattle.picture_unit.specs.Picture as picture
use Rattle.picture_unit.specs.PictureJump.{IsSteady}
use Rattle.picture_unit.proofs.Steady.{quiet_requests, tick_is_steady}
use Rattle.memory_map.specs.Joypad.{p1_value}
use Rattle.memory_map.specs.State.{BusState}
use Rattle.memory_map.specs.Bus.{digit, pending_interrupts}
use Rattle.memory_map.specs.Ticks.{tick_timer, tick_serial, tick_picture, tick_dma, tick, copied_byte, copies, happens}

left_none : (p q : Bool) → (p || q) ≡ false → p ≡ false
left_none false q e = refl
left_none true q e = e

right_none : (p q : Bool) → (p || q) ≡ false → q ≡ false
right_none false q e = e
right_none true q e = cc

timer_quiet : (t : timer.TimerAndRequest) → timer.signal_falls t ≡ false → (timer.tick t).requested ≡ t.requested
timer_quiet t e =
    let changed : timer.TimerAndRequest = record { timer = record t.timer { counter = (t.timer.counter + 4) % 65536; tac = t.timer.tac }; requested = t.requested } in
    ap (λ b. (cond b (timer.increment_tima changed) changed).requested) e

serial_quiet : (s : serial.SerialAndRequest) → serial.transfer_ends s ≡ false → (serial.tick s).requested ≡ s.requested
serial_quiet s e =
    let goes : serial.SerialAndRequest = record { serial = record s.serial { cycles_left = s.serial.cycles_left - 1 }; requested = s.requested } in
    let ends : serial.SerialAndRequest = record { serial = record { sb = 255; sc = s.serial.sc % 128; cycles_left = 0 }; requested = true } in
    ap (λ b. (cond (s.serial.cycles_left == 0) s (cond b ends goes)).requested) e
    ∙ elim (s.serial.cycles_left == 0) as (λ b. (cond b s goes).requested ≡ s.requested) [ true ↦ refl | false ↦ refl ]

-- the bits of IE and IF by the requests
abbrev bits_of : ℕ → Bool → Bool → Bool → Bool → Bool → ℕ
bits_of ie v l t s j = bit_and ie (digit v + 2 * digit l + 4 * digit t + 8 * digit s + 16 * digit j)

abbrev each : BusState → BusState
each b = record b { timer = timer.tick b.timer; serial = serial.tick b.serial; picture = picture.tick b.picture }

quiet_tick : (b : BusState) → copies b ≡ false → tick b ≡ each b
quiet_tick b e = ap (λ t. tick_picture (cond t (copied_byte (tick_serial (tick_timer b))) (tick_serial (tick_timer b)))) e

pub bus_is_steady : (b : BusState) → IsSteady (tick b).picture
bus_is_steady b = tick_is_steady (tick_dma (tick_serial (tick_timer b))).picture

quiet_pending : (b : BusState) → happens b ≡ false → IsSteady b.picture → pending_interrupts (tick b) ≡ pending_interrupts b
quiet_pending b e steady =
    let copy = left_none (copies b) (timer.signal_falls b.timer || (serial.transfer_ends b.serial || picture.is_entry b.picture)) e in
    let units = right_none (copies b) (timer.signal_falls b.timer || (serial.transfer_ends b.serial || picture.is_entry b.picture)) e in
    let t = timer_quiet b.timer (left_none (timer.signal_falls b.timer) (serial.transfer_ends b.serial || picture.is_entry b.picture) units) in
    let others = right_none (timer.signal_falls b.timer) (serial.transfer_ends b.serial || picture.is_entry b.picture) units in
    let s = serial_quiet b.serial (left_none (serial.transfer_ends b.serial) (picture.is_entry b.picture) others) in
    let p = quiet_requests b.picture (right_none (serial.transfer_ends b.serial) (picture.is_entry b.picture) others) steady in
    let c = b.control in
    let v' = (picture.tick b.picture).vblank in
    let l' = (picture.tick b.picture).stat in
    let t' = (timer.tick b.timer).requested in
    ap pending_interrupts (quiet_tick b copy)
    ∙ ap (λ (r : Bool). bits_of c.ie v' l' t' r c.joypad) s
    ∙ ap (λ (r : Bool). bits_of c.ie v' l' r b.serial.requested c.joypad) t
    ∙ ap (λ (r : Bool). bits_of c.ie v' r b.timer.requested b.serial.requested c.joypad) p.1
    ∙ ap (λ (r : Bool). bits_of c.ie r b.picture.stat b.timer.requested b.serial.requested c.joypad) p.0

quiet_run : (n : ℕ) (b : BusState) → IsSteady b.picture → ((k : ℕ) → k < n → happens (iterate tick k b) ≡ false) → pending_interrupts (iterate tick n b) ≡ pending_interrupts b
quiet_run zero b steady quiet = refl
quiet_run (suc n) b steady quiet =
    quiet_run n (tick b) (bus_is_steady b) (λ k lt. quiet (suc k) (omega arith)) ∙ quiet_pending b (quiet zero (omega arith)) steady

abbrev pub ComesAfter : Option ℕ → ℕ → Type 0
ComesAfter None n = Unit {0}
ComesAfter (Some d) n = n < d

-- The requests stay as they are before the next event.
pub pending_before : (b : BusState) (due : Option ℕ) (n : ℕ) → IsSteady b.picture → IsNextEvent tick happens b due → ComesAfter due n → pending_interrupts (iterate tick n b) ≡ pending_interrupts b
pending_before b None n steady next later = quiet_run n b steady (λ k lt. next k)
pending_before b (Some d) n steady next later = quiet_run n b steady (λ k less. next.2 k (omega (arith, later)))

tick_keeps_p1 : (b : BusState) → p1_value (tick b).control ≡ p1_value b.control
tick_keeps_p1 b = elim (copies b) as (λ t. p1_value (tick_picture (cond t (copied_byte (tick_serial (tick_timer b))) (tick_serial (tick_timer b)))).control ≡ p1_value b.control) [ true ↦ refl | false ↦ refl ]

-- No M-cycle changes P1.
pub ticks_keep_p1 : (n : ℕ) (b : BusState) → p1_value (iterate tick n b).control ≡ p1_value b.control
ticks_keep_p1 n b = iterate-keeps (λ (c : BusState). p1_value c.control ≡ p1_value b.control) tick (λ c e. tick_keeps_p1 c ∙ e) n b refl

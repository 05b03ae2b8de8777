-- The next event of the bus is the earliest of its units'.
use Rattle.std.proofs.Common.{◌≡◌, ℕ, ◌<◌, ◌≤◌, Bool, Option, Some, None, cond, refl, ap, ◌∙◌, arith}
use Rattle.std.specs.Prelude.{◌||◌}
use Rattle.std.specs.Fn.{iterate}
use Rattle.std.proofs.lemmas.Bool.{le-ltb, lt-ltb}
use Rattle.repeated_steps.specs.NextEvent.{IsNextEvent, earlier}
use Rattle.repeated_steps.proofs.Iterates.{iterate-same, iterate-closed}
use Rattle.repeated_steps.proofs.NextEvents.{next-either, next-along}
use Rattle.timer_unit.specs.Timer as timer
use Rattle.timer_unit.specs.Serial as serial
use Rattle.timer_unit.proofs.Requested.{timer_request_added, serial_request_added}
use Rattle.timer_unit.specs.declared.timer.TimerState.{TimerState}
use Rattle.timer_unit.specs.declared.serial.SerialState.{SerialState}
use Rattle.picture_unit.specs.Picture as picture
use Rattle.picture_unit.proofs.PictureLaws.{picture_ticks}
use Rattle.memory_map.specs.State.{BusState}
use Rattle.memory_map.specs.Ticks.{tick_timer, tick_serial, tick_picture, tick, copied_byte, copies, happens}

-- where no copy is going on, each unit goes its own way
abbrev pub apart : ℕ → BusState → BusState
apart n b = record b { timer = iterate timer.tick n b.timer; serial = iterate serial.tick n b.serial; picture = iterate picture.tick n b.picture }

abbrev each : BusState → BusState
each b = record b { timer = timer.tick b.timer; serial = serial.tick b.serial; picture = picture.tick b.picture }

pub ticks_apart : (n : ℕ) (b : BusState) → 160 ≤ b.control.dma_copied → iterate tick n b ≡ apart n b
ticks_apart n b h =
    iterate-same (λ (b : BusState). 160 ≤ b.control.dma_copied) tick each (λ b p. p)
    (λ b p. ap (λ t. tick_picture (cond t (copied_byte (tick_serial (tick_timer b))) (tick_serial (tick_timer b)))) (le-ltb _ _ p)) n b h
    ∙ iterate-closed (λ (_ : BusState). Unit {0}) each apart (λ b p. tt) (λ b p. refl) (λ k b p. refl) n b tt

falls_same : (r : Bool) (n : ℕ) (t : TimerState) → timer.signal_falls (iterate timer.tick n (record { timer = t; requested = r })) ≡ timer.signal_falls (timer.ticks n t)
falls_same r n t = ap timer.signal_falls (timer_request_added r n t)

ends_same : (r : Bool) (n : ℕ) (t : SerialState) → serial.transfer_ends (iterate serial.tick n (record { serial = t; requested = r })) ≡ serial.transfer_ends (serial.ticks n t)
ends_same r n t = ap serial.transfer_ends (serial_request_added r n t)

entries_same : (v l : Bool) (n : ℕ) (s : picture.PictureUnit) → picture.is_entry (iterate picture.tick n (record { picture = s; vblank = v; stat = l })) ≡ picture.is_entry (picture.ticks n s)
unfolding picture.is_entry
entries_same v l n s = ap picture.is_entry (picture_ticks v l n s)

copies_never : (b : BusState) → 160 ≤ b.control.dma_copied → IsNextEvent tick copies b None
copies_never b h k = ap copies (ticks_apart k b h) ∙ le-ltb _ _ h

abbrev timer_falls : BusState → Bool
timer_falls b = timer.signal_falls b.timer

abbrev serial_ends : BusState → Bool
serial_ends b = serial.transfer_ends b.serial

abbrev picture_enters : BusState → Bool
picture_enters b = picture.is_entry b.picture

pub next_event : (b : BusState) (t s p : Option ℕ) → 160 ≤ b.control.dma_copied
    → IsNextEvent timer.tick timer.signal_falls (timer.unrequested b.timer.timer) t → IsNextEvent serial.tick serial.transfer_ends (serial.unrequested b.serial.serial) s
    → IsNextEvent picture.tick picture.is_entry (picture.unrequested b.picture.picture) p → IsNextEvent tick happens b (earlier t (earlier s p))
next_event b t s p h x y z =
    let d = b.picture in
    let first : IsNextEvent tick timer_falls b t = next-along tick timer_falls b timer.tick timer.signal_falls (timer.unrequested b.timer.timer) t (λ n. ap timer_falls (ticks_apart n b h) ∙ falls_same b.timer.requested n b.timer.timer) x in
    let second : IsNextEvent tick serial_ends b s = next-along tick serial_ends b serial.tick serial.transfer_ends (serial.unrequested b.serial.serial) s (λ n. ap serial_ends (ticks_apart n b h) ∙ ends_same b.serial.requested n b.serial.serial) y in
    let third : IsNextEvent tick picture_enters b p = next-along tick picture_enters b picture.tick picture.is_entry (picture.unrequested d.picture) p (λ n. ap picture_enters (ticks_apart n b h) ∙ entries_same d.vblank d.stat n d.picture) z in
    next-either tick copies (λ b. timer_falls b || (serial_ends b || picture_enters b)) b None (earlier t (earlier s p)) (copies_never b h)
    (next-either tick timer_falls (λ b. serial_ends b || picture_enters b) b t (earlier s p) first
    (next-either tick serial_ends picture_enters b s p second third))

pub copy_is_next : (b : BusState) → b.control.dma_copied < 160 → IsNextEvent tick happens b (Some 1)
copy_is_next b h =
    (omega arith, ap (λ t. t || (timer_falls b || (serial_ends b || picture_enters b))) (lt-ltb _ _ h), λ k lt. absurd (omega arith))

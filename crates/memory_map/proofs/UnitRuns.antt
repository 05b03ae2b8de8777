-- n M-cycles of one unit, in the bus.
use Rattle.std.proofs.Common.{◌≡◌, ℕ, Bool, true, false, refl, sym, ap, ◌∙◌}
use Rattle.std.specs.Prelude.{◌||◌, not, nat_eq}
use Rattle.std.specs.Fn.{iterate}
use Rattle.repeated_steps.proofs.Iterates.{iterate-along}
use Rattle.timer_unit.specs.Timer as timer
use Rattle.timer_unit.specs.Serial as serial
use Rattle.timer_unit.proofs.Requested.{serial_request_added}
use Rattle.timer_unit.specs.declared.timer.TimerState.{TimerState}
use Rattle.timer_unit.specs.declared.serial.SerialState.{SerialState}
use Rattle.picture_unit.specs.Picture as picture
use Rattle.picture_unit.proofs.PictureLaws.{picture_ticks}
use Rattle.memory_map.specs.State.{BusState}
use Rattle.memory_map.specs.Ticks.{tick_timer, tick_serial, tick_picture}

pub timers_tick : (n : ℕ) (b : BusState) → record b { timer = iterate timer.tick n b.timer } ≡ iterate tick_timer n b
timers_tick n b = iterate-along timer.tick tick_timer (λ t. record b { timer = t }) (λ t. refl) n b.timer

serials_tick : (n : ℕ) (b : BusState) → record b { serial = iterate serial.tick n b.serial } ≡ iterate tick_serial n b
serials_tick n b = iterate-along serial.tick tick_serial (λ t. record b { serial = t }) (λ t. refl) n b.serial

pictures_tick : (n : ℕ) (b : BusState) → record b { picture = iterate picture.tick n b.picture } ≡ iterate tick_picture n b
pictures_tick n b = iterate-along picture.tick tick_picture (λ t. record b { picture = t }) (λ t. refl) n b.picture

abbrev timer_with : TimerState → Bool → timer.TimerAndRequest
timer_with t r = record { timer = t; requested = r }

abbrev serial_with : SerialState → Bool → serial.SerialAndRequest
serial_with t r = record { serial = t; requested = r }

abbrev picture_with : picture.PictureUnit → Bool → Bool → picture.PictureAndRequests
picture_with s v l = record { picture = s; vblank = v; stat = l }

-- whether any bit of a unit's requests is set
pub timer_requested : (r : Bool) → not (nat_eq (timer.timer_request r) 0) ≡ r
timer_requested true = refl
timer_requested false = refl

pub serial_requested : (r : Bool) → not (nat_eq (serial.serial_request r) 0) ≡ r
serial_requested true = refl
serial_requested false = refl

pub serial_passed : (n : ℕ) (b : BusState) (t : SerialState) (bits : ℕ) → t ≡ (serial.ticks n b.serial.serial).serial → bits ≡ serial.serial_request (serial.ticks n b.serial.serial).requested
    → record b { serial = record { serial = t; requested = b.serial.requested || not (nat_eq bits 0) } } ≡ iterate tick_serial n b
serial_passed n b t bits e f =
    let run = serial.ticks n b.serial.serial in
    let g : not (nat_eq bits 0) ≡ run.requested = ap (λ (k : ℕ). not (nat_eq k 0)) f ∙ serial_requested run.requested in
    let whole : serial_with t (b.serial.requested || not (nat_eq bits 0)) ≡ iterate serial.tick n b.serial =
    ap (λ (u : SerialState). serial_with u (b.serial.requested || not (nat_eq bits 0))) e ∙ ap (λ (q : Bool). serial_with run.serial (b.serial.requested || q)) g
    ∙ sym (serial_request_added b.serial.requested n b.serial.serial) in
    ap (λ (u : serial.SerialAndRequest). record b { serial = u }) whole ∙ serials_tick n b

pub picture_passed : (n : ℕ) (b : BusState) (s : picture.PictureUnit) (v l : Bool) → s ≡ (picture.ticks n b.picture.picture).picture → v ≡ (picture.ticks n b.picture.picture).vblank → l ≡ (picture.ticks n b.picture.picture).stat
    → record b { picture = record { picture = s; vblank = b.picture.vblank || v; stat = b.picture.stat || l } } ≡ iterate tick_picture n b
picture_passed n b s v l e f g =
    let run = picture.ticks n b.picture.picture in
    let d = b.picture in
    let whole : picture_with s (d.vblank || v) (d.stat || l) ≡ iterate picture.tick n d =
    ap (λ (u : picture.PictureUnit). picture_with u (d.vblank || v) (d.stat || l)) e ∙ ap (λ (q : Bool). picture_with run.picture (d.vblank || q) (d.stat || l)) f
    ∙ ap (λ (q : Bool). picture_with run.picture (d.vblank || run.vblank) (d.stat || q)) g ∙ sym (picture_ticks d.vblank d.stat n d.picture) in
    ap (λ (u : picture.PictureAndRequests). record b { picture = u }) whole ∙ pictures_tick n b

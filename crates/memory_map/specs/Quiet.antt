-- M-cycles in which nothing is requested and no byte is copied: for the calls that pass many of them fast.
use Rattle.std.specs.Prelude.{◌≡◌, ℕ, true, false, ◌+◌, ◌-◌, ◌/◌, ◌<◌, ◌≤◌}
use Rattle.timer_unit.specs.Timer as timer
use Rattle.timer_unit.specs.declared.timer.TimerState.{TimerState}
use Rattle.picture_unit.specs.declared.state.PictureState.{PictureState}
use Rattle.picture_unit.specs.Picture.{is_on}
use Rattle.picture_unit.specs.Quiet as picture
use Rattle.memory_map.specs.State.{BusState}
use Rattle.memory_map.specs.Bus.{pending_interrupts}

-- In the next n M-cycles, if any, no byte is copied, no transfer runs, and neither the timer nor the picture unit requests anything. While
-- the LCD is on the frame does not end in them, and while it is off the counter of DIV does not overflow. `copied` bytes of a copy are
-- made, and `left` M-cycles of a transfer are left.
pub record AreQuiet (n copied : ℕ) (t : TimerState) (left : ℕ) (p : PictureState) : Type 0 where
  pub copy : 0 < n → 160 ≤ copied
  pub timer : 0 < n → (timer.ticks n t).requested ≡ false
  pub serial : 0 < n → left ≡ 0
  pub lit : is_on p ≡ true → picture.AreQuiet n p
  pub dark : 0 < n → is_on p ≡ false → t.counter / 4 + n < 16384

-- the next n M-cycles of a bus are quiet
abbrev pub AreQuietOn : ℕ → BusState → Type 0
AreQuietOn n b = AreQuiet n b.control.dma_copied b.timer.timer b.serial.serial.cycles_left b.picture.picture.state

-- Of the next n M-cycles, if any, all but the last are quiet, and IE and IF share no bit.
pub record IsCalm (n : ℕ) (b : BusState) : Type 0 where
  pub quiet : AreQuietOn (n - 1) b
  pub none_pending : 0 < n → pending_interrupts b ≡ 0

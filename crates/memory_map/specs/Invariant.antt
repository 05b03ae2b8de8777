-- What the code keeps beside a bus's value: its clock, how long it is quiet, and what the timer is late.
use Rattle.std.specs.Prelude.{◌≡◌, ℕ, true, false, ◌-◌, ◌*◌, ◌<◌, ◌≤◌, length}
use Rattle.picture_unit.specs.Picture.{is_on}
use Rattle.picture_unit.specs.Laws.{frame_cycle}
use Rattle.memory_map.specs.State.{BusState, IsLegalControl}
use Rattle.memory_map.specs.Bus.{pending_interrupts}
use Rattle.memory_map.specs.Quiet.{AreQuietOn}
use Rattle.memory_map.specs.declared.late_timer.LateTimer.{LateTimer}

-- What is known of a bus beside its value. Its clock is the M-cycle of the frame while the LCD is on; while it is off it is so low that the
-- counter of DIV overflows first. All M-cycles before `calm_until` but the last are quiet, and IE and IF share no bit; those before
-- `quiet_until` are quiet. Both count by the clock, as does what the timer is late.
pub record IsConsistent (calm_until quiet_until clock : ℕ) (l : LateTimer) (b : BusState) : Type 0 where
  pub wram : length b.wram ≡ 8192
  pub control : IsLegalControl b.control
  pub lit : is_on b.picture.picture.state ≡ true → clock ≡ frame_cycle b.picture.picture.state
  pub dark : is_on b.picture.picture.state ≡ false → 4 * clock ≤ b.timer.timer.counter
  pub waiting : AreQuietOn (calm_until - 1 - clock) b
  pub asked : AreQuietOn (quiet_until - clock) b
  pub none_pending : clock < calm_until → pending_interrupts b ≡ 0
  pub late : l.at ≤ clock
  pub requested : b.timer.requested ≡ l.requested

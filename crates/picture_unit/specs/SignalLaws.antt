-- When the STAT interrupt is requested, which a public function states: Pan Docs, "Interrupt Sources", "INT $48 - STAT interrupt".
use Rattle.std.specs.Prelude.{◌≡◌, ℕ, Bool, ◌&&◌, ◌||◌, not}
use Rattle.picture_unit.specs.Picture.{PictureUnit, PictureAndRequests, stat_signal, tick, picture_at_power_on}
use Rattle.picture_unit.specs.Registers.{register_written}

-- the STAT signal was evaluated as it is
abbrev pub IsEvaluated : PictureUnit → Type 0
IsEvaluated s = s.state.signal ≡ stat_signal s.state

-- the STAT signal goes from 0 to 1
abbrev pub rises : (old new : PictureUnit) → Bool
rises old new = not (stat_signal old.state) && stat_signal new.state

-- The STAT interrupt is requested exactly if the signal rises; a request from before stays.
pub record RequestsItsRise (old new : PictureAndRequests) : Type 0 where
  pub requested : new.stat ≡ (old.stat || rises old.picture new.picture)
  pub evaluated : IsEvaluated new.picture

-- It is so in each M-cycle and at each write of a register, from power-on on.
pub record StatIsRequestedAtRises : Type 0 where
  pub power_on : IsEvaluated picture_at_power_on
  pub m_cycle : (d : PictureAndRequests) → IsEvaluated d.picture → RequestsItsRise d (tick d)
  pub write : (address value : ℕ) (d : PictureAndRequests) → IsEvaluated d.picture → RequestsItsRise d (register_written address value d)

-- The clock of MBC3: Pan Docs, "MBC3", "The Clock Counter Registers" and "The Day Counter". A register beyond its
-- range grows by 1 modulo its width without passing on (fixed profile).
use Rattle.std.specs.Prelude.{ℕ, ◌+◌, ◌*◌, ◌/◌, ◌%◌, ◌<◌, ◌==◌, if◌then◌else◌}
use Rattle.bank_controllers.specs.declared.clock.ClockRegisters.{ClockRegisters}
use Rattle.bank_controllers.specs.declared.clock.ClockRegister.{ClockRegister}
use Rattle.bank_controllers.specs.declared.clock.ClockRegister.TheVariants.{Seconds, Minutes, Hours, DayLow, DayHigh}

-- six bits, six bits, five bits, eight bits, and bits 7, 6 and 0
pub record IsLegalClock (c : ClockRegisters) : Type 0 where
  pub seconds : c.seconds < 64
  pub minutes : c.minutes < 64
  pub hours : c.hours < 32
  pub day_low : c.day_low < 256
  pub day_high : c.day_high < 256
  pub unused : c.day_high % 64 < 2

abbrev pub clock_at_power_on : ClockRegisters
clock_at_power_on = record { seconds = 0; minutes = 0; hours = 0; day_low = 0; day_high = 0 }

-- ---- the day, 0 to 511, and the flags beside its bit 8

abbrev pub day_of : ClockRegisters → ℕ
day_of c = c.day_low + 256 * (c.day_high % 2)

-- bit 6: the clock stands still
abbrev pub halt_of : ClockRegisters → ℕ
halt_of c = c.day_high / 64 % 2

-- bit 7: the day has gone past 511
abbrev pub carry_of : ClockRegisters → ℕ
carry_of c = c.day_high / 128

abbrev pub with_day : ℕ → ℕ → ClockRegisters → ClockRegisters
with_day day carry c = record c { day_low = day % 256; day_high = 128 * carry + 64 * halt_of c + day / 256 }

-- ---- one second

-- the carry stays until it is written
abbrev pub next_day : ClockRegisters → ClockRegisters
next_day c = if day_of c == 511 then with_day 0 1 c else with_day (day_of c + 1) (carry_of c) c

abbrev pub next_hour : ClockRegisters → ClockRegisters
next_hour c = if c.hours == 23 then next_day (record c { hours = 0 }) else record c { hours = (c.hours + 1) % 32 }

abbrev pub next_minute : ClockRegisters → ClockRegisters
next_minute c = if c.minutes == 59 then next_hour (record c { minutes = 0 }) else record c { minutes = (c.minutes + 1) % 64 }

-- of a clock that is not halted
abbrev pub next_second : ClockRegisters → ClockRegisters
next_second c = if c.seconds == 59 then next_minute (record c { seconds = 0 }) else record c { seconds = (c.seconds + 1) % 64 }

unfoldable pub clock_second : ClockRegisters → ClockRegisters
clock_second c = if halt_of c == 1 then c else next_second c

-- ---- one register

abbrev pub register_of : ClockRegister → ClockRegisters → ℕ
register_of Seconds c = c.seconds
register_of Minutes c = c.minutes
register_of Hours c = c.hours
register_of DayLow c = c.day_low
register_of DayHigh c = c.day_high

-- bits that a register does not have are dropped
abbrev pub with_register : ClockRegister → ℕ → ClockRegisters → ClockRegisters
with_register Seconds value c = record c { seconds = value % 64 }
with_register Minutes value c = record c { minutes = value % 64 }
with_register Hours value c = record c { hours = value % 32 }
with_register DayLow value c = record c { day_low = value }
with_register DayHigh value c = record c { day_high = 64 * (value / 64) + value % 2 }

-- The serial port: Pan Docs, "Serial Data Transfer" and "Power up sequence". A transfer takes 1,024 M-cycles, eight bits at
-- 8,192 a second; with no other machine it reads FF. It is stopped by a write to SC (fixed profile).
use Rattle.std.specs.Prelude.{◌≡◌, ℕ, ◌+◌, ◌-◌, ◌*◌, ◌/◌, ◌%◌, ◌≤◌, ◌<◌, Bool, true, false, ◌==◌, if◌then◌else◌}
use Rattle.std.specs.Fn.{iterate}
use Rattle.timer_unit.specs.declared.serial.SerialState.{SerialState}

-- bits 7 and 0
abbrev pub sc_bits : ℕ → ℕ
sc_bits value = 128 * (value / 128 % 2) + value % 2

pub record IsLegalSerial (s : SerialState) : Type 0 where
  pub sb : s.sb < 256
  pub sc : sc_bits s.sc ≡ s.sc
  pub cycles_left : s.cycles_left ≤ 1024

-- SC reads 7E
abbrev pub serial_at_power_on : SerialState
serial_at_power_on = record { sb = 0; sc = 0; cycles_left = 0 }

-- a serial port, and whether it has requested its interrupt
pub record SerialAndRequest : Type 0 where
  pub serial : SerialState
  pub requested : Bool

abbrev pub unrequested : SerialState → SerialAndRequest
unrequested s = record { serial = s; requested = false }

-- one M-cycle: a transfer runs while M-cycles of it are left; at its end SB is FF, bit 7 of SC is 0 and the interrupt is
-- requested
abbrev pub tick : SerialAndRequest → SerialAndRequest
tick s =
    if s.serial.cycles_left == 0 then s else
    (if s.serial.cycles_left == 1
    then record { serial = record { sb = 255; sc = s.serial.sc % 128; cycles_left = 0 }; requested = true }
    else record { serial = record s.serial { cycles_left = s.serial.cycles_left - 1 }; requested = s.requested })

-- n M-cycles of a serial port that has requested nothing
abbrev pub ticks : ℕ → SerialState → SerialAndRequest
ticks n s = iterate tick n (unrequested s)

-- the next M-cycle is the last of a transfer
abbrev pub transfer_ends : SerialAndRequest → Bool
transfer_ends s = s.serial.cycles_left == 1

-- SC is written: bits 7 and 0 are kept; both set start a transfer of 1,024 M-cycles, any other write ends one
abbrev pub sc_written : ℕ → SerialState → SerialState
sc_written value s = record s { sc = sc_bits value; cycles_left = if sc_bits value == 0x81 then 1024 else 0 }

-- the bits of IF for a request: bit 3
abbrev pub serial_request : Bool → ℕ
serial_request requested = if requested then 8 else 0

-- A transfer of the serial port as a whole, which a public function states: Pan Docs, "Serial Data Transfer".
use Rattle.std.specs.Prelude.{◌≡◌, ℕ, ◌/◌, ◌%◌, ◌<◌, true, false}
use Rattle.timer_unit.specs.declared.serial.SerialState.{SerialState}
use Rattle.timer_unit.specs.Serial.{SerialAndRequest, sc_written, ticks}

-- n M-cycles after a write of this value to SC
unfoldable pub sent_for : (n value : ℕ) → SerialState → SerialAndRequest
sent_for n value s = ticks n (sc_written value s)

-- SB is as it was, bits 7 and 0 of SC are set, and nothing is requested
pub record IsSending (byte : ℕ) (now : SerialAndRequest) : Type 0 where
  pub sb : now.serial.sb ≡ byte
  pub sc : now.serial.sc ≡ 0x81
  pub requested : now.requested ≡ false

-- SB is FF, of SC only bit 0 is set, and the interrupt is requested
pub record IsSent (now : SerialAndRequest) : Type 0 where
  pub sb : now.serial.sb ≡ 0xFF
  pub sc : now.serial.sc ≡ 0x01
  pub requested : now.requested ≡ true

-- A write of SC with bits 7 and 0 set starts a transfer. It runs for 1,024 M-cycles, is sent in the last of them, and no M-cycle after
-- that requests the interrupt again.
pub record TakesOneTransfer (value : ℕ) (s : SerialState) : Type 0 where
  pub runs : (n : ℕ) → n < 1024 → IsSending s.sb (sent_for n value s)
  pub ends : IsSent (sent_for 1024 value s)
  pub once : (n : ℕ) → (ticks n (sent_for 1024 value s).serial).requested ≡ false

abbrev pub TransferTakes1024Cycles : Type 0
TransferTakes1024Cycles = (value : ℕ) (s : SerialState) → value / 128 % 2 ≡ 1 → value % 2 ≡ 1 → TakesOneTransfer value s

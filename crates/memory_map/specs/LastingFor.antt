-- For how long registers that count stay the same: for private functions alone.
use Rattle.std.specs.Prelude.{ℕ, ◌-◌, ◌%◌, min, ◌&&◌, nat_lt, Option, Some, None, if◌then◌else◌}

-- from an M-cycle of the frame on, how many M-cycles come before the next mode or line; VBlank begins with 16,416
abbrev pub mode_lasts_from : ℕ → ℕ
mode_lasts_from now =
    let m_cycle = now % 114 in
    if nat_lt now 16416 && nat_lt m_cycle 20 then 19 - m_cycle
    else if nat_lt now 16416 && nat_lt m_cycle 63 then 62 - m_cycle
    else 113 - m_cycle

-- how many M-cycles come before the next fall of the timer's signal
abbrev pub before_fall : Option ℕ → ℕ
before_fall None = 65535
before_fall (Some due) = min (due - 1) 65535

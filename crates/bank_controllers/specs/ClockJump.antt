-- A register of the clock after n steps at once. It passes on at limit - 1, and beyond that grows modulo width.
use Rattle.std.specs.Prelude.{ℕ, ◌+◌, ◌-◌, ◌/◌, ◌%◌, nat_lt, if◌then◌else◌}
use Rattle.bank_controllers.specs.declared.clock.ClockRegisters.{ClockRegisters}
use Rattle.bank_controllers.specs.Clock.{day_of, carry_of, with_day}

abbrev pub value_after : ℕ → ℕ → ℕ → ℕ → ℕ
value_after limit width v n =
    if nat_lt v limit then (v + n) % limit else (if nat_lt n (width - v) then v + n else (n - (width - v)) % limit)

abbrev pub passed_on : ℕ → ℕ → ℕ → ℕ → ℕ
passed_on limit width v n =
    if nat_lt v limit then (v + n) / limit else (if nat_lt n (width - v) then 0 else (n - (width - v)) / limit)

abbrev pub days_after : ℕ → ClockRegisters → ClockRegisters
days_after n c = with_day ((day_of c + n) % 512) (if nat_lt (day_of c + n) 512 then carry_of c else 1) c

-- The joypad: Pan Docs, "Joypad Input". A byte of buttons has Right, Left, Up, Down, A, B, Select and Start as bits 0 to
-- 7, 1 for pressed.
use Rattle.std.specs.Prelude.{ℕ, ◌+◌, ◌-◌, ◌*◌, ◌/◌, ◌%◌, Bool, ◌||◌, not, ◌==◌, if◌then◌else◌, bit_and, bit_or}
use Rattle.memory_map.specs.declared.control.Control.{Control}

-- bits 5 and 4 of P1
abbrev pub select_bits : ℕ → ℕ
select_bits value = 16 * (value / 16 % 4)

-- the pressed buttons of the groups that are selected: bit 4 of P1 is 0 for the directions, bit 5 for the others
abbrev pub pressed : (select buttons : ℕ) → ℕ
pressed select buttons =
    bit_or (if select / 16 % 2 == 0 then buttons % 16 else 0) (if select / 32 % 2 == 0 then buttons / 16 else 0)

-- the low bits of P1, which are 0 where a selected button is pressed
abbrev pub lines : (select buttons : ℕ) → ℕ
lines select buttons = 15 - pressed select buttons

-- P1 as it is read: bits 7 and 6 are unused and read 1 (fixed profile)
abbrev pub p1_value : Control → ℕ
p1_value c = 0xC0 + c.p1_select + lines c.p1_select c.buttons

-- whether one of four lines goes from 1 to 0
abbrev pub line_falls : (old new : ℕ) → Bool
line_falls old new = not (bit_and old (15 - new) == 0)

-- the select bits and the buttons become these: the fall of a line requests the joypad interrupt
abbrev pub joypad_set : (select buttons : ℕ) → Control → Control
joypad_set select buttons c = record c {
  p1_select = select;
  buttons = buttons;
  joypad = c.joypad || line_falls (lines c.p1_select c.buttons) (lines select buttons);
}

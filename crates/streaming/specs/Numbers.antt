-- The numbers under which states are kept.
use Rattle.std.specs.Prelude.{◌<◌, ⊤}
use Rattle.machine_lines.specs.KeptStates.{slots}
use Rattle.streaming.specs.declared.order.Order.{Order}
use Rattle.streaming.specs.declared.order.Order.TheVariants.{Keep, Back}

-- its number is one of them
abbrev pub IsNumbered : Order → Type 0
IsNumbered (Keep k) = k < slots
IsNumbered (Back k) = k < slots
IsNumbered order = ⊤

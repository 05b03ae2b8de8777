-- The numbers under which states are kept.
use Rattle.std.specs.Prelude.{◌<◌, ⊤}
use Rattle.machine_lines.specs.KeptStates.{slots}
use Rattle.debugging.specs.declared.order.StateOrder.{StateOrder}
use Rattle.debugging.specs.declared.order.StateOrder.TheVariants.{Power, Keep, Back, Profile}

-- its number is one of those
abbrev pub IsNumbered : StateOrder → Type 0
IsNumbered Power = ⊤
IsNumbered (Keep n) = n < slots
IsNumbered (Back n) = n < slots
IsNumbered (Profile steps conditions) = ⊤

use Rattle.std.proofs.Common.{◌<◌, arith}
use Rattle.memory_map.proofs.JoypadLines.{or_of_four_bits}
use Rattle.memory_map.proofs.control.pressed.Goals as goal
use Rattle.memory_map.proofs.control.pressed.Goals.{then-select-eq0, else-select-eq0, then-select-eq0-2, else-select-eq0-2}

pub returns-clause-four_bits : goal.returns-clause-four_bits
returns-clause-four_bits c =
    let directions : c.if-select-eq0.directions < 16 =
    elim c.if-select-eq0.branch [ then-select-eq0 w ↦ omega (arith, w.directions-is) | else-select-eq0 w ↦ omega (arith, w.directions-is) ] in
    let others : c.if-select-eq0-2.others < 16 =
    elim c.if-select-eq0-2.branch [ then-select-eq0-2 w ↦ omega (arith, w.others-is) | else-select-eq0-2 w ↦ omega (arith, w.others-is) ] in
    or_of_four_bits _ _ directions others

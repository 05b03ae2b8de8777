use Rattle.std.proofs.Common.{◌≡◌, ◌+◌, ◌∙◌, drop, get_or, arith}
use Rattle.std.proofs.lemmas.List.{get_or-take, get_or-drop}
use Rattle.picture_lines.proofs.registers.LineRegisters.draw_background.Goals as goal

pub returns-clause-shades : goal.returns-clause-shades
returns-clause-shades c x h =
    let shades = c.background_shades-shades.result in
    let place : 8 + x ≡ x + 8 = omega arith in
    let read : get_or c.copy_from_slice.new.self x 0 ≡ get_or shades (x + 8) 0 =
    rw (c.copy_from_slice.ensures.after, get_or-take 160 (drop 8 shades) x 0 h, get_or-drop 8 shades x 0, place) in
    read ∙ c.background_shades-shades.ensures.shades x h

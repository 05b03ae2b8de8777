use Rattle.std.proofs.Common.{◌↔◌, ◌≤◌}
use Rattle.cartridge.specs.Length.{IsImageLength}
use Rattle.cartridge.proofs.length.is_rom_length.Given as goal

-- halving keeps whether it is the length of an image
abbrev pub invariant-loop-rest : goal.invariant-loop-rest
invariant-loop-rest l = (IsImageLength l.rest ↔ IsImageLength l.length) × (l.rest ≤ l.length)

abbrev pub decreases-loop-rest : goal.decreases-loop-rest
decreases-loop-rest l = l.rest

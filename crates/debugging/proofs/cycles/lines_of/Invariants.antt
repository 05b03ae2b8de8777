use Rattle.std.proofs.Common.{◌≡◌, ◌≤◌, take}
use Rattle.std.specs.List.{count_by}
use Rattle.debugging.specs.Profile.{is_some_cycle}
use Rattle.debugging.proofs.cycles.lines_of.Given as goal

abbrev pub invariant-loop-cycles : goal.invariant-loop-cycles
invariant-loop-cycles l = record {
  lines : l.lines ≡ count_by is_some_cycle (take l.cycles-index l.rom);
  few : l.lines ≤ l.cycles-index;
}

-- Machines that are kept under numbers.
use Rattle.std.specs.Prelude.{List, []}
use Rattle.debugging.specs.Run.{RunState}
use Rattle.machine_lines.specs.KeptStates.{KeptMachine}

-- a run, and the machines that were kept, the latest first
pub record DebugState : Type 0 where
  pub run : RunState
  pub kept : List KeptMachine

-- a run of which nothing was kept yet
abbrev pub with_none_kept : RunState → DebugState
with_none_kept r = record { run = r; kept = [] }

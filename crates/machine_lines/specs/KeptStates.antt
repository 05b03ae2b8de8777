-- Machines that are kept under numbers.
use Rattle.std.specs.Prelude.{ℕ, ◌==◌, List, [], ◌∷◌, Option, None, Some, if◌then◌else◌}
use Rattle.machine.specs.Machine.{MachineState}

-- how many numbers there are, from 0 on
abbrev pub slots : ℕ
slots = 1000

-- a machine, and the number under which it was kept
pub record KeptMachine : Type 0 where
  pub number : ℕ
  pub machine : MachineState

-- the one that was kept last under a number, if one was; the latest stand first
abbrev pub kept_under : ℕ → List KeptMachine → Option MachineState
kept_under number [] = None
kept_under number (kept ∷ rest) = if kept.number == number then Some kept.machine else kept_under number rest

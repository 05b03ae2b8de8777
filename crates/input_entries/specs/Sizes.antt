-- The longest run.
use Rattle.std.specs.Prelude.{ℕ}

-- the most frames of one run
abbrev pub longest_run : ℕ
longest_run = 216000

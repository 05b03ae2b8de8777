-- Whether a test has passed, by the conventions of two widespread suites of test ROMs: registers at an `LD B,B`; a word that is sent, or a
-- result in the memory.
use Rattle.std.specs.Prelude.{ℕ, ◌==◌, ◌&&◌, ◌||◌, Bool, true, false, not, if◌then◌else◌, List, [], ◌∷◌, ◌++◌, length, codes}
use Rattle.std.specs.Str.{bytes_eq}
use Rattle.circular_buffer.specs.Buffer.{keep_last}
use Rattle.sm83_alu.specs.declared.register_file.Registers.{Registers}
use Rattle.test_run.specs.declared.ends.End.{End}
use Rattle.test_run.specs.declared.ends.End.TheVariants.{Frames, Locked, Breakpoint, Loop, Memory}
use Rattle.test_run.specs.declared.verdict.Verdict.{Verdict}
use Rattle.test_run.specs.declared.verdict.Verdict.TheVariants.{Passed, Failed, Undecided}
use Rattle.test_run.specs.Tested.{Tested}

-- after one of these bytes, of which others were sent before, the last ones are this word
abbrev pub says_after : (word before : List ℕ) → List ℕ → Bool
says_after word before [] = false
says_after word before (byte ∷ sent) =
    bytes_eq (keep_last (length word) (before ++ byte ∷ [])) word || says_after word (before ++ byte ∷ []) sent

abbrev pub says : (word sent : List ℕ) → Bool
says word sent = says_after word [] sent

-- B, C, D, E, H and L
abbrev pub has_six : (b c d e h l : ℕ) → Registers → Bool
has_six b c d e h l r = r.b == b && r.c == c && r.d == d && r.e == e && r.h == h && r.l == l

abbrev pub is_breakpoint : End → Bool
is_breakpoint Breakpoint = true
is_breakpoint Frames = false
is_breakpoint Locked = false
is_breakpoint Loop = false
is_breakpoint (Memory status) = false

-- a result of 0 has passed, and any other one has failed
abbrev pub is_good_result : End → Bool
is_good_result (Memory status) = status == 0
is_good_result Frames = false
is_good_result Locked = false
is_good_result Breakpoint = false
is_good_result Loop = false

abbrev pub is_bad_result : End → Bool
is_bad_result (Memory status) = not (status == 0)
is_bad_result Frames = false
is_bad_result Locked = false
is_bad_result Breakpoint = false
is_bad_result Loop = false

-- at an `LD B,B`: 42 six times has failed, and the Fibonacci numbers from 3 to 34 have passed; what has failed by any of them counts first
abbrev pub verdict_by : End → Registers → (passed failed : Bool) → Verdict
verdict_by why r passed failed =
    if failed || is_bad_result why || (is_breakpoint why && has_six 0x42 0x42 0x42 0x42 0x42 0x42 r) then Failed
    else (if passed || is_good_result why || (is_breakpoint why && has_six 3 5 8 13 21 34 r) then Passed else Undecided)

abbrev pub verdict_of : Tested → Verdict
verdict_of t = verdict_by t.why t.processor.registers (says (codes "Passed") t.sent) (says (codes "Failed") t.sent)

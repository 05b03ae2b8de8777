-- The line of a step, and those of several.
use Rattle.std.specs.Prelude.{ℕ, zero, suc, List, [], ◌++◌, ◌%◌, codes, slice_index}
use Rattle.exact_text.specs.Hex.{byte_text}
use Rattle.opcode_table.specs.Listing.{list_line}
use Rattle.sm83_processor.specs.Rules.{Rules}
use Rattle.sm83_processor.specs.Steps.{step_of}
use Rattle.sm83_processor.specs.declared.processor.Processor.{Processor}
use Rattle.sm83_processor.specs.declared.step.Executed.{Executed}
use Rattle.sm83_processor.specs.declared.step.StepKind.{StepKind}
use Rattle.sm83_processor.specs.declared.step.StepKind.TheVariants.{Dispatch, Wait, Ran}

-- an instruction as it was fetched
abbrev pub line_seen : Executed → List ℕ
line_seen seen = list_line seen.pc (slice_index seen.bytes 0) (slice_index seen.bytes 1) (slice_index seen.bytes 2)

-- of a vector its low byte: all five are below 100
abbrev pub interrupt_line : ℕ → List ℕ
interrupt_line vector = codes "interrupt " ++ byte_text (vector % 256) ++ codes "\n"

abbrev pub line_of : StepKind → List ℕ
line_of (Dispatch vector) = interrupt_line vector
line_of Wait = codes "wait\n"
line_of (Ran seen) = line_seen seen

-- the lines of the next n steps, the first of them first
unfoldable pub step_lines : {M : Type 0} → Rules M → ℕ → Processor M → List ℕ
step_lines rules zero p = []
step_lines rules (suc n) p = line_of (step_of rules p).stepped.kind ++ step_lines rules n (step_of rules p).after

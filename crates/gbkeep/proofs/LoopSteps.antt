-- A step of a loop of one instruction leads to where it began.
use Rattle.std.proofs.Common.{◌≡◌, ◌∙◌, ◌+◌, ◌*◌, ◌/◌, ◌%◌, ◌≤◌, ℕ, refl, ap, arith}
use Rattle.opcode_table.specs.Table.{instruction_of, loads_and_steps, jumps_and_stack}
use Rattle.memory_map.specs.State.{BusState}
use Rattle.memory_map.specs.Bus.{read_at}
use Rattle.sm83_alu.specs.declared.register_file.Registers.{Registers}
use Rattle.sm83_processor.specs.Steps.{step_of}
use Rattle.test_run.proofs.Staying.{LoopSteps, Loops, at, in_reach, kept_there, read_is, rules_with}

-- `JR` by minus two
step_by : (passed : BusState → ℕ → BusState) (r : Registers) (b : BusState) → read_at b r.pc ≡ 0x18 → read_at b ((r.pc + 1) % 65536) ≡ 0xFE → r.pc + 2 ≤ 65535
    → (step_of (rules_with passed) (at r b)).after ≡ at r (passed b 3)
unfolding step_of instruction_of loads_and_steps jumps_and_stack
step_by passed r b first second fits =
    let back : (((r.pc + 1) % 65536 + 1) % 65536 + 65534) % 65536 ≡ r.pc = omega (arith, fits) in
    rw first (rw second (ap (λ (pc : ℕ). at (record r { pc = pc }) (passed b 3)) back))

-- `JP` to its own address
step_at : (passed : BusState → ℕ → BusState) (r : Registers) (b : BusState) → read_at b r.pc ≡ 0xC3 → read_at b ((r.pc + 1) % 65536) ≡ r.pc % 256
    → read_at b (((r.pc + 1) % 65536 + 1) % 65536) ≡ r.pc / 256
    → (step_of (rules_with passed) (at r b)).after ≡ at r (passed b 4)
unfolding step_of instruction_of loads_and_steps jumps_and_stack
step_at passed r b first second third =
    let back : r.pc % 256 + 256 * (r.pc / 256) ≡ r.pc = omega arith in
    rw first (rw second (rw third (ap (λ (pc : ℕ). at (record r { pc = pc }) (passed b 4)) back)))

pub loop_step : LoopSteps
loop_step passed r b (Loops.by there first second) =
    let fits = in_reach r.pc 2 there in (
      3,
      step_by passed r b (read_is b r.pc (kept_there r.pc 2 0 r.pc there (omega arith) (omega (arith, fits))) ∙ first)
          (read_is b ((r.pc + 1) % 65536) (kept_there r.pc 2 1 ((r.pc + 1) % 65536) there (omega arith) refl) ∙ second) fits,
    )
loop_step passed r b (Loops.to there first second third) =
    let fits = in_reach r.pc 3 there in
    let next : ((r.pc + 1) % 65536 + 1) % 65536 ≡ (r.pc + 2) % 65536 = omega (arith, fits) in (
      4,
      step_at passed r b (read_is b r.pc (kept_there r.pc 3 0 r.pc there (omega arith) (omega (arith, fits))) ∙ first)
          (read_is b ((r.pc + 1) % 65536) (kept_there r.pc 3 1 ((r.pc + 1) % 65536) there (omega arith) refl) ∙ second)
          (ap (read_at b) next ∙ read_is b ((r.pc + 2) % 65536) (kept_there r.pc 3 2 ((r.pc + 2) % 65536) there (omega arith) refl) ∙ third),
    )

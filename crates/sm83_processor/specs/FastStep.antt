-- A fast step: one that is an instruction and nothing else, which the fast path makes.
use Rattle.std.specs.Prelude.{◌≡◌, false, ◌&&◌, not, ◌==◌}
use Rattle.sm83_processor.specs.Rules.{Rules}
use Rattle.sm83_processor.specs.declared.processor.Processor.{Processor}
use Rattle.sm83_processor.specs.declared.processor.ProcessorState.{ProcessorState}

-- it does not wait, and an instruction begins with neither `ime_pending` nor `halt_bug`
pub record IsUsual (s : ProcessorState) : Type 0 where
  pub locked : s.locked ≡ false
  pub stopped : s.stopped ≡ false
  pub halted : s.halted ≡ false
  pub ime_pending : s.ime_pending ≡ false
  pub halt_bug : s.halt_bug ≡ false

-- the next step is fast: the processor is in its usual state, and no interrupt is dispatched
pub record IsFast {M : Type 0} (rules : Rules M) (p : Processor M) : Type 0 where
  pub usual : IsUsual p.state
  pub uninterrupted : (p.state.ime && not (rules.pending_interrupts p.memory == 0)) ≡ false

-- Whether the next step runs an opcode.
use Rattle.std.proofs.Common.{◌≡◌, ℕ, ◌%◌, Bool, true, false, refl}
use Rattle.std.specs.Prelude.{◌==◌, ◌&&◌, not}
use Rattle.memory_map.specs.State.{BusState}
use Rattle.memory_map.specs.BusRules.{bus_rules}
use Rattle.sm83_processor.specs.Steps.{step_of}
use Rattle.sm83_processor.specs.declared.processor.Processor.{Processor}
use Rattle.debugging.specs.Quiet.{is_next}
use Rattle.debugging.specs.Run.{is_before}

by_case : {P : Type 0} (b : Bool) → (b ≡ true → P) → (b ≡ false → P) → P
by_case true holds fails = holds refl
by_case false holds fails = fails refl

pub next_is : (opcode : ℕ) (p : Processor BusState) → is_next opcode p ≡ is_before opcode p
unfolding step_of
next_is opcode p =
    by_case p.state.locked (λ l. rw l refl) (λ l.
    by_case (p.state.stopped && bus_rules.value_at p.memory 0xFF00 % 16 == 15) (λ s. rw (l, s) refl) (λ s.
    by_case (p.state.halted && bus_rules.pending_interrupts p.memory == 0) (λ h. rw (l, s, h) refl) (λ h.
    by_case (p.state.ime && not (bus_rules.pending_interrupts p.memory == 0)) (λ i. rw (l, s, h, i) refl) (λ i. rw (l, s, h, i) refl))))

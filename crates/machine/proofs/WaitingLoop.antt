-- Laps of a loop that waits, many at once, within a frame.
use Rattle.std.proofs.Common.{◌≡◌, ◌∙◌, ℕ, zero, suc, ◌+◌, ◌-◌, ◌*◌, ◌/◌, ◌%◌, ◌<◌, ◌≤◌, refl, sym, ap, subst, arith}
use Rattle.std.specs.Fn.{iterate}
use Rattle.std.proofs.lemmas.Nat.{div-add-mod'}
use Rattle.repeated_steps.proofs.Iterates.{iterate-add}
use Rattle.memory_map.specs.State.{BusState}
use Rattle.memory_map.specs.Bus.{pending_interrupts}
use Rattle.memory_map.specs.BusRules.{bus_rules}
use Rattle.memory_map.specs.Ticks.{tick}
use Rattle.memory_map.specs.Quiet.{AreQuietOn, IsCalm}
use Rattle.memory_map.specs.Lasting.{IsLasting}
use Rattle.memory_map.proofs.QuietCycles.{fewer_are_quiet, calm_after}
use Rattle.sm83_processor.specs.RegisterOperations.{next_address}
use Rattle.sm83_processor.specs.Steps.{Step, step_of, passing}
use Rattle.sm83_processor.specs.FastStep.{IsFast}
use Rattle.sm83_processor.specs.StillSteps.{HasSameBytes, IsStillBy}
use Rattle.sm83_processor.specs.declared.processor.Processor.{Processor}
use Rattle.sm83_processor.specs.declared.processor.ProcessorState.{ProcessorState}
use Rattle.sm83_alu.specs.declared.register_file.Registers.{Registers}
use Rattle.machine.specs.Machine.{steps_until}
use Rattle.machine.specs.WaitingLoop.{IsStill}
use Rattle.machine.proofs.FastFrames.{uninterrupted}
use Rattle.machine.proofs.Waiting.{stepped_on}

-- ---- a still step

abbrev twice : ℕ → ℕ → BusState → BusState
twice m n b = iterate tick n (iterate tick m b)

-- M-cycles pass in any order
swapped : (m n : ℕ) (b : BusState) → twice m n b ≡ twice n m b
swapped m n b =
    let same : m + n ≡ n + m = omega arith in
    sym (iterate-add tick m n b) ∙ ap (λ (k : ℕ). iterate tick k b) same ∙ iterate-add tick n m b

pub still_here : (address : ℕ) (p : Processor BusState) → IsFast bus_rules p → IsLasting p.registers.pc → IsLasting (next_address p.registers.pc)
    → IsLasting (next_address (next_address p.registers.pc)) → IsLasting address → IsStillBy bus_rules address p → IsStill p
still_here address p fast first second third operand still =
    let s = step_of bus_rules p in
    let memory : s.after.memory ≡ iterate tick s.stepped.cycles p.memory =
    ap (λ (t : Step BusState). t.after.memory) (still p.memory (record { first = refl; second = refl; third = refl; operand = refl }) fast fast) in
    record {
      fast = fast;
      memory = memory;
      again = λ n quiet also.
          let known : HasSameBytes bus_rules p address (iterate tick n p.memory) = record { first = first n p.memory quiet; second = second n p.memory quiet; third = third n p.memory quiet; operand = operand n p.memory quiet } in
          let there : iterate tick s.stepped.cycles (iterate tick n p.memory) ≡ iterate tick n s.after.memory =
          swapped n s.stepped.cycles p.memory ∙ sym (ap (iterate tick n) memory) in
          still (iterate tick n p.memory) known fast also
          ∙ ap (λ (b : BusState). record { after = record s.after { memory = b }; stepped = s.stepped }) there;
    }

-- ---- the steps of a lap

-- In `took` M-cycles still steps lead from p to q. They do so again after k M-cycles, if that is within the calm ones.
pub record IsRun (calm passed took : ℕ) (p q : Processor BusState) : Type 0 where
  pub memory : q.memory ≡ iterate tick took p.memory
  pub run : (k : ℕ) → k + took < calm → steps_until bus_rules 17556 (passed + k + took) (passing bus_rules k q) ≡ steps_until bus_rules 17556 (passed + k) (passing bus_rules k p)

pub run_goes_on : (calm passed took cycles : ℕ) (p q t : Processor BusState) → passed + calm ≤ 17556 → IsCalm calm p.memory → IsRun calm passed took p q → IsStill q
    → t ≡ (step_of bus_rules q).after → cycles ≡ (step_of bus_rules q).stepped.cycles → IsRun calm passed (took + cycles) p t
run_goes_on calm passed took cycles p q t le calm_before so_far still after count =
    let s = step_of bus_rules q in
    record {
      memory = ap (λ (x : Processor BusState). x.memory) after ∙ still.memory ∙ ap (λ (n : ℕ). iterate tick n q.memory) (sym count)
          ∙ ap (iterate tick cycles) so_far.memory ∙ sym (iterate-add tick took cycles p.memory);
      run = λ k within.
          let calm_here : IsCalm (calm - took) q.memory = subst (IsCalm (calm - took)) (sym so_far.memory) (calm_after calm took p.memory (omega (arith, within)) calm_before) in
          let calm_there : IsCalm (calm - took - k) (iterate tick k q.memory) = calm_after (calm - took) k q.memory (omega (arith, within)) calm_here in
          let quiet : AreQuietOn k q.memory = fewer_are_quiet (calm - took - 1) k q.memory (omega (arith, within)) calm_here.quiet in
          let also : IsFast bus_rules (passing bus_rules k q) = record {
            usual = still.fast.usual;
            uninterrupted = uninterrupted q.state.ime (pending_interrupts (iterate tick k q.memory)) (calm_there.none_pending (omega (arith, within)));
          } in
          let same = still.again k quiet also in
          let on : passed + k + (took + cycles) ≡ passed + k + took + cycles = omega arith in
          ap (λ (n : ℕ). steps_until bus_rules 17556 n (passing bus_rules k t)) on
          ∙ stepped_on (passed + k + took) cycles (passing bus_rules k q) (passing bus_rules k t) (omega (arith, within, le))
          (ap (passing bus_rules k) after ∙ sym (ap (λ (x : Step BusState). x.after) same))
          (count ∙ sym (ap (λ (x : Step BusState). x.stepped.cycles) same))
          ∙ so_far.run k (omega (arith, within));
    }

-- ---- laps

-- the run ends with the registers that it began with
came_back : (calm passed took : ℕ) (p q : Processor BusState) → IsRun calm passed took p q → q.registers ≡ p.registers → q.state ≡ p.state → q ≡ passing bus_rules took p
came_back calm passed took p q run registers state =
    ap (λ (r : Registers). record q { registers = r }) registers
    ∙ ap (λ (s : ProcessorState). record q { registers = p.registers; state = s }) state
    ∙ ap (λ (b : BusState). record p { memory = b }) run.memory

-- n laps
laps : (n calm passed took : ℕ) (p q : Processor BusState) → IsRun calm passed took p q → q ≡ passing bus_rules took p → n * took < calm
    → steps_until bus_rules 17556 (passed + n * took) (passing bus_rules (n * took) p) ≡ steps_until bus_rules 17556 passed p
laps zero calm passed took p q run back within =
    let none : zero * took ≡ 0 = omega arith in
    let same : passed + zero * took ≡ passed = omega (arith, none) in
    ap (λ (k : ℕ). steps_until bus_rules 17556 k (passing bus_rules (zero * took) p)) same
    ∙ ap (λ (k : ℕ). steps_until bus_rules 17556 passed (passing bus_rules k p)) none
laps (suc n) calm passed took p q run back within =
    let before = n * took in
    let more : suc n * took ≡ took + before = omega arith in
    let on : passed + suc n * took ≡ passed + before + took = omega (arith, more) in
    let there : passing bus_rules (suc n * took) p ≡ passing bus_rules before q =
    ap (λ (k : ℕ). passing bus_rules k p) more
    ∙ ap (λ (b : BusState). record p { memory = b }) (iterate-add tick took before p.memory)
    ∙ sym (ap (passing bus_rules before) back) in
    ap (λ (k : ℕ). steps_until bus_rules 17556 k (passing bus_rules (suc n * took) p)) on
    ∙ ap (steps_until bus_rules 17556 (passed + before + took)) there
    ∙ run.run before (omega (arith, within, more))
    ∙ laps n calm passed took p q run back (omega (arith, within, more))

pub laps_pass : (calm passed took rest : ℕ) (p q : Processor BusState) (b : BusState) → IsRun calm passed took p q → q.registers ≡ p.registers → q.state ≡ p.state
    → rest % took ≡ 0 → took + rest < calm → b ≡ iterate tick rest q.memory
    → steps_until bus_rules 17556 (passed + took + rest) (record q { memory = b }) ≡ steps_until bus_rules 17556 passed p
laps_pass calm passed took rest p q b run registers state whole within after =
    let back = came_back calm passed took p q run registers state in
    let n = rest / took in
    let all : n * took ≡ rest = omega (arith, div-add-mod' rest took, whole) in
    let more : suc n * took ≡ took + n * took = omega arith in
    let on : passed + took + rest ≡ passed + suc n * took = omega (arith, all, more) in
    let there : record q { memory = b } ≡ passing bus_rules (suc n * took) p =
    ap (λ (b : BusState). record q { memory = b }) after
    ∙ ap (passing bus_rules rest) back
    ∙ ap (λ (b : BusState). record p { memory = b }) (sym (iterate-add tick took rest p.memory))
    ∙ ap (λ (k : ℕ). passing bus_rules k p) (let e : took + rest ≡ suc n * took = omega (arith, all, more) in e) in
    ap (λ (k : ℕ). steps_until bus_rules 17556 k (record q { memory = b })) on
    ∙ ap (steps_until bus_rules 17556 (passed + suc n * took)) there
    ∙ laps (suc n) calm passed took p q run back (omega (arith, all, more, within))

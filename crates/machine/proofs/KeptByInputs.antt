-- What no access of the memory changes, no frame or input changes; so the cartridge stays what it is.
use Rattle.std.proofs.Common.{ℕ, zero, suc, ◌+◌, Bool, true, false, [], ◌∷◌}
use Rattle.std.specs.Prelude.{nat_lt, if◌then◌else◌}
use Rattle.std.specs.Fn.{iterate}
use Rattle.std.proofs.lemmas.List.Elements.{All-head, All-tail}
use Rattle.bank_controllers.specs.CartridgeState.{IsSameCartridge}
use Rattle.bank_controllers.proofs.Same.{same_itself, same_then, seconds-same}
use Rattle.sm83_processor.specs.declared.processor.Processor.{Processor}
use Rattle.sm83_processor.specs.Rules.{Rules}
use Rattle.sm83_processor.specs.Steps.{step_of}
use Rattle.sm83_processor.proofs.KeptBySteps.{IsKept, by_step}
use Rattle.memory_map.specs.State.{BusState}
use Rattle.memory_map.specs.Bus as bus
use Rattle.memory_map.specs.BusRules.{bus_rules}
use Rattle.memory_map.specs.Ticks.{tick}
use Rattle.memory_map.proofs.SameCartridge.{same_of, write_same, acknowledged_banks, ticks_banks}
use Rattle.machine.specs.Machine.{MachineState, Ahead, steps_until, Input, Frame, Seconds, Power, State, PassesTime, applied, after}
use Rattle.machine.specs.MachineLaws.{CartridgeStays}

module _ {M : Type 0} (r : Rules M) (R : M → M → Type 0) (k : IsKept r R) where
  either_end : (m : M) (b : Bool) (x y : Ahead M) → R m x.after.memory → R m y.after.memory → R m (if b then x else y).after.memory
  either_end m true x y first second = first
  either_end m false x y first second = second

  pub by_steps_until : (n passed : ℕ) (s : Processor M) → R s.memory (steps_until r n passed s).after.memory
  unfolding steps_until
  by_steps_until zero passed s = k.itself s.memory
  by_steps_until (suc n) passed s =
      either_end s.memory (nat_lt passed 17556) (steps_until r n (passed + (step_of r s).stepped.cycles) (step_of r s).after) _
      (k.follows _ _ _ (by_step r R k s) (by_steps_until n (passed + (step_of r s).stepped.cycles) (step_of r s).after))
      (k.itself s.memory)

-- ---- the cartridge in the bus

pub bus_keeps : IsKept bus_rules (λ old new. IsSameCartridge old.banks new.banks)
bus_keeps = record {
  itself = λ b. same_itself b.banks;
  follows = λ a b c. same_then a.banks b.banks c.banks;
  written = λ b address value. write_same address value b;
  acknowledged = λ b bit. same_of b.banks (bus.acknowledged bit b).banks (acknowledged_banks bit b);
  passed = λ b n. same_of b.banks (iterate tick n b).banks (ticks_banks n b);
}

by_input : (input : Input) (m : MachineState) → PassesTime input → IsSameCartridge m.processor.memory.banks (applied input m).processor.memory.banks
by_input (Frame buttons) m passes =
    let begun : Processor BusState = record m.processor { memory = bus.buttons_set buttons m.processor.memory } in
    by_steps_until bus_rules (λ old new. IsSameCartridge old.banks new.banks) bus_keeps 17556 m.overrun begun
by_input (Seconds n) m passes = seconds-same n m.processor.memory.banks
by_input Power m passes = absurd passes
by_input (State n) m passes = absurd passes

pub by_inputs : CartridgeStays
unfolding after
by_inputs m [] all = same_itself m.processor.memory.banks
by_inputs m (input ∷ inputs) all =
    same_then _ _ _ (by_input input m (All-head PassesTime input inputs all)) (by_inputs (applied input m) inputs (All-tail PassesTime input inputs all))

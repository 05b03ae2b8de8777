-- Places at which a run stops, one by one.
use Rattle.std.proofs.Common.{◌≡◌, ℕ, zero, suc, Bool, ap, refl}
use Rattle.memory_map.specs.State.{BusState}
use Rattle.memory_map.specs.BusRules.{bus_rules}
use Rattle.sm83_processor.specs.Steps.{step_of}
use Rattle.sm83_processor.specs.declared.processor.Processor.{Processor}
use Rattle.debugging.specs.Run.{steps_before, steps_up_to}

-- runs up to places that are the same stop at the same step
before_same : (f g : Processor BusState → Bool) → ((p : Processor BusState) → f p ≡ g p) → (n : ℕ) (p : Processor BusState) → steps_before f n p ≡ steps_before g n p
unfolding steps_before
before_same f g same zero p = refl
before_same f g same (suc n) p = rw (same p, before_same f g same n (step_of bus_rules p).after) refl

pub same_stop : (f g : Processor BusState → Bool) → ((p : Processor BusState) → f p ≡ g p) → (n : ℕ) (p : Processor BusState) → steps_up_to f n p ≡ steps_up_to g n p
same_stop f g same zero p = refl
same_stop f g same (suc n) p = ap suc (before_same f g same n (step_of bus_rules p).after)

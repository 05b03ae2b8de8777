-- A request that reads no input.
use Rattle.std.proofs.Common.{Bor, List, ℕ, Option, Result, Ok, Err, refl}
use Rattle.command_line.specs.declared.Request.TheVariants.{New, Trace, NewRecording, Import}
use Rattle.refusals.specs.declared.refusal.Refusal.{Refusal}
use Rattle.gbkeep.specs.Program.{IsServed, IsServedReading}

module _ (input old new : Option (List ℕ)) where
  pub new_served : (cart save : Bor (List ℕ)) (sectors : Option ℕ) (r : Result Unit Refusal) → IsServed (New cart save sectors) r old new
      → IsServedReading (New cart save sectors) r (record { before = input; since = input }) (record { before = old; since = new })
  new_served cart save sectors (Ok u) served = (refl, served)
  new_served cart save sectors (Err fault) served = (refl, served)

  pub trace_served : (cart save : Bor (List ℕ)) (count : ℕ) (r : Result Unit Refusal) → IsServed (Trace cart save count) r old new
      → IsServedReading (Trace cart save count) r (record { before = input; since = input }) (record { before = old; since = new })
  trace_served cart save count (Ok u) served = (refl, served)
  trace_served cart save count (Err fault) served = (refl, served)

  pub new_recording_served : (cart recording : Bor (List ℕ)) (sectors : ℕ) (r : Result Unit Refusal) → IsServed (NewRecording cart recording sectors) r old new
      → IsServedReading (NewRecording cart recording sectors) r (record { before = input; since = input }) (record { before = old; since = new })
  new_recording_served cart recording sectors (Ok u) served = (refl, served)
  new_recording_served cart recording sectors (Err fault) served = (refl, served)

  pub import_served : (cart battery save : Bor (List ℕ)) (sectors : Option ℕ) (r : Result Unit Refusal) → IsServed (Import cart battery save sectors) r old new
      → IsServedReading (Import cart battery save sectors) r (record { before = input; since = input }) (record { before = old; since = new })
  import_served cart battery save sectors (Ok u) served = (refl, served)
  import_served cart battery save sectors (Err fault) served = (refl, served)

-- Why a console refuses an order.
use Rattle.std.specs.Prelude.{◌≡◌, ℕ, List, Some}
use Rattle.cartridge.specs.Accepted.{IsAccepted, refusal_of}
use Rattle.state_header.specs.States.{IsOfAnotherRom}
use Rattle.refusals.specs.declared.refusal.Refusal.{Refusal}
use Rattle.refusals.specs.declared.refusal.Refusal.TheVariants.{Memory, Cart, NoState, OtherState, Snapshot}
use Rattle.embedding.specs.States.{IsNoState, IsStateFault}

-- why an image gives no console: the first rule of a cartridge that it breaks; and want of memory only where it breaks none
abbrev pub IsNewCause : (rom : List ℕ) → Refusal → Type 0
IsNewCause rom Memory = IsAccepted rom
IsNewCause rom (Cart fault) = refusal_of rom ≡ Some fault
IsNewCause rom why = ⊥

-- Why bytes give no machine of the cartridge: they are no state; they name another ROM, no matter what stands behind the header; the first
-- fault of the snapshot behind this one's.
abbrev pub IsRestoreCause : (rom bytes : List ℕ) → Refusal → Type 0
IsRestoreCause rom bytes NoState = IsNoState bytes
IsRestoreCause rom bytes OtherState = IsOfAnotherRom rom bytes
IsRestoreCause rom bytes (Snapshot fault) = IsStateFault rom bytes fault
IsRestoreCause rom bytes why = ⊥

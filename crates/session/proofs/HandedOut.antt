-- A session whose device has handed out some of its calls.
use Rattle.std.proofs.Common.{◌∙◌, ℕ, List, ap}
use Rattle.sector_device.specs.DiskState.{DiskState, HasHanded}
use Rattle.sector_device.proofs.HandedOut.{settled_still}
use Rattle.input_entries.specs.declared.StoredEntry.{StoredEntry}
use Rattle.log_format.specs.Content.{content}
use Rattle.log_format.specs.Found.{log_of}
use Rattle.session.specs.Stands.{Position, stands}
use Rattle.session.specs.Resting.{Rests}

pub rests_still : {old now : DiskState} {rom : List ℕ} {log : List StoredEntry} {saved : Position} → HasHanded old now → Rests rom old log saved → Rests rom now log saved
rests_still {rom = rom} handed is = record {
  stood = record { settled = settled_still handed is.stood.settled; is = ap (λ s. stands rom (content s)) handed.sectors ∙ is.stood.is };
  log_is = ap (λ s. log_of (content s)) handed.sectors ∙ is.log_is;
}

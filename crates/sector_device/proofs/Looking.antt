-- Calls that only look, one after the other.
use Rattle.std.proofs.Common.{◌⊎◌, inl, inr, ⊎_elim, ℕ, List, Result, Ok, Err, refl, sym, ◌∙◌, arith}
use Rattle.sector_device.specs.DiskState.{DiskState, Settled, NoLostImage, HasRead, HasSynced}
use Rattle.sector_device.specs.Looking.{HasLooked, LooksOnly}
use Rattle.sector_device.proofs.Runs.{throughout_weaker, throughout_then, remembers_then, holds_since}

pub looked_read : {E : Type 0} {at : ℕ} {bytes : List ℕ} {old now : DiskState} {r : Result Unit E} → HasRead at bytes old now r → LooksOnly old now
looked_read h = record {
  honest = h.goes.honest;
  sectors = h.sectors;
  images = h.images;
  kept = inl h.kept;
  time = throughout_weaker h.goes.time (λ c i. h.images c i);
  past = h.goes.past;
}

synced_kept : {E : Type 0} (old now : DiskState) (r : Result Unit E) → HasSynced old now r → NoLostImage old now ⊎ Settled now
synced_kept old now (Ok u) h = inr h.settled
synced_kept old now (Err e) h = inl h.kept

pub looked_synced : {E : Type 0} {old now : DiskState} {r : Result Unit E} → HasSynced old now r → LooksOnly old now
looked_synced {E} {old} {now} {r} h = record {
  honest = h.goes.honest;
  sectors = h.sectors;
  images = h.images;
  kept = synced_kept old now r h;
  time = throughout_weaker h.goes.time (λ c i. h.images c i);
  past = h.goes.past;
}

pub settled_looked : {a b : DiskState} → Settled a → LooksOnly a b → Settled b
settled_looked s x = λ c i. s c (x.images c i) ∙ sym x.sectors

pub looked_then : {a b c : DiskState} → LooksOnly a b → LooksOnly b c → LooksOnly a c
looked_then {a} {b} {c} x y = record {
  honest = y.honest;
  sectors = y.sectors ∙ x.sectors;
  images = λ d i. x.images d (y.images d i);
  kept = ⊎_elim (λ later. ⊎_elim (λ early. inl (λ d i. later d (early d i))) (λ alone. inr (settled_looked alone y)) x.kept) (λ alone. inr alone) y.kept;
  time = throughout_then x.time (throughout_weaker y.time (λ d i. x.images d i));
  past = remembers_then a b c x.time x.past y.past;
}

pub looks_then : {a b c : DiskState} → (a.honest → LooksOnly a b) → (b.honest → LooksOnly b c) → a.honest → LooksOnly a c
looks_then x y honest = let l = x honest in looked_then l (y l.honest)

pub looked_self : (a : DiskState) → a.honest → LooksOnly a a
looked_self a honest = record {
  honest = honest;
  sectors = refl;
  images = λ c i. i;
  kept = inl (λ c i. i);
  time = record { later = omega arith; each = λ t c le s. inl s };
  past = λ t c le since. since;
}

-- and so of the images since
pub has_looked : {old now : DiskState} → ((c : List (List ℕ)) → old.since old.moment c → old.image c) → LooksOnly old now → HasLooked old now
has_looked only l = record { honest = l.honest; sectors = l.sectors; images = l.images; since = holds_since only l.time l.past (λ c i. i); kept = l.kept }

-- The steps of writing what is pending.
use Rattle.std.proofs.Common.{◌≡◌, inl, inr, ⊎_elim, ℕ, List, [], ◌∷◌, Bool, true, false, Some, sym, ap, ◌∙◌, subst}
use Rattle.std.specs.List.{list_all}
use Rattle.std.proofs.lemmas.Bool.{and_parts}
use Rattle.sector_device.specs.DiskState.{DiskState}
use Rattle.sector_device.specs.Runs.{HoldsSince}
use Rattle.sector_device.proofs.Runs.{throughout_weaker}
use Rattle.log_format.specs.Appends.{HoldsPrefix, grown}
use Rattle.sector_log.specs.Calls.{HasOldOrNewContent, IsAppended}
use Rattle.log_format.specs.Content.{content, new_generation}
use Rattle.log_format.specs.Found.{log_of}
use Rattle.input_entries.specs.Inputs.{is_input, all_input}
use Rattle.input_entries.specs.declared.Entry.{Entry}
use Rattle.input_entries.specs.declared.StoredEntry.{StoredEntry}
use Rattle.session.specs.Writing.{HoldsWritten, IsWritten}

pub inputs_listed : (entries : List Entry) → list_all is_input entries ≡ true → all_input entries
inputs_listed [] all = tt
inputs_listed (e ∷ entries) all = let parts = and_parts (is_input e) (list_all is_input entries) all in (parts.0, inputs_listed entries parts.1)

pub since_weaker : {old now : DiskState} {P Q : List (List ℕ) → Type 0} → HoldsSince old now P → ((image : List (List ℕ)) → P image → Q image) → HoldsSince old now Q
since_weaker held to = record { each = λ image since. to image (held.each image since); moments = throughout_weaker held.moments to; past = held.past }

-- each moment of an append
pub since_appended : {old now : DiskState} {entries : List Entry} (fits : Bool) (id : List ℕ) (all : ℕ) (blob : List ℕ) → fits ≡ true → HoldsSince old now (HoldsPrefix old.sectors entries) → HoldsSince old now (HoldsWritten fits old.sectors entries id all blob)
since_appended {old} {now} {entries} fits id all blob is held = subst (λ (b : Bool). HoldsSince old now (HoldsWritten b old.sectors entries id all blob)) (sym is) held

-- each moment of a new generation
pub since_replaced : {old now : DiskState} {id : List ℕ} {all : ℕ} {written blob : List ℕ} (fits : Bool) (entries : List Entry) → fits ≡ false → written ≡ blob → HoldsSince old now (HasOldOrNewContent old.sectors id all written) → HoldsSince old now (HoldsWritten fits old.sectors entries id all blob)
since_replaced {old} {now} {id} {all} {written} {blob} fits entries is same held =
    subst (λ (b : Bool). HoldsSince old now (HoldsWritten b old.sectors entries id all blob)) (sym is)
    (since_weaker held (λ image. ⊎_elim (λ stays. inl stays.content_is) (λ new. inr (new.content_is ∙ ap (λ (b : List ℕ). Some (new_generation id all b)) same))))

pub written_behind : (fits : Bool) (old new : DiskState) (entries : List Entry) (id : List ℕ) (all : ℕ) (blob : List ℕ) (log after : List StoredEntry) → fits ≡ true
    → IsAppended old new entries → after ≡ grown log entries → log_of (content new.sectors) ≡ after → IsWritten fits old new entries id all blob log after
written_behind fits old new entries id all blob log after is appended entries_are reads =
    subst (λ b. IsWritten b old new entries id all blob log after) (sym is) (appended, entries_are, reads)

-- How many sectors and calls a device has, and how many inputs a session.
use Rattle.std.proofs.Common.{◌≡◌, ◌+◌, ◌++◌, ◌⊎◌, append_assoc, inl, inr, Bool, true, false, ℕ, suc, List, [], ◌∷◌, length, Result, Ok, Err, sym, ap, ◌∙◌, arith}
use Rattle.std.specs.Prelude.{◌*◌, IfErr, IfOk, OnErr, slice_range, take}
use Rattle.std.proofs.lemmas.List.{take-append-le, take_all}
use Rattle.sector_device.specs.DiskState.{Follows, next_count}
use Rattle.sector_device.specs.declared.recorded.Recorded.{Recorded}
use Rattle.session.specs.Calls.{faults_after}
use Rattle.input_entries.specs.declared.Entry.{Entry}
use Rattle.session.specs.declared.error.SessionError.{SessionError}
use Rattle.session.specs.declared.error.SessionError.TheVariants.{Device}
use Rattle.sector_device.specs.declared.recorded.Recorded.TheVariants.{Write}
use Rattle.embedding.specs.Calls.{image_writes, recorded_of}
use Rattle.embedding.specs.HostDevices.{calls_of, count_of, handed_of, host_disk, waiting_of}
use Rattle.embedding.specs.declared.host_device.HostDevice.{HostDevice}

-- what reads give has as many sectors
pub same_count : (old new : HostDevice) → length (host_disk new).sectors ≡ length (host_disk old).sectors → count_of new ≡ count_of old
same_count old new is = ap length new.replays ∙ is ∙ sym (ap length old.replays)

-- ---- what was handed out

same_front : (a b c d : List Recorded) → a ++ c ≡ b ++ d → length a ≡ length b → a ≡ b
same_front a b c d is long =
    sym (take_all (length a) a (omega arith)) ∙ sym (take-append-le (length a) a c (omega arith))
    ∙ ap (take (length a)) is ∙ ap (λ n. take n (b ++ d)) long ∙ take-append-le (length b) b d (omega arith) ∙ take_all (length b) b (omega arith)

-- calls of a device hand nothing out
pub handed_same : (old new : HostDevice) → Follows (calls_of old) (calls_of new) → length (handed_of new) ≡ length (handed_of old) → handed_of new ≡ handed_of old
handed_same old new follows long =
    same_front (handed_of new) (handed_of old) (recorded_of (waiting_of new)) (recorded_of (waiting_of old) ++ follows.more)
    (follows.is ∙ append_assoc (handed_of old) (recorded_of (waiting_of old)) follows.more) long

-- a save that is told or not, by what a session says of each
pub kept_inputs : (r : Result ℕ SessionError) (acknowledged later : ℕ) (pending left : List Entry) (before after : Bool)
    → IfOk r (λ all. (all ≡ acknowledged + length pending) × (later ≡ all) × (left ≡ []) × (before ≡ false) × (after ≡ false)) → OnErr r ((left ≡ pending) × (later ≡ acknowledged))
    → (later + length left ≡ acknowledged + length pending) × ((left ≡ pending) ⊎ (left ≡ []))
kept_inputs (Ok all) acknowledged later pending left before after done refused =
    let none : length left ≡ 0 = ap length done.2 in (omega (arith, done.0, done.1, none), inr done.2)
kept_inputs (Err why) acknowledged later pending left before after done refused =
    (ap (λ (l : List Entry). later + length l) refused.0 ∙ ap (λ n. n + length pending) refused.1, inl refused.0)

-- why a save is refused, by what a session says of it
pub save_refused : (Cause : SessionError → Type 0) (r : Result ℕ SessionError) (old new : ℕ) → IfErr r Cause → IfErr r (λ why. new ≡ faults_after why old)
    → IfErr r (λ why. Cause why × (why ≡ Device → new ≡ next_count old))
save_refused Cause (Ok all) old new cause faults = tt
save_refused Cause (Err why) old new cause faults = (cause, λ is. faults ∙ ap (λ w. faults_after w old) is)

-- one sector more of an image is written
pub writes_next : (image : List ℕ) (at : ℕ) → image_writes image (at + 1) ≡ image_writes image at ++ Write at (slice_range image (512 * at) (512 * at + 512)) true ∷ []
writes_next image at = let next : at + 1 ≡ suc at = omega arith in ap (image_writes image) next

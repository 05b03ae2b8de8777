-- A record with one call more, and what the call does to the disk.
use Rattle.std.proofs.Common.{◌≡◌, inl, inr, ⊎_elim, ℕ, ◌+◌, List, [], ◌∷◌, ◌++◌, length, set, Bool, true, false, refl, sym, ap, ◌∙◌, subst, arith, Result, Ok, Err, OnOk, OnErr}
use Rattle.std.proofs.lemmas.Bool.{cases_lt}
use Rattle.std.proofs.lemmas.List.{take-append-le, take_all, length_push}
use Rattle.sector_device.specs.DiskState.{DiskState, NoLostImage, Replaces, MayBeReplaced, Settled, KeepsHonesty, HasWritten, HasSynced}
use Rattle.sector_device.specs.Records.{Replayed, after, after_all, replayed, cut, IsCutOf, recorded_disk, reads_after}
use Rattle.sector_device.specs.RecordLaws.{within}
use Rattle.sector_device.specs.declared.fuse.Fuse.{Fuse}
use Rattle.sector_device.specs.declared.recorded.Recorded.{Recorded}
use Rattle.sector_device.specs.declared.recorded.Recorded.TheVariants.{Write, Sync}
use Rattle.sector_device.proofs.Cut.{cut_push, cut_keep}

pub after_all_push : (d : Replayed) (calls : List Recorded) (call : Recorded) → after_all d (calls ++ call ∷ []) ≡ after (after_all d calls) call
after_all_push d [] call = refl
after_all_push d (c ∷ calls) call = after_all_push (after d c) calls call

pub replayed_push : (at_start : List (List ℕ)) (calls : List Recorded) (call : Recorded) → replayed at_start (calls ++ call ∷ []) ≡ after (replayed at_start calls) call
replayed_push at_start calls call = after_all_push _ calls call

module _ (H : Type 0) (honest : H) (at_start : List (List ℕ)) (calls : List Recorded) (f f' : ℕ) (fuse : Fuse) where
  abbrev was : DiskState
  was = recorded_disk H at_start calls f fuse

  abbrev d : Replayed
  d = replayed at_start calls

  abbrev now : Recorded → DiskState
  now call = recorded_disk H at_start (calls ++ call ∷ []) f' fuse

  goes : (call : Recorded) → KeepsHonesty was (now call)
  goes call = record {
    honest = honest;
    time = record {
      later = omega (arith, long);
      each = λ t c le since. elim (cases_lt (length calls) since.0) [
        | inl new ↦ inr (subst (λ (l : List Recorded). IsCutOf (replayed at_start l) c) (take_all since.0 (calls ++ call ∷ []) (omega (arith, long))) since.3)
        | inr old ↦ inl (since.0, since.1, old, subst (λ (l : List Recorded). IsCutOf (replayed at_start l) c) (take-append-le since.0 calls (call ∷ []) old) since.3)
      ];
    };
    past = λ t c le since. (since.0, since.1, omega (arith, long), subst (λ (l : List Recorded). IsCutOf (replayed at_start l) c) (sym (take-append-le since.0 calls (call ∷ []) since.2)) since.3);
  }
    where
      long : length (calls ++ call ∷ []) ≡ length calls + 1
      long = length_push calls call

  image_now : (call : Recorded) (c : List (List ℕ)) → IsCutOf (replayed at_start (calls ++ call ∷ [])) c → IsCutOf (after d call) c
  image_now call c is = subst (λ (x : Replayed). IsCutOf x c) (replayed_push at_start calls call) is

  image_then : (call : Recorded) (c : List (List ℕ)) → IsCutOf (after d call) c → IsCutOf (replayed at_start (calls ++ call ∷ [])) c
  image_then call c is = subst (λ (x : Replayed). IsCutOf x c) (sym (replayed_push at_start calls call)) is

  reads_now : (call : Recorded) → (replayed at_start (calls ++ call ∷ [])).reads ≡ (after d call).reads
  reads_now call = ap (λ (x : Replayed). x.reads) (replayed_push at_start calls call)

  module _ (at : ℕ) (bytes : List ℕ) (kept : Bool) where
    abbrev write : Recorded
    write = Write at bytes kept

    replaces : Replaces at bytes was (now write)
    replaces c is =
        let cuts = image_now write c is in
        let one = cut_push d.synced d.writes at bytes cuts.0 in
        (cut d.synced d.writes one.0, (one.0, refl), ⊎_elim (λ same. inl (cuts.1 ∙ same)) (λ put. inr (cuts.1 ∙ put)) one.1)

    keeps : NoLostImage was (now write)
    keeps c is =
        let more = cut_keep d.synced d.writes at bytes is.0 false in
        image_then write c (more.0, is.1 ∙ sym more.1)

    may_be_replaced : MayBeReplaced at bytes was (now write)
    may_be_replaced c is =
        let more = cut_keep d.synced d.writes at bytes is.0 true in
        image_then write (set c at bytes) (more.0, ap (λ (l : List (List ℕ)). set l at bytes) is.1 ∙ sym more.1)

  -- a write that reads give, whether it failed or not
  pub wrote : {E : Type 0} (at : ℕ) (bytes : List ℕ) (r : Result Unit E) → HasWritten at bytes was (now (Write at bytes true)) r
  wrote at bytes r = record {
    goes = goes (Write at bytes true);
    written = elim r as (λ r. OnOk r ((now (Write at bytes true)).sectors ≡ set d.reads at bytes)) [ Ok u ↦ reads_now (Write at bytes true) | Err e ↦ tt ];
    old_or_new = inr (reads_now (Write at bytes true));
    images = replaces at bytes true;
    kept = keeps at bytes true;
    replaced = elim r as (λ r. OnOk r (MayBeReplaced at bytes was (now (Write at bytes true)))) [ Ok u ↦ may_be_replaced at bytes true | Err e ↦ tt ];
  }

  -- a write that failed, and that reads don't give
  pub lost_write : {E : Type 0} (at : ℕ) (bytes : List ℕ) (e : E) → HasWritten at bytes was (now (Write at bytes false)) (Err e)
  lost_write at bytes e = record {
    goes = goes (Write at bytes false);
    written = tt;
    old_or_new = inl (reads_now (Write at bytes false));
    images = replaces at bytes false;
    kept = keeps at bytes false;
    replaced = tt;
  }

  only_reads : (c : List (List ℕ)) → IsCutOf (replayed at_start (calls ++ Sync true ∷ [])) c → c ≡ d.reads
  only_reads c is = (image_now (Sync true) c is).1

  pub synced : {E : Type 0} (r : Result Unit E) → OnErr r (NoLostImage was (now (Sync true))) → HasSynced was (now (Sync true)) r
  synced r kept = record {
    goes = goes (Sync true);
    sectors = reads_now (Sync true);
    images = λ c is. let w = within at_start calls in (w.kept, only_reads c is ∙ w.is);
    settled = elim r as (λ r. OnOk r (Settled (now (Sync true)))) [ Ok u ↦ (λ c is. only_reads c is ∙ sym (reads_now (Sync true))) | Err e ↦ tt ];
    kept = kept;
  }

  pub lost_sync : {E : Type 0} (e : E) → HasSynced was (now (Sync false)) (Err e)
  lost_sync e = record {
    goes = goes (Sync false);
    sectors = reads_now (Sync false);
    images = image_now (Sync false);
    settled = tt;
    kept = image_then (Sync false);
  }

  -- a call that is not recorded
  abbrev same : DiskState
  same = recorded_disk H at_start calls f' fuse

  stays : KeepsHonesty was same
  stays = record {
    honest = honest;
    time = record { later = omega arith; each = λ t c le since. inl since };
    past = λ t c le since. since;
  }

  pub no_write : {E : Type 0} (at : ℕ) (bytes : List ℕ) (e : E) → HasWritten at bytes was same (Err e)
  no_write at bytes e = record { goes = stays; written = tt; old_or_new = inl refl; images = λ c i. (c, i, inl refl); kept = λ c i. i; replaced = tt }

  pub no_sync : {E : Type 0} (e : E) → HasSynced was same (Err e)
  no_sync e = record { goes = stays; sectors = refl; images = λ c i. i; settled = tt; kept = λ c i. i }

-- ---- what a call does to what reads give

pub reads_of_after : (x : Replayed) (call : Recorded) → (after x call).reads ≡ reads_after x.reads call
reads_of_after x (Write at bytes kept) = refl
reads_of_after x (Sync true) = refl
reads_of_after x (Sync false) = refl

pub replays : (at_start : List (List ℕ)) (calls : List Recorded) (call : Recorded) (s : List (List ℕ)) → s ≡ (replayed at_start calls).reads
    → reads_after s call ≡ (replayed at_start (calls ++ call ∷ [])).reads
replays at_start calls call s is =
    ap (λ (l : List (List ℕ)). reads_after l call) is ∙ sym (ap (λ (x : Replayed). x.reads) (replayed_push at_start calls call) ∙ reads_of_after (replayed at_start calls) call)

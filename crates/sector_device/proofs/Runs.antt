-- How a run of device calls goes on, one lemma for each call.
use Rattle.std.proofs.Common.{◌≡◌, ◌↔◌, ◌++◌, append-nil, append_assoc, inl, inr, ⊎_elim, ℕ, ◌≤◌, ◌<◌, ◌+◌, List, [], length, set, refl, sym, ap, ◌∙◌, subst, arith, length-set, Result, Ok, Err, OnOk, IsOk, IsErr}
use Rattle.std.proofs.lemmas.Bool.{cases_eq, cases_lt}
use Rattle.std.proofs.lemmas.List.{get_or-set_same, get_or-set_other, ext_get_or}
use Rattle.sector_device.specs.DiskState.{DiskState, Settled, Throughout, Remembers, KeepsHonesty, CountsFaults, HasCalled, HasRead, HasWritten, HasSynced, Follows, next_count, sector_at}
use Rattle.sector_device.specs.Runs.{HoldsThroughout, HoldsSince, Mixed, WrittenUpTo}
use Rattle.sector_device.specs.declared.recorded.Recorded.{Recorded}

abbrev Images : Type 1
Images = List (List ℕ) → Type 0

-- before the first call
pub begun : (s : DiskState) (P Q : List (List ℕ) → Type 0) → s.honest → ((c : List (List ℕ)) → s.image c → Q c) → ((c : List (List ℕ)) → Q c → P c) → HoldsThroughout s s P Q
begun s P Q honest here entails = record {
  honest = honest;
  throughout = record { later = omega arith; each = λ t c le since. inl since };
  images = here;
  entails = entails;
  past = λ t c le since. since;
}

pub remembers_then : (first mid last : DiskState) {P : List (List ℕ) → Type 0} → Throughout first mid P → Remembers first mid → Remembers mid last → Remembers first last
remembers_then first mid last a early late = λ t c le since. late t c (omega (arith, a.later, le)) (early t c le since)

-- any call, after which each image has Q'
pub goes_on : {start old new : DiskState} {P Q Q' : List (List ℕ) → Type 0} → HoldsThroughout start old P Q → KeepsHonesty old new → ((c : List (List ℕ)) → new.image c → Q' c) → ((c : List (List ℕ)) → Q' c → P c) → HoldsThroughout start new P Q'
goes_on {start} {old} {new} held goes here entails = record {
  honest = goes.honest;
  throughout = record {
    later = omega (arith, held.throughout.later, goes.time.later);
    each = λ t c le since. ⊎_elim (held.throughout.each t c le) (λ now. inr (entails c (here c now))) (goes.time.each t c (omega (arith, held.throughout.later, le)) since);
  };
  images = here;
  entails = entails;
  past = remembers_then start old new held.throughout held.past goes.past;
}

module _ {E : Type 0} where
  pub has_read : {start old new : DiskState} {P Q : List (List ℕ) → Type 0} {at : ℕ} {bytes : List ℕ} {r : Result Unit E} → HoldsThroughout start old P Q → HasRead at bytes old new r → HoldsThroughout start new P Q
  has_read held read = goes_on held read.goes (λ c now. held.images c (read.images c now)) held.entails

  pub has_synced : {start old new : DiskState} {P Q : List (List ℕ) → Type 0} {r : Result Unit E} → HoldsThroughout start old P Q → HasSynced old new r → HoldsThroughout start new P Q
  has_synced held synced = goes_on held synced.goes (λ c now. held.images c (synced.images c now)) held.entails

  -- a write at which Q is kept
  pub has_written : {start old new : DiskState} {P Q : List (List ℕ) → Type 0} {at : ℕ} {bytes : List ℕ} {r : Result Unit E} → HoldsThroughout start old P Q → HasWritten at bytes old new r → ((d : List (List ℕ)) → Q d → Q (set d at bytes)) → HoldsThroughout start new P Q
  has_written {start} {old} {new} {P} {Q} {at} {bytes} held written keeps =
      goes_on held written.goes (λ c now. let from = written.images c now in ⊎_elim (λ same. subst Q (sym same) (held.images from.0 from.1)) (λ put. subst Q (sym put) (keeps from.0 (held.images from.0 from.1))) from.2) held.entails

-- a write of what the new image has there
pub mixed_set : (old new c : List (List ℕ)) (at : ℕ) (bytes : List ℕ) → at < length old → bytes ≡ sector_at new at → Mixed old new c → Mixed old new (set c at bytes)
mixed_set old new c at bytes within is mixed = record {
  size = length-set c at bytes ∙ mixed.size;
  each = λ k. elim (cases_eq k at) [
    | inl here ↦ inr (ap (sector_at (set c at bytes)) here ∙ get_or-set_same c at bytes [] (omega (arith, mixed.size)) ∙ is ∙ ap (sector_at new) (sym here))
    | inr other ↦ ⊎_elim (λ o. inl (get_or-set_other c at k bytes [] other ∙ o)) (λ n. inr (get_or-set_other c at k bytes [] other ∙ n)) (mixed.each k)
  ];
}

pub mixed_old : (old new : List (List ℕ)) → Mixed old new old
mixed_old old new = record { size = refl; each = λ k. inl refl }

pub throughout_weaker : {old new : DiskState} {P Q : List (List ℕ) → Type 0} → Throughout old new P → ((c : List (List ℕ)) → P c → Q c) → Throughout old new Q
throughout_weaker t to = record { later = t.later; each = λ m c le since. ⊎_elim (λ before. inl before) (λ p. inr (to c p)) (t.each m c le since) }

-- one sector more is written
pub written_more : (old new before after : List (List ℕ)) (n next : ℕ) (bytes : List ℕ) → n < length old → bytes ≡ sector_at new n → after ≡ set before n bytes → n + 1 ≡ next → WrittenUpTo old new n before → WrittenUpTo old new next after
written_more old new before after n next bytes within is put more w = record {
  size = ap length put ∙ length-set before n bytes ∙ w.size;
  done = λ k le. ap (λ s. sector_at s k) put ∙ elim (cases_eq k n) [
    | inl here ↦ ap (sector_at (set before n bytes)) here ∙ get_or-set_same before n bytes [] (omega (arith, w.size)) ∙ is ∙ ap (sector_at new) (sym here)
    | inr other ↦ get_or-set_other before n k bytes [] other ∙ w.done k (omega arith)
  ];
  left = λ k le. ap (λ s. sector_at s k) put ∙ get_or-set_other before n k bytes [] (λ same. omega arith) ∙ w.left k (omega arith);
}

-- the rest is as it is to be
pub written_all : (old new image : List (List ℕ)) (n : ℕ) → length new ≡ length old → ((k : ℕ) → n ≤ k → sector_at new k ≡ sector_at old k) → WrittenUpTo old new n image → image ≡ new
written_all old new image n size same w =
    ext_get_or [] image new (w.size ∙ sym size) (λ k le. elim (cases_lt k n) [ inl below ↦ w.done k below | inr above ↦ w.left k above ∙ sym (same k above) ])

-- two runs, one after the other
pub throughout_then : {first mid last : DiskState} {P : List (List ℕ) → Type 0} → Throughout first mid P → Throughout mid last P → Throughout first last P
throughout_then a b = record {
  later = omega (arith, a.later, b.later);
  each = λ t c le since. ⊎_elim (a.each t c le) (λ p. inr p) (b.each t c (omega (arith, a.later, le)) since);
}

-- so each image since the start has P, if each had it there
pub each_since : {old new : DiskState} {P : List (List ℕ) → Type 0} → ((c : List (List ℕ)) → old.since old.moment c → old.image c) → Throughout old new P → ((c : List (List ℕ)) → old.image c → P c) → (c : List (List ℕ)) → new.since old.moment c → P c
each_since {old} only t here c since = ⊎_elim (λ was. here c (only c was)) (λ p. p) (t.each old.moment c (omega arith) since)

-- and so of a run that is known in full
pub holds_since : {old new : DiskState} {P : List (List ℕ) → Type 0} → ((c : List (List ℕ)) → old.since old.moment c → old.image c) → Throughout old new P → Remembers old new → ((c : List (List ℕ)) → old.image c → P c) → HoldsSince old new P
holds_since only t past here = record { each = each_since only t here; moments = t; past = past }

-- one image was left at the start, and each since has sectors of it and of another
pub since_mixed : {old now : DiskState} {P : List (List ℕ) → Type 0} (new : List (List ℕ)) → ((c : List (List ℕ)) → old.since old.moment c → old.image c) → Settled old → HoldsThroughout old now (Mixed old.sectors new) (Mixed old.sectors new)
    → ((c : List (List ℕ)) → Mixed old.sectors new c → P c) → HoldsSince old now P
since_mixed {old} new only settled held to = holds_since only (throughout_weaker held.throughout to) held.past (λ c i. to c (subst (Mixed old.sectors new) (sym (settled c i)) (mixed_old old.sectors new)))

-- and nothing was done
pub since_settled : {old : DiskState} {P : List (List ℕ) → Type 0} → ((c : List (List ℕ)) → old.since old.moment c → old.image c) → Settled old → P old.sectors → HoldsSince old old P
since_settled {old} {P} only settled p = holds_since only (record { later = omega arith; each = λ t c le since. inl since }) (λ t c le since. since) (λ c i. subst P (sym (settled c i)) p)

-- ---- honesty

-- one equivalence after another
pub both_then : {A B C : Type 0} → A ↔ B → B ↔ C → A ↔ C
both_then p q = (λ a. q.0 (p.0 a), λ c. p.1 (q.1 c))

-- ---- what was asked for

pub follows_none : {calls : List Recorded} → Follows calls calls
follows_none {calls} = record { more = []; is = sym (append-nil calls) }

pub follows_then : {first mid last : List Recorded} → Follows first mid → Follows mid last → Follows first last
follows_then {first} a b = record { more = a.more ++ b.more; is = b.is ∙ ap (λ l. l ++ b.more) a.is ∙ append_assoc first a.more b.more }

-- each call of a run succeeded
pub record AllWell (start now : DiskState) : Type 0 where
  pub count : length now.sectors ≡ length start.sectors
  pub faults : now.faults ≡ start.faults
  pub honest : now.honest ↔ start.honest
  pub follows : Follows start.calls now.calls
  pub handed : now.handed ≡ start.handed
  pub fuse : now.fuse ≡ start.fuse

-- before the first
pub none_called : {start : DiskState} → AllWell start start
none_called = record { count = refl; faults = refl; honest = (λ is. is, λ was. was); follows = follows_none; handed = refl; fuse = refl }

pub one_more : {T E : Type 0} {v : T} {start mid now : DiskState} → AllWell start mid → HasCalled {T = T} {E = E} mid now (Ok v) → AllWell start now
one_more w called = record { count = called.count ∙ w.count; faults = called.faults.ok ∙ w.faults; honest = both_then called.honest w.honest; follows = follows_then w.follows called.follows; handed = called.handed ∙ w.handed; fuse = called.fuse ∙ w.fuse }

-- the run ends there
pub all_called : {T E : Type 0} {v : T} {start now : DiskState} → AllWell start now → HasCalled {T = T} {E = E} start now (Ok v)
all_called w = record { count = w.count; honest = w.honest; faults = record { ok = w.faults; err = tt }; follows = w.follows; handed = w.handed; fuse = w.fuse }

-- or at the call that failed
count_failed : {T E : Type 0} {old now : ℕ} (r : Result T E) → IsErr r → now ≡ next_count old → CountsFaults old now r
count_failed (Ok v) failed is = absurd (cc)
count_failed (Err e) failed is = record { ok = tt; err = is }

pub failed_then : {S T E F : Type 0} {e : F} {r : Result T E} {start mid now : DiskState}
    → AllWell start mid → HasCalled {T = S} {E = F} mid now (Err e) → IsErr r → HasCalled {T = T} {E = E} start now r
failed_then {S} {T} {E} {F} {e} {r} w called failed =
    record { count = called.count ∙ w.count; honest = both_then called.honest w.honest; faults = count_failed r failed (called.faults.err ∙ ap next_count w.faults); follows = follows_then w.follows called.follows; handed = called.handed ∙ w.handed; fuse = called.fuse ∙ w.fuse }

-- ---- of a result that is known later

pub on_ok : {T E : Type 0} {P : Type 0} (r : Result T E) → (IsOk r → P) → OnOk r P
on_ok (Ok v) p = p refl
on_ok (Err e) p = tt

pub ok_of : {T E : Type 0} {P : Type 0} (r : Result T E) → IsOk r → OnOk r P → P
ok_of (Ok v) ok p = p
ok_of (Err e) ok p = absurd (cc)

-- The image that a record and a choice of its writes give.
use Rattle.std.proofs.Common.{◌≡◌, ◌<◌, ◌+◌, ℕ, zero, suc, List, [], ◌∷◌, ◌++◌, length, take, drop, get_or, set, Bool, true, false, if◌then◌else◌, refl, sym, ap, ◌∙◌, subst, arith, length-set}
use Rattle.std.specs.Prelude.{◌&&◌, IsTrue}
use Rattle.std.proofs.Math.Seq.{take-suc}
use Rattle.std.proofs.lemmas.Bool.{and_parts}
use Rattle.std.proofs.lemmas.List.{drop_more, take-append-drop, append-nil, append_assoc, get_or-drop, length-drop}
use Rattle.sector_device.specs.Records.{Replayed, after, after_all, replayed, cut, writes_in, reads_after_all, is_done_sync, IsLastSync, are_recordable}
use Rattle.sector_device.specs.declared.recorded.Recorded.{Recorded}
use Rattle.sector_device.specs.declared.recorded.Recorded.TheVariants.{Write, Sync}
use Rattle.sector_device.proofs.Cut.{cut_nothing}
use Rattle.sector_device.proofs.Record.{replayed_push, reads_of_after}

after_all_append : (d : Replayed) (xs ys : List Recorded) → after_all d (xs ++ ys) ≡ after_all (after_all d xs) ys
after_all_append d [] ys = refl
after_all_append d (x ∷ xs) ys = after_all_append (after d x) xs ys

reads_of_all : (d : Replayed) (xs : List Recorded) → (after_all d xs).reads ≡ reads_after_all d.reads xs
reads_of_all d [] = refl
reads_of_all d (x ∷ xs) = reads_of_all (after d x) xs ∙ ap (λ (s : List (List ℕ)). reads_after_all s xs) (reads_of_after d x)

after_done : (d : Replayed) (c : Recorded) → is_done_sync c ≡ true → after d c ≡ record { synced = d.reads; writes = []; reads = d.reads }
after_done d (Write at bytes kept) e = absurd (cc)
after_done d (Sync true) e = refl
after_done d (Sync false) e = absurd (cc)

abbrev settled_replay : Replayed → Type 0
settled_replay d = (d.synced ≡ d.reads) × (d.writes ≡ [])

settled_at : (a : List (List ℕ)) (calls : List Recorded) (n : ℕ) → IsLastSync calls n → settled_replay (replayed a (take n calls))
settled_at a calls zero l = (refl, refl)
settled_at a calls (suc k) l =
    let lt : k < length calls = omega (arith, l.within) in
    let last = get_or calls k (Sync true) in
    let is : take (suc k) calls ≡ take k calls ++ last ∷ [] = take-suc calls k (Sync true) lt in
    let e : k + 1 ≡ suc k = omega arith in
    let now : replayed a (take (suc k) calls) ≡ record { synced = (replayed a (take k calls)).reads; writes = []; reads = (replayed a (take k calls)).reads } =
    ap (replayed a) is ∙ replayed_push a (take k calls) last ∙ after_done (replayed a (take k calls)) last (l.ends k e) in
    subst settled_replay (sym now) (refl, refl)

not_done : (d : Replayed) (c : Recorded) → is_done_sync c ≡ false → ((after d c).synced ≡ d.synced) × ((after d c).writes ≡ d.writes ++ writes_in (c ∷ []))
not_done d (Write at bytes kept) e = (refl, refl)
not_done d (Sync true) e = absurd (cc)
not_done d (Sync false) e = (refl, sym (append-nil d.writes))

writes_cons : (c : Recorded) (ys : List Recorded) → writes_in (c ∷ []) ++ writes_in ys ≡ writes_in (c ∷ ys)
writes_cons (Write at bytes kept) ys = refl
writes_cons (Sync done) ys = refl

no_sync : (d : Replayed) (ys : List Recorded) → ((k : ℕ) → k < length ys → is_done_sync (get_or ys k (Sync true)) ≡ false)
    → ((after_all d ys).synced ≡ d.synced) × ((after_all d ys).writes ≡ d.writes ++ writes_in ys)
no_sync d [] none = (refl, sym (append-nil d.writes))
no_sync d (y ∷ ys) none =
    let one = not_done d y (none zero (omega arith)) in
    let rest = no_sync (after d y) ys (λ k lt. none (suc k) (omega arith)) in (
      rest.0 ∙ one.0,
      rest.1 ∙ ap (λ (ws : List (ℕ × List ℕ)). ws ++ writes_in ys) one.1 ∙ append_assoc d.writes (writes_in (y ∷ [])) (writes_in ys) ∙ ap (λ (ws : List (ℕ × List ℕ)). d.writes ++ ws) (writes_cons y ys),
    )

-- the sectors and writes since the last successful sync
pub since_sync : (a : List (List ℕ)) (calls : List Recorded) (n : ℕ) → IsLastSync calls n
    → ((replayed a calls).synced ≡ reads_after_all a (take n calls)) × ((replayed a calls).writes ≡ writes_in (drop n calls))
since_sync a calls n l =
    let d = replayed a (take n calls) in
    let whole : replayed a calls ≡ after_all d (drop n calls) = ap (replayed a) (sym (take-append-drop n calls)) ∙ after_all_append _ (take n calls) (drop n calls) in
    let none : (k : ℕ) → k < length (drop n calls) → is_done_sync (get_or (drop n calls) k (Sync true)) ≡ false =
    λ k lt. ap is_done_sync (get_or-drop n calls k (Sync true)) ∙ l.last (n + k) (omega arith) (omega (arith, l.within, length-drop n calls, lt)) in
    let since = no_sync d (drop n calls) none in
    let at = settled_at a calls n l in (
      ap (λ (x : Replayed). x.synced) whole ∙ since.0 ∙ at.0 ∙ reads_of_all _ (take n calls),
      ap (λ (x : Replayed). x.writes) whole ∙ since.1 ∙ ap (λ (ws : List (ℕ × List ℕ)). ws ++ writes_in (drop n calls)) at.1,
    )

-- ---- parts of a record

recordable_parts : (n : ℕ) (xs ys : List Recorded) → IsTrue (are_recordable n (xs ++ ys)) → IsTrue (are_recordable n xs) × IsTrue (are_recordable n ys)
recordable_parts n [] ys all = (refl, all)
recordable_parts n (x ∷ xs) ys all =
    let p = and_parts _ _ all in
    let r = recordable_parts n xs ys p.1 in
    (ap (λ (b : Bool). b && are_recordable n xs) p.0 ∙ r.0, r.1)

pub recordable_split : (n k : ℕ) (calls : List Recorded) → IsTrue (are_recordable n calls) → IsTrue (are_recordable n (take k calls)) × IsTrue (are_recordable n (drop k calls))
recordable_split n k calls all = recordable_parts n (take k calls) (drop k calls) (subst (λ (l : List Recorded). IsTrue (are_recordable n l)) (sym (take-append-drop k calls)) all)

-- ---- a turn of the loop that applies chosen writes

drop_next : (calls : List Recorded) (i : ℕ) (d x : Recorded) → i < length calls → get_or calls i d ≡ x → drop i calls ≡ x ∷ drop (i + 1) calls
drop_next calls i d x lt e = drop_more calls i d lt ∙ ap (λ (y : Recorded). y ∷ drop (i + 1) calls) e

chosen_step : (s : List (List ℕ)) (ws : List (ℕ × List ℕ)) (kept : List Bool) (j at : ℕ) (bytes : List ℕ)
    → cut s ((at, bytes) ∷ ws) (drop j kept) ≡ cut (if get_or kept j false then set s at bytes else s) ws (drop (suc j) kept)
chosen_step s ws [] zero at bytes = sym (cut_nothing s ws)
chosen_step s ws [] (suc j) at bytes = sym (cut_nothing s ws)
chosen_step s ws (k ∷ kept) zero at bytes = refl
chosen_step s ws (k ∷ kept) (suc j) at bytes = chosen_step s ws kept j at bytes

pub apply_write : (calls : List Recorded) (kept : List Bool) (i j : ℕ) (d : Recorded) (at : ℕ) (bytes : List ℕ) (k b : Bool) (s s' all : List (List ℕ))
    → i < length calls → get_or calls i d ≡ Write at bytes k → get_or kept j false ≡ b → s' ≡ (if b then set s at bytes else s)
    → cut s (writes_in (drop i calls)) (drop j kept) ≡ all → cut s' (writes_in (drop (i + 1) calls)) (drop (j + 1) kept) ≡ all
apply_write calls kept i j d at bytes k b s s' all lt e choice is so_far =
    let n : suc j ≡ j + 1 = omega arith in
    let rest = writes_in (drop (i + 1) calls) in
    let put : s' ≡ (if get_or kept j false then set s at bytes else s) = is ∙ sym (ap (λ (b : Bool). if b then set s at bytes else s) choice) in
    ap (λ (l : List (List ℕ)). cut l rest (drop (j + 1) kept)) put
    ∙ ap (λ (m : ℕ). cut (if get_or kept j false then set s at bytes else s) rest (drop m kept)) (sym n)
    ∙ sym (chosen_step s rest kept j at bytes)
    ∙ ap (λ (l : List Recorded). cut s (writes_in l) (drop j kept)) (sym (drop_next calls i d (Write at bytes k) lt e))
    ∙ so_far

pub apply_none : (calls : List Recorded) (kept : List Bool) (i j : ℕ) (d : Recorded) (done : Bool) (s s' all : List (List ℕ))
    → i < length calls → get_or calls i d ≡ Sync done → s' ≡ s
    → cut s (writes_in (drop i calls)) (drop j kept) ≡ all → cut s' (writes_in (drop (i + 1) calls)) (drop j kept) ≡ all
apply_none calls kept i j d done s s' all lt e is so_far =
    ap (λ (l : List (List ℕ)). cut l (writes_in (drop (i + 1) calls)) (drop j kept)) is
    ∙ ap (λ (l : List Recorded). cut s (writes_in l) (drop j kept)) (sym (drop_next calls i d (Sync done) lt e))
    ∙ so_far

pub recordable_next : (n n' : ℕ) (calls : List Recorded) (i : ℕ) (d x : Recorded) → i < length calls → get_or calls i d ≡ x → n' ≡ n
    → IsTrue (are_recordable n (drop i calls)) → IsTrue (are_recordable n' (drop (i + 1) calls))
recordable_next n n' calls i d x lt e same all =
    let now : IsTrue (are_recordable n (x ∷ drop (i + 1) calls)) = subst (λ (l : List Recorded). IsTrue (are_recordable n l)) (drop_next calls i d x lt e) all in
    subst (λ (m : ℕ). IsTrue (are_recordable m (drop (i + 1) calls))) (sym same) (and_parts _ _ now).1

-- ---- the image

pub cut_is : (a : List (List ℕ)) (calls : List Recorded) (n : ℕ) (kept : List Bool) → IsLastSync calls n
    → cut (reads_after_all a (take n calls)) (writes_in (drop n calls)) kept ≡ cut (replayed a calls).synced (replayed a calls).writes kept
cut_is a calls n kept l =
    let p = since_sync a calls n l in
    ap (λ (s : List (List ℕ)). cut s (writes_in (drop n calls)) kept) (sym p.0) ∙ ap (λ (ws : List (ℕ × List ℕ)). cut (replayed a calls).synced ws kept) (sym p.1)

pub reads_length : (s : List (List ℕ)) (calls : List Recorded) → length (reads_after_all s calls) ≡ length s
reads_length s [] = refl
reads_length s (Write at bytes true ∷ calls) = reads_length (set s at bytes) calls ∙ length-set s at bytes
reads_length s (Write at bytes false ∷ calls) = reads_length s calls
reads_length s (Sync done ∷ calls) = reads_length s calls

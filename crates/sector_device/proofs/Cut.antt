-- Subsets of a list of writes that has one more.
use Rattle.std.proofs.Common.{◌≡◌, ◌⊎◌, inl, inr, ℕ, List, [], ◌∷◌, ◌++◌, set, Bool, true, false, if◌then◌else◌, refl, ap, ◌∙◌}
use Rattle.sector_device.specs.Records.{cut}

-- the last write is applied or not
pub cut_push : (s : List (List ℕ)) (ws : List (ℕ × List ℕ)) (at : ℕ) (v : List ℕ) (kept : List Bool)
    → (k : List Bool) × ((cut s (ws ++ (at, v) ∷ []) kept ≡ cut s ws k) ⊎ (cut s (ws ++ (at, v) ∷ []) kept ≡ set (cut s ws k) at v))
cut_push s [] at v [] = ([], inl refl)
cut_push s [] at v (true ∷ kept) = ([], inr refl)
cut_push s [] at v (false ∷ kept) = ([], inl refl)
cut_push s (w ∷ ws) at v [] = ([], inl refl)
cut_push s (w ∷ ws) at v (b ∷ kept) = let r = cut_push (if b then set s w.0 w.1 else s) ws at v kept in (b ∷ r.0, r.1)

pub cut_nothing : (s : List (List ℕ)) (ws : List (ℕ × List ℕ)) → cut s ws [] ≡ s
cut_nothing s [] = refl
cut_nothing s (w ∷ ws) = refl

-- and whichever it is to be, the choices for the others can be completed
pub cut_keep : (s : List (List ℕ)) (ws : List (ℕ × List ℕ)) (at : ℕ) (v : List ℕ) (kept : List Bool) (b : Bool)
    → (k : List Bool) × (cut s (ws ++ (at, v) ∷ []) k ≡ (if b then set (cut s ws kept) at v else cut s ws kept))
cut_keep s [] at v kept true = (true ∷ [], refl)
cut_keep s [] at v kept false = (false ∷ [], refl)
cut_keep s (w ∷ ws) at v [] b =
    let r = cut_keep s ws at v [] b in
    (false ∷ r.0, r.1 ∙ ap (λ (l : List (List ℕ)). if b then set l at v else l) (cut_nothing s ws))
cut_keep s (w ∷ ws) at v (c ∷ kept) b = let r = cut_keep (if c then set s w.0 w.1 else s) ws at v kept b in (c ∷ r.0, r.1)

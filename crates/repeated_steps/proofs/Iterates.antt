-- Lemmas on a step taken n times.
use Rattle.std.proofs.Common.{◌≡◌, ℕ, zero, suc, ◌+◌, refl, sym, ◌∙◌, ap, arith}
use Rattle.std.specs.Fn.{iterate}

pub iterate-suc : {A : Type 0} (h : A → A) (n : ℕ) (x : A) → iterate h (suc n) x ≡ h (iterate h n x)
iterate-suc h zero x = refl
iterate-suc h (suc n) x = iterate-suc h n (h x)

pub iterate-add_one : {A : Type 0} (h : A → A) (n : ℕ) (x : A) → iterate h (n + 1) x ≡ h (iterate h n x)
iterate-add_one h n x =
    let e : n + 1 ≡ suc n = omega arith in
    ap (λ (k : ℕ). iterate h k x) e ∙ iterate-suc h n x

-- m + n steps are m steps and then n
pub iterate-add : {A : Type 0} (h : A → A) (m n : ℕ) (x : A) → iterate h (m + n) x ≡ iterate h n (iterate h m x)
iterate-add h zero n x =
    let e : zero + n ≡ n = omega arith in
    ap (λ (k : ℕ). iterate h k x) e
iterate-add h (suc m) n x =
    let e : suc m + n ≡ suc (m + n) = omega arith in
    ap (λ (k : ℕ). iterate h k x) e ∙ iterate-add h m n (h x)

-- What a step keeps, n steps keep.
pub iterate-keeps : {A : Type 0} (P : A → Type 0) (h : A → A) → ((x : A) → P x → P (h x)) → (n : ℕ) (x : A) → P x → P (iterate h n x)
iterate-keeps P h keeps zero x p = p
iterate-keeps P h keeps (suc n) x p = iterate-keeps P h keeps n (h x) (keeps x p)

-- A rule for n steps at once is right if it is right for none and for one more.
pub iterate-closed : {A : Type 0} (P : A → Type 0) (h : A → A) (jump : ℕ → A → A)
    → ((x : A) → P x → P (h x)) → ((x : A) → P x → jump zero x ≡ x) → ((n : ℕ) (x : A) → P x → jump (suc n) x ≡ jump n (h x))
    → (n : ℕ) (x : A) → P x → iterate h n x ≡ jump n x
iterate-closed P h jump keeps none more zero x p = sym (none x p)
iterate-closed P h jump keeps none more (suc n) x p = iterate-closed P h jump keeps none more n (h x) (keeps x p) ∙ sym (more n x p)

-- A map that carries one step to another carries n of them.
pub iterate-along : {A B : Type 0} (h : A → A) (k : B → B) (f : A → B) → ((x : A) → f (h x) ≡ k (f x)) → (n : ℕ) (x : A) → f (iterate h n x) ≡ iterate k n (f x)
iterate-along h k f e zero x = refl
iterate-along h k f e (suc n) x = iterate-along h k f e n (h x) ∙ ap (iterate k n) (e x)

-- Two steps that are the same wherever P holds, which the second keeps, are the same n times.
pub iterate-same : {A : Type 0} (P : A → Type 0) (h k : A → A) → ((x : A) → P x → P (k x)) → ((x : A) → P x → h x ≡ k x) → (n : ℕ) (x : A) → P x → iterate h n x ≡ iterate k n x
iterate-same P h k keeps e zero x p = refl
iterate-same P h k keeps e (suc n) x p = ap (iterate h n) (e x p) ∙ iterate-same P h k keeps e n (k x) (keeps x p)

iterate-past : {A : Type 0} (P : A → Type 0) (f g : A → A) → ((x : A) → P x → P (f x)) → ((x : A) → P x → f (g x) ≡ g (f x)) → (n : ℕ) (x : A) → P x → iterate f n (g x) ≡ g (iterate f n x)
iterate-past P f g keeps e zero x p = refl
iterate-past P f g keeps e (suc n) x p = ap (iterate f n) (e x p) ∙ iterate-past P f g keeps e n (f x) (keeps x p)

-- Two steps that may change places wherever P holds: n times both is n times the first and then n times the second.
pub iterate-both : {A : Type 0} (P : A → Type 0) (f g : A → A) → ((x : A) → P x → P (f x)) → ((x : A) → P x → P (g x)) → ((x : A) → P x → f (g x) ≡ g (f x))
    → (n : ℕ) (x : A) → P x → iterate (λ y. g (f y)) n x ≡ iterate g n (iterate f n x)
iterate-both P f g keeps_f keeps_g e zero x p = refl
iterate-both P f g keeps_f keeps_g e (suc n) x p =
    iterate-both P f g keeps_f keeps_g e n (g (f x)) (keeps_g (f x) (keeps_f x p))
    ∙ ap (iterate g n) (iterate-past P f g keeps_f e n (f x) (keeps_f x p))

-- A state that a step leaves as it is stays so.
pub iterate-still : {A : Type 0} (h : A → A) (x : A) → h x ≡ x → (n : ℕ) → iterate h n x ≡ x
iterate-still h x e zero = refl
iterate-still h x e (suc n) = ap (iterate h n) e ∙ iterate-still h x e n

pub ruleset step_rules = (iterate-add_one)

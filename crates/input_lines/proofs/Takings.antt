-- What is taken where an input ends.
use Rattle.std.proofs.Common.{◌≡◌, ◌⊎◌, inl, inr, ℕ, ◌<◌, List, [], ◌∷◌, ◌++◌, length, Option, None, Some, refl, sym, ap, ◌∙◌, subst, arith}
use Rattle.std.specs.Io.KnownBytes.{Consumes, IsAtEnd}
use Rattle.input_lines.specs.Reading.{left_of}

-- behind the end there is nothing
none_behind : (y t z : List ℕ) → y ≡ [] → y ≡ t ++ z → (t ≡ []) × (z ≡ [])
none_behind y [] z is e = (refl, sym e ∙ is)
none_behind y (b ∷ t) z is e = absurd (omega (arith, ap length (sym is ∙ e)))

pub at_end : (a b c : Option (List ℕ)) (text t : List ℕ) → Consumes a b text → IsAtEnd b → Consumes b c t → (a ≡ None) ⊎ ((t ≡ []) × Consumes a c text × IsAtEnd c)
at_end None b c text t one is two = inl refl
at_end (Some x) None c text t one is two = absurd one
at_end (Some x) (Some y) None text t one is two = absurd two
at_end (Some x) (Some y) (Some z) text t one is two =
    let both = none_behind y t z is two in
    inr (both.0, one ∙ ap (λ (l : List ℕ). text ++ l) (is ∙ sym both.1), both.1)

pub unknown : (a b : Option (List ℕ)) (text : List ℕ) → a ≡ None → Consumes a b text
unknown a b text e = subst (λ (o : Option (List ℕ)). Consumes o b text) (sym e) tt

pub not_nothing : (t : List ℕ) → 0 < length t → t ≡ [] → ⊥
not_nothing t some e = omega (arith, some, ap length e)

-- what is left at the end is not unread
pub consumes_at_end : (a : Option (List ℕ)) (unread : List ℕ) (b : Option (List ℕ)) (text : List ℕ) → Consumes a (left_of unread b) text → IsAtEnd (left_of unread b) → (a ≡ None) ⊎ ((unread ≡ []) × Consumes a b text × IsAtEnd b)
consumes_at_end None unread b text one is = inl refl
consumes_at_end (Some x) unread None text one is = absurd one
consumes_at_end (Some x) unread (Some y) text one is =
    let both = none_behind (unread ++ y) unread y is refl in
    inr (both.0, one ∙ ap (λ (l : List ℕ). text ++ (l ++ y)) both.0, both.1)

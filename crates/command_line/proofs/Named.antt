-- What the matches of a command answer, by its name.
use Rattle.std.proofs.Common.{◌≡◌, ℕ, false, refl, sym, subst, List, [], ◌∷◌, Option, Some, None, MatchOption, IsSomeAnd, Bor, find, option_map}
use Rattle.std.specs.List.{AllByRecursion}
use Rattle.std.specs.Option.{option_map_or}
use Rattle.std.specs.Str.{bytes_eq}
use Rattle.std.proofs.lemmas.Bool.{false_from_ne_true}
use Rattle.std.proofs.lemmas.Slice.Eq.{bytes_eq-Decides}
use Rattle.command_line.specs.Commands.{Usage, is_named}
use Rattle.command_line.specs.Words.{Word, WritesWithin}

-- no command has another name
pub unnamed : (name : Word) (us : List Usage) → AllByRecursion (λ u. name ≡ u.name → ⊥) us → find (is_named name) us ≡ None
unnamed name [] differs = refl
unnamed name (u ∷ us) differs =
    let other : bytes_eq u.name name ≡ false = false_from_ne_true _ (λ e. differs.0 (sym ((bytes_eq-Decides u.name name).0 e))) in
    rw other (unnamed name us differs.1)

-- the last operand, which was given or left out
module _ (Asked : List Word → Type 0) where
  pub word_or_none : (Answers : Option (Bor Word) → Type 0) → (Asked [] → Answers None) → ((s : Bor Word) → Asked (s.now ∷ []) → Answers (Some s))
      → (f : Option Word) (o : Option (Bor Word)) → option_map (λ s. s.now) o ≡ f → Asked (option_map_or (λ given. given ∷ []) f []) → Answers o
  word_or_none Answers none some f None is asked = none (subst (λ (g : Option Word). Asked (option_map_or (λ given. given ∷ []) g [])) (sym is) asked)
  word_or_none Answers none some f (Some s) is asked = some s (subst (λ (g : Option Word). Asked (option_map_or (λ given. given ∷ []) g [])) (sym is) asked)

  pub number_or_none : (least most : ℕ) (Passing : Word → Type 0) (Answers : Option ℕ → Type 0) → (Asked [] → Answers None)
      → ((n : ℕ) (number : Word) → Asked (number ∷ []) → WritesWithin least most number n → Answers (Some n))
      → (f : Option Word) (o : Option ℕ) → (f ≡ None → o ≡ None) → ((given : Word) → Passing given → IsSomeAnd o (WritesWithin least most given))
      → MatchOption f (false ≡ false) Passing → Asked (option_map_or (λ given. given ∷ []) f []) → Answers o
  number_or_none least most Passing Answers none some None o left_out reads passes asked = subst Answers (sym (left_out refl)) (none asked)
  number_or_none least most Passing Answers none some (Some given) None left_out reads passes asked = absurd (reads given passes)
  number_or_none least most Passing Answers none some (Some given) (Some n) left_out reads passes asked = some n given asked (reads given passes)

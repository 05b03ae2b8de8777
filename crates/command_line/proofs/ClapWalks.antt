-- What a walk of `clap` over the words of a command makes of them, where all that the command has are operands of one value each, and
-- options that ask for help or the version.
use Rattle.std.proofs.Common.{◌≡◌, ◌≢◌, ◌∙◌, ◌==◌, ◌&&◌, ◌||◌, not, ℕ, Bool, true, false, true≢false, refl, sym, ap, ap₂, inl, inr, ◌⊎◌, List, [], ◌∷◌, length, Option, Some, None, is_some, cond, subst}
use borrow.Author.Tests.{eqb-true}
use Rattle.std.specs.Prelude.{slice_get, find}
use Rattle.std.specs.List.{list_all}
use Rattle.std.specs.Str.{bytes_eq, chars}
use Rattle.std.proofs.lemmas.Bool.{not-true}
use Rattle.clap.specs.Kinds.{Kinds, or_else}
use Rattle.clap.specs.Lexer.{long_of, name_and_value, short_of}
use Rattle.clap.specs.Simple.{Shape}
use Rattle.clap.specs.Walk.{Held, Names, Row, Rule, Step, Text, Walk, plain, subcommand_met, action_of, has_long, has_short, after_step, arg_by_long, arg_by_short, bundle_met, idle, takes_values, value, walked, word_met}
use Rattle.clap.specs.Faults.{action_fault, bundle_fault, flags_fault, long_fault, react_fault, short_fault, step_fault, turn_fault, word_fault}
use Rattle.clap.specs.declared.builder.action.ArgAction.{ArgAction}
use Rattle.clap.specs.declared.builder.action.ArgAction.TheVariants as action
use Rattle.clap.proofs.FaultLemmas.{fault_ends}
use Rattle.clap.proofs.WalkLemmas.{both, bundle_ends}
use Rattle.command_line.specs.Words.{is_option}

-- ---- lists of kinds

abbrev pub Fails : Kinds → Type 0
Fails kinds = kinds ≢ []

pub first_fails : (a b : Kinds) → Fails a → Fails (or_else a b)
first_fails [] b h = absurd (h refl)
first_fails (k ∷ ks) b h = λ e. cc

pub later_fails : (a b : Kinds) → Fails b → Fails (or_else a b)
later_fails [] b h = h
later_fails (k ∷ ks) b h = λ e. cc

-- ---- rules

abbrev asks : ArgAction → Bool
asks action.Help = true
asks action.Version = true
asks other = false

-- an operand, or an option that asks for help or the version
abbrev pub is_plain_rule : Rule → Bool
is_plain_rule a = is_some a.index || (not (takes_values a) && asks (action_of a))

-- an option that takes no value and asks
abbrev IsAsking : Option Rule → Type 0
IsAsking None = Unit {0}
IsAsking (Some a) = (takes_values a ≡ false) × (asks (action_of a) ≡ true)

-- all options of plain rules do
option_asks : (p : Rule → Bool) (c : List Rule) → list_all is_plain_rule c ≡ true → IsAsking (find (λ (a : Rule). not (is_some a.index) && p a) c)
option_asks p [] all = tt
option_asks p (a ∷ c) all = go (is_some a.index) (both _ _ all).0 (p a) (find (λ (r : Rule). not (is_some r.index) && p r) c) (option_asks p c (both _ _ all).1)
  where
    go : (index : Bool) → (index || (not (takes_values a) && asks (action_of a))) ≡ true → (here : Bool) (later : Option Rule) → IsAsking later
        → IsAsking (cond (not index && here) (Some a) later)
    go true holds here later is = is
    go false holds false later is = is
    go false holds true later is = (not-true _ (both (not (takes_values a)) _ holds).0, (both (not (takes_values a)) _ holds).1)

-- and a use of it is refused with what it asks for
action_fails : (x : ArgAction) (again : Bool) (a : Rule) (values : List Text) (rows : List Row) → asks x ≡ true → Fails (action_fault x again a values rows)
action_fails action.Help again a values rows e = λ none. cc
action_fails action.Version again a values rows e = λ none. cc
action_fails other again a values rows e = absurd (true≢false (sym e))

react_fails : (c : List Rule) (again : Bool) (a : Rule) (h : Held) → asks (action_of a) ≡ true → Fails (react_fault c again a [] h)
react_fails c again a h e = later_fails _ _ (later_fails _ _ (action_fails (action_of a) again a _ _ e))

long_fails : (c : List Rule) (again : Bool) (name : Text) (v : Option Text) (h : Held) → list_all is_plain_rule c ≡ true
    → Fails (long_fault c again (arg_by_long c name) v h)
long_fails c again name v h ordinary = go (arg_by_long c name) v (option_asks (λ (a : Rule). has_long a name) c ordinary)
  where
    go : (o : Option Rule) (u : Option Text) → IsAsking o → Fails (long_fault c again o u h)
    go None u is = λ none. cc
    go (Some a) None is = rw is.0 (react_fails c again a h is.1)
    go (Some a) (Some t) is = rw is.0 (λ none. cc)

short_fails : (c : List Rule) (again : Bool) (x : ℕ) (rest : Text) (h : Held) (next : Held → Kinds) → list_all is_plain_rule c ≡ true
    → Fails (short_fault c again (arg_by_short c x) rest h next)
short_fails c again x rest h next ordinary = go (arg_by_short c x) (option_asks (λ (a : Rule). has_short a x) c ordinary)
  where
    go : (o : Option Rule) → IsAsking o → Fails (short_fault c again o rest h next)
    go None is = λ none. cc
    go (Some a) is = rw is.0 (first_fails _ _ (react_fails c again a h is.1))

bundle_fails : (c : List Rule) (again : Bool) (flags : Text) (h : Held) (x : ℕ) → list_all is_plain_rule c ≡ true → h.skip ≡ 0 → slice_get (chars flags) 0 ≡ Some x
    → Fails (bundle_fault c again flags h)
unfolding flags_fault chars
bundle_fails c again [] h x ordinary skip first = cc
bundle_fails c again (y ∷ ys) h x ordinary skip first = rw (skip, first) (short_fails c again x _ _ _ ordinary)

-- ---- words

abbrev pub dashes : Text
dashes = 45 ∷ 45 ∷ []

-- a hyphen is a character
hyphen_first : (xs : List ℕ) → is_some (slice_get (chars (45 ∷ xs)) 0) ≡ true
unfolding chars
hyphen_first [] = refl
hyphen_first (x ∷ xs) = refl

no_chars : is_some (slice_get (chars []) 0) ≡ false
unfolding chars
no_chars = refl

-- a word that stands for itself, and one that is an option
abbrev IsBareHyphens : Text → Type 0
IsBareHyphens word = (flags : Text) × (short_of word ≡ Some flags) × (None ≡ slice_get (chars flags) 0)

abbrev IsValue : Text → Type 0
IsValue word = (long_of word ≡ None) × ((short_of word ≡ None) ⊎ IsBareHyphens word)

abbrev IsShort : Text → Type 0
IsShort word = (flags : Text) × (x : ℕ) × (long_of word ≡ None) × (short_of word ≡ Some flags) × (slice_get (chars flags) 0 ≡ Some x)

abbrev IsLong : Text → Type 0
IsLong word = (p : Text × Option Text) × (long_of word ≡ Some p)

abbrev Classified : Text → Bool → Type 0
Classified word true = IsLong word ⊎ IsShort word
Classified word false = IsValue word

classify : (word : Text) → bytes_eq word dashes ≡ false → Classified word (is_option word)
classify [] differs = (refl, inl refl)
classify (x ∷ rest) differs = one (x == 45) refl rest differs
  where
    short : (x == 45) ≡ true → (y : ℕ) (ys : List ℕ) → (y == 45) ≡ false → (o : Option ℕ) → slice_get (chars (y ∷ ys)) 0 ≡ o → Classified (x ∷ y ∷ ys) (is_some o)
    short first y ys second (Some c) found = inr (y ∷ ys, c, rw (first, second) refl, rw (first, second) refl, found)
    short first y ys second None found = (rw (first, second) refl, inr (y ∷ ys, rw (first, second) refl, sym found))

    long : (x == 45) ≡ true → (y : ℕ) → (y == 45) ≡ true → (ys : List ℕ) → bytes_eq (x ∷ y ∷ ys) dashes ≡ false → Classified (x ∷ y ∷ ys) true
    long first y second [] unequal = absurd (true≢false (rw (first, second) at unequal))
    long first y second (z ∷ zs) unequal = inl (name_and_value (z ∷ zs), rw (first, second) refl)

    two : (b : Bool) → (x == 45) ≡ true → (y : ℕ) (ys : List ℕ) → (y == 45) ≡ b → bytes_eq (x ∷ y ∷ ys) dashes ≡ false → Classified (x ∷ y ∷ ys) (is_option (x ∷ y ∷ ys))
    two true first y ys second unequal =
        let there : is_some (slice_get (chars (y ∷ ys)) 0) ≡ true = ap (λ (k : ℕ). is_some (slice_get (chars (k ∷ ys)) 0)) (eqb-true _ _ second) ∙ hyphen_first ys in
        rw (first, there) (long first y second ys unequal)
    two false first y ys second unequal = rw first (short first y ys second (slice_get (chars (y ∷ ys)) 0) refl)

    one : (b : Bool) → (x == 45) ≡ b → (ys : List ℕ) → bytes_eq (x ∷ ys) dashes ≡ false → Classified (x ∷ ys) (is_option (x ∷ ys))
    one false e ys unequal = rw e (rw e refl, inl (rw e refl))
    one true e [] unequal = rw (e, no_chars) (rw e refl, inl (rw e refl))
    one true e (y ∷ ys) unequal = two (y == 45) e y ys refl unequal

-- ---- one word

module _ (s : Shape) (names : Names) (word : Text) (differs : bytes_eq word dashes ≡ false) (h : Held) where
  -- a word that is no command, no option and not `--` is a value
  value_met : (i : ℕ) → subcommand_met names idle word ≡ None → h.skip ≡ 0 → IsValue word → word_met s.rules names false idle i word h ≡ (h, value)
  value_met i command skip (long, inl short) = rw (command, differs, long, short) refl
  value_met i command skip (long, inr (flags, short, empty)) =
      let same : ◌≡◌ {A = Held} (record h { skip = 0 }) h = λ j. record h { skip = sym skip j } in
      let bundled : bundle_met s.rules (length flags) flags h.skip plain (record h { skip = 0 }) ≡ (h, plain) =
      sym (bundle_ends s.rules (length flags) flags h.skip plain (record h { skip = 0 }) empty) ∙ ap (λ (k : Held). (k, plain)) same in
      rw (command, differs, long, short, bundled) refl

  value_passes_here : subcommand_met names idle word ≡ None → IsValue word → word_fault s names false idle word h ≡ []
  value_passes_here command (long, inl short) = rw (command, differs, long, short) refl
  value_passes_here command (long, inr (flags, short, empty)) = rw (command, differs, long, short) (sym (fault_ends s.rules s.args_override_self _ flags _ _ empty))

  option_fails : list_all is_plain_rule s.rules ≡ true → h.skip ≡ 0 → subcommand_met names idle word ≡ None → IsLong word ⊎ IsShort word → Fails (word_fault s names false idle word h)
  option_fails rules skip command (inl (p, long)) = rw (command, differs, long) (long_fails s.rules s.args_override_self p.0 p.1 h rules)
  option_fails rules skip command (inr (flags, x, long, short, first)) = rw (command, differs, long, short) (bundle_fails s.rules s.args_override_self flags h x rules skip first)

-- ---- the walk

abbrev pub Pending : Type 0
Pending = Option (Text × List Text)

abbrev pub at : List Row → Pending → ℕ → Bool → Walk
at rows pending i trailing = record {
  held = record { rows = rows; pending = pending; skip = 0 };
  waiting = idle;
  position = i;
  is_trailing = trailing;
  stopped = None;
}

-- a word that stands for itself, as any does behind `--`
abbrev pub IsPlainWord : Bool → Text → Type 0
IsPlainWord true word = Unit {0}
IsPlainWord false word = (bytes_eq word dashes ≡ false) × (is_option word ≡ false)

module _ (s : Shape) (names : Names) (word : Text) (unknown : subcommand_met names idle word ≡ None) (rows : List Row) (pending : Pending) (i : ℕ) where
  -- such a word goes to an operand, if there is one for it, and is refused by no more than that
  pub word_moves : (trailing : Bool) → IsPlainWord trailing word → (turn_fault s names (at rows pending i trailing) word ≡ step_fault s i (at rows pending i trailing).held value)
      × (walked s.rules names (at rows pending i trailing) word ≡ after_step s.rules word (at rows pending i trailing) (at rows pending i trailing).held value)
  unfolding walked
  word_moves true is = (refl, refl)
  word_moves false (differs, plain_word) =
      let is : IsValue word = subst (Classified word) plain_word (classify word differs) in
      let held = (at rows pending i false).held in
      let met = value_met s names word differs held i unknown refl is in (
        ap₂ (λ (k : Kinds) (m : Held × Step). or_else k (step_fault s i m.0 m.1)) (value_passes_here s names word differs held unknown is) met,
        ap (λ (m : Held × Step). after_step s.rules word (at rows pending i false) m.0 m.1) met,
      )

  pub dashes_move : bytes_eq word dashes ≡ true → (turn_fault s names (at rows pending i false) word ≡ []) × (walked s.rules names (at rows pending i false) word ≡ at rows pending i true)
  unfolding walked
  dashes_move is = (rw (unknown, is) refl, rw (unknown, is) refl)

  pub option_turns : list_all is_plain_rule s.rules ≡ true → bytes_eq word dashes ≡ false → is_option word ≡ true → Fails (turn_fault s names (at rows pending i false) word)
  option_turns rules differs is =
      let classes : IsLong word ⊎ IsShort word = subst (Classified word) is (classify word differs) in
      first_fails _ _ (option_fails s names word differs (at rows pending i false).held rules refl unknown classes)

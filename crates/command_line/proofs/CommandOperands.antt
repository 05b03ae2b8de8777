-- What a command makes of its operands, and when it refuses them.
use Rattle.std.proofs.Common.{◌≡◌, ◌∙◌, ◌++◌, ℕ, Bool, true, false, true≢false, refl, sym, ap, ap₂, List, [], ◌∷◌, Option, Some, None, MatchOption, cond, subst, subst₂, option_map, append_assoc, append-nil}
use mathlib.Core.Bool.{and-false, or-false}
use Rattle.std.specs.Prelude.{fold, ⊤}
use Rattle.std.specs.List.{AllByRecursion, list_all}
use Rattle.std.specs.Option.{option_map_or}
use Rattle.std.specs.Str.{bytes_eq}
use Rattle.clap.specs.Facts.{parser_of_value}
use Rattle.clap.specs.Faults.{check_fault, defaults_fault, settle_fault, stray_fault, turn_fault, use_fault, walk_fault}
use Rattle.clap.specs.Kinds.{Kinds, or_else, value_kinds}
use Rattle.clap.specs.Simple.{Shape, built_leaf, filled, inherited, marked_built, on_top, with_index, with_leaf_noted}
use Rattle.clap.specs.Values.{Accepts, refused_kind}
use Rattle.clap.specs.ValueTests.{accepts}
use Rattle.clap.specs.Walk.{Row, Rule, Text, Walk, arg_by_id, arg_by_index, finished, next_position, settled, settled_rows, used, used_by_id, walked, with_default}
use Rattle.clap.specs.declared.builder.value_parser.ValueParser.{ValueParser}
use Rattle.clap.proofs.ValueTestLemmas.{Accepts-accepts, accepts-Accepts}
use Rattle.command_line.specs.Commands.{Operand, Passes, Usage, gbkeep, rule_of_operand, shape_of_usage, words_in}
use Rattle.command_line.specs.Words.{is_option, operands_of}
use Rattle.command_line.proofs.ClapWalks.{Fails, IsPlainWord, Pending, at, dashes, dashes_move, is_plain_rule, option_turns, word_moves}

-- ---- lists of kinds

pub or_nothing : (k : Kinds) → or_else k [] ≡ k
or_nothing [] = refl
or_nothing (x ∷ xs) = refl

first_nothing : (k l : Kinds) → or_else k l ≡ [] → k ≡ []
first_nothing [] l none = refl
first_nothing (x ∷ xs) l none = cc

later_nothing : (k l : Kinds) → or_else k l ≡ [] → l ≡ []
later_nothing [] l none = none
later_nothing (x ∷ xs) l none = cc

both_nothing : (k l m : Kinds) → or_else (or_else k l) m ≡ [] → (k ≡ []) × (or_else l m ≡ [])
both_nothing [] l m none = (refl, none)
both_nothing (x ∷ xs) l m none =
    let no : ⊥ = cc in
    absurd no

-- a value that is refused, and one that is not
kinds_of : (p : ValueParser) (word : Text) → value_kinds false p word ≡ [] → Accepts false p word
kinds_of p word none = accepts-Accepts false p word (go (accepts false p word) none)
  where
    go : (b : Bool) → cond b [] (refused_kind p ∷ []) ≡ [] → b ≡ true
    go true e = refl
    go false e = cc

no_kinds : (p : ValueParser) (word : Text) → Accepts false p word → value_kinds false p word ≡ []
no_kinds p word passes = rw (Accepts-accepts false p word passes) refl

stray_fails : (s : Shape) → Fails (stray_fault s)
stray_fails s = go s.is_leaf
  where
    go : (leaf : Bool) → Fails (stray_fault (record s { is_leaf = leaf }))
    go true = λ none. cc
    go false = λ none. cc

-- ---- a walk from some state to the end

abbrev after_fault : Shape → Walk → List Text → Kinds
after_fault s w words =
    let end = (fold (walked s.rules []) w words).held in
    or_else (settle_fault s.rules s.args_override_self end)
    (or_else (defaults_fault (settled s.rules end).rows s.rules) (check_fault s (finished s.rules end) false))

abbrev pub fault_from : Shape → Walk → List Text → Kinds
fault_from s w words = or_else (walk_fault s [] w words) (after_fault s w words)

abbrev pub rows_from : Shape → Walk → List Text → List Row
rows_from s w words = finished s.rules (fold (walked s.rules []) w words).held

-- one word is walked
turned : (s : Shape) (w next : Walk) (word : Text) (rest : List Text) (k : Kinds) → (turn_fault s [] w word ≡ k) × (walked s.rules [] w word ≡ next)
    → (fault_from s w (word ∷ rest) ≡ or_else (or_else k (walk_fault s [] next rest)) (after_fault s next rest)) × (rows_from s w (word ∷ rest) ≡ rows_from s next rest)
unfolding walk_fault
turned s w next word rest k (turn, moves) = (
  ap₂ (λ (l : Kinds) (v : Walk). or_else (or_else l (walk_fault s [] v rest)) (after_fault s v rest)) turn moves,
  ap (λ (v : Walk). rows_from s v rest) moves,
)

-- ---- operands

-- a command as it is built
abbrev pub leaf : Usage → Shape
leaf u = built_leaf (inherited (on_top with_leaf_noted (on_top marked_built gbkeep)).top (shape_of_usage u))

abbrev placed : ℕ → Operand → Rule
placed i o = with_index i (filled (rule_of_operand o))

-- the words are as many as the operands, or the last is left out, and each passes
abbrev pub Fits : List Operand → List Text → Type 0
Fits [] [] = Unit {0}
Fits [] (word ∷ words) = ⊥
Fits (o ∷ os) [] = o.is_required ≡ false
Fits (o ∷ os) (word ∷ words) = Accepts false (parser_of_value o.parser) word × Fits os words

-- these rows are of these words
abbrev pub Holds : List Row → List Operand → List Text → Type 0
Holds rows os given = (given ≡ words_in rows os) × (Fits os given → AllByRecursion (Passes rows) os)

module _ (s : Shape) (all : List Operand) where
  abbrev end_fault : List Row → Kinds
  end_fault rows = or_else (defaults_fault rows s.rules) (check_fault s (fold with_default rows s.rules) false)

  -- no more is wanted behind these words, of which these rows are
  abbrev IsWhole : List Text → List Row → Type 0
  IsWhole before rows = (end_fault rows ≡ []) × Holds (fold with_default rows s.rules) all before

  abbrev MayEnd : Bool → List Text → List Row → Type 0
  MayEnd true before rows = Fails (end_fault rows)
  MayEnd false before rows = IsWhole before rows

  -- behind these words a command finds each of these operands by its place and by its id, and refuses a value only by the operand's parser
  abbrev pub Stands : ℕ → List Text → List Row → List Operand → Type 0
  Stands i before rows [] = (arg_by_index s.rules i ≡ None) × IsWhole before rows
  Stands i before rows (o ∷ os) = (arg_by_index s.rules i ≡ Some (placed i o)) × (arg_by_id s.rules o.id ≡ Some (placed i o)) × MayEnd o.is_required before rows
      × ((word : Text) → (use_fault s.args_override_self (placed i o) (word ∷ []) rows ≡ or_else (value_kinds false (parser_of_value o.parser) word) [])
      × Stands (next_position (placed i o) i) (before ++ word ∷ []) (used (placed i o) (word ∷ []) rows) os)

-- what is made of words whose operands are these: `pends` is what refuses the value before them
pub record Takes (pends faults : Kinds) (all : List Operand) (before : List Text) (end : List Row) (os : List Operand) (operands : Option (List Text)) : Type 0 where
  pub taken : faults ≡ [] → (pends ≡ []) × (given : List Text) × (operands ≡ Some given) × Fits os given × Holds end all (before ++ given)
  pub passes : pends ≡ [] → MatchOption operands ⊤ (λ given. Fits os given → faults ≡ [])

abbrev pub operands_from : Bool → List Text → Option (List Text)
operands_from true words = Some words
operands_from false words = operands_of words

none_fit : (word : Text) (operands : Option (List Text)) (P : Type 0) → MatchOption (option_map (λ more. word ∷ more) operands) ⊤ (λ given. Fits [] given → P)
none_fit word None P = tt
none_fit word (Some given) P = λ fits. absurd fits

one_fits : (o : Operand) (os : List Operand) (word : Text) (operands : Option (List Text)) (later all : Kinds) → (later ≡ [] → all ≡ [])
    → (Accepts false (parser_of_value o.parser) word → MatchOption operands ⊤ (λ given. Fits os given → later ≡ []))
    → MatchOption (option_map (λ more. word ∷ more) operands) ⊤ (λ given. Fits (o ∷ os) given → all ≡ [])
one_fits o os word None later all whole passes = tt
one_fits o os word (Some given) later all whole passes = λ fits. whole (passes fits.0 fits.1)

module _ (s : Shape) (rules : list_all is_plain_rule s.rules ≡ true) (all : List Operand) where
  abbrev pending_fault : List Row → Pending → Kinds
  pending_fault old pending = settle_fault s.rules s.args_override_self (at old pending 1 true).held

  abbrev TakesFrom : Bool → ℕ → List Row → Pending → List Text → List Operand → List Text → Option (List Text) → Type 0
  TakesFrom trailing i old pending before os words operands =
      Takes (pending_fault old pending) (fault_from s (at old pending i trailing) words) all before (rows_from s (at old pending i trailing) words) os operands

  abbrev TakesAll : Bool → List Text → Option (List Text) → Type 0
  TakesAll trailing words operands = (i : ℕ) (old : List Row) (pending : Pending) (before : List Text) (os : List Operand)
      → Stands s all i before (settled_rows s.rules pending old) os → TakesFrom trailing i old pending before os words operands

  whole_taken : (trailing : Bool) (i : ℕ) (old : List Row) (pending : Pending) (before : List Text) (os : List Operand)
      → IsWhole s all before (settled_rows s.rules pending old) → Fits os [] → TakesFrom trailing i old pending before os [] (Some [])
  unfolding walk_fault
  whole_taken trailing i old pending before os whole fits = record {
    taken = λ none. (first_nothing _ _ none, [], refl, fits, subst (Holds (rows_from s (at old pending i trailing) []) all) (sym (append-nil before)) whole.1);
    passes = λ settles _. ap (λ (k : Kinds). or_else k (end_fault s all (settled_rows s.rules pending old))) settles ∙ whole.0;
  }

  ends_taken : (trailing : Bool) → TakesAll trailing [] (Some [])
  unfolding walk_fault
  ends_taken trailing i old pending before [] stands = whole_taken trailing i old pending before [] stands.1 tt
  ends_taken trailing i old pending before (o ∷ os) stands = go o.is_required refl stands.2
    where
      go : (b : Bool) → o.is_required ≡ b → MayEnd s all b before (settled_rows s.rules pending old) → TakesFrom trailing i old pending before (o ∷ os) [] (Some [])
      go true required fails = record {
        taken = λ none. absurd (fails (later_nothing _ _ none));
        passes = λ settles left_out. absurd (true≢false (sym required ∙ left_out));
      }
      go false left_out whole = whole_taken trailing i old pending before (o ∷ os) whole left_out

  -- a word goes to the next operand
  word_taken : (trailing : Bool) (word : Text) (rest : List Text) → IsPlainWord trailing word → TakesAll trailing rest (operands_from trailing rest)
      → TakesAll trailing (word ∷ rest) (option_map (λ more. word ∷ more) (operands_from trailing rest))
  word_taken trailing word rest is later i old pending before [] stands =
      let moves = word_moves s [] word refl old pending i trailing is in
      let more = turned s (at old pending i trailing) _ word rest _ moves in
      let strays : turn_fault s [] (at old pending i trailing) word ≡ stray_fault s = moves.0 ∙ (rw stands.0 refl) in
      record {
        taken = λ none. absurd (stray_fails s (sym strays ∙ moves.0 ∙ first_nothing _ _ (first_nothing _ _ (sym more.0 ∙ none))));
        passes = λ settles. none_fit word (operands_from trailing rest) (fault_from s (at old pending i trailing) (word ∷ rest) ≡ []);
      }
  word_taken trailing word rest is later i old pending before (o ∷ os) stands =
      let a = placed i o in
      let rows = settled_rows s.rules pending old in
      let now : Pending = Some (o.id, word ∷ []) in
      let next = at rows now (next_position a i) trailing in
      let here = stands.3 word in
      let moves = word_moves s [] word refl old pending i trailing is in
      let pends : turn_fault s [] (at old pending i trailing) word ≡ pending_fault old pending = moves.0 ∙ (rw (stands.0, and-false) refl) in
      let moves_on : walked s.rules [] (at old pending i trailing) word ≡ next =
      moves.1 ∙ (rw (stands.0, and-false, or-false) refl) in
      let more = turned s (at old pending i trailing) next word rest _ (pends, moves_on) in
      let settles : pending_fault rows now ≡ value_kinds false (parser_of_value o.parser) word =
      ap (λ (b : Option Rule). option_map_or (λ (r : Rule). use_fault s.args_override_self r (word ∷ []) rows) b []) stands.1 ∙ here.0 ∙ or_nothing _ in
      let row_made : settled_rows s.rules now rows ≡ used a (word ∷ []) rows = ap (λ (b : Option Rule). used_by_id b (word ∷ []) rows) stands.1 in
      let behind = later (next_position a i) rows now (before ++ word ∷ []) os
      (subst (λ (r : List Row). Stands s all (next_position a i) (before ++ word ∷ []) r os) (sym row_made) here.1) in
      record {
        taken = λ none.
            let parts = both_nothing (pending_fault old pending) (walk_fault s [] next rest) (after_fault s next rest) (sym more.0 ∙ none) in
            let t = behind.taken parts.1 in (
              parts.0,
              word ∷ t.1,
              ap (option_map (λ given. word ∷ given)) t.2,
              (kinds_of (parser_of_value o.parser) word (sym settles ∙ t.0), t.3),
              subst₂ (λ (rows : List Row) (given : List Text). Holds rows all given) (sym more.1) (append_assoc before (word ∷ []) t.1) t.4,
            );
        passes = λ none_pends. one_fits o os word (operands_from trailing rest) (fault_from s next rest) (fault_from s (at old pending i trailing) (word ∷ rest))
            (λ none. more.0 ∙ ap (λ (k : Kinds). or_else (or_else k (walk_fault s [] next rest)) (after_fault s next rest)) none_pends ∙ none)
            (λ passes. behind.passes (settles ∙ no_kinds (parser_of_value o.parser) word passes));
      }

  first_taken : (word : Text) (rest : List Text) (is_dashes is_flag : Bool) → bytes_eq word dashes ≡ is_dashes → is_option word ≡ is_flag
      → TakesAll true rest (Some rest) → TakesAll false rest (operands_of rest) → TakesAll false (word ∷ rest) (operands_of (word ∷ rest))
  first_taken word rest true is_flag is e behind later i old pending before os stands =
      let more = turned s (at old pending i false) (at old pending i true) word rest [] (dashes_move s [] word refl old pending i is) in
      rw is (subst₂ (λ (faults : Kinds) (end : List Row). Takes (pending_fault old pending) faults all before end os (Some rest)) (sym more.0) (sym more.1)
      (behind i old pending before os stands))
  first_taken word rest false true is e behind later i old pending before os stands =
      let more = turned s (at old pending i false) _ word rest _ (refl, refl) in
      rw (is, e) (record {
        taken = λ none. absurd (option_turns s [] word refl old pending i rules is e (first_nothing _ _ (first_nothing _ _ (sym more.0 ∙ none))));
        passes = λ settles. tt;
      })
  first_taken word rest false false is e behind later i old pending before os stands =
      rw (is, e) (word_taken false word rest (is, e) later i old pending before os stands)

  takes_behind : (words : List Text) → TakesAll true words (Some words)
  takes_behind [] = ends_taken true
  takes_behind (word ∷ rest) = word_taken true word rest tt (takes_behind rest)

  pub takes : (words : List Text) → TakesAll false words (operands_of words)
  takes [] = ends_taken false
  takes (word ∷ rest) = first_taken word rest (bytes_eq word dashes) (is_option word) refl refl (takes_behind rest) (takes rest)

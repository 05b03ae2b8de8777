-- What the whole program makes of its words: it refuses all that ask for no request, and enters the command of all others.
use Rattle.std.proofs.Common.{rules, ◌≡◌, ◌∙◌, ◌⊎◌, inl, inr, ℕ, Bool, true, false, refl, sym, ap, ap₂, arith, List, [], ◌∷◌, ◌++◌, Option, Some, None, MatchOption, codes, cond, subst, is_some, map, ◌||◌, option_map, pos}
use Rattle.std.specs.Prelude.{◌^◌, ◌<◌, FitsSigned, Err, Ok, Result, find, fold, ⊤}
use Rattle.std.specs.Int.{w64}
use Rattle.std.specs.List.{AllByRecursion, list_all}
use Rattle.std.specs.Option.{option_map_or, option_or}
use Rattle.std.specs.Result.{IsErrAnd}
use Rattle.std.specs.Str.{bytes_eq}
use Rattle.std.proofs.lemmas.Int.{ints}
use Rattle.std.proofs.lemmas.Slice.Eq.{bytes_eq-Decides}
use Rattle.clap.specs.Faults.{is_simple_and_free, check_fault, defaults_fault, entered_fault, fault_of, level_fault, settle_fault, walk_fault}
use Rattle.clap.specs.Kinds.{Kinds, or_else}
use Rattle.clap.specs.Simple.{App, Shape, built, built_leaf, entered, help_shape, label_of, names_of, subcommand_of}
use Rattle.clap.specs.Values.{Accepts}
use Rattle.clap.specs.Walk.{Names, Text, Walk, finished, idle, nothing_held, answers_to, rows_after, settled, subcommand_met, walk, walk_from, walked}
use Rattle.clap.specs.Words.{FailsBy, HasKind, kind_of}
use Rattle.clap.specs.declared.builder.value_parser.ValueParser.TheVariants.{Signed}
use Rattle.clap.specs.declared.error.Error.{Error}
use Rattle.clap.specs.declared.error.kind.ErrorKind.{ErrorKind}
use Rattle.clap.proofs.FaultLemmas.{stopped_fault}
use Rattle.clap.proofs.WalkLemmas.{find-map, walk_stopped}
use Rattle.command_line.specs.Commands.{IsRead, Passes, Usage, commands, gbkeep, is_named, words_in, words_of}
use Rattle.command_line.specs.Words.{AsksFor, IsAnswer, IsCommand, Word, WritesWithin, is_option, operands_of}
use Rattle.command_line.specs.declared.Request.{Request}
use Rattle.command_line.specs.declared.Request.TheVariants.{Info, List as Listing, Step as Steps, New, Play, Frame, Trace, Stream, Test, NewRecording, Record, Recorded, Verify, Show, Export, Import, Debug}
use Rattle.command_line.proofs.ClapWalks.{Fails, dashes, first_fails, is_plain_rule, option_turns, word_moves}
use Rattle.command_line.proofs.CommandOperands.{Fits, Takes, Stands, fault_from, leaf, or_nothing, takes}

abbrev top : Shape
top = (built gbkeep).top

abbrev names : Names
names = names_of (built gbkeep)

-- ---- a command that is known

-- the walk at the end, where it entered a command
abbrev stopped_at : Text → List Text → Walk
stopped_at name rest = record (walk_from nothing_held) { stopped = Some (name, rest) }

-- what refuses the words, by the walk over them and what it refuses
abbrev fault_by : Walk → Kinds → Kinds
fault_by w walking = or_else walking (or_else (entered_fault (built gbkeep) w.stopped)
    (or_else (settle_fault top.rules top.args_override_self w.held) (or_else (defaults_fault (settled top.rules w.held).rows top.rules)
    (check_fault top (finished top.rules w.held) (is_some (entered (built gbkeep) w.stopped))))))

-- a command is one that the lemmas on operands are about, and is not `help`
abbrev IsKnown : Usage → Type 0
IsKnown u = (list_all is_plain_rule (leaf u).rules ≡ true) × (bytes_eq u.name (codes "help") ≡ false) × Stands (leaf u) u.operands 1 [] [] u.operands

known : AllByRecursion IsKnown commands
unfolding defaults_fault
known = search rules

-- the subcommand that answers to a word
abbrev sub_named : Text → List Shape → Option Shape
sub_named word subs = find (λ (s : Shape). answers_to word (label_of s)) subs

-- those of the program that is built are the commands, and `help`
sub_among : (word : Text) (us : List Usage) (more : List Shape) → sub_named word (map leaf us ++ more) ≡ option_or (option_map leaf (find (is_named word) us)) (sub_named word more)
sub_among word [] more = refl
sub_among word (u ∷ us) more = go (bytes_eq u.name word) _ (find (is_named word) us) (sub_among word us more)
  where
    go : (b : Bool) (later : Option Shape) (found : Option Usage) → later ≡ option_or (option_map leaf found) (sub_named word more)
        → cond (b || false) (Some (leaf u)) later ≡ option_or (option_map leaf (cond b (Some u) found)) (sub_named word more)
    go true later found e = refl
    go false later found e = e

sub_found : (word : Text) (o : Option Usage) → find (is_named word) commands ≡ o
    → sub_named word (built gbkeep).subs ≡ option_or (option_map leaf o) (sub_named word (built_leaf help_shape ∷ []))
sub_found word o is =
    sub_among word commands (built_leaf help_shape ∷ []) ∙ ap (λ (u : Option Usage). option_or (option_map leaf u) (sub_named word (built_leaf help_shape ∷ []))) is

met_by : (word : Text) (o : Option Shape) → sub_named word (built gbkeep).subs ≡ o → subcommand_met names idle word ≡ option_map (λ (s : Text × List Text). s.0) (option_map label_of o)
met_by word o is = ap (option_map (λ (s : Text × List Text). s.0)) (sym (find-map (answers_to word) label_of (built gbkeep).subs) ∙ ap (option_map label_of) is)

-- what a search finds passes its test, and is what each element is
found_is : {X : Type 0} (p : X → Bool) (P : X → Type 0) (xs : List X) (x : X) → AllByRecursion P xs → find p xs ≡ Some x → (p x ≡ true) × P x
found_is p P [] x all found = cc
found_is {X} p P (y ∷ ys) x all found = go (p y) refl (found_is p P ys x all.1)
  where
    go : (b : Bool) → p y ≡ b → (find p ys ≡ Some x → (p x ≡ true) × P x) → (p x ≡ true) × P x
    go true e later =
        let same : Some y ≡ Some x = rw e at found in
        let is : y ≡ x = cc in
        (ap p (sym is) ∙ e, subst P is all.0)
    go false e later = later (rw e at found)

module _ (name : Text) (u : Usage) (is : find (is_named name) commands ≡ Some u) where
  has : (is_named name u ≡ true) × IsKnown u
  has = found_is (is_named name) IsKnown commands u known is

  named : u.name ≡ name
  named = (bytes_eq-Decides u.name name).0 has.0

  met : subcommand_met names idle name ≡ Some name
  met = met_by name (Some (leaf u)) (sub_found name (Some u) is) ∙ ap (λ (word : Text). Some word) named

  is_not_help : bytes_eq name (codes "help") ≡ false
  is_not_help = subst (λ (word : Text). bytes_eq word (codes "help") ≡ false) named has.1.1

  enters : (rest : List Text) → walk top.rules names nothing_held (name ∷ rest) ≡ stopped_at name rest
  unfolding walked
  enters rest =
      let first : walked top.rules names (walk_from nothing_held) name ≡ stopped_at name [] = rw met refl in
      ap (λ (w : Walk). fold (walked top.rules names) w rest) first ∙ sym (walk_stopped top.rules names (walk_from nothing_held) name [] rest)

  walk_passes : (rest : List Text) → walk_fault top names (walk_from nothing_held) (name ∷ rest) ≡ []
  unfolding walk_fault walked
  walk_passes rest = rw (met, is_not_help) (stopped_fault top names (walk_from nothing_held) (name, []) rest)

  by_command : (rest : List Text) → fault_by (stopped_at name rest) [] ≡ level_fault (leaf u) [] nothing_held rest false []
  unfolding defaults_fault
  by_command rest = rw (sub_found name (Some u) is) (or_nothing _)

  command_fault : (program : Text) (rest : List Text) → fault_of gbkeep (program ∷ name ∷ rest) ≡ level_fault (leaf u) [] nothing_held rest false []
  command_fault program rest = ap₂ fault_by (enters rest) (walk_passes rest) ∙ by_command rest

  command_rows : (program : Text) (rest : List Text) → subcommand_of gbkeep (program ∷ name ∷ rest) ≡ Some (name, rows_after (leaf u).rules [] rest)
  command_rows program rest = ap (λ (w : Walk). entered (built gbkeep) w.stopped) (enters rest) ∙ rw (sub_found name (Some u) is, named) refl

  taken : (rest : List Text) → Takes [] (fault_from (leaf u) (walk_from nothing_held) rest) u.operands [] (rows_after (leaf u).rules [] rest) u.operands (operands_of rest)
  taken rest = takes (leaf u) has.1.0 u.operands rest 1 [] None [] u.operands has.1.2

-- ---- a word that is no command

abbrev NoCommand : Text → Type 0
NoCommand word = subcommand_met names idle word ≡ None

some_kind : (k : ErrorKind) (ks : Kinds) → Fails (k ∷ ks)
some_kind k ks e = cc

no_words : (words : List Text) → (words ≡ []) ⊎ ((program : Text) × (words ≡ program ∷ [])) → Fails (fault_of gbkeep words)
unfolding walk_fault walked defaults_fault
no_words words (inl none) = subst (λ (w : List Text). Fails (fault_of gbkeep w)) (sym none) (some_kind _ _)
no_words words (inr (program, alone)) = subst (λ (w : List Text). Fails (fault_of gbkeep w)) (sym alone) (some_kind _ _)

help_fails : (program : Text) (rest : List Text) → Fails (fault_of gbkeep (program ∷ codes "help" ∷ rest))
unfolding walk_fault
help_fails program rest = some_kind _ _

-- `--` alone enters no command, and no operand may follow it
dashes_fail : (program : Text) (rest : List Text) → Fails (fault_of gbkeep (program ∷ dashes ∷ rest))
unfolding walk_fault walked defaults_fault
dashes_fail program [] = some_kind _ _
dashes_fail program (next ∷ rest) = some_kind _ _

other_fails : (word : Text) (program : Text) (rest : List Text) → NoCommand word → bytes_eq word dashes ≡ false → Fails (fault_of gbkeep (program ∷ word ∷ rest))
unfolding walk_fault
other_fails word program rest unknown differs = go (is_option word) refl
  where
    go : (b : Bool) → is_option word ≡ b → Fails (fault_of gbkeep (program ∷ word ∷ rest))
    go true is = first_fails _ _ (first_fails _ _ (option_turns top names word unknown [] None 1 refl differs is))
    go false is = first_fails _ _ (first_fails _ _ (subst Fails (sym (word_moves top names word unknown [] None 1 false (differs, is)).0) (λ none. cc)))

unknown_fails : (word : Text) (program : Text) (rest : List Text) → find (is_named word) commands ≡ None → Fails (fault_of gbkeep (program ∷ word ∷ rest))
unknown_fails word program rest e = help (bytes_eq (codes "help") word) refl
  where
    go : NoCommand word → (b : Bool) → bytes_eq word dashes ≡ b → Fails (fault_of gbkeep (program ∷ word ∷ rest))
    go unknown true is = subst (λ (w : Text). Fails (fault_of gbkeep (program ∷ w ∷ rest))) (sym ((bytes_eq-Decides word dashes).0 is)) (dashes_fail program rest)
    go unknown false is = other_fails word program rest unknown is

    help : (b : Bool) → bytes_eq (codes "help") word ≡ b → Fails (fault_of gbkeep (program ∷ word ∷ rest))
    help true is = subst (λ (w : Text). Fails (fault_of gbkeep (program ∷ w ∷ rest))) ((bytes_eq-Decides (codes "help") word).0 is) (help_fails program rest)
    help false is = go (met_by word None (sub_found word None e ∙ rw is refl)) (bytes_eq word dashes) refl

-- ---- words that are not refused

reads : (word program : Text) (rest : List Text) → fault_of gbkeep (program ∷ word ∷ rest) ≡ [] → IsRead (program ∷ word ∷ rest) (subcommand_of gbkeep (program ∷ word ∷ rest))
reads word program rest none = go (find (is_named word) commands) refl
  where
    go : (o : Option Usage) → find (is_named word) commands ≡ o → IsRead (program ∷ word ∷ rest) (subcommand_of gbkeep (program ∷ word ∷ rest))
    go None e = absurd (unknown_fails word program rest e none)
    go (Some u) e =
        let t = (taken word u e rest).taken (sym (command_fault word u e program rest) ∙ none) in
        let rows = rows_after (leaf u).rules [] rest in
        let given : t.1 ≡ words_of word rows = t.4.0 ∙ ap (λ (o : Option Usage). option_map_or (λ (v : Usage). words_in rows v.operands) o []) (sym e) in (
          word,
          rows,
          command_rows word u e program rest,
          (refl, t.2 ∙ ap (λ (operands : List Text). Some operands) given),
          subst (λ (o : Option Usage). MatchOption o ⊥ (λ (v : Usage). AllByRecursion (Passes rows) v.operands)) (sym e) (t.4.1 t.3),
        )

pub understood : (words : List Text) → fault_of gbkeep words ≡ [] → IsRead words (subcommand_of gbkeep words)
understood [] none = absurd (no_words [] (inl refl) none)
understood (program ∷ []) none = absurd (no_words (program ∷ []) (inr (program, refl)) none)
understood (program ∷ word ∷ rest) none = reads word program rest none

-- ---- words that ask for a request are not refused

accepted : (least most n : ℕ) (word : Word) → WritesWithin least most word n → n < 2 ^ 63 → Accepts false (Signed (pos least) (pos most)) word
accepted least most n word (writes, low, high) small =
    let is = writes.1 in
    (writes.0, subst (FitsSigned w64) (sym is) (record { sfits = small }), rw is (omega (arith, ints)), rw is (omega (arith, ints)))

-- words of a command whose operands fit are not refused
command_passes : (name : Word) (words : List Word) (operands : List Text) → IsCommand words name operands → MatchOption (find (is_named name) commands) ⊥ (λ u. Fits u.operands operands)
    → fault_of gbkeep words ≡ []
command_passes name [] operands command fits = absurd command
command_passes name (program ∷ []) operands command fits = absurd command
command_passes name (program ∷ word ∷ rest) operands command fits = go (find (is_named name) commands) refl fits
  where
    go : (o : Option Usage) → find (is_named name) commands ≡ o → MatchOption o ⊥ (λ u. Fits u.operands operands) → fault_of gbkeep (program ∷ word ∷ rest) ≡ []
    go None e fit = absurd fit
    go (Some u) e fit =
        let is = subst (λ (n : Word). find (is_named n) commands ≡ Some u) (sym command.0) e in
        let passes = subst (λ (o : Option (List Text)). MatchOption o ⊤ (λ given. Fits u.operands given → fault_from (leaf u) (walk_from nothing_held) rest ≡ [])) command.1
        ((taken word u is rest).passes refl) in
        command_fault word u is program rest ∙ passes fit

asked : (words : List Word) (request : Request) → AsksFor words request → fault_of gbkeep words ≡ []
asked words (Info cart) command = command_passes (codes "info") words _ command (tt, tt)
asked words (Listing cart address count) (number, command, within) = command_passes (codes "list") words _ command (tt, (tt, (accepted 1 4096 _ number within (omega arith), tt)))
asked words (Steps cart count) (number, command, within) = command_passes (codes "step") words _ command (tt, (accepted 0 1000000 _ number within (omega arith), tt))
asked words (New cart save None) command = command_passes (codes "new") words _ command (tt, (tt, refl))
asked words (New cart save (Some sectors)) (number, command, within) = command_passes (codes "new") words _ command (tt, (tt, (accepted 1 65536 _ number within (omega arith), tt)))
asked words (Play cart save script) command = command_passes (codes "play") words _ command (tt, (tt, (tt, tt)))
asked words (Frame cart save out) command = command_passes (codes "frame") words _ command (tt, (tt, (tt, tt)))
asked words (Trace cart save count) (number, command, within) = command_passes (codes "trace") words _ command (tt, (tt, (accepted 1 1024 _ number within (omega arith), tt)))
asked words (Stream cart save) command = command_passes (codes "stream") words _ command (tt, (tt, tt))
asked words (Test cart frames None) (number, command, within) = command_passes (codes "test") words _ command (tt, (accepted 1 1000000 _ number within (omega arith), refl))
asked words (Test cart frames (Some script)) (number, command, within) = command_passes (codes "test") words _ command (tt, (accepted 1 1000000 _ number within (omega arith), (tt, tt)))
asked words (NewRecording cart recording sectors) (number, command, within) = command_passes (codes "new-recording") words _ command (tt, (tt, (accepted 1 65536 _ number within (omega arith), tt)))
asked words (Record cart save recording) command = command_passes (codes "record") words _ command (tt, (tt, (tt, tt)))
asked words (Recorded cart recording) command = command_passes (codes "recorded") words _ command (tt, (tt, tt))
asked words (Verify cart save recording) command = command_passes (codes "verify") words _ command (tt, (tt, (tt, tt)))
asked words (Show cart save) command = command_passes (codes "show") words _ command (tt, (tt, tt))
asked words (Export cart save out) command = command_passes (codes "export") words _ command (tt, (tt, (tt, tt)))
asked words (Import cart battery save None) command = command_passes (codes "import") words _ command (tt, (tt, (tt, refl)))
asked words (Import cart battery save (Some sectors)) (number, command, within) = command_passes (codes "import") words _ command (tt, (tt, (tt, (accepted 1 65536 _ number within (omega arith), tt))))
asked words (Debug cart None) command = command_passes (codes "debug") words _ command (tt, refl)
asked words (Debug cart (Some save)) command = command_passes (codes "debug") words _ command (tt, (tt, tt))

-- ---- what `clap` answers

-- the words of the command that is built are read so
pub at_gbkeep : (P : App → Type 0) (app : App) → app ≡ gbkeep → (is_simple_and_free app ≡ true → P app) → P gbkeep
at_gbkeep P app is holds = subst (λ (a : App). is_simple_and_free a ≡ true → P a) is holds refl

-- an error where a request is asked for is out of memory, and any has one of the kinds
pub error_answers : (words : List Word) (error : Error) (r : Result (Option Request) Error) → HasKind (fault_of gbkeep words) error → IsErrAnd r (λ e. e ≡ error)
    → IsAnswer words r × FailsBy (fault_of gbkeep words) r
error_answers words error (Ok o) kind same = absurd same
error_answers words error (Err e) kind same = (
  λ request. ap kind_of same ∙ elim (subst (λ (k : Kinds). HasKind k error) (asked words request.0 request.1) kind) [ inl memory ↦ memory | inr none ↦ absurd none ],
  subst (HasKind (fault_of gbkeep words)) (sym same) kind,
)

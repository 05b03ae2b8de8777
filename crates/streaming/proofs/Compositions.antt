-- Deeds one after another.
use Rattle.std.proofs.Common.{◌≡◌, ℕ, ◌+◌, List, [], ◌∷◌, ◌++◌, length, Option, refl, sym, ap, ◌∙◌, arith, append_assoc, length-append}
use Rattle.machine.specs.Machine.{MachineState, after}
use Rattle.machine.specs.Machine.{Input}
use Rattle.session.proofs.StandsLaws.{after_append, after_none}
use Rattle.playing.specs.Lines.{Line}
use Rattle.playing.specs.declared.playable.Playable.{Ghosts}
use Rattle.playing.proofs.Making.{Asked, does_then, stops_among_more, stops_before_more}
use Rattle.streaming.specs.Orders.{Deed}
use Rattle.streaming.specs.Answers.{inputs_of_deed, inputs_of_deeds, unsaved_behind_deed, unsaved_behind_deeds, lines_of_deed, lines_of_deeds}
use Rattle.streaming.specs.Obeying.{AdvancesByDeeds, StopsByDeeds}

-- ---- lists of deeds

pub inputs_append : (first second : List Deed) → inputs_of_deeds (first ++ second) ≡ inputs_of_deeds first ++ inputs_of_deeds second
inputs_append [] second = refl
inputs_append (d ∷ first) second = ap (λ (l : List Input). inputs_of_deed d ++ l) (inputs_append first second) ∙ sym (append_assoc (inputs_of_deed d) (inputs_of_deeds first) (inputs_of_deeds second))

pub unsaved_append : (unsaved : ℕ) (first second : List Deed) → unsaved_behind_deeds unsaved (first ++ second) ≡ unsaved_behind_deeds (unsaved_behind_deeds unsaved first) second
unsaved_append unsaved [] second = refl
unsaved_append unsaved (d ∷ first) second = unsaved_append (unsaved_behind_deed unsaved d) first second

pub lines_append : (machine : MachineState) (count unsaved : ℕ) (first second : List Deed) → lines_of_deeds machine count unsaved (first ++ second)
    ≡ lines_of_deeds machine count unsaved first ++ lines_of_deeds (after machine (inputs_of_deeds first)) (count + length (inputs_of_deeds first)) (unsaved_behind_deeds unsaved first) second
lines_append machine count unsaved [] second =
    let e : count ≡ count + 0 = omega arith in
    ap (λ (n : ℕ). lines_of_deeds machine n unsaved second) e ∙ ap (λ (m : MachineState). lines_of_deeds m (count + 0) unsaved second) (sym (after_none machine))
lines_append machine count unsaved (d ∷ first) second =
    let mine = inputs_of_deed d in
    let others = inputs_of_deeds first in
    let e : count + length mine + length others ≡ count + length (mine ++ others) = omega (arith, length-append mine others) in
    let here = lines_of_deed machine count unsaved d in
    let next = lines_of_deeds (after machine mine) (count + length mine) (unsaved_behind_deed unsaved d) first in
    let behind = unsaved_behind_deeds (unsaved_behind_deed unsaved d) first in
    ap (λ (l : List Line). here ++ l) (lines_append (after machine mine) (count + length mine) (unsaved_behind_deed unsaved d) first second)
    ∙ sym (append_assoc here next (lines_of_deeds (after (after machine mine) others) (count + length mine + length others) behind second))
    ∙ ap (λ (n : ℕ). (here ++ next) ++ lines_of_deeds (after (after machine mine) others) n behind second) e
    ∙ ap (λ (m : MachineState). (here ++ next) ++ lines_of_deeds m (count + length (mine ++ others)) behind second) (after_append machine mine others)

-- ---- deeds that were done

abbrev deeds_asked : Asked Deed
deeds_asked = record {
  inputs = inputs_of_deeds;
  unsaved = unsaved_behind_deeds;
  lines = lines_of_deeds;
  inputs_append = inputs_append;
  unsaved_append = unsaved_append;
  lines_append = lines_append;
}

module _ {G F : Type 0} {game : Ghosts G F} {a b : G} {x y : Option (List ℕ)} (first second : List Deed) where
  pub obeys_then : {c : G} {z : Option (List ℕ)} → AdvancesByDeeds game a b x y first → AdvancesByDeeds game b c y z second → AdvancesByDeeds game a c x z (first ++ second)
  obeys_then {c} {z} one two = does_then game deeds_asked a b c x y z first second one two

  pub stops_then : {c : G} {z : Option (List ℕ)} {has_failed : Type 0} {why : F} → AdvancesByDeeds game a b x y first → StopsByDeeds game b c y z has_failed second why → StopsByDeeds game a c x z has_failed (first ++ second) why
  stops_then {c} {z} {has_failed} {why} one two = stops_among_more game deeds_asked a b c x y z has_failed first second why one two

  -- and before others
  pub stops_before : {has_failed : Type 0} {why : F} → StopsByDeeds game a b x y has_failed first why → StopsByDeeds game a b x y has_failed (first ++ second) why
  stops_before {has_failed} {why} stop = stops_before_more game deeds_asked a b x y has_failed first second why stop

-- Lines that are obeyed one after another.
use Rattle.std.proofs.Common.{◌≡◌, inl, inr, Bool, ℕ, ◌<◌, ◌+◌, ◌-◌, ◌^◌, List, [], ◌∷◌, ◌++◌, length, Option, None, Some, refl, sym, ap, ◌∙◌, subst, arith, length-append}
use Rattle.std.specs.Io.KnownBytes.{Consumes, IsAtEnd}
use Rattle.std.proofs.KnownBytes.{Consumes-nil}
use Rattle.machine.specs.Machine.{MachineState, after}
use Rattle.input_lines.specs.Newlines.{HasNoNewline}
use Rattle.input_lines.specs.Reading.{left_of, TakesLine}
use Rattle.input_lines.specs.Given.{Given, HasTakenGiven, HasReadGiven, TakesGiven}
use Rattle.input_lines.proofs.Givings.{given_left, given_more, given_none, given_rest, given_last, takes_given, ends_within, unfinished}
use Rattle.input_lines.proofs.KnownLeft.{left_read}
use Rattle.machine_lines.specs.KeptStates.{KeptMachine}
use Rattle.machine_lines.specs.Slots.{AreKept}
use Rattle.playing.specs.declared.playable.Playable.{Ghosts}
use Rattle.playing.proofs.Making.{advances_machine, advances_rom, makes_nothing}
use Rattle.streaming.specs.Orders.{asked, asked_by, order_of, Deed, kept_behind}
use Rattle.streaming.specs.Answers.{inputs_of_deeds}
use Rattle.streaming.specs.Numbers.{IsNumbered}
use Rattle.streaming.specs.Reading.{Asks, AsksUpTo, IsAsked, IsNext, ReadsTo}
use Rattle.streaming.specs.Reading.Asks.{no_line, by_empty, by_deed}
use Rattle.streaming.specs.Reading.AsksUpTo.{all_asked, by_bytes}
use Rattle.streaming.specs.Obeying.{AdvancesByDeeds, AdvancesByLines, StopsByLines}
use Rattle.streaming.specs.Steps.{IsObeyed, IsRefused, IsStep}
use Rattle.streaming.specs.declared.order.Order.{Order}
use Rattle.streaming.specs.declared.next_order.Next.TheVariants.{Line, Wrong}
use Rattle.streaming.specs.declared.obeying.Went.TheVariants.{Wrong as WentWrong, Damaged as WentDamaged, OtherCartridge as WentOther, NoMemory as WentNoMemory, Failed as WentFailed}
use Rattle.streaming.specs.declared.obeying.End.{End as Ending}
use Rattle.streaming.specs.declared.obeying.End.TheVariants.{Whole, Wrong as WrongLine, Failed as FailedRead, Damaged, OtherCartridge, NoMemory}
use Rattle.streaming.proofs.Compositions.{obeys_then, stops_then}
use Rattle.streaming.proofs.LinesRead.{asked_is, deed_asks, empty_asks}

-- what comes next, by whether it is empty
pub record IsOrdered (states : Bool) (order : Order) (old new : Option (List ℕ)) : Type 0 where
  pub line : List ℕ
  pub one_line : HasNoNewline line
  pub some : 0 < length line
  pub order_is : order_of states line ≡ Some order
  pub numbered : IsNumbered order
  pub takes : TakesLine line old new

asked_as : {states takes : Bool} {o p : Option Order} (line : List ℕ) → states ≡ takes → o ≡ p → IsAsked states (Line o) line → IsAsked takes (Line p) line
asked_as {states} {takes} {o} {p} line same is asks = subst (λ (q : Option Order). IsAsked takes (Line q) line) is (subst (λ (s : Bool). IsAsked s (Line o) line) same asks)

pub ordered : {states takes : Bool} {o : Option Order} {order : Order} {old new : Option (List ℕ)} → states ≡ takes → o ≡ Some order → IsNext states (Line o) old new new → IsOrdered takes order old new
ordered same is (line, one, asks, took) =
    let asked = asked_as line same is asks in
    record { line = line; one_line = one; some = asked.0; order_is = asked.1; numbered = asked.2; takes = took }

module _ {G F : Type 0} (game : Ghosts G F) (rom : List ℕ) (start : G) (of : game.rom start ≡ rom) (before_in : Option (List ℕ)) (x : Option (List ℕ)) where
  -- before line `number`: the lines that were taken, and what was done for each
  pub record SoFar (now : G) (number : ℕ) (there y : Option (List ℕ)) (states : List (List ℕ)) : Type 0 where
    pub lines : List Given
    pub deeds : List Deed
    pub kept : List KeptMachine
    pub asks : Asks game.takes_states rom (game.machine start) lines deeds kept
    pub count : number ≡ length lines + 1
    pub taken : HasTakenGiven (asked game.takes_states) lines before_in there
    pub obeys : AdvancesByDeeds game start now x y deeds
    pub kept_is : AreKept rom states kept

  pub none_yet : (items : List ℕ) (known : Option (List ℕ)) (states : List (List ℕ)) → before_in ≡ known → items ≡ [] → AreKept rom states [] → SoFar start 1 (left_of items known) x states
  none_yet items known states same none kept = record {
    lines = [];
    deeds = [];
    kept = [];
    asks = no_line;
    count = refl;
    taken = subst (λ (b : Option (List ℕ)). HasTakenGiven (asked game.takes_states) [] b (left_of items known)) (sym same) (given_none (asked game.takes_states) known items none);
    obeys = makes_nothing game start x;
    kept_is = kept;
  }

-- ---- behind some lines

module _ {G F : Type 0} {game : Ghosts G F} {rom : List ℕ} {start : G} {of : game.rom start ≡ rom} {before_in x : Option (List ℕ)} {now : G} {number : ℕ} {there y : Option (List ℕ)} {states : List (List ℕ)}
    (so_far : SoFar game rom start of before_in x now number there y states) where
  abbrev asks_for : List ℕ → ℕ
  asks_for = asked game.takes_states

  abbrev lines : List Given
  lines = so_far.lines

  abbrev plain : List ℕ → Given
  plain line = record { line = line; bytes = [] }

  pub rom_is : game.rom now ≡ rom
  rom_is = advances_rom game so_far.obeys.advances ∙ of

  more_lines : (given : Given) → number + 1 ≡ length (lines ++ given ∷ []) + 1
  more_lines given = omega (arith, so_far.count, length-append lines (given ∷ []))

  -- a line that asks for no bytes
  takes_plain : (line : List ℕ) (rest : Option (List ℕ)) → HasNoNewline line → asks_for line ≡ 0 → TakesLine line there rest → TakesGiven asks_for (plain line) there rest
  takes_plain line rest one none took = takes_given asks_for line [] there rest rest one (sym none) took (Consumes-nil rest)

  pub empty_line : {takes : Bool} {o : Option Order} (rest : Option (List ℕ)) → takes ≡ game.takes_states → o ≡ None → IsNext takes (Line o) there rest rest → SoFar game rom start of before_in x now (number + 1) rest y states
  empty_line rest same is (line, one, asks, took) =
      let none = asked_as line same is asks in
      record {
        lines = lines ++ plain line ∷ [];
        deeds = so_far.deeds;
        kept = so_far.kept;
        asks = by_empty (plain line) so_far.asks (none, refl);
        count = more_lines (plain line);
        taken = given_more asks_for lines (plain line) before_in there rest so_far.taken (takes_plain line rest one (empty_asks game.takes_states line none) took);
        obeys = so_far.obeys;
        kept_is = so_far.kept_is;
      }

  -- an end, with nothing done since
  ends : {after_it : G} {z known : Option (List ℕ)} {end : Ending} → after_it ≡ now → z ≡ y → ReadsTo game.takes_states rom so_far.kept end lines before_in known → AdvancesByLines game start after_it before_in known x z end
  ends {z = z} {known = known} {end = end} same quiet read = record {
    lines = lines;
    deeds = so_far.deeds;
    kept = so_far.kept;
    asks = subst (λ (r : List ℕ). Asks game.takes_states r (game.machine start) lines so_far.deeds so_far.kept) (sym of) so_far.asks;
    read = subst (λ (r : List ℕ). ReadsTo game.takes_states r so_far.kept end lines before_in known) (sym of) read;
    obeys = subst (λ (g : G). AdvancesByDeeds game start g x z so_far.deeds) (sym same) (subst (λ (w : Option (List ℕ)). AdvancesByDeeds game start now x w so_far.deeds) (sym quiet) so_far.obeys);
  }

  -- ---- a line with an order

  module _ {order : Order} {mid : Option (List ℕ)} (next : IsOrdered game.takes_states order there mid) where
    abbrev with_bytes : List ℕ → Given
    with_bytes bytes = record { line = next.line; bytes = bytes }

    asked_here : {deed_order : Order} → deed_order ≡ order → order_of game.takes_states next.line ≡ Some deed_order
    asked_here same = next.order_is ∙ ap Some (sym same)

    asks_so : {deed_order : Order} → deed_order ≡ order → asks_for next.line ≡ asked_by (Some deed_order)
    asks_so {deed_order} same = asked_is game.takes_states next.line deed_order (asked_here same)

    takes_it : (bytes : List ℕ) (rest : Option (List ℕ)) → length bytes ≡ asks_for next.line → Consumes mid rest bytes → TakesGiven asks_for (with_bytes bytes) there rest
    takes_it bytes rest all took = takes_given asks_for next.line bytes there mid rest next.one_line all next.takes took

    read_so : (bytes items : List ℕ) (known : Option (List ℕ)) → length bytes ≡ asks_for next.line → Consumes mid (left_of items known) bytes → HasReadGiven asks_for (lines ++ with_bytes bytes ∷ []) items before_in known
    read_so bytes items known all took =
        given_left asks_for (lines ++ with_bytes bytes ∷ []) items before_in known
        (given_more asks_for lines (with_bytes bytes) before_in there (left_of items known) so_far.taken (takes_it bytes (left_of items known) all took))

    -- it was done
    pub obeyed_line : {after_it : G} {z rest known : Option (List ℕ)} {more : List (List ℕ)} → IsObeyed game now after_it y z (record { before = mid; since = rest; unread = known }) rom so_far.kept order more
        → SoFar game rom start of before_in x after_it (number + 1) rest z more
    obeyed_line {rest = rest} {more = more} step =
        let given = with_bytes step.bytes in
        let all = deed_asks rom so_far.kept step.bytes step.deed step.done ∙ sym (asks_so step.order_is) in
        record {
          lines = lines ++ given ∷ [];
          deeds = so_far.deeds ++ step.deed ∷ [];
          kept = kept_behind (after (game.machine start) (inputs_of_deeds so_far.deeds)) so_far.kept step.deed;
          asks = by_deed given step.deed so_far.asks (record { one_line = next.one_line; some = next.some; order_is = asked_here step.order_is; done = step.done });
          count = more_lines given;
          taken = given_more asks_for lines given before_in there rest so_far.taken (takes_it step.bytes rest all step.took);
          obeys = obeys_then so_far.deeds (step.deed ∷ []) so_far.obeys step.obeys;
          kept_is = subst (λ (m : MachineState). AreKept rom more (kept_behind m so_far.kept step.deed)) (advances_machine game so_far.obeys.advances) step.kept_is;
        }

    -- it was refused
    pub refused_line : {after_it : G} {z known : Option (List ℕ)} {has_failed : Type 0} {why : F} (items : List ℕ) → IsRefused game now after_it y z (record { before = mid; since = left_of items known; unread = known }) rom so_far.kept order has_failed why
        → StopsByLines game start after_it before_in known x z has_failed why
    refused_line {known = known} items stop =
        let given = with_bytes stop.bytes in
        let found : (length stop.bytes ≡ asks_for next.line) × AsksUpTo game.takes_states rom (game.machine start) (lines ++ given ∷ []) (so_far.deeds ++ stop.deed ∷ []) = elim stop.asked [
          | inl done ↦ (
            deed_asks rom so_far.kept stop.bytes stop.deed done ∙ sym (asks_so stop.order_is),
            all_asked (by_deed given stop.deed so_far.asks (record { one_line = next.one_line; some = next.some; order_is = asked_here stop.order_is; done = done })),
          )
          | inr (n, restores, size, deed_is) ↦ (
            size ∙ sym (asks_so (sym restores)),
            subst (λ (d : Deed). AsksUpTo game.takes_states rom (game.machine start) (lines ++ given ∷ []) (so_far.deeds ++ d ∷ [])) (sym deed_is)
                (by_bytes given n so_far.asks (asked_here (sym restores)) size),
          )
        ] in
        record {
          lines = lines ++ given ∷ [];
          deeds = so_far.deeds ++ stop.deed ∷ [];
          asks = subst (λ (r : List ℕ). AsksUpTo game.takes_states r (game.machine start) (lines ++ given ∷ []) (so_far.deeds ++ stop.deed ∷ [])) (sym of) found.1;
          more = items;
          read = read_so stop.bytes items known found.0 stop.took;
          stops = stops_then so_far.deeds (stop.deed ∷ []) so_far.obeys stop.stops;
        }

    -- nothing was done

    pub went_wrong : {after_it : G} {z known : Option (List ℕ)} (items : List ℕ) → IsStep game now after_it y z (record { before = mid; since = left_of items known; unread = known }) rom so_far.kept order [] WentWrong
        → AdvancesByLines game start after_it before_in known x z (WrongLine number)
    went_wrong {known = known} items (still, (k, back, none), took_none) =
        ends still.same still.quiet
        (so_far.count, inl (record { given = plain next.line; is = (refl, inr (k, asked_here (sym back), none)); more = items; read = read_so [] items known (sym (asks_so (sym back))) took_none }))

    pub lacked_memory : {after_it : G} {z known : Option (List ℕ)} (items : List ℕ) → IsStep game now after_it y z (record { before = mid; since = left_of items known; unread = known }) rom so_far.kept order [] WentNoMemory
        → AdvancesByLines game start after_it before_in known x z NoMemory
    lacked_memory {known = known} items (still, inl power, took_none) =
        ends still.same still.quiet
        (record { given = plain next.line; is = (refl, inl (asked_here (sym power))); more = items; read = read_so [] items known (sym (asks_so (sym power))) took_none })
    lacked_memory {known = known} items (still, inr (k, keeps, none), took_none) =
        ends still.same still.quiet
        (record { given = plain next.line; is = (refl, inr (k, asked_here (sym keeps), none)); more = items; read = read_so [] items known (sym (asks_so (sym keeps))) took_none })

    pub was_damaged : {after_it : G} {z known : Option (List ℕ)} (items : List ℕ) → IsStep game now after_it y z (record { before = mid; since = left_of items known; unread = known }) rom so_far.kept order [] WentDamaged
        → AdvancesByLines game start after_it before_in known x z Damaged
    was_damaged {known = known} items (still, (n, restores, bad)) =
        ends still.same still.quiet
        (elim bad [
          | inl all ↦
              record { given = with_bytes all.bytes; is = (n, asked_here (sym restores), inr all.are); more = items; read = read_so all.bytes items known (all.long ∙ sym (asks_so (sym restores))) all.took }
          | inr (short, is_end) ↦
              record {
                given = with_bytes short.bytes;
                is = (n, asked_here (sym restores), inl (λ e. absurd (omega (arith, e, short.few))));
                more = [];
                read = given_last asks_for lines (with_bytes short.bytes) before_in there known so_far.taken
                    (ends_within asks_for next.line short.bytes there mid known next.one_line (omega (arith, asks_so (sym restores), short.few)) next.takes short.took is_end);
              }
        ])

    pub was_of_another : {after_it : G} {z known : Option (List ℕ)} (items : List ℕ) → IsStep game now after_it y z (record { before = mid; since = left_of items known; unread = known }) rom so_far.kept order [] WentOther
        → AdvancesByLines game start after_it before_in known x z OtherCartridge
    was_of_another {known = known} items (still, (n, restores, all)) =
        ends still.same still.quiet
        (record { given = with_bytes all.bytes; is = (n, asked_here (sym restores), all.long, all.are); more = items; read = read_so all.bytes items known (all.long ∙ sym (asks_so (sym restores))) all.took })

    pub bytes_failed : {after_it : G} {z known : Option (List ℕ)} (items : List ℕ) → IsStep game now after_it y z (record { before = mid; since = left_of items known; unread = known }) rom so_far.kept order [] WentFailed
        → AdvancesByLines game start after_it before_in known x z FailedRead
    bytes_failed {known = known} items (still, (n, restores, short)) =
        let cut = unfinished asks_for next.line short.bytes there mid known next.one_line (omega (arith, asks_so (sym restores), short.few)) next.takes short.took in
        ends still.same still.quiet (cut.0, cut.1, given_rest asks_for lines cut.0 before_in there known so_far.taken cut.2)

  -- ---- other ends

  none_asked : (line : List ℕ) → order_of game.takes_states line ≡ None → asks_for line ≡ 0
  none_asked line none = rw none refl

  pub wrong_line : {known : Option (List ℕ)} (items : List ℕ) → IsNext game.takes_states Wrong there (left_of items known) known → AdvancesByLines game start now before_in known x y (WrongLine number)
  wrong_line {known} items (line, wrong, inl took) =
      ends refl refl (
        so_far.count,
        inl (record {
          given = plain line;
          is = (refl, inl wrong);
          more = items;
          read = given_left asks_for (lines ++ plain line ∷ []) items before_in known
              (given_more asks_for lines (plain line) before_in there (left_of items known) so_far.taken (takes_plain line (left_of items known) wrong.one_line (none_asked line wrong.wrong) took));
        }),
      )
  wrong_line {known} items (line, wrong, inr (long, took)) =
      ends refl refl (
        so_far.count,
        inr (inl (record {
          line = line;
          one_line = wrong.one_line;
          long = long;
          more = items;
          read = given_rest asks_for lines (line ++ items) before_in there known so_far.taken (left_read there items known line took);
        })),
      )

  pub at_the_end : {known : Option (List ℕ)} → Consumes there known [] × IsAtEnd known → AdvancesByLines game start now before_in known x y Whole
  at_the_end {known} next = ends refl refl (given_rest asks_for lines [] before_in there known so_far.taken next.0, next.1)

  pub read_failed : {known : Option (List ℕ)} → (rest : List ℕ) × HasNoNewline rest × Consumes there known rest → AdvancesByLines game start now before_in known x y FailedRead
  read_failed {known} (rest, one, took) = ends refl refl (rest, inl one, given_rest asks_for lines rest before_in there known so_far.taken took)

  pub last_number : (items : List ℕ) (known : Option (List ℕ)) → there ≡ left_of items known → number ≡ 2 ^ 64 - 1 → AdvancesByLines game start now before_in known x y (WrongLine number)
  last_number items known same last =
      ends refl refl
      (so_far.count, inr (inr (last, (items, given_left asks_for lines items before_in known (subst (HasTakenGiven asks_for lines before_in) same so_far.taken)))))

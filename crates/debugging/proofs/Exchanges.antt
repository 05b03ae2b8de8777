-- Lines that were obeyed one after another.
use Rattle.std.proofs.Common.{◌≡◌, ◌∙◌, inl, inr, ℕ, Bool, ◌+◌, ◌<◌, ◌^◌, ◌-◌, List, [], ◌∷◌, ◌++◌, append-nil, append_assoc, length, length-append, Option, None, Some, ap, refl, subst, sym, arith, true, false}
use Rattle.std.specs.Prelude.{◌==◌, nat_le}
use Rattle.std.specs.Io.KnownBytes.{Appends}
use Rattle.std.proofs.lemmas.Bool.{lt-leb}
use Rattle.std.proofs.lemmas.Bool.Decides.{nat_tests}
use Rattle.exact_text.specs.Written.{AppendsProperPrefix}
use Rattle.exact_text.proofs.Writes.{appends_nothing, appends_twice, whole_then_prefix}
use Rattle.arrayvec.specs.ArrayVec.{ArrayVec}
use Rattle.input_lines.specs.Reading.{left_of}
use Rattle.input_lines.specs.Given.{Given, HasTakenGiven, TakesGiven, HasReadGiven}
use Rattle.input_lines.proofs.Givings.{given_none, given_more, given_left, given_rest, given_last}
use Rattle.state_header.specs.States.{header_of}
use Rattle.debugging.specs.declared.order.StateOrder.{StateOrder}
use Rattle.debugging.specs.Orders.{asked, order_of, restore_of, state_order_of}
use Rattle.debugging.specs.Run.{RunState}
use Rattle.debugging.specs.States.{after_snapshot, is_snapshot, rom_of}
use Rattle.debugging.specs.KeptStates.{DebugState, with_none_kept}
use Rattle.debugging.specs.Answers.{after_given, after_line, after_lines, after_state_order, answer_given, answer_line, answer_state_order, answers, restored_text, takes_memory, wrong_line}
use Rattle.debugging.specs.Debugged.{HasAnsweredAll, HasAnsweredSome, HasBrokenOff, HasLackedMemory, IsDebugCause}
use Rattle.debugging.specs.declared.error.DebugError.{DebugError}
use Rattle.debugging.specs.declared.error.DebugError.TheVariants.{Input, Output, Memory}
use Rattle.debugging.specs.NextGiven.{IsNextGiven, IsWrong}
use Rattle.debugging.specs.declared.given.NextGiven.TheVariants.{Line, State, Wrong, Last, End, Failed}
use Rattle.debugging.proofs.Restoring.{after_is, given_is, not_given}
use Rattle.debugging.specs.Switching.{HasSwitched, IsNotSwitched}
use Rattle.debugging.proofs.Givens.{long_asks_none}
use Rattle.machine_lines.specs.KeptStates.{KeptMachine}
use Rattle.machine_lines.specs.Slots.{AreKept}

-- ---- one line more

after_one_more : (all : List Given) (given : Given) (d : DebugState) → after_lines (all ++ given ∷ []) d ≡ after_given given (after_lines all d)
unfolding after_lines
after_one_more [] given d = refl
after_one_more (first ∷ all) given d = after_one_more all given (after_given first d)

answers_one_more : (number : ℕ) (all : List Given) (given : Given) (d : DebugState)
    → answers number (all ++ given ∷ []) d ≡ answers number all d ++ answer_given given (number + length all) (after_lines all d)
unfolding answers after_lines
answers_one_more number [] given d =
    let same : number ≡ number + 0 = omega arith in
    append-nil (answer_given given number d) ∙ ap (λ (n : ℕ). answer_given given n d) same
answers_one_more number (first ∷ all) given d =
    let same : number + 1 + length all ≡ number + length (first ∷ all) = omega arith in
    ap (λ (text : List ℕ). answer_given first number d ++ text) (answers_one_more (number + 1) all given (after_given first d))
    ∙ sym (append_assoc (answer_given first number d) (answers (number + 1) all (after_given first d)) _)
    ∙ ap (λ (n : ℕ). (answer_given first number d ++ answers (number + 1) all (after_given first d)) ++ answer_given given n (after_lines all (after_given first d))) same

-- ---- a line of more than 512 bytes, and bytes that are no state

asks_no_state : (line : List ℕ) → 512 < length line → state_order_of line ≡ None
asks_no_state line long = let test : nat_le (length line) 512 ≡ false = lt-leb (length line) 512 long in rw test refl

asks_nothing : (line : List ℕ) → 512 < length line → order_of line ≡ None
asks_nothing line long = let test : nat_le (length line) 512 ≡ false = lt-leb (length line) 512 long in rw test refl

is_some_line : (line : List ℕ) → 512 < length line → (length line == 0) ≡ false
is_some_line line long = grind (arith, nat_tests)

after_long : (line : List ℕ) (r : RunState) → 512 < length line → after_line line r ≡ r
after_long line r long = let some = is_some_line line long in let none = asks_nothing line long in rw (some, none) refl

answer_long : (line : List ℕ) (number : ℕ) (r : RunState) → 512 < length line → answer_line line number r ≡ wrong_line number
answer_long line number r long = let some = is_some_line line long in let none = asks_nothing line long in rw (some, none) refl

pub wrong_given : (rom : List ℕ) (given : Given) (number : ℕ) (d : DebugState) → IsWrong rom given → rom_of d.run ≡ rom → (after_given given d ≡ d) × (answer_given given number d ≡ wrong_line number)
wrong_given rom given number d (inl long) is =
    let none = long_asks_none given.line long in
    let plain = asks_no_state given.line long in
    (rw (none, plain) (ap (λ (r : RunState). record d { run = r }) (after_long given.line d.run long)), rw (none, plain) (answer_long given.line number d.run long))
wrong_given rom given number d (inr wrong) is =
    let asks = wrong.1 in
    let none = not_given rom wrong.0 given.bytes d.run is wrong.2 in
    (rw (asks, none) refl, rw (asks, none) refl)

-- ---- the lines so far

-- before line `number`: the lines that were taken, and that each was answered
pub record IsObeying (start : RunState) (now : DebugState) (number : ℕ) (unread left before since : Option (List ℕ)) : Type 0 where
  pub given : List Given
  pub count : number ≡ length given + 1
  pub taken : HasTakenGiven asked given unread left
  pub state : now ≡ after_lines given (with_none_kept start)
  pub answered : Appends before since (answers 1 given (with_none_kept start))

pub none_obeyed : (r : RunState) (items : List ℕ) (known before : Option (List ℕ)) → items ≡ [] → IsObeying r (with_none_kept r) 1 known (left_of items known) before before
unfolding after_lines answers
none_obeyed r items known before none = record {
  given = [];
  count = refl;
  taken = given_none asked known items none;
  state = refl;
  answered = appends_nothing before;
}

-- the same, where the machines that are kept are those of the snapshots that the code has
pub record HasObeyed (rom : List ℕ) (states : List (List ℕ)) (start now : RunState) (number : ℕ) (unread left before since : Option (List ℕ)) : Type 0 where
  pub machines : List KeptMachine
  pub obeying : IsObeying start (record { run = now; kept = machines }) number unread left before since
  pub kept : AreKept rom states machines

abbrev pub state_of : RunState → List KeptMachine → DebugState
state_of r machines = record { run = r; kept = machines }

module _ (rom : List ℕ) (start : RunState) (now : DebugState) (number : ℕ) (unread left before since : Option (List ℕ)) (so_far : IsObeying start now number unread left before since) where
  abbrev from : DebugState
  from = with_none_kept start

  number_is : 1 + length so_far.given ≡ number
  number_is = omega (arith, so_far.count)

  text_is : (given : Given) → answers 1 (so_far.given ++ given ∷ []) from ≡ answers 1 so_far.given from ++ answer_given given number now
  text_is given =
      answers_one_more 1 so_far.given given from
      ∙ ap (λ (n : ℕ). answers 1 so_far.given from ++ answer_given given n (after_lines so_far.given from)) number_is
      ∙ ap (λ (d : DebugState). answers 1 so_far.given from ++ answer_given given number d) (sym so_far.state)

  told : (given : Given) (written : Option (List ℕ)) (text : List ℕ) → answer_given given number now ≡ text → Appends since written text → Appends before written (answers 1 (so_far.given ++ given ∷ []) from)
  told given written text is more =
      subst (Appends before written) (ap (λ (t : List ℕ). answers 1 so_far.given from ++ t) (sym is) ∙ sym (text_is given)) (appends_twice before since written _ _ so_far.answered more)

  pub one_more : (given : Given) (after : DebugState) (rest written : Option (List ℕ)) (text : List ℕ) → TakesGiven asked given left rest → after ≡ after_given given now
      → answer_given given number now ≡ text → Appends since written text → IsObeying start after (number + 1) unread rest before written
  one_more given after rest written text takes moved is more = record {
    given = so_far.given ++ given ∷ [];
    count = omega (arith, so_far.count, length-append so_far.given (given ∷ []));
    taken = given_more asked so_far.given given unread left rest so_far.taken takes;
    state = moved ∙ ap (after_given given) so_far.state ∙ sym (after_one_more so_far.given given from);
    answered = told given written text is more;
  }

  pub broken : (given : Given) (more : List ℕ) (known written : Option (List ℕ)) (text : List ℕ) → HasReadGiven asked (so_far.given ++ given ∷ []) more unread known
      → answer_given given number now ≡ text → AppendsProperPrefix since written text
      → HasBrokenOff start (record { unread = unread; left = known; before = before; since = written })
  broken given more known written text read is failed = record {
    given = so_far.given ++ given ∷ [];
    more = more;
    read = read;
    answered = subst (AppendsProperPrefix before written) (ap (λ (t : List ℕ). answers 1 so_far.given from ++ t) (sym is) ∙ sym (text_is given)) (whole_then_prefix before since written _ _ so_far.answered failed);
  }

  broken_at : (given : Given) (items : List ℕ) (known written : Option (List ℕ)) (text : List ℕ) → TakesGiven asked given left (left_of items known)
      → answer_given given number now ≡ text → AppendsProperPrefix since written text
      → HasBrokenOff start (record { unread = unread; left = known; before = before; since = written })
  broken_at given items known written text takes is failed =
      broken given items known written text
      (given_left asked (so_far.given ++ given ∷ []) items unread known (given_more asked so_far.given given unread left (left_of items known) so_far.taken takes)) is failed

  -- a line
  module _ (line : List ℕ) (none : restore_of line ≡ None) where
    abbrev plain : Given
    plain = record { line = line; bytes = [] }

    line_answer : state_order_of line ≡ None → answer_given plain number now ≡ answer_line line number now.run
    line_answer no_state = rw (none, no_state) refl

    line_after : state_order_of line ≡ None → after_given plain now ≡ record now { run = after_line line now.run }
    line_after no_state = rw (none, no_state) refl

    order_answer : (order : StateOrder) → state_order_of line ≡ Some order → answer_given plain number now ≡ answer_state_order order number now
    order_answer order is = rw (none, is) refl

    order_after : (order : StateOrder) → state_order_of line ≡ Some order → after_given plain now ≡ after_state_order order now
    order_after order is = rw (none, is) refl

  pub line_obeyed : (text : ArrayVec ℕ) (snapshot : List ℕ) (after : RunState) (rest known written : Option (List ℕ)) → IsNextGiven (Line text) rom snapshot left rest known
      → state_order_of text.items ≡ None → after ≡ after_line text.items now.run → Appends since written (answer_line text.items number now.run)
      → IsObeying start (record now { run = after }) (number + 1) unread rest before written
  line_obeyed text snapshot after rest known written next no_state moved more =
      one_more (plain text.items next.0) (record now { run = after }) rest written (answer_line text.items number now.run) next.1
      (ap (λ (r : RunState). record now { run = r }) moved ∙ sym (line_after text.items next.0 no_state)) (line_answer text.items next.0 no_state) more

  pub line_broken : (text : ArrayVec ℕ) (snapshot : List ℕ) (items : List ℕ) (known written : Option (List ℕ)) → IsNextGiven (Line text) rom snapshot left (left_of items known) known
      → state_order_of text.items ≡ None → AppendsProperPrefix since written (answer_line text.items number now.run)
      → HasBrokenOff start (record { unread = unread; left = known; before = before; since = written })
  line_broken text snapshot items known written next no_state failed =
      broken_at (plain text.items next.0) items known written (answer_line text.items number now.run) next.1 (line_answer text.items next.0 no_state) failed

  -- the power switch, and a state that is kept
  pub order_obeyed : (text : ArrayVec ℕ) (snapshot : List ℕ) (order : StateOrder) (rest known written : Option (List ℕ)) → IsNextGiven (Line text) rom snapshot left rest known
      → state_order_of text.items ≡ Some order → Appends since written (answer_state_order order number now)
      → IsObeying start (after_state_order order now) (number + 1) unread rest before written
  order_obeyed text snapshot order rest known written next is more =
      one_more (plain text.items next.0) (after_state_order order now) rest written (answer_state_order order number now) next.1
      (sym (order_after text.items next.0 order is)) (order_answer text.items next.0 order is) more

  pub order_broken : (text : ArrayVec ℕ) (snapshot : List ℕ) (order : StateOrder) (items : List ℕ) (known written : Option (List ℕ))
      → IsNextGiven (Line text) rom snapshot left (left_of items known) known → state_order_of text.items ≡ Some order
      → AppendsProperPrefix since written (answer_state_order order number now)
      → HasBrokenOff start (record { unread = unread; left = known; before = before; since = written })
  order_broken text snapshot order items known written next is failed =
      broken_at (plain text.items next.0) items known written (answer_state_order order number now) next.1 (order_answer text.items next.0 order is) failed

  pub memory_lacked : (text : ArrayVec ℕ) (snapshot : List ℕ) (order : StateOrder) (items : List ℕ) (known written : Option (List ℕ))
      → IsNextGiven (Line text) rom snapshot left (left_of items known) known → state_order_of text.items ≡ Some order → written ≡ since → takes_memory (Some order) now ≡ true
      → HasLackedMemory start (record { unread = unread; left = known; before = before; since = written })
  memory_lacked text snapshot order items known written next is none takes = record {
    given = so_far.given;
    last = plain text.items next.0;
    plain = next.0;
    takes = ap (λ (o : Option StateOrder). takes_memory o (after_lines so_far.given from)) is ∙ ap (λ (d : DebugState). takes_memory (Some order) d) (sym so_far.state) ∙ takes;
    more = items;
    read = given_left asked (so_far.given ++ plain text.items next.0 ∷ []) items unread known
        (given_more asked so_far.given (plain text.items next.0) unread left (left_of items known) so_far.taken next.1);
    answered = subst (λ (w : Option (List ℕ)). Appends before w (answers 1 so_far.given from)) (sym none) so_far.answered;
  }

  pub switch_obeyed : (states : List (List ℕ)) (text : ArrayVec ℕ) (snapshot : List ℕ) (order : StateOrder) (after : RunState) (rest known written : Option (List ℕ))
      → IsNextGiven (Line text) rom snapshot left rest known → state_order_of text.items ≡ Some order → HasSwitched rom order number now after states since written
      → HasObeyed rom states start after (number + 1) unread rest before written
  switch_obeyed states text snapshot order after rest known written next is done = record {
    machines = (after_state_order order now).kept;
    obeying = subst (λ (r : RunState). IsObeying start (state_of r (after_state_order order now).kept) (number + 1) unread rest before written) (sym done.run)
        (order_obeyed text snapshot order rest known written next is done.told);
    kept = done.kept;
  }

  pub switch_refused : (text : ArrayVec ℕ) (snapshot : List ℕ) (order : StateOrder) (items : List ℕ) (known written : Option (List ℕ)) (why : DebugError)
      → IsNextGiven (Line text) rom snapshot left (left_of items known) known → state_order_of text.items ≡ Some order → IsNotSwitched why order number now since written
      → IsDebugCause why start (record { unread = unread; left = known; before = before; since = written })
  switch_refused text snapshot order items known written Input next is refused = absurd refused
  switch_refused text snapshot order items known written Output next is refused = order_broken text snapshot order items known written next is refused
  switch_refused text snapshot order items known written Memory next is refused = memory_lacked text snapshot order items known written next is refused.0 refused.1

  -- a state
  module _ (snapshot : List ℕ) (is_rom : rom_of now.run ≡ rom) where
    abbrev whole : List ℕ
    whole = header_of rom ++ snapshot

    abbrev restored_line : List ℕ
    restored_line = restored_text (is_snapshot (rom_of now.run) snapshot) number

    state_answer : (line : List ℕ) → restore_of line ≡ Some (length whole) → answer_given (record { line = line; bytes = whole }) number now ≡ restored_line
    state_answer line asks = rw asks (ap (λ (b : Bool). restored_text b number) (given_is rom snapshot now.run is_rom))

    state_after : (line : List ℕ) → restore_of line ≡ Some (length whole) → after_given (record { line = line; bytes = whole }) now ≡ record now { run = after_snapshot snapshot now.run }
    state_after line asks = rw asks (ap (λ (r : RunState). record now { run = r }) (after_is rom snapshot now.run is_rom))

    pub state_obeyed : (after : RunState) (rest known written : Option (List ℕ)) → IsNextGiven State rom snapshot left rest known → after ≡ after_snapshot snapshot now.run → Appends since written restored_line
        → IsObeying start (record now { run = after }) (number + 1) unread rest before written
    state_obeyed after rest known written next moved more =
        one_more (record { line = next.0; bytes = whole }) (record now { run = after }) rest written restored_line next.2
        (ap (λ (r : RunState). record now { run = r }) moved ∙ sym (state_after next.0 next.1)) (state_answer next.0 next.1) more

    pub state_broken : (items : List ℕ) (known written : Option (List ℕ)) → IsNextGiven State rom snapshot left (left_of items known) known → AppendsProperPrefix since written restored_line
        → HasBrokenOff start (record { unread = unread; left = known; before = before; since = written })
    state_broken items known written next failed =
        broken_at (record { line = next.0; bytes = whole }) items known written restored_line next.2 (state_answer next.0 next.1) failed

  -- a wrong one
  pub wrong_obeyed : (snapshot : List ℕ) (rest known written : Option (List ℕ)) → rom_of now.run ≡ rom → IsNextGiven Wrong rom snapshot left rest known
      → Appends since written (wrong_line number) → IsObeying start now (number + 1) unread rest before written
  wrong_obeyed snapshot rest known written is_rom next more =
      let wrong = wrong_given rom next.0 number now next.1 is_rom in
      one_more next.0 now rest written (wrong_line number) next.2 (sym wrong.0) wrong.1 more

  pub wrong_broken : (snapshot : List ℕ) (items : List ℕ) (known written : Option (List ℕ)) → rom_of now.run ≡ rom → IsNextGiven Wrong rom snapshot left (left_of items known) known
      → AppendsProperPrefix since written (wrong_line number)
      → HasBrokenOff start (record { unread = unread; left = known; before = before; since = written })
  wrong_broken snapshot items known written is_rom next failed =
      broken_at next.0 items known written (wrong_line number) next.2 (wrong_given rom next.0 number now next.1 is_rom).1 failed

  -- the input ends within the last one
  pub last_obeyed : (snapshot : List ℕ) (rest known written : Option (List ℕ)) → rom_of now.run ≡ rom → IsNextGiven Last rom snapshot left rest known
      → Appends since written (wrong_line number) → HasAnsweredAll start (record { unread = unread; left = known; before = before; since = written })
  last_obeyed snapshot rest known written is_rom next more = record {
    given = so_far.given ++ next.0 ∷ [];
    more = [];
    read = given_last asked so_far.given next.0 unread left known so_far.taken next.2;
    ends = inl (refl, next.2.2);
    answered = told next.0 written (wrong_line number) (wrong_given rom next.0 number now next.1 is_rom).1 more;
  }

  pub last_broken : (snapshot : List ℕ) (rest known written : Option (List ℕ)) → rom_of now.run ≡ rom → IsNextGiven Last rom snapshot left rest known
      → AppendsProperPrefix since written (wrong_line number) → HasBrokenOff start (record { unread = unread; left = known; before = before; since = written })
  last_broken snapshot rest known written is_rom next failed =
      broken next.0 [] known written (wrong_line number) (given_last asked so_far.given next.0 unread left known so_far.taken next.2)
      (wrong_given rom next.0 number now next.1 is_rom).1 failed

  -- the end, a read that failed, and as many lines as are read
  pub ended : (snapshot : List ℕ) (rest known : Option (List ℕ)) → IsNextGiven End rom snapshot left rest known → HasAnsweredAll start (record { unread = unread; left = known; before = before; since = since })
  ended snapshot rest known next =
      record { given = so_far.given; more = []; read = given_rest asked so_far.given [] unread left known so_far.taken next.0; ends = inl (refl, next.1); answered = so_far.answered }

  pub failed_to_read : (snapshot : List ℕ) (rest known : Option (List ℕ)) → IsNextGiven Failed rom snapshot left rest known → HasAnsweredSome start (record { unread = unread; left = known; before = before; since = since })
  failed_to_read snapshot rest known next =
      record { given = so_far.given; rest = next.0; unfinished = next.1; read = given_rest asked so_far.given next.0 unread left known so_far.taken next.2; answered = so_far.answered }

pub all_obeyed : (start : RunState) (now : DebugState) (number : ℕ) (unread : Option (List ℕ)) (items : List ℕ) (known before since : Option (List ℕ))
    → IsObeying start now number unread (left_of items known) before since → number ≡ 2 ^ 64 - 1
    → HasAnsweredAll start (record { unread = unread; left = known; before = before; since = since })
all_obeyed start now number unread items known before since so_far last = record {
  given = so_far.given;
  more = items;
  read = given_left asked so_far.given items unread known so_far.taken;
  ends = inr (let count : length so_far.given ≡ 2 ^ 64 - 2 = omega (arith, so_far.count, last) in count);
  answered = so_far.answered;
}

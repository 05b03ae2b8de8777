-- What was written of a script, over runs of calls.
use Rattle.std.proofs.Common.{◌≡◌, inl, inr, ℕ, ◌+◌, ◌-◌, ◌<◌, ◌≤◌, List, [], ◌∷◌, ◌++◌, ◌==◌, length, take, replicate, Bool, if◌then◌else◌, Option, refl, sym, ap, subst, ◌∙◌, arith, append_assoc, append-nil, length-append}
use Rattle.std.specs.Prelude.{codes, decimal}
use Rattle.std.proofs.lemmas.Bool.Decides.{eqb_tells}
use Rattle.std.proofs.lemmas.List.{take-append-le, take_all}
use Rattle.std.specs.Io.KnownBytes.{Appends}
use Rattle.exact_text.specs.Hex.{byte_text}
use Rattle.exact_text.specs.Written.{AppendsProperPrefix}
use Rattle.exact_text.proofs.Writes.{appends_nothing, appends_twice, whole_then_prefix, prefix_of_longer}
use Rattle.machine.specs.Machine.{Input}
use Rattle.machine.specs.Machine.{Frame, Seconds}
use Rattle.replaying.specs.Lines.{HasWritten, HasStopped, lines_behind}
use Rattle.replaying.specs.Script.{frames_line, lines_after, most_times, seconds_line}
use Rattle.replaying.specs.Writing.{AppendsPrefix}
use Rattle.replaying.specs.declared.run.Run.{Run}
use Rattle.replaying.proofs.Runs.{frames_more, frames_other, frames_over}

-- ---- lines

pub frames_line_is : (buttons times : ℕ) → 1 ≤ times → frames_line buttons times ≡ codes "frames " ++ (byte_text buttons ++ (codes " " ++ (decimal times ++ codes "\n")))
unfolding frames_line
frames_line_is buttons times some =
    elim (eqb_tells times 0) [
      | inl none ↦ absurd (let zero_is = none.1 in omega arith)
      | inr more ↦ ap (λ (t : Bool). if t then [] else codes "frames " ++ (byte_text buttons ++ (codes " " ++ (decimal times ++ codes "\n")))) more.0
    ]

pub frames_line_none : (buttons times : ℕ) → times ≡ 0 → frames_line buttons times ≡ []
unfolding frames_line
frames_line_none buttons times none = ap (λ (n : ℕ). if n == 0 then [] else codes "frames " ++ (byte_text buttons ++ (codes " " ++ (decimal n ++ codes "\n")))) none

pub nothing_for_none : (now : Option (List ℕ)) (buttons times : ℕ) → times ≡ 0 → Appends now now (frames_line buttons times)
nothing_for_none now buttons times none = subst (Appends now now) (sym (frames_line_none buttons times none)) (appends_nothing now)

-- ---- one after the other

pub written_nothing : (run : Run) (now : Option (List ℕ)) → HasWritten run run [] now now
written_nothing run now = record { text = []; appends = appends_nothing now; is = λ rest. refl }

pub written_then : (a b c : Run) (xs ys : List Input) (first mid last : Option (List ℕ)) → HasWritten a b xs first mid → HasWritten b c ys mid last → HasWritten a c (xs ++ ys) first last
written_then a b c xs ys first mid last one two = record {
  text = one.text ++ two.text;
  appends = appends_twice first mid last one.text two.text one.appends two.appends;
  is = λ rest. ap (lines_behind a) (append_assoc xs ys rest) ∙ one.is (ys ++ rest) ∙ ap (λ l. one.text ++ l) (two.is rest) ∙ sym (append_assoc one.text two.text (lines_behind c rest));
}

pub written_stopped : (a b : Run) (xs ys : List Input) (first mid last : Option (List ℕ)) → HasWritten a b xs first mid → HasStopped b ys mid last → HasStopped a (xs ++ ys) first last
written_stopped a b xs ys first mid last one two = record {
  prefix = λ rest.
      subst (AppendsProperPrefix first last) (sym (ap (lines_behind a) (append_assoc xs ys rest) ∙ one.is (ys ++ rest)))
      (whole_then_prefix first mid last one.text (lines_behind b (ys ++ rest)) one.appends (two.prefix rest));
}

pub stopped_before : (a : Run) (xs ys : List Input) (first last : Option (List ℕ)) → HasStopped a xs first last → HasStopped a (xs ++ ys) first last
stopped_before a xs ys first last one = record { prefix = λ rest. subst (AppendsProperPrefix first last) (sym (ap (lines_behind a) (append_assoc xs ys rest))) (one.prefix (ys ++ rest)) }

-- ---- frames

pub frames_begin : (before after : Run) (k : ℕ) (first last : Option (List ℕ)) → (before.buttons ≡ after.buttons → ⊥) → 1 ≤ k → k ≤ most_times → after.times ≡ k → Appends first last (frames_line before.buttons before.times)
    → HasWritten before after (replicate k (Frame after.buttons)) first last
frames_begin before after k first last other some few times_are written = record {
  text = frames_line before.buttons before.times;
  appends = written;
  is = λ rest. frames_other before.buttons before.times after.buttons k rest (λ same. other (sym same)) some few ∙ ap (λ n. frames_line before.buttons before.times ++ lines_after after.buttons n rest) (sym times_are);
}

pub frames_stop : (before : Run) (buttons k : ℕ) (first last : Option (List ℕ)) → (before.buttons ≡ buttons → ⊥) → 1 ≤ k → k ≤ most_times → AppendsProperPrefix first last (frames_line before.buttons before.times)
    → HasStopped before (replicate k (Frame buttons)) first last
frames_stop before buttons k first last other some few part = record {
  prefix = λ rest.
      subst (AppendsProperPrefix first last) (sym (frames_other before.buttons before.times buttons k rest (λ same. other (sym same)) some few))
      (prefix_of_longer first last (frames_line before.buttons before.times) (lines_after buttons k rest) part);
}

pub frames_lengthen : (before after : Run) (k : ℕ) (now : Option (List ℕ)) → before.buttons ≡ after.buttons → after.times ≡ before.times + k → after.times ≤ most_times → HasWritten before after (replicate k (Frame after.buttons)) now now
frames_lengthen before after k now same times_are few = record {
  text = [];
  appends = appends_nothing now;
  is = λ rest.
      let fits : before.times + k ≤ most_times = omega (arith, times_are, few) in
      ap (λ b. lines_after b before.times (replicate k (Frame after.buttons) ++ rest)) same ∙ frames_more after.buttons before.times k rest fits ∙ ap (λ n. lines_after after.buttons n rest) (sym times_are);
}

pub frames_fill : (before after : Run) (k : ℕ) (first last : Option (List ℕ)) → before.buttons ≡ after.buttons → before.times ≤ most_times → k ≤ most_times → most_times < before.times + k → after.times ≡ before.times + k - most_times
    → Appends first last (frames_line after.buttons most_times) → HasWritten before after (replicate k (Frame after.buttons)) first last
frames_fill before after k first last same full few over times_are written = record {
  text = frames_line after.buttons most_times;
  appends = written;
  is = λ rest.
      ap (λ b. lines_after b before.times (replicate k (Frame after.buttons) ++ rest)) same ∙ frames_over after.buttons before.times k rest full few over
      ∙ ap (λ n. frames_line after.buttons most_times ++ lines_after after.buttons n rest) (sym times_are);
}

pub frames_fill_stop : (before : Run) (buttons k : ℕ) (first last : Option (List ℕ)) → before.buttons ≡ buttons → before.times ≤ most_times → k ≤ most_times → most_times < before.times + k
    → AppendsProperPrefix first last (frames_line buttons most_times) → HasStopped before (replicate k (Frame buttons)) first last
frames_fill_stop before buttons k first last same full few over part = record {
  prefix = λ rest.
      subst (AppendsProperPrefix first last)
      (sym (ap (λ b. lines_after b before.times (replicate k (Frame buttons) ++ rest)) same ∙ frames_over buttons before.times k rest full few over))
      (prefix_of_longer first last (frames_line buttons most_times) (lines_after buttons (before.times + k - most_times) rest) part);
}

-- ---- seconds

pub seconds_written : (before after : Run) (seconds : ℕ) (first mid last : Option (List ℕ)) → after.buttons ≡ before.buttons → after.times ≡ 0 → Appends first mid (frames_line before.buttons before.times) → Appends mid last (seconds_line seconds)
    → HasWritten before after (Seconds seconds ∷ []) first last
unfolding lines_after
seconds_written before after seconds first mid last same none one two =
    let b = before.buttons in
    let t = before.times in
    record {
      text = frames_line b t ++ seconds_line seconds;
      appends = appends_twice first mid last (frames_line b t) (seconds_line seconds) one two;
      is = λ rest. sym (append_assoc (frames_line b t) (seconds_line seconds) (lines_after b 0 rest)) ∙ (λ i. (frames_line b t ++ seconds_line seconds) ++ lines_after (sym same i) (sym none i) rest);
    }

pub seconds_stop_first : (before : Run) (seconds : ℕ) (first last : Option (List ℕ)) → AppendsProperPrefix first last (frames_line before.buttons before.times) → HasStopped before (Seconds seconds ∷ []) first last
unfolding lines_after
seconds_stop_first before seconds first last part = record {
  prefix = λ rest. prefix_of_longer first last (frames_line before.buttons before.times) (seconds_line seconds ++ lines_after before.buttons 0 rest) part;
}

pub seconds_stop : (before : Run) (seconds : ℕ) (first mid last : Option (List ℕ)) → Appends first mid (frames_line before.buttons before.times) → AppendsProperPrefix mid last (seconds_line seconds) → HasStopped before (Seconds seconds ∷ []) first last
unfolding lines_after
seconds_stop before seconds first mid last one part = record {
  prefix = λ rest. whole_then_prefix first mid last (frames_line before.buttons before.times) (seconds_line seconds ++ lines_after before.buttons 0 rest) one (prefix_of_longer mid last (seconds_line seconds) (lines_after before.buttons 0 rest) part);
}

-- ---- the end

pub script_ends : (none last : Run) (inputs : List Input) (first mid end : Option (List ℕ)) → none.buttons ≡ 0 → none.times ≡ 0 → HasWritten none last inputs first mid → Appends mid end (frames_line last.buttons last.times) → Appends first end (lines_after 0 0 inputs)
unfolding lines_after
script_ends none last inputs first mid end buttons times one two =
    subst (Appends first end) (sym (one.is []) ∙ (λ i. lines_after (buttons i) (times i) (append-nil inputs i)))
    (appends_twice first mid end one.text (frames_line last.buttons last.times) one.appends two)

pub script_stops_last : (none last : Run) (inputs : List Input) (first mid end : Option (List ℕ)) → none.buttons ≡ 0 → none.times ≡ 0 → HasWritten none last inputs first mid → AppendsProperPrefix mid end (frames_line last.buttons last.times) → AppendsProperPrefix first end (lines_after 0 0 inputs)
unfolding lines_after
script_stops_last none last inputs first mid end buttons times one two =
    subst (AppendsProperPrefix first end) (sym (one.is []) ∙ (λ i. lines_after (buttons i) (times i) (append-nil inputs i)))
    (whole_then_prefix first mid end one.text (frames_line last.buttons last.times) one.appends two)

-- some of the inputs, and more of them
pub script_stops : (none : Run) (xs ys : List Input) (first end : Option (List ℕ)) → none.buttons ≡ 0 → none.times ≡ 0 → HasStopped none xs first end → AppendsProperPrefix first end (lines_after 0 0 (xs ++ ys))
script_stops none xs ys first end buttons times one = subst (AppendsProperPrefix first end) (λ i. lines_after (buttons i) (times i) (xs ++ ys)) (one.prefix ys)

-- the lines before the last run, and more inputs after it
pub script_prefix : (none last : Run) (xs ys : List Input) (first end : Option (List ℕ)) → none.buttons ≡ 0 → none.times ≡ 0 → HasWritten none last xs first end → AppendsPrefix first end (lines_after 0 0 (xs ++ ys))
script_prefix none last xs ys first end buttons times one =
    let rest = lines_behind last ys in
    let all : one.text ++ rest ≡ lines_after 0 0 (xs ++ ys) = sym (one.is ys) ∙ (λ i. lines_after (buttons i) (times i) (xs ++ ys)) in
    let whole : take (length one.text) (one.text ++ rest) ≡ one.text = take-append-le (length one.text) one.text rest (omega arith) ∙ take_all (length one.text) one.text (omega arith) in
    subst (AppendsPrefix first end) all (record {
      count = length one.text;
      within = omega (arith, length-append one.text rest);
      prefix = subst (Appends first end) (sym whole) one.appends;
    })

-- A text that is written part by part.
use Rattle.std.proofs.Common.{◌≡◌, ◌∙◌, ℕ, suc, ◌+◌, ◌-◌, ◌<◌, ◌≤◌, List, [], ◌++◌, Option, ap, append_assoc, append-nil, refl, subst, sym, arith}
use Rattle.std.specs.Io.KnownBytes.{Appends}
use Rattle.exact_text.specs.Written.{AppendsProperPrefix}
use Rattle.exact_text.proofs.Writes.{appends_nothing, appends_twice, whole_then_prefix, prefix_of_longer}
use Rattle.machine.specs.Machine.{MachineState}
use Rattle.sm83_processor.specs.Rules.{Rules}
use Rattle.sm83_processor.specs.Steps.{step_of, after_steps}
use Rattle.sm83_processor.specs.declared.processor.Processor.{Processor}
use Rattle.debugger.specs.Listing.{line_at, address_after, lines_from}
use Rattle.debugger.specs.Report.{line_of, step_lines}

-- ---- any text

-- the text is written but for what is left
pub record IsWrittenBut (left text : List ℕ) (old new : Option (List ℕ)) : Type 0 where
  pub done : List ℕ
  pub whole : done ++ left ≡ text
  pub written : Appends old new done

pub none_written : (text : List ℕ) (old : Option (List ℕ)) → IsWrittenBut text text old old
none_written text old = record { done = []; whole = refl; written = appends_nothing old }

pub one_more_written : (left part rest text : List ℕ) (old mid new : Option (List ℕ)) → left ≡ part ++ rest
    → IsWrittenBut left text old mid → Appends mid new part → IsWrittenBut rest text old new
one_more_written left part rest text old mid new is so_far more = record {
  done = so_far.done ++ part;
  whole = append_assoc so_far.done part rest ∙ ap (λ (t : List ℕ). so_far.done ++ t) (sym is) ∙ so_far.whole;
  written = appends_twice old mid new so_far.done part so_far.written more;
}

pub part_failed : (left part rest text : List ℕ) (old mid new : Option (List ℕ)) → left ≡ part ++ rest
    → IsWrittenBut left text old mid → AppendsProperPrefix mid new part → AppendsProperPrefix old new text
part_failed left part rest text old mid new is so_far failed =
    let whole : (so_far.done ++ part) ++ rest ≡ text =
    append_assoc so_far.done part rest ∙ ap (λ (t : List ℕ). so_far.done ++ t) (sym is) ∙ so_far.whole in
    subst (AppendsProperPrefix old new) whole
    (prefix_of_longer old new (so_far.done ++ part) rest
    (whole_then_prefix old mid new so_far.done part so_far.written failed))

pub all_written : (left text : List ℕ) (old new : Option (List ℕ)) → left ≡ [] → IsWrittenBut left text old new → Appends old new text
all_written left text old new none so_far =
    let whole : so_far.done ≡ text = sym (append-nil so_far.done) ∙ ap (λ (t : List ℕ). so_far.done ++ t) (sym none) ∙ so_far.whole in
    subst (Appends old new) whole so_far.written

-- ---- the lines of a listing

pub none_listed : (m : MachineState) (address count : ℕ) (old : Option (List ℕ)) → IsWrittenBut (lines_from m address (count - 0)) (lines_from m address count) old old
none_listed m address count old =
    let all : count - 0 ≡ count = omega arith in
    subst (λ (n : ℕ). IsWrittenBut (lines_from m address n) (lines_from m address count) old old) (sym all) (none_written (lines_from m address count) old)

-- what is left begins with the next line
pub next_line : (m : MachineState) (count i here : ℕ) → i < count →
    lines_from m here (count - i) ≡ line_at m here ++ lines_from m (address_after m here) (count - (i + 1))
unfolding lines_from
next_line m count i here below =
    let left : count - i ≡ suc (count - (i + 1)) = omega arith in
    ap (lines_from m here) left

pub no_line_left : (m : MachineState) (count i here : ℕ) → count ≤ i → lines_from m here (count - i) ≡ []
unfolding lines_from
no_line_left m count i here ended =
    let left : count - i ≡ 0 = omega arith in
    ap (lines_from m here) left

-- ---- the lines of steps

pub none_stepped : {M : Type 0} (rules : Rules M) (count : ℕ) (p : Processor M) (old : Option (List ℕ))
    → IsWrittenBut (step_lines rules (count - 0) p) (step_lines rules count p) old old
none_stepped rules count p old =
    let all : count - 0 ≡ count = omega arith in
    subst (λ (n : ℕ). IsWrittenBut (step_lines rules n p) (step_lines rules count p) old old) (sym all) (none_written (step_lines rules count p) old)

-- what is left begins with the line of the next step
pub next_step : {M : Type 0} (rules : Rules M) (count i : ℕ) (p : Processor M) → i < count
    → step_lines rules (count - i) p ≡ line_of (step_of rules p).stepped.kind ++ step_lines rules (count - (i + 1)) (after_steps rules 1 p)
unfolding step_lines after_steps
next_step rules count i p below =
    let left : count - i ≡ suc (count - (i + 1)) = omega arith in
    ap (λ (n : ℕ). step_lines rules n p) left

pub no_step_left : {M : Type 0} (rules : Rules M) (count i : ℕ) (p : Processor M) → count ≤ i → step_lines rules (count - i) p ≡ []
unfolding step_lines
no_step_left rules count i p ended =
    let left : count - i ≡ 0 = omega arith in
    ap (λ (n : ℕ). step_lines rules n p) left

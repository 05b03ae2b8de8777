-- One more step of a debugger.
use Rattle.std.proofs.Common.{◌≡◌, ◌∙◌, ℕ, zero, suc, ◌+◌, ◌-◌, ◌<◌, ◌≤◌, List, [], ◌++◌, length, drop, append-nil, append_assoc, below_more, length-append, length-drop, add-one, ap, refl, subst, sym, arith, inl, inr}
use Rattle.std.proofs.lemmas.Bool.{cases_lt}
use Rattle.std.proofs.lemmas.List.{drop-append-le, drop-drop}
use Rattle.std.proofs.Math.Nat.{eq-or-lt_of_le}
use Rattle.circular_buffer.specs.Buffer.{Buffer, buffer, keep_last}
use Rattle.memory_map.specs.BusRules.{bus_rules}
use Rattle.machine.specs.Machine.{MachineState}
use Rattle.machine.specs.FastRuns.{HasPassed as HasPassedTo, instruction_in, instructions_in}
use Rattle.machine.proofs.FastRuns.{no_instruction, instructions_more}
use Rattle.sm83_processor.specs.Rules.{Rules}
use Rattle.sm83_processor.specs.Steps.{step_of, after_steps}
use Rattle.sm83_processor.specs.declared.processor.Processor.{Processor}
use Rattle.sm83_processor.specs.declared.step.Executed.{Executed}
use Rattle.sm83_processor.specs.declared.step.StepKind.{StepKind}
use Rattle.sm83_processor.specs.declared.step.StepKind.TheVariants.{Dispatch, Wait, Ran}
use Rattle.memory_map.specs.State.{BusState}
use Rattle.sm83_processor.proofs.Runs.{after_steps-zero, after_steps-add_one}
use Rattle.debugger.specs.Run.{HasPassed}
use Rattle.debugger.specs.History.{DebuggerState, HoldsAtMost, after_run}

pub keep_last-all : {X : Type 0} (n : ℕ) (xs : List X) → length xs ≤ n → keep_last n xs ≡ xs
keep_last-all n xs most =
    let none : length xs - n ≡ 0 = omega arith in
    ap (λ (k : ℕ). drop k xs) none

pub keep_last-most : {X : Type 0} (n : ℕ) (xs : List X) → length (keep_last n xs) ≤ n
keep_last-most n xs = rw length-drop (omega arith)

-- what was left out before stays out
pub keep_last-again : {X : Type 0} (n : ℕ) (xs ys : List X) → keep_last n (keep_last n xs ++ ys) ≡ keep_last n (xs ++ ys)
keep_last-again n xs ys =
    let out : length xs - n ≤ length xs = omega arith in
    let joined = drop-append-le (length xs - n) xs ys out in
    let front : length (keep_last n xs ++ ys) ≡ (length xs - (length xs - n)) + length ys = rw (length-append, length-drop) refl in
    let whole : length (xs ++ ys) ≡ length xs + length ys = length-append xs ys in
    let places : (length xs - n) + (length (keep_last n xs ++ ys) - n) ≡ length (xs ++ ys) - n = omega arith in
    ap (λ zs. drop (length (keep_last n xs ++ ys) - n) zs) (sym joined)
    ∙ drop-drop (length (keep_last n xs ++ ys) - n) (length xs - n) (xs ++ ys)
    ∙ ap (λ (k : ℕ). drop k (xs ++ ys)) places

pub one_instruction : {M : Type 0} (rules : Rules M) (p : Processor M) → instructions_in rules 1 p ≡ instruction_in (step_of rules p).stepped.kind
unfolding instructions_in
one_instruction rules p = append-nil _

pub one_step : {M : Type 0} (rules : Rules M) (p : Processor M) → (step_of rules p).after ≡ after_steps rules 1 p
unfolding after_steps
one_step rules p = refl

-- what a debugger with this machine and this buffer is seen as
abbrev pub history_as : MachineState → Buffer Executed → DebuggerState
history_as m b = record { machine = m; size = b.capacity; history = b.items }

abbrev as_parts : MachineState → ℕ → List Executed → DebuggerState
as_parts m size history = record { machine = m; size = size; history = history }

-- its machine and its buffer apart
pub parts_are : (d : DebuggerState) (m : MachineState) (b : Buffer Executed) → m ≡ d.machine → b.items ≡ d.history → b.capacity ≡ d.size → history_as m b ≡ d
parts_are d m b e f g =
    ap (λ (x : MachineState). history_as x b) e
    ∙ ap (λ (xs : List Executed). as_parts d.machine b.capacity xs) f
    ∙ ap (λ (n : ℕ). as_parts d.machine n d.history) g

-- a step whose instruction, if it had one, was put into the buffer
pub step_kept : (m n : MachineState) (b k : Buffer Executed) (seen : List Executed) →
    instruction_in (step_of bus_rules m.processor).stepped.kind ≡ seen →
    n ≡ record m { processor = (step_of bus_rules m.processor).after } →
    k ≡ buffer (keep_last b.capacity (b.items ++ seen)) b.capacity →
    history_as n k ≡ after_run 1 (history_as m b)
step_kept m n b k seen is ran kept =
    rw (one_instruction bus_rules m.processor, is, ← one_step bus_rules m.processor) (ap (λ (x : MachineState). history_as x k) ran ∙ ap (history_as _) kept)

pub other_steps : (what : StepKind) → ((seen : Executed) → what ≡ Ran seen → ⊥) → instruction_in what ≡ []
other_steps (Dispatch vector) h = refl
other_steps Wait h = refl
other_steps (Ran seen) h = absurd (h seen refl)

pub nothing_kept : (b : Buffer Executed) → HoldsAtMost b.capacity b.items → b ≡ buffer (keep_last b.capacity (b.items ++ [])) b.capacity
nothing_kept b most = ap (λ (xs : List Executed). buffer xs b.capacity) (sym (ap (keep_last b.capacity) (append-nil b.items) ∙ keep_last-all b.capacity b.items most))

pub not_begun : (d : DebuggerState) → HoldsAtMost d.size d.history → d ≡ after_run 0 d
not_begun d most = rw (no_instruction bus_rules d.machine.processor, append-nil d.history, keep_last-all d.size d.history most, ← after_steps-zero bus_rules d.machine.processor) refl

two_runs : (n : ℕ) (d : DebuggerState) → after_run 1 (after_run n d) ≡ after_run (n + 1) d
two_runs n d =
    let p = d.machine.processor in
    let q = after_steps bus_rules n p in
    let there : after_steps bus_rules 1 q ≡ after_steps bus_rules (n + 1) p =
    sym (one_step bus_rules q) ∙ after_steps-add_one bus_rules n p q refl in
    let more : instructions_in bus_rules n p ++ instructions_in bus_rules 1 q ≡ instructions_in bus_rules (n + 1) p =
    ap (λ (xs : List Executed). instructions_in bus_rules n p ++ xs) (one_instruction bus_rules q) ∙ sym (instructions_more bus_rules n p)
    ∙ ap (λ (k : ℕ). instructions_in bus_rules k p) (sym (add-one n)) in
    let kept : keep_last d.size (keep_last d.size (d.history ++ instructions_in bus_rules n p) ++ instructions_in bus_rules 1 q)
    ≡ keep_last d.size (d.history ++ instructions_in bus_rules (n + 1) p) =
    keep_last-again d.size (d.history ++ instructions_in bus_rules n p) (instructions_in bus_rules 1 q)
    ∙ ap (keep_last d.size) (append_assoc d.history (instructions_in bus_rules n p) (instructions_in bus_rules 1 q)
    ∙ ap (λ (xs : List Executed). d.history ++ xs) more) in
    ap (λ (r : Processor BusState). history_as (record d.machine { processor = r }) (buffer (keep_last d.size (keep_last d.size (d.history ++ instructions_in bus_rules n p) ++ instructions_in bus_rules 1 q)) d.size)) there
    ∙ ap (λ (xs : List Executed). history_as (record d.machine { processor = after_steps bus_rules (n + 1) p }) (buffer xs d.size)) kept

pub one_more : (n : ℕ) (d e f : DebuggerState) → e ≡ after_run n d → f ≡ after_run 1 e → f ≡ after_run (n + 1) d
one_more n d e f so_far step = step ∙ ap (after_run 1) so_far ∙ two_runs n d

pub past_more : (P : ℕ → Type 0) (n : ℕ) → ((k : ℕ) → 0 < k → k < n → P k) → (0 < n → P n) → (k : ℕ) → 0 < k → k < n + 1 → P k
past_more P n before here k some below = below_more (λ j. 0 < j → P j) n (λ j less some. before j some less) here k below some

-- a machine that made n steps, and a buffer into which their instructions were put together
pub steps_kept : (n : ℕ) (m : MachineState) (b k : Buffer Executed) (seen : List Executed) → seen ≡ instructions_in bus_rules n m.processor →
    k ≡ buffer (keep_last b.capacity (b.items ++ seen)) b.capacity →
    history_as (record m { processor = after_steps bus_rules n m.processor }) k ≡ after_run n (history_as m b)
steps_kept n m b k seen is kept = rw (← is) (ap (history_as _) kept)

-- a run of fast steps, whose instructions were put into the buffer together
pub watched_steps_kept : (passes : Processor BusState → Type 0) (n cycles : ℕ) (m t : MachineState) (b k : Buffer Executed) (seen : List Executed) →
    t ≡ record m { processor = after_steps bus_rules n m.processor } → HasPassedTo passes n cycles m.processor t.processor seen →
    k ≡ buffer (keep_last b.capacity (b.items ++ seen)) b.capacity → HasPassed passes n (history_as m b) (history_as t k)
watched_steps_kept passes n cycles m t b k seen made passed kept = record {
  run = ap (λ (x : MachineState). history_as x k) made ∙ steps_kept n m b k seen passed.ran kept;
  past = passed.past;
}

-- n steps, and then k more
pub runs : (k n : ℕ) (d : DebuggerState) → after_run k (after_run n d) ≡ after_run (n + k) d
runs zero n d = sym (not_begun (after_run n d) (keep_last-most d.size _)) ∙ ap (λ (j : ℕ). after_run j d) (omega arith)
runs (suc k) n d =
    ap (λ (j : ℕ). after_run j (after_run n d)) (sym (add-one k))
    ∙ sym (two_runs k (after_run n d)) ∙ ap (after_run 1) (runs k n d) ∙ two_runs (n + k) d
    ∙ ap (λ (j : ℕ). after_run j d) (omega arith)

-- a run, and one from there on, where a fact held before each step
pub pass_on : (passes : Processor BusState → Type 0) (m n : ℕ) (d e f : DebuggerState) → HasPassed passes m d e → (0 < m → passes e.machine.processor) →
    HasPassed passes n e f → HasPassed passes (m + n) d f
pass_on passes m n d e f first here next = record {
  run = next.run ∙ ap (after_run n) first.run ∙ runs n m d;
  past = λ k some below. elim (cases_lt k m) [
    | inl less ↦ first.past k some less
    | inr more ↦ elim (eq-or-lt_of_le more) [
      | inl same ↦
          subst (λ (j : ℕ). passes (after_steps bus_rules j d.machine.processor)) same
          (subst passes (ap (λ (x : DebuggerState). x.machine.processor) first.run) (here (omega (arith, same, some))))
      | inr less ↦
          let whole : m + (k - m) ≡ k = omega (arith, less) in
          subst (λ (j : ℕ). passes (after_steps bus_rules j d.machine.processor)) whole
          (subst (λ (x : DebuggerState). passes x.machine.processor) (runs (k - m) m d)
          (subst (λ (x : DebuggerState). passes (after_steps bus_rules (k - m) x.machine.processor)) first.run
          (next.past (k - m) (omega (arith, less)) (omega (arith, less, below)))))
    ]
  ];
}

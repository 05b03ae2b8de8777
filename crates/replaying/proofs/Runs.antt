-- The lines of equal frames.
use Rattle.std.proofs.Common.{◌≡◌, ◌==◌, ◌&&◌, inl, inr, ℕ, zero, suc, ◌+◌, ◌-◌, ◌<◌, ◌≤◌, List, ◌∷◌, ◌++◌, replicate, true, false, if◌then◌else◌, nat_lt, refl, sym, ap, ◌∙◌, arith, append_assoc}
use Rattle.std.proofs.lemmas.List.{replicate-append-replicate}
use Rattle.std.proofs.lemmas.Bool.{eq-eqb, lt-ltb}
use Rattle.std.proofs.lemmas.Bool.Decides.{eqb_tells}
use Rattle.machine.specs.Machine.{Input}
use Rattle.machine.specs.Machine.{Frame}
use Rattle.replaying.specs.Script.{frames_line, lines_after, most_times}

-- a frame that lengthens the run
one_more : (b t : ℕ) (inputs : List Input) → t < most_times → lines_after b t (Frame b ∷ inputs) ≡ lines_after b (t + 1) inputs
unfolding lines_after
one_more b t inputs less =
    let same : (b == b) ≡ true = eq-eqb b b refl in
    let fits : nat_lt t most_times ≡ true = lt-ltb t most_times less in
    λ i. if same i && fits i then lines_after b (t + 1) inputs else frames_line b t ++ lines_after b 1 inputs

-- one that does not: the run is full
one_over : (b : ℕ) (inputs : List Input) → lines_after b most_times (Frame b ∷ inputs) ≡ frames_line b most_times ++ lines_after b 1 inputs
unfolding lines_after
one_over b inputs =
    let same : (b == b) ≡ true = eq-eqb b b refl in
    λ i. if same i && false then lines_after b (most_times + 1) inputs else frames_line b most_times ++ lines_after b 1 inputs

-- or it has other buttons
one_other : (b t next : ℕ) (inputs : List Input) → (next ≡ b → ⊥) → lines_after b t (Frame next ∷ inputs) ≡ frames_line b t ++ lines_after next 1 inputs
unfolding lines_after
one_other b t next inputs other =
    elim (eqb_tells next b) [
      | inl same ↦ absurd (other same.1)
      | inr differ ↦ λ i. if differ.0 i && nat_lt t most_times then lines_after b (t + 1) inputs else frames_line b t ++ lines_after next 1 inputs
    ]

-- frames that lengthen the run
pub frames_more : (b t k : ℕ) (inputs : List Input) → t + k ≤ most_times → lines_after b t (replicate k (Frame b) ++ inputs) ≡ lines_after b (t + k) inputs
frames_more b t zero inputs fits = let none : t ≡ t + 0 = omega arith in ap (λ n. lines_after b n inputs) none
frames_more b t (suc k) inputs fits =
    let less : t < most_times = omega arith in
    let rest : (t + 1) + k ≤ most_times = omega arith in
    let sum : (t + 1) + k ≡ t + suc k = omega arith in
    one_more b t (replicate k (Frame b) ++ inputs) less ∙ frames_more b (t + 1) k inputs rest ∙ ap (λ n. lines_after b n inputs) sum

-- frames of other buttons, which begin a run
pub frames_other : (b t next k : ℕ) (inputs : List Input) → (next ≡ b → ⊥) → 1 ≤ k → k ≤ most_times → lines_after b t (replicate k (Frame next) ++ inputs) ≡ frames_line b t ++ lines_after next k inputs
frames_other b t next zero inputs other some few = absurd (omega arith)
frames_other b t next (suc k) inputs other some few =
    let rest : 1 + k ≤ most_times = omega arith in
    let sum : 1 + k ≡ suc k = omega arith in
    one_other b t next (replicate k (Frame next) ++ inputs) other ∙ ap (λ l. frames_line b t ++ l) (frames_more next 1 k inputs rest ∙ ap (λ n. lines_after next n inputs) sum)

-- a full run, and frames after it
full_and_more : (b k : ℕ) (inputs : List Input) → 1 ≤ k → k ≤ most_times → lines_after b most_times (replicate k (Frame b) ++ inputs) ≡ frames_line b most_times ++ lines_after b k inputs
full_and_more b zero inputs some few = absurd (omega arith)
full_and_more b (suc k) inputs some few =
    let rest : 1 + k ≤ most_times = omega arith in
    let sum : 1 + k ≡ suc k = omega arith in
    one_over b (replicate k (Frame b) ++ inputs) ∙ ap (λ l. frames_line b most_times ++ l) (frames_more b 1 k inputs rest ∙ ap (λ n. lines_after b n inputs) sum)

replicate_sum : (a b : ℕ) (x : Input) → replicate (a + b) x ≡ replicate a x ++ replicate b x
replicate_sum a b x = sym (replicate-append-replicate a b x)

-- frames that fill the run, and begin another
pub frames_over : (b t k : ℕ) (inputs : List Input) → t ≤ most_times → k ≤ most_times → most_times < t + k → lines_after b t (replicate k (Frame b) ++ inputs) ≡ frames_line b most_times ++ lines_after b (t + k - most_times) inputs
frames_over b t k inputs full few over =
    let first = most_times - t in
    let last = t + k - most_times in
    let sum : k ≡ first + last = omega arith in
    let filled : t + first ≡ most_times = omega arith in
    let split : replicate k (Frame b) ++ inputs ≡ replicate first (Frame b) ++ (replicate last (Frame b) ++ inputs) =
    ap (λ n. replicate n (Frame b) ++ inputs) sum ∙ ap (λ (l : List Input). l ++ inputs) (replicate_sum first last (Frame b)) ∙ append_assoc (replicate first (Frame b)) (replicate last (Frame b)) inputs in
    let fits : t + first ≤ most_times = omega arith in
    let some : 1 ≤ last = omega arith in
    let short : last ≤ most_times = omega arith in
    ap (lines_after b t) split ∙ frames_more b t first (replicate last (Frame b) ++ inputs) fits ∙ ap (λ n. lines_after b n (replicate last (Frame b) ++ inputs)) filled ∙ full_and_more b last inputs some short

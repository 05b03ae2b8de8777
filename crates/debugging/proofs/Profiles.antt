-- Counts of M-cycles, and their lines.
use Rattle.std.proofs.Common.{◌≡◌, ◌∙◌, inl, inr, ℕ, zero, suc, ◌+◌, ◌≤◌, ◌<◌, ◌^◌, Option, None, Some, true, false, List, [], ◌++◌, drop, length, ap, refl, sym, arith, add-one, drop-cons}
use lib.ListN.{drop_of_length-le}
use Rattle.std.specs.Prelude.{◌==◌, if◌then◌else◌, replicate, slice_index}
use Rattle.std.proofs.lemmas.Bool.{cases_lt, eq-eqb, ne_eqb}
use Rattle.std.proofs.lemmas.List.{length-replicate, get_or_past, get_or-replicate}
use Rattle.std.specs.Option.{option_map_or}
use Rattle.cartridge.specs.Accepted.{IsAccepted}
use Rattle.cartridge.specs.Controllers.{most_banks_of}
use Rattle.cartridge.specs.Header.{controller_of}
use Rattle.cartridge.specs.declared.controller.Controller.{Controller}
use Rattle.cartridge.specs.declared.controller.Controller.TheVariants.{NoMbc, Mbc1, Mbc2, Mbc3, Mbc3Clock, Mbc5}
use Rattle.memory_map.specs.State.{BusState}
use Rattle.memory_map.specs.BusRules.{bus_rules}
use Rattle.sm83_processor.specs.Steps.{step_of, after_steps}
use Rattle.sm83_processor.specs.declared.processor.Processor.{Processor}
use Rattle.debugging.specs.Counting.{IsWithin}
use Rattle.debugging.specs.Profile.{Cycles, cycles_line, cycles_lines, no_cycles, with_step, with_steps}

zero_at : (size at : ℕ) → slice_index (replicate size 0) at ≡ 0
zero_at size at = elim (cases_lt at size) [
  | inl below ↦ get_or-replicate size at 0 0 below
  | inr past ↦ get_or_past (replicate size 0) at 0 (omega (arith, length-replicate {A = ℕ} size 0, past))
]

pub none_within : (size most : ℕ) → IsWithin most (no_cycles size)
none_within size most = record { rom = λ at. omega (arith, zero_at size at); elsewhere = omega arith }

pub within_more : (few many : ℕ) (c : Cycles) → few ≤ many → IsWithin few c → IsWithin many c
within_more few many c less within = record { rom = λ at. omega (arith, within.rom at, less); elsewhere = omega (arith, within.elsewhere, less) }

-- ---- steps

pub no_more : (p : Processor BusState) (c : Cycles) → with_steps 0 p c ≡ c
unfolding with_steps
no_more p c = refl

pub one_more_step : (n : ℕ) (p : Processor BusState) (c : Cycles) → with_steps (n + 1) p c ≡ with_step (after_steps bus_rules n p) (with_steps n p c)
unfolding with_steps after_steps
one_more_step zero p c = refl
one_more_step (suc n) p c =
    let e : suc n + 1 ≡ suc (n + 1) = omega arith in
    ap (λ (k : ℕ). with_steps k p c) e ∙ one_more_step n (step_of bus_rules p).after (with_step p c)

-- one step more of a run
pub step_more : (n m : ℕ) (p q : Processor BusState) (first old new : Cycles) → q ≡ after_steps bus_rules n p → old ≡ with_steps n p first → new ≡ with_step q old → m ≡ n + 1
    → new ≡ with_steps m p first
step_more n m p q first old new here so_far step more = step ∙ rw (here, so_far, more) (sym (one_more_step n p first))

-- ---- how long a ROM is

most_of : (kind : Controller) → most_banks_of kind ≤ 512
most_of NoMbc = omega arith
most_of Mbc1 = omega arith
most_of Mbc2 = omega arith
most_of Mbc3 = omega arith
most_of Mbc3Clock = omega arith
most_of Mbc5 = omega arith

most_any : (kind : Option Controller) → option_map_or most_banks_of kind 0 ≤ 512
most_any None = omega arith
most_any (Some kind) = most_of kind

pub few_bytes : (rom : List ℕ) → IsAccepted rom → length rom ≤ 2 ^ 30
few_bytes rom accepted = omega (arith, accepted.banks, most_any (controller_of rom))

-- ---- lines

-- what is left begins with the line of the next byte, if it has one
next_counted : (rom : List ℕ) (at : ℕ) → at < length rom → cycles_lines at (drop at rom) ≡ (if slice_index rom at == 0 then [] else cycles_line at (slice_index rom at)) ++ cycles_lines (at + 1) (drop (at + 1) rom)
unfolding cycles_lines
next_counted rom at below = rw (drop-cons rom at 0 below, add-one) refl

pub next_line_counted : (rom : List ℕ) (at : ℕ) → at < length rom → (slice_index rom at ≡ 0 → ⊥) → cycles_lines at (drop at rom) ≡ cycles_line at (slice_index rom at) ++ cycles_lines (at + 1) (drop (at + 1) rom)
next_line_counted rom at below some =
    let test : (slice_index rom at == 0) ≡ false = ne_eqb (slice_index rom at) 0 some in
    next_counted rom at below ∙ rw test refl

pub next_skipped : (rom : List ℕ) (at : ℕ) → at < length rom → slice_index rom at ≡ 0 → cycles_lines at (drop at rom) ≡ cycles_lines (at + 1) (drop (at + 1) rom)
next_skipped rom at below none =
    let test : (slice_index rom at == 0) ≡ true = eq-eqb (slice_index rom at) 0 none in
    next_counted rom at below ∙ rw test refl

pub none_counted : (rom : List ℕ) (at : ℕ) → length rom ≤ at → cycles_lines at (drop at rom) ≡ []
unfolding cycles_lines
none_counted rom at past = rw (drop_of_length-le rom past) refl

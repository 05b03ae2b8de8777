-- Why a play stops.
use Rattle.std.proofs.Common.{◌≡◌, ◌==◌, ◌∙◌, true≢false, eq-eqb, ℕ, ◌≤◌, ◌<◌, ◌-◌, ◌^◌, List, Bool, false, true, inl, inr, ◌⊎◌, ⊎_elim, if◌then◌else◌, Result, Ok, Err, refl, sym, ap, subst, arith}
use Rattle.std.specs.Prelude.{IfOk, IfErr, IsErrAnd}
use Rattle.std.proofs.lemmas.Bool.{eqb-true}
use Rattle.sector_device.specs.DiskState.{DiskState}
use Rattle.log_format.specs.Content.{generation_in}
use Rattle.session.specs.Calls.{IsRestoreAnswer, IsSaveCause, input_answer}
use Rattle.session.specs.declared.error.Damage.{Damage}
use Rattle.session.specs.declared.error.SessionError.{SessionError}
use Rattle.session.specs.declared.error.SessionError.TheVariants.{Memory, Device, NoSession, TooSmall, OtherCartridge, Damaged, GenerationsUsedUp, Broken, SaveFirst, CountFull, Output}
use Rattle.playing.specs.Played.{IsStop}

pub if_ok : {T E : Type 0} (r : Result T E) {P Q : T → Type 0} → IfOk r P → ((x : T) → P x → Q x) → IfOk r Q
if_ok (Ok x) p to = to x p
if_ok (Err e) p to = tt

pub if_err : {T E : Type 0} (r : Result T E) {P Q : E → Type 0} → IfErr r P → ((e : E) → P e → Q e) → IfErr r Q
if_err (Ok x) p to = tt
if_err (Err e) p to = to e p

-- an error that `?` hands on is the same one
pub handed_on : {T E : Type 0} {e : E} (r : Result T E) → IsErrAnd r (λ f. f ≡ e) → r ≡ Err e
handed_on (Ok x) is = absurd is
handed_on (Err f) is = ap Err is

-- ---- a save that is refused

pub save_not_output : (why : SessionError) (broken fits : Bool) (generation : ℕ) → IsSaveCause why broken fits generation → why ≡ Output → ⊥
save_not_output why broken fits generation cause is = subst (λ (w : SessionError). IsSaveCause w broken fits generation) is cause

pub save_stops : (why : SessionError) (broken fits : Bool) (generation all : ℕ) (now : DiskState) → broken ≡ false → IsSaveCause why broken fits generation → (why ≡ GenerationsUsedUp → now.honest → generation_in now.sectors ≡ 2 ^ 64 - 1) → IsStop why all now
save_stops Memory broken fits generation all now whole cause worn = absurd cause
save_stops Device broken fits generation all now whole cause worn = tt
save_stops NoSession broken fits generation all now whole cause worn = absurd cause
save_stops (TooSmall needed) broken fits generation all now whole cause worn = absurd cause
save_stops OtherCartridge broken fits generation all now whole cause worn = absurd cause
save_stops (Damaged damage) broken fits generation all now whole cause worn = absurd cause
save_stops GenerationsUsedUp broken fits generation all now whole cause worn = worn refl
save_stops Broken broken fits generation all now whole cause worn = cc
save_stops SaveFirst broken fits generation all now whole cause worn = absurd cause
save_stops CountFull broken fits generation all now whole cause worn = absurd cause
save_stops Output broken fits generation all now whole cause worn = absurd cause

-- ---- an input that is refused

abbrev answer_of : (most full : Bool) → Result (Unit {0}) SessionError
answer_of most full = if most then Err SaveFirst else (if full then Err CountFull else Ok tt)

refused_by : (why : SessionError) (most full : Bool) → Err why ≡ answer_of most full → (most ≡ true) ⊎ ((why ≡ CountFull) × (full ≡ true))
refused_by why true full answer = inl refl
refused_by why false true answer = inr (cc, refl)
refused_by why false false answer = absurd (cc)

-- an input is refused only at the greatest count
pub input_refused : (why : SessionError) (broken : Bool) (pending all : ℕ) → broken ≡ false → pending < 3200 → Err why ≡ input_answer broken pending all → (why ≡ CountFull) × (all ≡ 2 ^ 64 - 1)
input_refused why broken pending all whole few answer =
    ⊎_elim
    (λ (most : (pending == 3200) ≡ true). let e = eqb-true pending 3200 most in absurd (omega (arith, e, few)))
    (λ (full : (why ≡ CountFull) × ((all == 2 ^ 64 - 1) ≡ true)). (full.0, eqb-true all (2 ^ 64 - 1) full.1))
    (refused_by why (pending == 3200) (all == 2 ^ 64 - 1) (subst (λ (b : Bool). Err why ≡ input_answer b pending all) whole answer))

ok_full : (most full : Bool) → answer_of most full ≡ Ok tt → full ≡ false
ok_full true full is = absurd (cc)
ok_full false true is = absurd (cc)
ok_full false false is = refl

-- where one is taken, the count is not the greatest
pub taken_room : (broken : Bool) (pending all : ℕ) → broken ≡ false → input_answer broken pending all ≡ Ok tt → all ≡ 2 ^ 64 - 1 → ⊥
taken_room broken pending all whole answer full =
    let room = ok_full (pending == 3200) (all == 2 ^ 64 - 1) (subst (λ (b : Bool). input_answer b pending all ≡ Ok tt) whole answer) in
    true≢false (sym (eq-eqb all (2 ^ 64 - 1) full) ∙ room)

-- nor is it where there is no memory for the power switch
pub power_room : (why : SessionError) (broken : Bool) (pending all : ℕ) → broken ≡ false → pending < 3200
    → (Err why ≡ input_answer broken pending all) ⊎ (Path (Result (Unit {0}) SessionError) (Err why) (Err Memory) × (input_answer broken pending all ≡ Ok tt)) → why ≡ Memory → all ≡ 2 ^ 64 - 1 → ⊥
power_room why broken pending all whole few (inl is) memory full =
    let refused = input_refused why broken pending all whole few is in
    let other : Memory ≡ CountFull = sym memory ∙ refused.0 in
    cc
power_room why broken pending all whole few (inr is) memory full = taken_room broken pending all whole is.1 full

-- so is the power switch, where there is memory for it
pub power_refused : (why : SessionError) (taken : Result (Unit {0}) SessionError) → (Err why ≡ taken) ⊎ (Path (Result (Unit {0}) SessionError) (Err why) (Err Memory) × (taken ≡ Ok tt)) → (why ≡ Memory → ⊥) → Err why ≡ taken
power_refused why taken (inl is) other = is
power_refused why taken (inr is) other = absurd (other (cc))

-- and so is a legal snapshot
pub restore_refused : (rom bytes : List ℕ) (why : SessionError) (taken : Result (Unit {0}) SessionError) → IsRestoreAnswer rom bytes taken (Err why) → ((damage : Damage) → why ≡ Damaged damage → ⊥) → Err why ≡ taken
restore_refused rom bytes why (Err first) answer other = answer
restore_refused rom bytes (Damaged damage) (Ok done) answer other = absurd (other damage refl)
restore_refused rom bytes Memory (Ok done) answer other = absurd answer
restore_refused rom bytes Device (Ok done) answer other = absurd answer
restore_refused rom bytes NoSession (Ok done) answer other = absurd answer
restore_refused rom bytes (TooSmall needed) (Ok done) answer other = absurd answer
restore_refused rom bytes OtherCartridge (Ok done) answer other = absurd answer
restore_refused rom bytes GenerationsUsedUp (Ok done) answer other = absurd answer
restore_refused rom bytes Broken (Ok done) answer other = absurd answer
restore_refused rom bytes SaveFirst (Ok done) answer other = absurd answer
restore_refused rom bytes CountFull (Ok done) answer other = absurd answer
restore_refused rom bytes Output (Ok done) answer other = absurd answer

pub full_stops : (why : SessionError) (all : ℕ) (now : DiskState) → why ≡ CountFull → 2 ^ 64 ≤ all → IsStop why all now
full_stops why all now full least = subst (λ (w : SessionError). IsStop w all now) (sym full) least

-- ---- among more inputs

pub stops_among : (why : SessionError) (less all : ℕ) (now : DiskState) → less ≤ all → IsStop why less now → IsStop why all now
stops_among CountFull less all now more stop = omega arith
stops_among GenerationsUsedUp less all now more stop = stop
stops_among Device less all now more stop = stop
stops_among Output less all now more stop = stop
stops_among Memory less all now more stop = stop
stops_among NoSession less all now more stop = stop
stops_among (TooSmall needed) less all now more stop = stop
stops_among OtherCartridge less all now more stop = stop
stops_among (Damaged damage) less all now more stop = stop
stops_among Broken less all now more stop = stop
stops_among SaveFirst less all now more stop = stop

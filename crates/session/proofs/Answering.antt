-- The count of sectors, honesty and the count of faults over calls, one after another.
use Rattle.std.proofs.Common.{◌≡◌, ◌∙◌, refl, ap, ℕ, Result, Ok, Err}
use Rattle.sector_device.specs.DiskState.{DiskState, HasAnswered}
use Rattle.sector_device.proofs.Runs.{follows_none, follows_then}

-- no call at all
pub answered_nothing : {T E : Type 0} {faults_after : E → ℕ → ℕ} {now : DiskState} {value : T} → HasAnswered faults_after now now (Ok value)
answered_nothing = record { count = refl; honest = (λ is. is, λ was. was); faults_ok = refl; faults = tt; follows = follows_none; handed = refl; fuse = refl }

-- no call at all, and a refusal that has another cause
pub answered_refusal : {T E : Type 0} {faults_after : E → ℕ → ℕ} {now : DiskState} {why : E} → ((n : ℕ) → faults_after why n ≡ n) → HasAnswered {T = T} faults_after now now (Err why)
answered_refusal {now = now} none = record { count = refl; honest = (λ is. is, λ was. was); faults_ok = tt; faults = let here = none now.faults in cc; follows = follows_none; handed = refl; fuse = refl }

-- calls of which none failed, and then a refusal that has another cause
pub answered_otherwise : {T U E F : Type 0} {first_faults : E → ℕ → ℕ} {faults_after : F → ℕ → ℕ} {old now : DiskState} {value : T} {why : F}
    → HasAnswered first_faults old now (Ok value) → ((n : ℕ) → faults_after why n ≡ n) → HasAnswered {T = U} faults_after old now (Err why)
answered_otherwise {old = old} first none = record { count = first.count; honest = first.honest; faults_ok = tt; faults = let here = none old.faults in cc; follows = first.follows; handed = first.handed; fuse = first.fuse }

-- the same, with another answer
pub answered_value : {T U E F : Type 0} {first_faults : E → ℕ → ℕ} {faults_after : F → ℕ → ℕ} {old now : DiskState} {first_value : T} {value : U}
    → HasAnswered first_faults old now (Ok first_value) → HasAnswered faults_after old now (Ok value)
answered_value first = record { count = first.count; honest = first.honest; faults_ok = first.faults_ok; faults = tt; follows = first.follows; handed = first.handed; fuse = first.fuse }

-- the same, with another error that leaves the same count
pub answered_error : {T U E F : Type 0} {first_faults : E → ℕ → ℕ} {faults_after : F → ℕ → ℕ} {old now : DiskState} {first_why : E} {why : F}
    → HasAnswered {T = T} first_faults old now (Err first_why) → ((n : ℕ) → first_faults first_why n ≡ faults_after why n) → HasAnswered {T = U} faults_after old now (Err why)
answered_error {old = old} first same = record { count = first.count; honest = first.honest; faults_ok = tt; faults = first.faults ∙ same old.faults; follows = first.follows; handed = first.handed; fuse = first.fuse }

-- two runs of calls of which none failed
pub answered_both : {T U V E F G : Type 0} {first_faults : E → ℕ → ℕ} {second_faults : F → ℕ → ℕ} {faults_after : G → ℕ → ℕ} {old mid now : DiskState} {first_value : T} {second_value : U} {value : V}
    → HasAnswered first_faults old mid (Ok first_value) → HasAnswered second_faults mid now (Ok second_value) → HasAnswered faults_after old now (Ok value)
answered_both first second = record {
  count = second.count ∙ first.count;
  honest = (λ is. first.honest.0 (second.honest.0 is), λ was. second.honest.1 (first.honest.1 was));
  faults_ok = second.faults_ok ∙ first.faults_ok;
  faults = tt;
  follows = follows_then first.follows second.follows;
  handed = second.handed ∙ first.handed;
  fuse = second.fuse ∙ first.fuse;
}

-- a run of calls of which none failed, and then one that was refused
pub answered_refused : {T U V E F G : Type 0} {first_faults : E → ℕ → ℕ} {second_faults : F → ℕ → ℕ} {faults_after : G → ℕ → ℕ} {old mid now : DiskState} {first_value : T} {why : F} {refused : G}
    → HasAnswered first_faults old mid (Ok first_value) → HasAnswered {T = U} second_faults mid now (Err why) → ((n : ℕ) → second_faults why n ≡ faults_after refused n)
    → HasAnswered {T = V} faults_after old now (Err refused)
answered_refused {second_faults = second_faults} {old = old} {why = why} first second same = record {
  count = second.count ∙ first.count;
  honest = (λ is. first.honest.0 (second.honest.0 is), λ was. second.honest.1 (first.honest.1 was));
  faults_ok = tt;
  faults = second.faults ∙ ap (second_faults why) first.faults_ok ∙ same old.faults;
  follows = follows_then first.follows second.follows;
  handed = second.handed ∙ first.handed;
  fuse = second.fuse ∙ first.fuse;
}

-- a run of calls of which none failed, and then one more
pub answered_then : {T U E F : Type 0} {first_faults : E → ℕ → ℕ} {faults_after : F → ℕ → ℕ} {old mid now : DiskState} {value : T} (r : Result U F)
    → HasAnswered first_faults old mid (Ok value) → HasAnswered faults_after mid now r → HasAnswered faults_after old now r
answered_then (Ok v) first second = answered_both first second
answered_then (Err why) first second = answered_refused first second (λ n. refl)

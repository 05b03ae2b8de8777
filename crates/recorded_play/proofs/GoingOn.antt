-- A game that was looked at, resumed, and given what its recording has beyond it.
use Rattle.std.proofs.Common.{◌≡◌, ◌≢◌, inl, inr, ℕ, ◌+◌, ◌-◌, ◌^◌, List, [], length, drop, refl, sym, ap, subst, arith}
use Rattle.machine.specs.Machine.{MachineState, after}
use Rattle.sector_device.specs.DiskState.{DiskState}
use Rattle.sector_device.specs.Runs.{HoldsSince}
use Rattle.sector_device.proofs.Looking.{looked_self}
use Rattle.log_format.specs.Content.{generation_in}
use Rattle.session.specs.Stands.{IsAtRest, StandsAsBefore, Position}
use Rattle.session.specs.Found.{IsTakeUpCause}
use Rattle.session.specs.declared.error.SessionError.{SessionError}
use Rattle.session.proofs.Writes.{since_weaker}
use Rattle.session.proofs.Beginnings.{since_then}
use Rattle.playing.proofs.PlayLaws.{begun_played, all_saved}
use Rattle.playing.specs.Going.{Place, all_of, IsPlayedAt}
use Rattle.session.specs.declared.error.SessionError.TheVariants.{Memory, Device, GenerationsUsedUp, Output}
use Rattle.recorded_play.specs.CatchingUp.{recorded_in, StopsOverRecorded, HasCaughtUp, IsCatchUpStop}
use Rattle.recorded_play.specs.GoingOn.{LookAdvances, LookStops, IsLookStop}
use Rattle.recorded_play.specs.declared.error.RecordError.{RecordError}
use Rattle.recorded_play.specs.declared.error.RecordError.TheVariants.{Session}

go_on_stop : (why : RecordError) (all : ℕ) (now : DiskState) → IsCatchUpStop why all now → IsLookStop why all now
go_on_stop (Session Memory) all now stop = tt
go_on_stop why all now stop = stop

-- a session that was just resumed
pub record IsResumed (rom : List ℕ) (old : DiskState) (a : Place) : Type 0 where
  pub none : a.pending ≡ []
  pub rom_is : a.machine.processor.memory.banks.rom ≡ rom
  pub honest : old.honest → a.disk.honest
  pub rests : old.honest → IsAtRest rom a.disk a.acknowledged [] a.machine
  pub images : old.honest → HoldsSince old a.disk (StandsAsBefore rom old)

module _ {rom : List ℕ} {old : DiskState} {a : Place} (up : IsResumed rom old a) where
  abbrev at : Position
  at = record { count = a.acknowledged; machine = a.machine }

  begun : old.honest → IsPlayedAt rom a at []
  begun honest = begun_played rom a.disk a.acknowledged a.pending a.machine (up.honest honest) up.rom_is up.none (up.rests honest)

  pub goes_on : {b : Place} {old_recording new_recording : DiskState} → b.pending ≡ [] → HasCaughtUp a b old_recording new_recording → LookAdvances rom old b.disk old_recording new_recording at b.acknowledged b.machine
  goes_on {b} saved caught =
      let count_is : b.acknowledged ≡ a.acknowledged + length caught.more = omega (arith, caught.goes.all_is, ap length saved, ap length up.none) in
      record {
        more = caught.more;
        count_is = count_is;
        machine_is = caught.goes.machine_is;
        more_is = caught.more_is;
        rests = λ honest.
            let rests = all_saved rom b.disk b.acknowledged b.pending b.machine at caught.more (caught.goes.going rom at [] (begun honest)).played saved in
            subst (λ (m : MachineState). IsAtRest rom b.disk b.acknowledged [] m) (sym caught.goes.machine_is)
            (subst (λ (n : ℕ). IsAtRest rom b.disk n [] (after a.machine caught.more)) (sym count_is) rests);
        images = λ honest.
            since_then (since_weaker (up.images honest) (λ image stands. inl stands))
            (since_weaker (caught.goes.going rom at [] (begun honest)).moments (λ image reaches. inr reaches));
        looks = caught.looks;
      }

  pub stops_catching_up : {b : Place} {old_recording new_recording : DiskState} {why : RecordError} → StopsOverRecorded a b old_recording new_recording a.acknowledged (recorded_in old_recording) why → LookStops rom old b.disk old_recording new_recording at why
  stops_catching_up {b} {old_recording} {why = why} fails = record {
    cause = λ honest recording_honest.
        let all : all_of a + length (drop a.acknowledged (recorded_in old_recording)) ≡ a.acknowledged + length (drop a.acknowledged (recorded_in old_recording)) = omega (arith, ap length up.none) in
        go_on_stop why (a.acknowledged + length (drop a.acknowledged (recorded_in old_recording))) b.disk (subst (λ (n : ℕ). IsCatchUpStop why n b.disk) all (fails.cause recording_honest));
    kind = fails.kind;
    images = λ honest recording_honest.
        since_then (since_weaker (up.images honest) (λ image stands. inl stands))
        (since_weaker (fails.stopped recording_honest rom at [] (begun honest)).moments (λ image reaches. inr reaches));
    looks = fails.looks;
  }

-- why a game that was looked at is not resumed
pub resume_stop : (why : SessionError) (generation all : ℕ) (now : DiskState) → (generation ≡ 2 ^ 64 - 1 → why ≡ GenerationsUsedUp → now.honest → generation_in now.sectors ≡ 2 ^ 64 - 1) → IsTakeUpCause generation why → IsLookStop (Session why) all now
resume_stop Memory generation all now worn cause = tt
resume_stop Device generation all now worn cause = (tt, λ is. absurd (cc))
resume_stop GenerationsUsedUp generation all now worn cause = (worn cause refl, λ is. absurd (cc))
resume_stop why generation all now worn cause = absurd cause

-- it was not resumed
pub stops_resuming : {rom : List ℕ} {old now recording : DiskState} {from : Position} {why : SessionError} → (old.honest → IsLookStop (Session why) (from.count + length (drop from.count (recorded_in recording))) now) → why ≢ Output → (old.honest → HoldsSince old now (StandsAsBefore rom old))
    → LookStops rom old now recording recording from (Session why)
stops_resuming {recording = recording} cause kind images = record {
  cause = λ honest recording_honest. cause honest;
  kind = kind;
  images = λ honest recording_honest. since_weaker (images honest) (λ image stands. inl stands);
  looks = looked_self recording;
}

use Rattle.std.proofs.Common.{◌≡◌, ⊎_elim, ◌+◌, ◌-◌, ◌∙◌, ◌++◌, List, ℕ, [], length, refl, sym, ap, subst, arith, append-nil}
use Rattle.machine.specs.Machine.{Input}
use Rattle.sector_device.specs.DiskState.{DiskState}
use Rattle.sector_device.specs.Runs.{HoldsSince}
use Rattle.recording.specs.Calls.{HoldsPrefix, IsAppended}
use Rattle.recording.specs.Growing.{fits as fits_recording}
use Rattle.recording.specs.Sizes.{list_sectors_in}
use Rattle.recording.specs.Accessors.{device_of as device_of_recording, is_broken as is_broken_recording, tail_of, full_of}
use Rattle.recording.specs.declared.fault.RecordingFault.TheVariants.{Device, Full}
use Rattle.session.specs.Inputs.{can_be_logged}
use Rattle.session.specs.Calls.{fits_log}
use Rattle.session.specs.Accessors.{device_of, machine_of, rom_of, pending_of, acknowledged_of, is_broken, log_in, generation_in_use}
use Rattle.session.specs.Stands.{Position}
use Rattle.session.specs.declared.error.SessionError.TheVariants.{Output}
use Rattle.session.proofs.AtRest.{held_from}
use Rattle.session.proofs.Answering.{answered_value, answered_error, answered_otherwise, answered_refusal}
use Rattle.session.proofs.StandsLaws.{after_none}
use Rattle.session.proofs.Writes.{inputs_listed}
use Rattle.playing.specs.Played.{Reaches}
use Rattle.playing.proofs.PlayLaws.{going_saved, going_by, stopped_failed, stopped_here, stopped_by}
use Rattle.playing.proofs.Stops.{save_stops, save_not_output}
use Rattle.playing.specs.Going.{place, IsPlayedAt}
use Rattle.replaying.specs.Agreeing.{Agrees}
use Rattle.recorded_play.specs.Steps.{Game, game, power_on, IsInStep, IsBehind}
use Rattle.recorded_play.proofs.Stepping.{behind_agree, behind_after}
use Rattle.recorded_play.proofs.BothSaved.{append_stops, is_full_of, appended, recording_moves, behind_appended, behind_failed, save_stays, save_moves}
use Rattle.recorded_play.proofs.saving.save_both.Given.{Over}
use Rattle.recorded_play.proofs.saving.save_both.Goals as goal
use Rattle.recorded_play.proofs.saving.save_both.Goals.{After-append}

pub append-requires : goal.append-requires
append-requires g c = inputs_listed c.unsaved.result.now (ap can_be_logged c.unsaved.ensures.pending ∙ c.requires.logged)

module _ (g : Over) (c : After-append g) where
  abbrev a : Game
  a = game c.args.session.now c.args.recording.now

  abbrev new : DiskState
  new = g.E.SectorDevice.disk (device_of_recording c.append.new.self)

  images : a.recording.honest → HoldsSince a.recording new (HoldsPrefix a.recording.sectors a.save.pending)
  images honest = subst (λ l. HoldsSince a.recording new (HoldsPrefix a.recording.sectors l)) c.unsaved.ensures.pending (c.append.ensures.images c.requires.open honest)

  first_moves : (rom : List ℕ) (all : List Input) → IsInStep rom a all → HoldsSince a.recording new (λ r. (s : List (List ℕ)) → a.save.disk.image s → Agrees rom s r)
  first_moves rom all step = recording_moves rom a all step new (images step.holds.honest)

  behind : (rom : List ℕ) (all : List Input) → IsInStep rom a all → IsBehind rom a (game c.args.session.now c.append.new.self) (all ++ [])
  behind rom all step =
      behind_appended rom a all step new (images step.holds.honest) (g.met.E.SectorDevice.counts_now (device_of_recording c.append.new.self)) (c.append.ensures.answered.honest.1 step.holds.honest)

  -- where the append was made
  module _ (made : a.recording.honest → IsAppended a.recording new c.unsaved.result.now) where
    done : a.recording.honest → IsAppended a.recording new a.save.pending
    done honest = subst (IsAppended a.recording new) c.unsaved.ensures.pending (made honest)

    then_moves : (rom : List ℕ) (all : List Input) (moved : DiskState) → IsInStep rom a all → HoldsSince a.save.disk moved (Reaches rom (power_on rom) 0 (all ++ [])) → HoldsSince a.save.disk moved (λ s. (r : List (List ℕ)) → new.image r → Agrees rom s r)
    then_moves rom all moved step since =
        save_moves rom a all step new (images step.holds.honest) (c.append.ensures.answered.honest.1 step.holds.honest) (done step.holds.honest) moved
        (subst (λ (l : List Input). HoldsSince a.save.disk moved (Reaches rom (power_on rom) 0 l)) (append-nil all) since)

-- ---- the append was refused

pub returns-in-Err-clause-halts : goal.returns-in-Err-clause-halts
returns-in-Err-clause-halts g c =
    let was = c.args.session.now in
    let old = g.E.SectorDevice.disk (device_of_recording c.args.recording.now) in
    record {
      stopped = λ rom from given played.
          stopped_by (sym (append-nil given)) (stopped_here rom (g.D.SectorDevice.disk (device_of was)) (acknowledged_of was) (pending_of was) (machine_of was) from given played (g.met.D.SectorDevice.only_now (device_of was)));
      behind = behind g (goal.at.returns-in-Err-clause-halts g c).After-append;
      cause = append_stops c.in-Err.why (is_broken_recording c.args.recording.now) (fits_recording (tail_of c.args.recording.now) (list_sectors_in (length old.sectors) - full_of c.args.recording.now) c.unsaved.result.now) c.requires.open c.in-Err.ensures.cause;
      full = λ is rom all held.
          let full : c.in-Err.why ≡ Full = cc in
          is_full_of rom old (g.E.SectorDevice.disk (device_of_recording c.append.new.self)) (acknowledged_of was) (pending_of was) c.unsaved.result.now all c.unsaved.ensures.pending
          (⊎_elim (λ (device : c.in-Err.why ≡ Device). absurd (cc)) (λ stays. ap (λ r. g.E.SectorDevice.disk (device_of_recording r)) stays) c.in-Err.ensures.unchanged) held (c.in-Err.ensures.full full held.honest);
      later = omega arith;
      save_calls = answered_refusal (λ n. refl);
      recording_calls = answered_error c.in-Err.ensures.answered (λ n. refl);
    }

pub returns-in-Err-clause-recorded : goal.returns-in-Err-clause-recorded
returns-in-Err-clause-recorded g c = first_moves g (goal.at.returns-in-Err-clause-recorded g c).After-append

pub returns-in-Err-clause-moved : goal.returns-in-Err-clause-moved
returns-in-Err-clause-moved g c = λ rom all step.
    let before = (goal.at.returns-in-Err-clause-moved g c).After-append in
    save_stays rom (a g before) all step (new g before) (images g before step.holds.honest) (g.met.E.SectorDevice.counts_now (device_of_recording c.append.new.self)) (g.met.D.SectorDevice.only_now (device_of c.args.session.now))

pub returns-in-Err-clause-agree : goal.returns-in-Err-clause-agree
returns-in-Err-clause-agree g c = λ rom all step. behind_agree rom _ _ (all ++ []) (behind g (goal.at.returns-in-Err-clause-agree g c).After-append rom all step)

-- ---- both were saved

pub returns-in-Ok-clause-comes : goal.returns-in-Ok-clause-comes
returns-in-Ok-clause-comes g c =
    let before = (goal.at.returns-in-Ok-clause-comes g c).After-append in
    let was = c.args.session.now in
    let now = c.save.new.self in
    let size : acknowledged_of now ≡ acknowledged_of was + length (pending_of was) = c.in-Ok.ensures.ok.1 ∙ c.in-Ok.ensures.ok.0 in
    record {
      going = λ rom from given played.
          going_by (sym (append-nil given))
          (going_saved rom (g.D.SectorDevice.disk (device_of was)) (acknowledged_of was) (pending_of was) (machine_of was) from given played (rom_of was) refl
          (g.D.SectorDevice.disk (device_of now)) c.in-Ok.count (acknowledged_of now) (pending_of now) (machine_of now)
          (c.in-Ok.ensures.answered.honest.1 played.honest) c.in-Ok.ensures.ok.0 c.in-Ok.ensures.ok.1 c.in-Ok.ensures.ok.2 c.in-Ok.ensures.machine.0 (c.in-Ok.ensures.rests played.honest) (held_from _ _ _ (c.in-Ok.ensures.stands c.requires.whole played.honest) (c.in-Ok.ensures.images c.requires.whole played.honest)));
      records = λ rom all held.
          appended rom _ (new g before) (acknowledged_of was) (pending_of was) all held (images g before held.honest)
          (acknowledged_of now) (pending_of now) (c.append.ensures.answered.honest.1 held.honest) size c.in-Ok.ensures.ok.2 (done g before c.in_default.ensures.appended.appended held.honest);
      machine_is = c.in-Ok.ensures.machine.0 ∙ sym (after_none (machine_of was));
      all_is = omega (arith, size, ap length c.in-Ok.ensures.ok.2);
      later = omega (arith, size);
      save_calls = answered_value c.in-Ok.ensures.answered;
      recording_calls = answered_value c.in_default.ensures.answered;
      rom = c.in-Ok.ensures.machine.1;
    }

pub returns-in-Ok-clause-recorded : goal.returns-in-Ok-clause-recorded
returns-in-Ok-clause-recorded g c = first_moves g (goal.at.returns-in-Ok-clause-recorded g c).After-append

pub returns-in-Ok-clause-moved : goal.returns-in-Ok-clause-moved
returns-in-Ok-clause-moved g c = λ rom all step.
    then_moves g (goal.at.returns-in-Ok-clause-moved g c).After-append c.in_default.ensures.appended.appended rom all _ step ((returns-in-Ok-clause-comes g c).going rom (power_on rom) all step.played).moments

pub returns-in-Ok-clause-agree : goal.returns-in-Ok-clause-agree
returns-in-Ok-clause-agree g c = λ rom all step.
    behind_agree rom _ _ (all ++ []) (behind_after rom _ _ all [] (returns-in-Ok-clause-comes g c) step (g.met.E.SectorDevice.only_now (device_of_recording c.append.new.self)))

-- ---- the save was refused

pub returns-in-Err-save-clause-halts : goal.returns-in-Err-save-clause-halts
returns-in-Err-save-clause-halts g c =
    let before = (goal.at.returns-in-Err-save-clause-halts g c).After-append in
    let was = c.args.session.now in
    let now = c.save.new.self in
    let moved = g.D.SectorDevice.disk (device_of now) in
    let stops = λ (rom : List ℕ) (from : Position) (given : List Input) (played : IsPlayedAt rom (place was) from given).
    stopped_failed rom (g.D.SectorDevice.disk (device_of was)) (acknowledged_of was) (pending_of was) (machine_of was) from given played (rom_of was) refl
    moved (acknowledged_of now) (c.in-Err-save.ensures.answered.honest.1 played.honest) c.in-Err-save.ensures.refused.1 (g.met.D.SectorDevice.counts_now (device_of now)) (held_from _ _ _ (c.in-Err-save.ensures.stands c.requires.whole played.honest) (c.in-Err-save.ensures.images c.requires.whole played.honest)) in
    record {
      stopped = λ rom from given played. stopped_by (sym (append-nil given)) (stops rom from given played);
      behind = λ rom all step.
          behind_failed rom (a g before) all step (new g before) (images g before step.holds.honest) (c.append.ensures.answered.honest.1 step.holds.honest) (done g before c.in_default.ensures.appended.appended step.holds.honest)
          (place now) c.in-Err-save.ensures.refused.1 (stops rom (power_on rom) all step.played);
      cause = save_stops c.in-Err-save.why (is_broken was) (fits_log (log_in was) (pending_of was)) (generation_in_use was) (acknowledged_of was + length (pending_of was) + 0) moved c.requires.whole c.in-Err-save.ensures.cause c.in-Err-save.ensures.worn;
      full = λ is. absurd (cc);
      later = omega (arith, c.in-Err-save.ensures.refused.1);
      save_calls = answered_error c.in-Err-save.ensures.answered (λ n. refl);
      recording_calls = answered_otherwise c.in_default.ensures.answered (λ n. refl);
    }

pub returns-in-Err-save-clause-recorded : goal.returns-in-Err-save-clause-recorded
returns-in-Err-save-clause-recorded g c = first_moves g (goal.at.returns-in-Err-save-clause-recorded g c).After-append

pub returns-in-Err-save-clause-moved : goal.returns-in-Err-save-clause-moved
returns-in-Err-save-clause-moved g c = λ rom all step.
    then_moves g (goal.at.returns-in-Err-save-clause-moved g c).After-append c.in_default.ensures.appended.appended rom all _ step ((returns-in-Err-save-clause-halts g c).stopped rom (power_on rom) all step.played).moments

pub returns-in-Err-save-clause-agree : goal.returns-in-Err-save-clause-agree
returns-in-Err-save-clause-agree g c = λ rom all step. behind_agree rom _ _ (all ++ []) ((returns-in-Err-save-clause-halts g c).behind rom all step)

pub returns-in-Err-save-clause-no_output : goal.returns-in-Err-save-clause-no_output
returns-in-Err-save-clause-no_output g c = λ is.
    let was = c.args.session.now in
    let same : c.in-Err-save.why ≡ Output = cc in
    save_not_output c.in-Err-save.why (is_broken was) (fits_log (log_in was) (pending_of was)) (generation_in_use was) c.in-Err-save.ensures.cause same

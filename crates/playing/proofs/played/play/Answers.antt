use Rattle.std.proofs.Common.{◌≡◌, ◌+◌, ℕ, List, inl, inr, [], ◌∷◌, length, take, Some, Err, ap, sym, refl, ◌∙◌, subst, arith}
use Rattle.sector_device.specs.DiskState.{HasAnswered}
use Rattle.sector_device.specs.Runs.{HoldsSince}
use Rattle.machine.specs.Machine.{Input, after}
use Rattle.script.specs.declared.moves.Move.TheVariants.{Power}
use Rattle.session.specs.declared.error.SessionError.TheVariants.{Memory}
use Rattle.session.specs.Calls.{faults_after}
use Rattle.session.specs.Stands.{Position}
use Rattle.session.specs.Accessors.{device_of, machine_of, pending_of, acknowledged_of}
use Rattle.session.proofs.Writes.{since_weaker}
use Rattle.session.proofs.Answering.{answered_both, answered_otherwise, answered_refused}
use Rattle.session.proofs.Beginnings.{since_then}
use Rattle.playing.specs.Played.{IsPlayed, IsStop, PlayImage, Reaches, HasStopped, HasFoundNoMemory}
use Rattle.script.specs.Inputs.{inputs_of_moves}
use Rattle.playing.proofs.Going.{goes_all, no_further_at_all, none_left}
use Rattle.playing.proofs.Telling.{keeps_same, memory_at}
use Rattle.playing.proofs.PlayLaws.{begun_played, all_saved, reaches_more}
use Rattle.playing.proofs.ReportLaws.{front_of_moves}
use Rattle.playing.proofs.played.play.Goals as goal

pub returns-in-Err-clause-images : goal.returns-in-Err-clause-images
returns-in-Err-clause-images g c = λ honest. since_weaker (c.in-Err.ensures.images honest) (λ image stands. inl stands)

pub returns-in-Err-clause-refused : goal.returns-in-Err-clause-refused
returns-in-Err-clause-refused g c =
    inl (record { cause = c.in-Err.ensures.cause; report = keeps_same (g.W.Output.contents c.args.report.now); images = c.in-Err.ensures.images; untouched = c.in-Err.ensures.untouched; memory = memory_at (g.D.SectorDevice.disk) c.in-Err.ensures.memory; failed = c.in-Err.ensures.failed; no_report = c.in-Err.ensures.no_report })

pub returns-in-Err-clause-output : goal.returns-in-Err-clause-output
returns-in-Err-clause-output g c = λ output. absurd (c.in-Err.ensures.no_report output)

pub returns-in-Ok-true-clause-played : goal.returns-in-Ok-true-clause-played
returns-in-Ok-true-clause-played g c = λ honest.
    let rom = c.args.cartridge.now in
    let s = c.in-Ok.session in
    let now = c.play_on.new.game in
    let inputs = inputs_of_moves c.args.moves.now in
    let from : Position = record { count = acknowledged_of s; machine = machine_of s } in
    let begun : IsPlayed rom (g.D.SectorDevice.disk (device_of s)) (acknowledged_of s) (pending_of s) (machine_of s) from [] =
    begun_played rom (g.D.SectorDevice.disk (device_of s)) (acknowledged_of s) (pending_of s) (machine_of s) (c.in-Ok.ensures.answered.honest.1 honest) c.in-Ok.ensures.begun.2 c.in-Ok.ensures.begun.0 (c.in-Ok.ensures.rests honest) in
    let goes = goes_all g.met.D.SectorDevice.only_now (λ a b input one. one) (λ a b one. one) s now inputs (c.in-Ok-true.ensures.made c.in-Ok-true.field-0-test).advances in
    record {
      from = from;
      stood = c.in-Ok.ensures.stands honest;
      rests = all_saved rom (g.D.SectorDevice.disk (device_of now)) (acknowledged_of now) (pending_of now) (machine_of now) from inputs (goes.going rom from [] begun).played (none_left (pending_of now) (c.in-Ok-true.ensures.made c.in-Ok-true.field-0-test).unsaved_is);
    }

pub returns-in-Ok-true-clause-images : goal.returns-in-Ok-true-clause-images
returns-in-Ok-true-clause-images g c = λ honest.
    let rom = c.args.cartridge.now in
    let s = c.in-Ok.session in
    let now = c.play_on.new.game in
    let from : Position = record { count = acknowledged_of s; machine = machine_of s } in
    let begun : IsPlayed rom (g.D.SectorDevice.disk (device_of s)) (acknowledged_of s) (pending_of s) (machine_of s) from [] =
    begun_played rom (g.D.SectorDevice.disk (device_of s)) (acknowledged_of s) (pending_of s) (machine_of s) (c.in-Ok.ensures.answered.honest.1 honest) c.in-Ok.ensures.begun.2 c.in-Ok.ensures.begun.0 (c.in-Ok.ensures.rests honest) in
    let goes = goes_all g.met.D.SectorDevice.only_now (λ a b input one. one) (λ a b one. one) s now (inputs_of_moves c.args.moves.now) (c.in-Ok-true.ensures.made c.in-Ok-true.field-0-test).advances in
    since_then (since_weaker (c.in-Ok.ensures.images honest) (λ image stands. inl stands))
    (since_weaker (goes.going rom from [] begun).moments (λ image reaches. inr (record { from = from; stood = c.in-Ok.ensures.stands honest; reaches = reaches })))

pub returns-in-Ok-true-clause-reached : goal.returns-in-Ok-true-clause-reached
returns-in-Ok-true-clause-reached g c = λ honest.
    let s = c.in-Ok.session in
    let now = c.play_on.new.game in
    let goes = goes_all g.met.D.SectorDevice.only_now (λ a b input one. one) (λ a b one. one) s now (inputs_of_moves c.args.moves.now) (c.in-Ok-true.ensures.made c.in-Ok-true.field-0-test).advances in
    let before = ap length c.in-Ok.ensures.begun.0 in
    record {
      from = record { count = acknowledged_of s; machine = machine_of s };
      stood = c.in-Ok.ensures.stands honest;
      count_is = omega (arith, goes.all_is, before, (c.in-Ok-true.ensures.made c.in-Ok-true.field-0-test).unsaved_is);
      machine_is = goes.machine_is;
    }

pub returns-in-Ok-true-clause-report : goal.returns-in-Ok-true-clause-report
returns-in-Ok-true-clause-report g c =
    let s = c.in-Ok.session in
    let now = c.play_on.new.game in
    let goes = goes_all g.met.D.SectorDevice.only_now (λ a b input one. one) (λ a b one. one) s now (inputs_of_moves c.args.moves.now) (c.in-Ok-true.ensures.made c.in-Ok-true.field-0-test).advances in
    let before = ap length c.in-Ok.ensures.begun.0 in
    (acknowledged_of s, omega (arith, goes.all_is, before, (c.in-Ok-true.ensures.made c.in-Ok-true.field-0-test).unsaved_is), (c.in-Ok-true.ensures.made c.in-Ok-true.field-0-test).answered)

pub returns-in-Ok-true-clause-whole : goal.returns-in-Ok-true-clause-whole
returns-in-Ok-true-clause-whole g c =
    let s = c.in-Ok.session in
    let now = c.play_on.new.game in
    let goes = goes_all g.met.D.SectorDevice.only_now (λ a b input one. one) (λ a b one. one) s now (inputs_of_moves c.args.moves.now) (c.in-Ok-true.ensures.made c.in-Ok-true.field-0-test).advances in
    (none_left (pending_of now) (c.in-Ok-true.ensures.made c.in-Ok-true.field-0-test).unsaved_is, c.in-Ok-true.ensures.whole, goes.rom ∙ c.in-Ok.ensures.begun.2)

pub returns-in-Ok-true-clause-answered : goal.returns-in-Ok-true-clause-answered
returns-in-Ok-true-clause-answered g c =
    let goes = goes_all g.met.D.SectorDevice.only_now (λ a b input one. one) (λ a b one. one) c.in-Ok.session c.play_on.new.game (inputs_of_moves c.args.moves.now) (c.in-Ok-true.ensures.made c.in-Ok-true.field-0-test).advances in
    answered_both c.in-Ok.ensures.answered goes.calls

pub returns-in-Err-play_on-clause-refused : goal.returns-in-Err-play_on-clause-refused
returns-in-Err-play_on-clause-refused g c =
    let rom = c.args.cartridge.now in
    let s = c.in-Ok.session in
    let now = c.play_on.new.game in
    let moves = c.args.moves.now in
    let why = c.in-Err-play_on.why in
    let from : Position = record { count = acknowledged_of s; machine = machine_of s } in
    let stop = no_further_at_all g.met.D.SectorDevice.only_now (λ a b input one. one) (λ a b one. one) (λ a b input why one. one) (λ a b why one. one) refl s now (inputs_of_moves moves) why c.in-Err-play_on.ensures.stopped.stops in
    let none : acknowledged_of s + length (pending_of s) + length (inputs_of_moves moves) ≡ acknowledged_of s + length (inputs_of_moves moves) = omega (arith, ap length c.in-Ok.ensures.begun.0) in
    inr (inl (subst (λ d. HasStopped rom (g.D.SectorDevice.disk c.args.device) (g.D.SectorDevice.disk d) moves why (g.W.Output.contents c.args.report.now) (g.W.Output.contents c.play_on.new.report)) (sym c.into_device-in-Err-play_on.ensures.device)
    (record {
      count = acknowledged_of s;
      saved = acknowledged_of now;
      cause = subst (λ (n : ℕ). IsStop why n (g.D.SectorDevice.disk (device_of now))) none stop.cause;
      report = c.in-Err-play_on.ensures.stopped.told;
      images = λ honest.
          let begun : IsPlayed rom (g.D.SectorDevice.disk (device_of s)) (acknowledged_of s) (pending_of s) (machine_of s) from [] =
          begun_played rom (g.D.SectorDevice.disk (device_of s)) (acknowledged_of s) (pending_of s) (machine_of s) (c.in-Ok.ensures.answered.honest.1 honest) c.in-Ok.ensures.begun.2 c.in-Ok.ensures.begun.0 (c.in-Ok.ensures.rests honest) in
          let stopped = stop.stopped rom from [] begun in
          record { from = from; stood = c.in-Ok.ensures.stands honest; count_is = refl; least = stopped.least; saved_is = stopped.acknowledged_is; images = stopped.images };
    })))

pub returns-in-Err-play_on-clause-output : goal.returns-in-Err-play_on-clause-output
returns-in-Err-play_on-clause-output g c = λ output. c.in-Err-play_on.ensures.stopped.output output

pub returns-in-Err-play_on-clause-images : goal.returns-in-Err-play_on-clause-images
returns-in-Err-play_on-clause-images g c = λ honest.
    let rom = c.args.cartridge.now in
    let s = c.in-Ok.session in
    let from : Position = record { count = acknowledged_of s; machine = machine_of s } in
    let begun : IsPlayed rom (g.D.SectorDevice.disk (device_of s)) (acknowledged_of s) (pending_of s) (machine_of s) from [] =
    begun_played rom (g.D.SectorDevice.disk (device_of s)) (acknowledged_of s) (pending_of s) (machine_of s) (c.in-Ok.ensures.answered.honest.1 honest) c.in-Ok.ensures.begun.2 c.in-Ok.ensures.begun.0 (c.in-Ok.ensures.rests honest) in
    let stop = no_further_at_all g.met.D.SectorDevice.only_now (λ a b input one. one) (λ a b one. one) (λ a b input why one. one) (λ a b why one. one) refl s c.play_on.new.game (inputs_of_moves c.args.moves.now) c.in-Err-play_on.why c.in-Err-play_on.ensures.stopped.stops in
    subst (λ d. HoldsSince (g.D.SectorDevice.disk c.args.device) (g.D.SectorDevice.disk d) (PlayImage rom (g.D.SectorDevice.disk c.args.device) (inputs_of_moves c.args.moves.now))) (sym c.into_device-in-Err-play_on.ensures.device)
    (since_then (since_weaker (c.in-Ok.ensures.images honest) (λ image stands. inl stands))
    (since_weaker (stop.stopped rom from [] begun).moments (λ image reaches. inr (record { from = from; stood = c.in-Ok.ensures.stands honest; reaches = reaches }))))

pub returns-in-Err-play_on-clause-answered : goal.returns-in-Err-play_on-clause-answered
returns-in-Err-play_on-clause-answered g c =
    let stop = no_further_at_all g.met.D.SectorDevice.only_now (λ a b input one. one) (λ a b one. one) (λ a b input why one. one) (λ a b why one. one) refl c.in-Ok.session c.play_on.new.game (inputs_of_moves c.args.moves.now) c.in-Err-play_on.why c.in-Err-play_on.ensures.stopped.stops in
    subst (λ d. HasAnswered (λ refused. faults_after refused.why) (g.D.SectorDevice.disk c.args.device) (g.D.SectorDevice.disk d) (Err (record { why = c.in-Err-play_on.why; device = d }))) (sym c.into_device-in-Err-play_on.ensures.device)
    (answered_refused c.in-Ok.ensures.answered stop.calls (λ n. refl))

pub returns-in-Ok-false-clause-refused : goal.returns-in-Ok-false-clause-refused
returns-in-Ok-false-clause-refused g c =
    let rom = c.args.cartridge.now in
    let s = c.in-Ok.session in
    let now = c.play_on.new.game in
    let moves = c.args.moves.now in
    let stop = c.in-Ok-false.ensures.memory c.in-Ok-false.field-0-test in
    let inputs = inputs_of_moves stop.done in
    let from : Position = record { count = acknowledged_of s; machine = machine_of s } in
    let goes = goes_all g.met.D.SectorDevice.only_now (λ a b input one. one) (λ a b one. one) s now inputs stop.made.advances in
    let before = ap length c.in-Ok.ensures.begun.0 in
    inr (inr (subst (λ d. HasFoundNoMemory rom (g.D.SectorDevice.disk c.args.device) (g.D.SectorDevice.disk d) moves Memory (g.W.Output.contents c.args.report.now) (g.W.Output.contents c.play_on.new.report)) (sym c.into_device.ensures.device)
    (record {
      why_is = refl;
      count = acknowledged_of s;
      done = stop.done;
      left = stop.left;
      moves_are = stop.moves_are;
      room = λ full. stop.room (omega (arith, goes.all_is, before, full));
      report = stop.made.answered;
      images = λ honest.
          let begun : IsPlayed rom (g.D.SectorDevice.disk (device_of s)) (acknowledged_of s) (pending_of s) (machine_of s) from [] =
          begun_played rom (g.D.SectorDevice.disk (device_of s)) (acknowledged_of s) (pending_of s) (machine_of s) (c.in-Ok.ensures.answered.honest.1 honest) c.in-Ok.ensures.begun.2 c.in-Ok.ensures.begun.0 (c.in-Ok.ensures.rests honest) in
          let played = (goes.going rom from [] begun).played in
          record {
            from = from;
            stood = c.in-Ok.ensures.stands honest;
            count_is = refl;
            saved = played.saved;
            saved_is = omega (arith, played.unsaved_is, stop.made.unsaved_is);
            settled = played.settled;
            stands_is = played.stands_is ∙ ap (λ (n : ℕ). Some (record { count = n; machine = after from.machine (take played.saved inputs) })) played.acknowledged_is;
          };
    })))

pub returns-in-Ok-false-clause-images : goal.returns-in-Ok-false-clause-images
returns-in-Ok-false-clause-images g c = λ honest.
    let rom = c.args.cartridge.now in
    let s = c.in-Ok.session in
    let now = c.play_on.new.game in
    let moves = c.args.moves.now in
    let stop = c.in-Ok-false.ensures.memory c.in-Ok-false.field-0-test in
    let from : Position = record { count = acknowledged_of s; machine = machine_of s } in
    let begun : IsPlayed rom (g.D.SectorDevice.disk (device_of s)) (acknowledged_of s) (pending_of s) (machine_of s) from [] =
    begun_played rom (g.D.SectorDevice.disk (device_of s)) (acknowledged_of s) (pending_of s) (machine_of s) (c.in-Ok.ensures.answered.honest.1 honest) c.in-Ok.ensures.begun.2 c.in-Ok.ensures.begun.0 (c.in-Ok.ensures.rests honest) in
    let goes = goes_all g.met.D.SectorDevice.only_now (λ a b input one. one) (λ a b one. one) s now (inputs_of_moves stop.done) stop.made.advances in
    let all = front_of_moves moves stop.done stop.left stop.moves_are in
    subst (λ d. HoldsSince (g.D.SectorDevice.disk c.args.device) (g.D.SectorDevice.disk d) (PlayImage rom (g.D.SectorDevice.disk c.args.device) (inputs_of_moves moves))) (sym c.into_device.ensures.device)
    (since_then (since_weaker (c.in-Ok.ensures.images honest) (λ image stands. inl stands))
    (since_weaker (goes.going rom from [] begun).moments
    (λ image reaches.
    let more = reaches_more rom from 0 (inputs_of_moves stop.done) (inputs_of_moves (Power ∷ stop.left)) image reaches in
    inr (record { from = from; stood = c.in-Ok.ensures.stands honest; reaches = subst (λ (l : List Input). Reaches rom from 0 l image) all more }))))

pub returns-in-Ok-false-clause-answered : goal.returns-in-Ok-false-clause-answered
returns-in-Ok-false-clause-answered g c =
    let stop = c.in-Ok-false.ensures.memory c.in-Ok-false.field-0-test in
    let goes = goes_all g.met.D.SectorDevice.only_now (λ a b input one. one) (λ a b one. one) c.in-Ok.session c.play_on.new.game (inputs_of_moves stop.done) stop.made.advances in
    subst (λ d. HasAnswered (λ refused. faults_after refused.why) (g.D.SectorDevice.disk c.args.device) (g.D.SectorDevice.disk d) (Err (record { why = Memory; device = d }))) (sym c.into_device.ensures.device)
    (answered_refused c.in-Ok.ensures.answered (answered_otherwise {U = Unit {0}} {faults_after = faults_after} {why = Memory} goes.calls (λ n. refl)) (λ n. refl))

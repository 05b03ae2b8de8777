use Rattle.std.proofs.Common.{◌≡◌, ◌⊎◌, ◌∙◌, ap, refl, sym, Ok}
use Rattle.std.specs.Prelude.{is_ok}
use Rattle.script.specs.Inputs.{inputs_of_moves}
use Rattle.script.specs.Script.{moves_of}
use Rattle.sector_device.specs.Runs.{HoldsSince}
use Rattle.session.specs.Accessors.{acknowledged_of, device_of, machine_of}
use Rattle.session.proofs.Answering.{answered_error, answered_refusal, answered_value}
use Rattle.playing.specs.Played.{HasFoundNoMemory, HasPlayed, HasStopped, IsNotTakenUp, PlayImage}
use Rattle.playing.proofs.Telling.{keeps_same}
use Rattle.commands.specs.Play.{IsPlayable, inputs_of_script}
use Rattle.commands.proofs.Plays.{as_read, last_machine, nothing_played, reported}
use Rattle.commands.proofs.play.play_script.Goals as goal

pub returns-in-Err-clause-plays : goal.returns-in-Err-clause-plays
returns-in-Err-clause-plays g c = record {
  played = tt;
  images = λ honest. nothing_played c.args.rom.items (g.D.SectorDevice.disk c.args.device) (inputs_of_script c.args.script.now) (g.met.D.SectorDevice.only_now c.args.device);
  cause = (sym c.in-Err.ensures.refused, keeps_same (g.W.Output.contents c.args.report.now));
  untouched = λ unplayable. refl;
  output = λ is. absurd (cc);
  answered = answered_refusal (λ n. refl);
}

pub returns-in-Err-read_script-clause-plays : goal.returns-in-Err-read_script-clause-plays
returns-in-Err-read_script-clause-plays g c = record {
  played = tt;
  images = λ honest. nothing_played c.args.rom.items (g.D.SectorDevice.disk c.args.device) (inputs_of_script c.args.script.now) (g.met.D.SectorDevice.only_now c.args.device);
  cause = (c.in-Ok.ensures.accepted.0 refl, c.in-Err-read_script.ensures.refused, keeps_same (g.W.Output.contents c.args.report.now));
  untouched = λ unplayable. refl;
  output = λ is. absurd (cc);
  answered = answered_refusal (λ n. refl);
}

pub returns-in-Ok-play-clause-plays : goal.returns-in-Ok-play-clause-plays
returns-in-Ok-play-clause-plays g c =
    let old = g.D.SectorDevice.disk c.args.device in
    let now = g.D.SectorDevice.disk (device_of c.in-Ok-play.session) in
    let read : moves_of c.args.script.now ≡ Ok c.deref.result.now = c.in-Ok-read_script.ensures.moves ∙ ap Ok (sym c.deref.ensures.value) in
    let playable : IsPlayable c.args.rom.items c.args.script.now = record { cartridge = c.in-Ok.ensures.accepted.0 refl; moves = ap is_ok read } in
    record {
      played = (
        playable,
        reported _ _ _ c.deref.result.now _ (acknowledged_of c.in-Ok-play.session) (machine_of c.in-Ok-play.session) _ _ c.in-Ok.ensures.image read c.in-Ok-play.ensures.report c.in-Ok-play.ensures.reached,
        as_read c.args.script.now (λ rom moves. old.honest → HasPlayed rom old now (inputs_of_moves moves)) c.in-Ok.ensures.image read c.in-Ok-play.ensures.played,
      );
      images = as_read c.args.script.now (λ rom moves. old.honest → HoldsSince old now (PlayImage rom old (inputs_of_moves moves))) c.in-Ok.ensures.image read c.in-Ok-play.ensures.images;
      cause = tt;
      untouched = tt;
      output = tt;
      answered = answered_value c.in-Ok-play.ensures.answered;
    }

pub returns-in-Ok-play-clause-last : goal.returns-in-Ok-play-clause-last
returns-in-Ok-play-clause-last g c =
    last_machine _ _ _ c.deref.result.now _ (acknowledged_of c.in-Ok-play.session) (machine_of c.in-Ok-play.session) c.in-Ok.ensures.image
    (c.in-Ok-read_script.ensures.moves ∙ ap Ok (sym c.deref.ensures.value)) c.in-Ok-play.ensures.reached

pub returns-clause-plays : goal.returns-clause-plays
returns-clause-plays g c =
    let old = g.D.SectorDevice.disk c.args.device in
    let now = g.D.SectorDevice.disk c.in-Err-play.refused.device in
    let why = c.in-Err-play.refused.why in
    let before = g.W.Output.contents c.args.report.now in
    let since = g.W.Output.contents c.play.new.report in
    let read : moves_of c.args.script.now ≡ Ok c.deref.result.now = c.in-Ok-read_script.ensures.moves ∙ ap Ok (sym c.deref.ensures.value) in
    let playable : IsPlayable c.args.rom.items c.args.script.now = record { cartridge = c.in-Ok.ensures.accepted.0 refl; moves = ap is_ok read } in
    record {
      played = tt;
      images = as_read c.args.script.now (λ rom moves. old.honest → HoldsSince old now (PlayImage rom old (inputs_of_moves moves))) c.in-Ok.ensures.image read c.in-Err-play.ensures.images;
      cause = (
        playable,
        as_read c.args.script.now (λ rom moves. IsNotTakenUp rom old now why before since ⊎ HasStopped rom old now moves why before since ⊎ HasFoundNoMemory rom old now moves why before since)
            c.in-Ok.ensures.image read c.in-Err-play.ensures.refused,
      );
      untouched = λ unplayable. absurd unplayable;
      output = λ is. c.in-Err-play.ensures.output (cc);
      answered = answered_error c.in-Err-play.ensures.answered (λ n. refl);
    }

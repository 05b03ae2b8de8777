use Rattle.std.proofs.Common.{inl, []}
use Rattle.std.proofs.KnownBytes.{Consumes-nil}
use Rattle.std.proofs.lemmas.List.Elements.{All-nil}
use Rattle.playing.proofs.Stops.{handed_on}
use Rattle.playing.proofs.Wholes.{resumed_made, resumed_failed}
use Rattle.streaming.specs.Answers.{ended, last_deeds, unsaved_behind_deeds}
use Rattle.streaming.specs.Obeying.{answers_from}
use Rattle.input_lines.specs.Given.{IsWhole}
use Rattle.streaming.specs.Orders.{asked}
use Rattle.streaming.specs.Reading.Asks.{no_line}
use Rattle.streaming.specs.Reading.AsksUpTo.{all_asked}
use Rattle.streaming.proofs.Compositions.{stops_before}
use Rattle.streaming.proofs.Wholes.{ended_obeyed, ended_stopped, reads_some, streams_behind, stops_behind}
use Rattle.streaming.proofs.obeying.stream_on.Goals as goal

pub returns-in-Err-clause-stopped : goal.returns-in-Err-clause-stopped
returns-in-Err-clause-stopped g c =
    let game = g.G.Playable in
    let a = c.args.game.now in
    rw c.unwritten.ensures.is
    (record {
      lines = [];
      deeds = [];
      asks = all_asked no_line;
      more = [];
      read = inl (All-nil (IsWhole (asked game.takes_states)), Consumes-nil (g.R.LineInput.remaining c.args.input.now));
      stops =
          resumed_failed game a (g.W.Output.contents c.args.out.now) (g.W.Output.contents c.write_resumed.new.out) c.counts.result.all c.counts.ensures.all c.requires.none
          [] (answers_from game a (ended (game.unsaved a) [])) c.unwritten.ensures.told c.in-Err.ensures.failed c.in-Err.ensures.err;
    })

pub returns-in_err-end-clause-stopped : goal.returns-in_err-end-clause-stopped
returns-in_err-end-clause-stopped g c =
    let a = c.args.game.now in
    let stop = c.in_err-end.ensures.stopped in
    rw (handed_on c.from_residual.result c.from_residual.ensures.1)
    (record {
      lines = stop.lines;
      deeds = stop.deeds;
      asks = stop.asks;
      more = stop.more;
      read = stop.read;
      stops =
          stops_behind stop.deeds (resumed_made g.G.Playable a (g.W.Output.contents c.args.out.now) (g.W.Output.contents c.write_resumed.new.out) c.counts.result.all c.counts.ensures.all c.requires.none c.in_default.ensures.ok)
          (stops_before stop.deeds (last_deeds (unsaved_behind_deeds (g.G.Playable.unsaved a) stop.deeds)) stop.stops);
    })

pub returns-clause-streamed : goal.returns-clause-streamed
returns-clause-streamed g c =
    let made = c.in_ok-end.ensures.obeyed in
    record {
      lines = made.lines;
      deeds = made.deeds;
      kept = made.kept;
      asks = made.asks;
      read = made.read;
      makes =
          streams_behind made.deeds (resumed_made g.G.Playable c.args.game.now (g.W.Output.contents c.args.out.now) (g.W.Output.contents c.write_resumed.new.out) c.counts.result.all c.counts.ensures.all c.requires.none c.in_default.ensures.ok)
          c.in_ok-save_rest.ensures.saved.1 (ended_obeyed made.deeds made.obeys c.in_ok-save_rest.ensures.obeyed);
    }

pub returns-in_err-save_rest-clause-stopped : goal.returns-in_err-save_rest-clause-stopped
returns-in_err-save_rest-clause-stopped g c =
    let game = g.G.Playable in
    let a = c.args.game.now in
    let made = c.in_ok-end.ensures.obeyed in
    let read = reads_some game.takes_states (game.rom a) made.kept c.in_ok-end.end made.lines (g.R.LineInput.remaining c.args.input.now) (g.R.LineInput.remaining c.obey_lines.new.input) made.read in
    rw (handed_on c.from_residual-in_err-save_rest.result c.from_residual-in_err-save_rest.ensures.1)
    (record {
      lines = made.lines;
      deeds = made.deeds;
      asks = all_asked made.asks;
      more = read.0;
      read = read.1;
      stops =
          stops_behind made.deeds (resumed_made game a (g.W.Output.contents c.args.out.now) (g.W.Output.contents c.write_resumed.new.out) c.counts.result.all c.counts.ensures.all c.requires.none c.in_default.ensures.ok)
          (ended_stopped made.deeds made.obeys c.in_err-save_rest.ensures.stopped);
    })

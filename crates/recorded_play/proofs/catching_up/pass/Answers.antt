use Rattle.std.proofs.Common.{[], ◌∷◌, refl, arith}
use Rattle.machine.specs.Machine.{as_input}
use Rattle.session.specs.Accessors.{device_of}
use Rattle.playing.proofs.Going.{goes_all, no_further_at_all}
use Rattle.recorded_play.proofs.Passing.{goes_by, fails_by, first_given, passes_skipped}
use Rattle.recorded_play.proofs.catching_up.pass.Goals as goal

pub returns-then-skip-gt0-clause-passes : goal.returns-then-skip-gt0-clause-passes
returns-then-skip-gt0-clause-passes g c = passes_skipped (as_input c.args.input) (omega (arith, c.if-skip-gt0.true)) refl (g.met.D.SectorDevice.only_now (device_of c.args.session.now))

pub returns-in-Ok-clause-passes : goal.returns-in-Ok-clause-passes
returns-in-Ok-clause-passes g c = record {
  goes = goes_by (first_given c.args.skip (as_input c.args.input) (λ some. omega (arith, some, c.if-skip-gt0.false)))
      (goes_all g.met.D.SectorDevice.only_now (λ a b input one. one) (λ a b one. one) c.args.session.now c.give.new.game (as_input c.args.input ∷ []) c.in-Ok.ensures.made.advances);
  left_is = omega (arith, c.if-skip-gt0.false);
}

pub returns-in-Err-clause-fails : goal.returns-in-Err-clause-fails
returns-in-Err-clause-fails g c =
    fails_by (first_given c.args.skip (as_input c.args.input) (λ some. omega (arith, some, c.if-skip-gt0.false)))
    (record {
      no_further = no_further_at_all g.met.D.SectorDevice.only_now (λ a b input one. one) (λ a b one. one) (λ a b input why one. one) (λ a b why one. one) refl c.args.session.now c.give.new.game (as_input c.args.input ∷ []) c.in-Err.why c.in-Err.ensures.stopped.stops;
      silent = c.in-Err.ensures.stopped.output;
    })

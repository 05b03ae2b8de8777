use Rattle.std.proofs.Common.{◌≡◌, ◌∙◌, [], ℕ, refl, sym, ap, arith}
use Rattle.sector_device.proofs.Looking.{looked_self}
use Rattle.recording.specs.Accessors.{device_of as device_of_recording}
use Rattle.session.specs.Accessors.{device_of}
use Rattle.session.proofs.Answering.{answered_nothing}
use Rattle.replaying.proofs.Sectors.{inputs_up_to, all_up_to}
use Rattle.recorded_play.proofs.Passing.{passes_nothing, passes_sector, fails_sector}
use Rattle.recorded_play.proofs.catching_up.pass_all.Goals as goal

pub loop-number-init : goal.loop-number-init
loop-number-init g c = record {
  whole = c.requires.whole;
  opened = c.requires.open;
  few = c.requires.few;
  same = refl;
  passes = record {
    passed = [];
    passes = passes_nothing (g.met.D.SectorDevice.only_now (device_of c.args.session.now));
    passed_is = λ honest. refl;
    looks = looked_self (g.E.SectorDevice.disk (device_of_recording c.args.recording.now));
    calls = answered_nothing;
  };
}

pub pass_sector-requires-clause-used : goal.pass_sector-requires-clause-used
pass_sector-requires-clause-used g c = omega (arith, c.loop-number-test.true, c.loop-number.invariant.same, c.sectors_used-used.ensures.used)

pub loop-number-preserved : goal.loop-number-preserved
loop-number-preserved g c = record {
  whole = c.in-Ok.ensures.whole.0;
  opened = c.in-Ok.ensures.whole.1;
  few = c.in-Ok.ensures.whole.2;
  same = c.pass_sector.ensures.same ∙ c.loop-number.invariant.same;
  passes = passes_sector c.loop-number.number c.loop-number.invariant.passes c.in-Ok.ensures.passes;
}

pub returns-clause-passes : goal.returns-clause-passes
returns-clause-passes g c =
    let old = g.E.SectorDevice.disk (device_of_recording c.args.recording.now) in
    let passes = c.loop-number.invariant.passes in
    let all : c.loop-number.number ≡ c.sectors_used-used.result = omega (arith, c.loop-number-test.false, c.loop-number.auto.number-end) in (
      c.loop-number.left,
      record {
        passed = passes.passed;
        passes = passes.passes;
        passed_is = λ honest. passes.passed_is honest ∙ ap (λ (n : ℕ). inputs_up_to n old.sectors) all ∙ sym (all_up_to c.sectors_used-used.result old.sectors (c.sectors_used-used.ensures.whole honest));
        looks = passes.looks;
        calls = passes.calls;
      },
    )

pub returns-in-Err-clause-fails : goal.returns-in-Err-clause-fails
returns-in-Err-clause-fails g c = fails_sector c.loop-number.number c.loop-number.invariant.passes c.sectors_used-used.result c.loop-number-test.true c.sectors_used-used.ensures.whole c.in-Err.ensures.fails

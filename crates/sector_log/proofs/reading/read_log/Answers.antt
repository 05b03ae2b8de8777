use Rattle.std.proofs.Common.{◌≡◌, ◌+◌, take, drop, sym, ap, ◌∙◌, arith}
use Rattle.sector_device.proofs.Runs.{one_more, all_called, failed_then}
use Rattle.sector_device.specs.DiskState.{sector_at}
use Rattle.log_format.specs.Log.{log_from}
use Rattle.sector_device.proofs.Looking.{looked_read, looks_then}
use Rattle.sector_log.proofs.Looking.{log_stops, log_goes, log_ends}
use Rattle.sector_log.proofs.reading.read_log.Goals as goal

pub returns-then-not-read_entries-clause-log : goal.returns-then-not-read_entries-clause-log
returns-then-not-read_entries-clause-log g c = λ honest.
    let old = g.D.SectorDevice.disk c.args.device.now in
    let looked = c.loop-index.invariant.looked honest in
    let is : c.read.new.buffer ≡ sector_at old.sectors (c.args.start + c.loop-index.index) =
    (c.in_ok-read.ensures.read looked.honest).bytes_are ∙ ap (λ l. sector_at l (c.args.start + c.loop-index.index)) looked.sectors in
    log_stops c.args.version old.sectors c.args.start c.loop-index.index c.read.new.buffer c.loop-index-test.true c.requires.room is
    (log_from c.args.version 0 (take 32 (drop c.args.start old.sectors))) c.loop-index.log.items c.read_entries.new.log.items (c.loop-index.invariant.log honest) c.read_entries.ensures.items
    (sym c.read_entries.ensures.full ∙ c.if-not-read_entries.true)

pub loop-index-preserved : goal.loop-index-preserved
loop-index-preserved g c =
    let old = g.D.SectorDevice.disk c.args.device.now in
    record {
      called = one_more c.loop-index.invariant.called c.in_ok-read.ensures.called;
      capacity = omega (arith, c.loop-index.invariant.capacity, c.read_entries.ensures.capacity);
      few = omega (arith, c.loop-index.invariant.few, c.read_entries.ensures.few);
      looked = looks_then c.loop-index.invariant.looked (λ h. looked_read (c.read.ensures.read h));
      log = λ honest.
          let looked = c.loop-index.invariant.looked honest in
          let is : c.read.new.buffer ≡ sector_at old.sectors (c.args.start + c.loop-index.index) =
          (c.in_ok-read.ensures.read looked.honest).bytes_are ∙ ap (λ l. sector_at l (c.args.start + c.loop-index.index)) looked.sectors in
          log_goes c.args.version old.sectors c.args.start c.loop-index.index c.read.new.buffer c.loop-index-test.true c.requires.room is
          (log_from c.args.version 0 (take 32 (drop c.args.start old.sectors))) c.loop-index.log.items c.read_entries.new.log.items (c.loop-index.invariant.log honest) c.read_entries.ensures.items
          (sym c.read_entries.ensures.full ∙ c.if-not-read_entries.false);
    }

pub returns-clause-log : goal.returns-clause-log
returns-clause-log g c = λ honest.
    let old = g.D.SectorDevice.disk c.args.device.now in
    log_ends c.args.version old.sectors c.args.start c.loop-index.index (log_from c.args.version 0 (take 32 (drop c.args.start old.sectors))) c.loop-index.log.items c.loop-index-test.false (c.loop-index.invariant.log honest)

pub returns-in_err-read-clause-looked : goal.returns-in_err-read-clause-looked
returns-in_err-read-clause-looked g c = looks_then c.loop-index.invariant.looked (λ h. looked_read (c.read.ensures.read h))

pub returns-then-not-read_entries-clause-looked : goal.returns-then-not-read_entries-clause-looked
returns-then-not-read_entries-clause-looked g c = looks_then c.loop-index.invariant.looked (λ h. looked_read (c.read.ensures.read h))

pub returns-in_err-read-clause-called : goal.returns-in_err-read-clause-called
returns-in_err-read-clause-called g c = failed_then c.loop-index.invariant.called c.in_err-read.ensures.called c.from_residual.ensures.0

pub returns-then-not-read_entries-clause-called : goal.returns-then-not-read_entries-clause-called
returns-then-not-read_entries-clause-called g c = all_called (one_more c.loop-index.invariant.called c.in_ok-read.ensures.called)

pub returns-clause-called : goal.returns-clause-called
returns-clause-called g c = all_called c.loop-index.invariant.called

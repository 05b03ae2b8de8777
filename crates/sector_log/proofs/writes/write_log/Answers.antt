use Rattle.std.proofs.Common.{◌≡◌, ◌<◌, ◌+◌, ◌*◌, length, drop, sym, ap, ◌∙◌, arith, length-take}
use Rattle.sector_device.proofs.Runs.{one_more}
use Rattle.sector_device.specs.DiskState.{sector_at}
use Rattle.sector_device.proofs.Runs.{has_written, mixed_set, written_more}
use Rattle.log_format.specs.Log.{log_area, log_sector}
use Rattle.sector_log.specs.Layout.{replaced}
use Rattle.sector_log.proofs.Places.{new_log_at}
use Rattle.sector_log.proofs.writes.write_log.Goals as goal

pub log_sector-requires : goal.log_sector-requires
log_sector-requires g c = omega (arith, ap length c.chunk-entries.ensures, length-take 84 (drop (84 * c.loop-index.index) c.args.log.now))

pub returns-in_err-write-clause-moments : goal.returns-in_err-write-clause-moments
returns-in_err-write-clause-moments g c = λ honest settled.
    let old = (g.D.SectorDevice.disk c.args.device.now).sectors in
    let new = replaced c.args.start (log_area c.args.log.now) old in
    let at = c.args.start + c.loop-index.index in
    let below : c.loop-index.index < 32 = omega (arith, c.requires.end, c.loop-index-test.true) in
    let within : at < length old = omega (arith, c.requires.room) in
    let held = c.loop-index.invariant.moments honest settled in
    let is : c.log_sector.result ≡ sector_at new at = c.log_sector.ensures ∙ ap (log_sector c.loop-index.index) c.chunk-entries.ensures ∙ sym (new_log_at c.args.start c.loop-index.index c.args.log.now old c.requires.room below) in
    has_written held (c.write.ensures.written held.honest) (λ d mixed. mixed_set old new d at c.log_sector.result within is mixed)

pub loop-index-preserved : goal.loop-index-preserved
loop-index-preserved g c =
    let old = (g.D.SectorDevice.disk c.args.device.now).sectors in
    let new = replaced c.args.start (log_area c.args.log.now) old in
    let at = c.args.start + c.loop-index.index in
    let below : c.loop-index.index < 32 = omega (arith, c.requires.end, c.loop-index-test.true) in
    let within : at < length old = omega (arith, c.requires.room) in
    let is : c.log_sector.result ≡ sector_at new at = c.log_sector.ensures ∙ ap (log_sector c.loop-index.index) c.chunk-entries.ensures ∙ sym (new_log_at c.args.start c.loop-index.index c.args.log.now old c.requires.room below) in
    record {
      called = one_more c.loop-index.invariant.called c.in_ok-write.ensures.called;
      below = omega (arith, c.loop-index-test.true);
      moments = λ honest settled. let held = c.loop-index.invariant.moments honest settled in
          has_written held (c.write.ensures.written held.honest) (λ d mixed. mixed_set old new d at c.log_sector.result within is mixed);
      written = λ honest settled first.
          let held = c.loop-index.invariant.moments honest settled in
          written_more old new (g.D.SectorDevice.disk c.loop-index.device).sectors (g.D.SectorDevice.disk c.write.new.self).sectors at (c.args.start + (c.loop-index.index + 1)) c.log_sector.result within is
          ((c.in_ok-write.ensures).written held.honest).written (omega arith) (c.loop-index.invariant.written honest settled first);
    }

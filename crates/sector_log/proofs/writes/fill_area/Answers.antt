use Rattle.std.proofs.Common.{◌≡◌, ◌≤◌, ◌<◌, ◌+◌, length, sym, ◌∙◌, arith}
use Rattle.sector_device.proofs.Runs.{one_more}
use Rattle.sector_device.specs.DiskState.{sector_at}
use Rattle.sector_device.proofs.Runs.{has_written, mixed_set, written_more, written_all}
use Rattle.log_format.specs.Log.{fresh_area}
use Rattle.sector_log.specs.Layout.{replaced}
use Rattle.sector_log.proofs.Places.{replaced_at, replaced_after, length-replaced}
use Rattle.log_format.proofs.Areas.{length-fresh_area}
use Rattle.sector_log.proofs.writes.fill_area.Goals as goal

pub returns-in_err-write-clause-moments : goal.returns-in_err-write-clause-moments
returns-in_err-write-clause-moments g c = λ honest settled.
    let old = (g.D.SectorDevice.disk c.args.device.now).sectors in
    let blob = c.args.blob.now in
    let new = replaced c.args.start (fresh_area blob) old in
    let at = c.args.start + c.loop-index.index in
    let fit : c.args.start + length (fresh_area blob) ≤ length old = omega (arith, c.requires.room, length-fresh_area blob) in
    let within : at < length old = omega (arith, c.requires.room, c.loop-index-test.true) in
    let held = c.loop-index.invariant.moments honest settled in
    let is : c.area_sector.result ≡ sector_at new at = c.area_sector.ensures ∙ sym (replaced_at c.args.start (fresh_area blob) old fit c.loop-index.index (omega (arith, length-fresh_area blob, c.loop-index-test.true))) in
    has_written held (c.write.ensures.written held.honest) (λ d mixed. mixed_set old new d at c.area_sector.result within is mixed)

pub loop-index-preserved : goal.loop-index-preserved
loop-index-preserved g c =
    let old = (g.D.SectorDevice.disk c.args.device.now).sectors in
    let blob = c.args.blob.now in
    let new = replaced c.args.start (fresh_area blob) old in
    let at = c.args.start + c.loop-index.index in
    let fit : c.args.start + length (fresh_area blob) ≤ length old = omega (arith, c.requires.room, length-fresh_area blob) in
    let within : at < length old = omega (arith, c.requires.room, c.loop-index-test.true) in
    let is : c.area_sector.result ≡ sector_at new at = c.area_sector.ensures ∙ sym (replaced_at c.args.start (fresh_area blob) old fit c.loop-index.index (omega (arith, length-fresh_area blob, c.loop-index-test.true))) in
    record {
      called = one_more c.loop-index.invariant.called c.in_ok-write.ensures.called;
      moments = λ honest settled. let held = c.loop-index.invariant.moments honest settled in
          has_written held (c.write.ensures.written held.honest) (λ d mixed. mixed_set old new d at c.area_sector.result within is mixed);
      written = λ honest settled.
          let held = c.loop-index.invariant.moments honest settled in
          written_more old new (g.D.SectorDevice.disk c.loop-index.device).sectors (g.D.SectorDevice.disk c.write.new.self).sectors at (c.args.start + (c.loop-index.index + 1)) c.area_sector.result within is
          ((c.in_ok-write.ensures).written held.honest).written (omega arith) (c.loop-index.invariant.written honest settled);
    }

pub returns-clause-written : goal.returns-clause-written
returns-clause-written g c = λ honest settled.
    let old = (g.D.SectorDevice.disk c.args.device.now).sectors in
    let blob = c.args.blob.now in
    let fit : c.args.start + length (fresh_area blob) ≤ length old = omega (arith, c.requires.room, length-fresh_area blob) in
    written_all old (replaced c.args.start (fresh_area blob) old) (g.D.SectorDevice.disk c.loop-index.device).sectors (c.args.start + c.loop-index.index)
    (length-replaced c.args.start (fresh_area blob) old fit) (λ k le. replaced_after c.args.start (fresh_area blob) old fit k (omega (arith, length-fresh_area blob, c.loop-index-test.false))) (c.loop-index.invariant.written honest settled)

use Rattle.std.proofs.Common.{rules, ◌≡◌, ◌≤◌, ◌<◌, ◌+◌, [], length, refl, sym, ◌∙◌, subst, arith}
use Rattle.std.proofs.lemmas.List.{get_or_past, set-get_or}
use Rattle.sector_device.specs.DiskState.{sector_at}
use Rattle.sector_device.specs.Runs.{WrittenUpTo}
use Rattle.sector_device.proofs.Runs.{on_ok, ok_of, one_more, has_read, has_written, mixed_set, written_more, written_all}
use Rattle.recording.specs.Format.{blank}
use Rattle.recording.specs.Keeping.{blanked}
use Rattle.recording.proofs.Beginning.{blank_of_zeros}
use Rattle.recording.proofs.Images.{blanked_same, blanked_after, length-blanked}
use Rattle.recording.proofs.writes.clear_rest.Goals as goal

pub returns-then-is_blank-clause-cleared : goal.returns-then-is_blank-clause-cleared
returns-then-is_blank-clause-cleared g c = λ honest settled blank.
    let old = (g.D.SectorDevice.disk c.args.device.now).sectors in
    (settled, blanked_same c.args.from old c.requires (blank c.if-is_blank.true))

pub loop-at-preserved-then-is_zeros : goal.loop-at-preserved-then-is_zeros
loop-at-preserved-then-is_zeros g c =
    let old = (g.D.SectorDevice.disk c.args.device.now).sectors in
    let new = blanked c.args.from old in
    let at = c.loop-at.at in
    let within : at < length old = omega (arith, c.loop-at-test.true, c.count-count.ensures) in
    let after : sector_at new at ≡ blank = blanked_after c.args.from old at (omega (arith, c.loop-at.auto.at)) within in
    let size : length c.read.new.buffer ≡ 512 = search rules in
    let is : c.read.new.buffer ≡ blank = blank_of_zeros c.read.new.buffer size (sym c.is_zeros.ensures ∙ c.if-is_zeros.true) in
    record {
      called = one_more c.loop-at.invariant.called c.in_ok-read.ensures.called;
      moments = λ honest settled. let held = c.loop-at.invariant.moments honest settled in has_read held (c.read.ensures.read held.honest);
      written = λ honest settled.
          let held = c.loop-at.invariant.moments honest settled in
          let read = c.in_ok-read.ensures.read held.honest in
          let now = (g.D.SectorDevice.disk c.loop-at.device).sectors in
          written_more old new now (g.D.SectorDevice.disk c.read.new.self).sectors at (at + 1) (sector_at now at) within (sym read.bytes_are ∙ is ∙ sym after) (read.sectors ∙ sym (set-get_or now at [])) refl (c.loop-at.invariant.written honest settled);
    }

pub returns-in_err-write-clause-moments : goal.returns-in_err-write-clause-moments
returns-in_err-write-clause-moments g c = λ honest settled.
    let old = (g.D.SectorDevice.disk c.args.device.now).sectors in
    let new = blanked c.args.from old in
    let at = c.loop-at.at in
    let within : at < length old = omega (arith, c.loop-at-test.true, c.count-count.ensures) in
    let after : sector_at new at ≡ blank = blanked_after c.args.from old at (omega (arith, c.loop-at.auto.at)) within in
    let held = c.loop-at.invariant.moments honest settled in
    let read = has_read held (c.read.ensures.read held.honest) in
    has_written read (c.write.ensures.written read.honest) (λ d mixed. mixed_set old new d at blank within (sym after) mixed)

pub loop-at-preserved : goal.loop-at-preserved
loop-at-preserved g c =
    let old = (g.D.SectorDevice.disk c.args.device.now).sectors in
    let new = blanked c.args.from old in
    let at = c.loop-at.at in
    let within : at < length old = omega (arith, c.loop-at-test.true, c.count-count.ensures) in
    let after : sector_at new at ≡ blank = blanked_after c.args.from old at (omega (arith, c.loop-at.auto.at)) within in
    record {
      called = one_more (one_more c.loop-at.invariant.called c.in_ok-read.ensures.called) c.in_ok-write.ensures.called;
      moments = λ honest settled.
          let held = c.loop-at.invariant.moments honest settled in
          let read = has_read held (c.read.ensures.read held.honest) in
          has_written read (c.write.ensures.written read.honest) (λ d mixed. mixed_set old new d at blank within (sym after) mixed);
      written = λ honest settled.
          let held = c.loop-at.invariant.moments honest settled in
          let read = c.read.ensures.read held.honest in
          written_more old new (g.D.SectorDevice.disk c.read.new.self).sectors (g.D.SectorDevice.disk c.write.new.self).sectors at (at + 1) blank within (sym after)
          (c.in_ok-write.ensures.written read.goes.honest).written refl (subst (WrittenUpTo old new at) (sym read.sectors) (c.loop-at.invariant.written honest settled));
    }

pub returns-clause-cleared : goal.returns-clause-cleared
returns-clause-cleared g c = on_ok c.sync_once.result (λ ok honest settled blank.
    let old = (g.D.SectorDevice.disk c.args.device.now).sectors in
    let new = blanked c.args.from old in
    let held = c.loop-at.invariant.moments honest settled in
    let sync = c.sync_once.ensures.synced held.honest in
    let end : length old ≤ c.loop-at.at = omega (arith, c.loop-at-test.false, c.count-count.ensures) in
    let size = length-blanked c.args.from old c.requires in
    let whole = written_all old new (g.D.SectorDevice.disk c.loop-at.device).sectors c.loop-at.at size
    (λ k le. get_or_past new k [] (omega (arith, size, end, le)) ∙ sym (get_or_past old k [] (omega (arith, end, le)))) (c.loop-at.invariant.written honest settled) in
    (ok_of c.sync_once.result ok sync.settled, sync.sectors ∙ whole))

use Rattle.std.proofs.Common.{rules, ◌≡◌, inl, inr, length, sym, ap, ◌∙◌, arith}
use Rattle.std.proofs.lemmas.Bool.{cases_eq}
use Rattle.sector_device.specs.DiskState.{sector_at}
use Rattle.sector_device.proofs.Looking.{looked_read, looks_then}
use Rattle.sector_device.proofs.Runs.{one_more, all_called, failed_then}
use Rattle.recording.proofs.Beginning.{blank_of_zeros}
use Rattle.recording.proofs.reading.is_blank.Goals as goal

pub loop-at-preserved : goal.loop-at-preserved
loop-at-preserved g c =
    let old = g.D.SectorDevice.disk c.args.device.now in
    record {
      called = one_more c.loop-at.invariant.called c.in_ok-read.ensures.called;
      looked = looks_then c.loop-at.invariant.looked (λ honest. looked_read (c.read.ensures.read honest));
      blank = λ honest k le. elim (cases_eq k c.loop-at.at) [
        | inl here ↦
            let looked = c.loop-at.invariant.looked honest in
            let size : length c.read.new.buffer ≡ 512 = search rules in
            ap (sector_at old.sectors) here ∙ sym ((c.in_ok-read.ensures.read looked.honest).bytes_are ∙ ap (λ l. sector_at l c.loop-at.at) looked.sectors)
            ∙ blank_of_zeros c.read.new.buffer size (sym c.is_zeros.ensures ∙ c.if-not-is_zeros.false)
        | inr other ↦ c.loop-at.invariant.blank honest k (omega arith)
      ];
    }

pub returns-in_err-read-clause-called : goal.returns-in_err-read-clause-called
returns-in_err-read-clause-called g c = failed_then c.loop-at.invariant.called c.in_err-read.ensures.called c.from_residual.ensures.0

pub returns-in_err-read-clause-looked : goal.returns-in_err-read-clause-looked
returns-in_err-read-clause-looked g c = looks_then c.loop-at.invariant.looked (λ honest. looked_read (c.read.ensures.read honest))

pub returns-then-not-is_zeros-clause-called : goal.returns-then-not-is_zeros-clause-called
returns-then-not-is_zeros-clause-called g c = all_called (one_more c.loop-at.invariant.called c.in_ok-read.ensures.called)

pub returns-then-not-is_zeros-clause-looked : goal.returns-then-not-is_zeros-clause-looked
returns-then-not-is_zeros-clause-looked g c = looks_then c.loop-at.invariant.looked (λ honest. looked_read (c.read.ensures.read honest))

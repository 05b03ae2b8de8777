use Rattle.std.proofs.Common.{rules, ◌≡◌, ◌<◌, ◌+◌, ◌-◌, ◌*◌, ◌++◌, ℕ, List, length, take, drop, sym, ap, ◌∙◌, arith, append_assoc, length-append, length-take}
use Rattle.sector_device.proofs.Runs.{one_more, all_called, failed_then}
use Rattle.std.specs.List.{flat_map}
use Rattle.sector_device.specs.DiskState.{sector_at}
use Rattle.sector_device.proofs.Looking.{looked_read, looks_then}
use Rattle.sector_log.proofs.Looking.{blob_next}
use Rattle.sector_log.proofs.reading.read_blob.Goals as goal

pub loop-index-preserved : goal.loop-index-preserved
loop-index-preserved g c =
    let old = g.D.SectorDevice.disk c.args.device.now in
    let index = c.loop-index.index in
    let all = take c.args.room (drop c.args.start old.sectors) in
    let bytes = c.read.new.buffer in
    let long : length bytes ≡ 512 = search rules in
    let less : index < c.args.room = omega (arith, c.loop-index-test.true, c.requires.size) in
    let pushed : c.push_bytes.new.blob.items ≡ c.loop-index.blob.items ++ take c.min-part.result bytes = c.push_bytes.ensures.items in
    record {
      called = one_more c.loop-index.invariant.called c.in_ok-read.ensures.called;
      capacity = omega (arith, c.loop-index.invariant.capacity, c.push_bytes.ensures.capacity);
      done = omega (arith, ap length pushed, length-append c.loop-index.blob.items (take c.min-part.result bytes), length-take c.min-part.result bytes, long, c.loop-index.invariant.done, c.min-part.ensures, c.loop-index-test.true);
      looked = looks_then c.loop-index.invariant.looked (λ honest. looked_read (c.read.ensures.read honest));
      blob = λ honest.
          let looked = c.loop-index.invariant.looked honest in
          let is : bytes ≡ sector_at old.sectors (c.args.start + index) =
          (c.in_ok-read.ensures.read looked.honest).bytes_are ∙ ap (λ l. sector_at l (c.args.start + index)) looked.sectors in
          let rest : List ℕ = take (c.args.size - 512 * (index + 1)) (flat_map (λ (x : List ℕ). x) (drop (index + 1) all)) in
          c.loop-index.invariant.blob honest
          ∙ ap (λ (l : List ℕ). c.loop-index.blob.items ++ l) (blob_next old.sectors c.args.start c.args.room index c.args.size c.min-part.result bytes less c.requires.room is long c.min-part.ensures)
          ∙ sym (append_assoc c.loop-index.blob.items (take c.min-part.result bytes) rest) ∙ ap (λ (l : List ℕ). l ++ rest) (sym pushed);
    }

pub returns-in_err-read-clause-called : goal.returns-in_err-read-clause-called
returns-in_err-read-clause-called g c = failed_then c.loop-index.invariant.called c.in_err-read.ensures.called c.from_residual.ensures.0

pub returns-in_err-read-clause-looked : goal.returns-in_err-read-clause-looked
returns-in_err-read-clause-looked g c = looks_then c.loop-index.invariant.looked (λ honest. looked_read (c.read.ensures.read honest))

pub returns-clause-called : goal.returns-clause-called
returns-clause-called g c = all_called c.loop-index.invariant.called

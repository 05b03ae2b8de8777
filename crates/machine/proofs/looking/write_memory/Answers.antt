use Rattle.std.proofs.Common.{◌+◌, ◌%◌, ℕ, arith, length}
use Rattle.std.proofs.lemmas.List.Edits.{fill_by_more}
use Rattle.std.proofs.lemmas.List.FromFn.{fill_by_all}
use Rattle.memory_map.specs.Bus.{peeked}
use Rattle.machine.proofs.looking.write_memory.Goals as goal

pub loop-k-init : goal.loop-k-init
loop-k-init c = λ k lt. absurd (omega arith)

pub loop-k-preserved : goal.loop-k-preserved
loop-k-preserved c =
    let f : ℕ → ℕ = λ k. peeked c.args.machine.now.processor.memory ((c.args.address + k) % 65536) in
    rw c.peek.ensures (fill_by_more f c.loop-k.bytes c.loop-k.k 0 (omega (arith, c.loop-k-test.true)) c.loop-k.invariant)

pub returns : goal.returns
returns c =
    let f : ℕ → ℕ = λ k. peeked c.args.machine.now.processor.memory ((c.args.address + k) % 65536) in
    fill_by_all f c.loop-k.bytes (length c.args.bytes.now) 0 (omega (arith, c.loop-k.auto.bytes)) (λ k lt. c.loop-k.invariant k (omega (arith, c.loop-k-test.false, c.loop-k.auto.bytes)))

use Rattle.std.proofs.Common.{◌≡◌, ◌∙◌, ◌+◌, ◌*◌, ◌/◌, ◌%◌, subst, refl, List, ℕ, arith}
use Rattle.std.specs.Io.KnownBytes.{Appends}
use Rattle.exact_text.specs.Written.{AppendsProperPrefix}
use Rattle.exact_text.proofs.Writes.{appends_twice, prefix_of_longer, whole_then_prefix}
use Rattle.debugger.proofs.Lines.{all_written, one_more_written, part_failed}
use Rattle.machine_lines.proofs.Bytes.{memory_rest, memory_whole, next_full, no_full_left, none_told}
use Rattle.machine_lines.proofs.Calls.{on_ok, on_err}
use Rattle.machine_lines.specs.Texts.{memory_line, full_lines}
use Rattle.machine_lines.proofs.memory.write_memory.Goals as goal

pub loop-i-init : goal.loop-i-init
loop-i-init g c = record { place = omega arith; written = none_told c.args.machine.now c.args.address _ _ }

pub returns-in-Err-clause-err : goal.returns-in-Err-clause-err
returns-in-Err-clause-err g c =
    let text : c.as_bytes.result.now ≡ memory_line c.args.machine.now c.loop-i.place 16 = c.as_bytes.ensures.value ∙ c.deref.ensures.0 ∙ c.line-text.ensures in
    prefix_of_longer _ _ (full_lines c.args.machine.now c.args.address (c.args.count / 16)) _
    (part_failed _ _ _ _ _ _ _ (next_full c.args.machine.now (c.args.count / 16) c.loop-i._i c.loop-i.place _ c.loop-i-test.true refl) c.loop-i.invariant.written
    (subst (λ (t : List ℕ). AppendsProperPrefix (g.W.Output.contents c.loop-i.out) (g.W.Output.contents c.write_whole.new.out) t) text c.in-Err.ensures.err))

pub loop-i-preserved : goal.loop-i-preserved
loop-i-preserved g c =
    let text : c.as_bytes.result.now ≡ memory_line c.args.machine.now c.loop-i.place 16 = c.as_bytes.ensures.value ∙ c.deref.ensures.0 ∙ c.line-text.ensures in
    record {
      place = omega (arith, c.loop-i.invariant.place);
      written = one_more_written _ _ _ _ _ _ _ (next_full c.args.machine.now (c.args.count / 16) c.loop-i._i c.loop-i.place _ c.loop-i-test.true refl) c.loop-i.invariant.written
          (subst (λ (t : List ℕ). Appends (g.W.Output.contents c.loop-i.out) (g.W.Output.contents c.write_whole.new.out) t) text c.in_default.ensures.ok);
    }

pub returns-then-count-eq0-clause-ok : goal.returns-then-count-eq0-clause-ok
returns-then-count-eq0-clause-ok g c =
    subst (Appends (g.W.Output.contents c.args.out.now) (g.W.Output.contents c.loop-i.out)) (memory_whole c.args.machine.now c.args.address c.args.count c.if-count-eq0.true)
    (all_written _ _ _ _ (no_full_left c.args.machine.now (c.args.count / 16) c.loop-i._i c.loop-i.place c.loop-i-test.false) c.loop-i.invariant.written)

pub returns-clause-ok : goal.returns-clause-ok
returns-clause-ok g c =
    let text : c.as_bytes-2.result.now ≡ memory_line c.args.machine.now c.loop-i.place (c.args.count % 16) = c.as_bytes-2.ensures.value ∙ c.deref-2.ensures.0 ∙ c.line-text-2.ensures in
    let place : c.loop-i.place ≡ (c.args.address + c.args.count / 16 * 16) % 65536 = omega (arith, c.loop-i.invariant.place, c.loop-i-test.false, c.loop-i.auto._i-end) in
    on_ok c.write_whole-2.result (λ done.
    subst (Appends (g.W.Output.contents c.args.out.now) (g.W.Output.contents c.write_whole-2.new.out)) (memory_rest c.args.machine.now c.args.address c.args.count c.loop-i.place c.if-count-eq0.false place)
    (appends_twice _ _ _ _ _ (all_written _ _ _ _ (no_full_left c.args.machine.now (c.args.count / 16) c.loop-i._i c.loop-i.place c.loop-i-test.false) c.loop-i.invariant.written)
    (subst (Appends (g.W.Output.contents c.loop-i.out) (g.W.Output.contents c.write_whole-2.new.out)) text done)))
    c.write_whole-2.ensures.ok

pub returns-clause-err : goal.returns-clause-err
returns-clause-err g c =
    let text : c.as_bytes-2.result.now ≡ memory_line c.args.machine.now c.loop-i.place (c.args.count % 16) = c.as_bytes-2.ensures.value ∙ c.deref-2.ensures.0 ∙ c.line-text-2.ensures in
    let place : c.loop-i.place ≡ (c.args.address + c.args.count / 16 * 16) % 65536 = omega (arith, c.loop-i.invariant.place, c.loop-i-test.false, c.loop-i.auto._i-end) in
    on_err c.write_whole-2.result (λ failed.
    subst (AppendsProperPrefix (g.W.Output.contents c.args.out.now) (g.W.Output.contents c.write_whole-2.new.out)) (memory_rest c.args.machine.now c.args.address c.args.count c.loop-i.place c.if-count-eq0.false place)
    (whole_then_prefix _ _ _ _ _ (all_written _ _ _ _ (no_full_left c.args.machine.now (c.args.count / 16) c.loop-i._i c.loop-i.place c.loop-i-test.false) c.loop-i.invariant.written)
    (subst (AppendsProperPrefix (g.W.Output.contents c.loop-i.out) (g.W.Output.contents c.write_whole-2.new.out)) text failed)))
    c.write_whole-2.ensures.err

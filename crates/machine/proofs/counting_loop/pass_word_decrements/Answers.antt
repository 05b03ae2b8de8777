use Rattle.std.proofs.Common.{◌≡◌, ◌∙◌, ◌+◌, ◌-◌, ◌*◌, ◌<◌, ◌≤◌, ap, sym, subst, arith, Option}
use Rattle.std.specs.Prelude.{IfSome}
use Rattle.sm83_alu.specs.declared.register_file.Registers.{Registers}
use Rattle.memory_map.specs.BusRules.{bus_rules}
use Rattle.memory_map.proofs.QuietCycles.{fewer_are_calm}
use Rattle.machine.specs.Machine.{steps_until}
use Rattle.machine.specs.CountingLoop.{IsWordCount}
use Rattle.machine.specs.declared.counting_loop.WordCount.{WordCount}
use Rattle.machine.proofs.WordCounting.{words_pass}
use Rattle.machine.proofs.PollingLoop.{fast_after_laps}
use Rattle.machine.proofs.counting_loop.pass_word_decrements.Goals as goal

pub returns-clause-run : goal.returns-clause-run
returns-clause-run c =
    let p = c.args.processor.now in
    let calm = c.min-calm.result in
    let laps = c.word_laps_within-laps in
    let value = c.word_value-value in
    let s = c.in-Some.count in
    let n = value.result - laps.result in
    let is : IsWordCount s p.memory p.registers.pc = subst (λ (o : Option WordCount). IfSome o (λ w. IsWordCount w p.memory p.registers.pc)) c.in-Some.is c.word_count_at.ensures in
    let known = fewer_are_calm c.calm.result calm p.memory (omega (arith, c.min-calm.ensures, c.from.ensures)) c.calm.ensures in
    let within : c.args.passed + calm ≤ 17556 = omega (arith, c.min-calm.ensures, c.requires.below) in
    let pos : 0 < laps.result = omega (arith, c.if-laps-eq0.false) in
    let few = laps.ensures.some pos in
    let fit = laps.ensures.few pos in
    let count : 7 * c.from-cycles.result ≡ 7 * laps.result = omega (arith, c.from-cycles.ensures) in
    let parts : value.result ≡ n + laps.result = omega (arith, few) in
    let below : 7 * c.from-cycles.result < calm = omega (arith, count, fit) in
    ap (λ (r : Registers). steps_until bus_rules 17556 (c.args.passed + 7 * c.from-cycles.result) (record p { registers = r; memory = c.pass.new.self })) c.count_word_to.ensures
    ∙ words_pass c.args.passed calm p within c.requires.fast.usual known laps.result n (7 * c.from-cycles.result) s c.pass.new.self pos count below is
    (omega (arith, c.if-pc-gt-LAST_PLACE.false)) (sym value.ensures ∙ parts) (omega (arith, few)) (omega (arith, parts, laps.ensures.word)) c.pass.ensures

pub returns-clause-fast : goal.returns-clause-fast
returns-clause-fast c =
    let p = c.args.processor.now in
    let laps = c.word_laps_within-laps in
    let pos : 0 < laps.result = omega (arith, c.if-laps-eq0.false) in
    let fit = laps.ensures.few pos in
    let below : 7 * c.from-cycles.result < c.calm.result = omega (arith, fit, c.from-cycles.ensures, c.min-calm.ensures, c.from.ensures) in
    fast_after_laps (7 * c.from-cycles.result) c.calm.result p c.count_word_to.new.registers c.pass.new.self below c.calm.ensures c.requires.fast c.pass.ensures

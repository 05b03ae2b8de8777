use Rattle.std.proofs.Common.{take, refl, arith}
use Rattle.std.proofs.lemmas.List.{length-take-le}
use Rattle.std.proofs.lemmas.List.Folds.{list_all_more}
use Rattle.std.proofs.lemmas.Int.Digits.{digits_value_more}
use Rattle.std.specs.Char.{is_digit}
use Rattle.machine_lines.proofs.Digits.{few_digits, three_digits, digit_read}
use Rattle.machine_lines.proofs.words.read_hex.Goals as goal

pub overflow_mul-value : goal.overflow_mul-value
overflow_mul-value c =
    let short = length-take-le c.loop-byte.byte-index c.args.word.now (omega arith) in
    let below = three_digits (take c.loop-byte.byte-index c.args.word.now) c.loop-byte.invariant.digits (omega arith) in
    omega arith

pub overflow_add-value : goal.overflow_add-value
overflow_add-value c =
    let short = length-take-le c.loop-byte.byte-index c.args.word.now (omega arith) in
    let below = three_digits (take c.loop-byte.byte-index c.args.word.now) c.loop-byte.invariant.digits (omega arith) in
    omega (arith, c.in_ok-digit.ensures.below, c.from.ensures)

pub loop-byte-preserved : goal.loop-byte-preserved
loop-byte-preserved c =
    let digit = digit_read _ _ _ c.in_ok-digit.ensures.value in
    let more = digits_value_more 16 c.args.word.now c.loop-byte.byte-index c.loop-byte-test.true in
    let all = list_all_more (λ byte. is_digit byte 16) c.args.word.now c.loop-byte.byte-index 0 c.loop-byte-test.true in
    record { value = cc; digits = rw (all, c.loop-byte.invariant.digits, digit.0) refl }

pub returns-clause-below : goal.returns-clause-below
returns-clause-below c =
    let short = length-take-le c.loop-byte.byte-index c.args.word.now (omega arith) in
    let below = few_digits c.args.most (take c.loop-byte.byte-index c.args.word.now) c.loop-byte.invariant.digits (omega arith) in
    rw c.loop-byte.invariant.value below

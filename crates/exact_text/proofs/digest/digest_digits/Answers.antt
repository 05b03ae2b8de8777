use Rattle.std.proofs.Common.{arith, subst, sym, true≢false}
use Rattle.std.specs.Str.{IsUtf8}
use Rattle.exact_text.proofs.Digits.{digits_are_text, known}
use Rattle.exact_text.proofs.digest.digest_digits.Goals as goal

pub returns-in-Err : goal.returns-in-Err
returns-in-Err c =
    let ok = c.encode_to_slice.ensures.fits.1 (omega arith) in
    let written = known c.encode_to_slice.result ok c.encode_to_slice.ensures.written in
    absurd (true≢false (sym (c.in-Err.ensures.variant.1 (subst IsUtf8 (sym written) (digits_are_text c.args.digest)))))

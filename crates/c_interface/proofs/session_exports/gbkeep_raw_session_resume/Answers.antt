use Rattle.std.proofs.Common.{◌≡◌, ◌%◌, length, arith, inr, refl}
use Rattle.refusals.specs.declared.refusal.Refusal.TheVariants.{Memory}
use Rattle.c_interface.proofs.session_exports.gbkeep_raw_session_resume.Goals as goal

pub returns-in_default-clause-code : goal.returns-in_default-clause-code
returns-in_default-clause-code c =
    let whole : length c.args.image.now % 512 ≡ 0 = omega (arith, c.in-Ok.ensures.sectors) in
    inr (record { why = Memory; cause = (whole, c.in-Ok.ensures.accepted); is = refl })

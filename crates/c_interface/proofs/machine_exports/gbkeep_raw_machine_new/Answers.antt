use Rattle.std.proofs.Common.{inr, refl}
use Rattle.refusals.specs.declared.refusal.Refusal.TheVariants.{Memory}
use Rattle.c_interface.proofs.machine_exports.gbkeep_raw_machine_new.Goals as goal

pub returns-in_default-clause-code : goal.returns-in_default-clause-code
returns-in_default-clause-code c = inr (record { why = Memory; cause = c.in-Ok.ensures.accepted; is = refl })

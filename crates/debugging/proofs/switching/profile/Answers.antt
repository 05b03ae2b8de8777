use Rattle.std.proofs.Common.{List, ℕ, ap, length, arith}
use Rattle.debugging.proofs.Kept.{steps_of_image}
use Rattle.debugging.proofs.Profiles.{few_bytes}
use Rattle.debugging.proofs.switching.profile.Goals as goal

pub write_profile-requires : goal.write_profile-requires
write_profile-requires g c =
    let few = few_bytes c.args.cartridge.now c.rom-rom.ensures.accepted in
    let same = ap (λ (rom : List ℕ). length rom) c.rom-rom.ensures.image in
    omega (arith, few, same, c.run_counted-run.ensures.size)

pub returns-in-Ok-write_profile-clause-of : goal.returns-in-Ok-write_profile-clause-of
returns-in-Ok-write_profile-clause-of g c = steps_of_image c.args.cartridge.now _ c.args.run c.run_counted-run.result.run c.run_counted-run.ensures.run c.requires.of

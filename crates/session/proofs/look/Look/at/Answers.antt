use Rattle.std.proofs.Common.{◌≡◌, ◌∙◌, ◌++◌, ℕ, length, take, drop, refl, sym, ap, subst, arith}
use Rattle.cartridge.specs.Header.{ram_length_of}
use Rattle.snapshot.specs.Encoding.{encoded, snapshot_length}
use Rattle.sector_log.specs.OpenedAccessors.{device_under, found_generation, seen}
use Rattle.session.specs.Resting.{LooksAt}
use Rattle.session.proofs.Finding.{recovered_machine}
use Rattle.session.proofs.Looks.{filled}
use Rattle.session.proofs.look.Look.at.Goals as goal

pub encode-requires : goal.encode-requires
encode-requires g c =
    let own = (recovered_machine c.args.machine.processor.memory.banks.rom 0 c.args.count (seen c.args.opened) c.args.machine c.requires.recovered).1 in
    let long : snapshot_length (ram_length_of c.args.machine.processor.memory.banks.rom) ≡ snapshot_length (length c.args.machine.processor.memory.banks.ram) = ap snapshot_length (sym own.ram_length) in
    omega (arith, long)

pub invariant_of-result : goal.invariant_of-result
invariant_of-result g c =
    let written = take c.args.room.len (c.encode.new.out ++ drop (length c.encode.new.out) c.args.room.items) in
    let whole : written ≡ encoded c.args.machine = filled written c.encode.new.out (encoded c.args.machine) (drop (length c.encode.new.out) c.args.room.items) c.args.room.len refl (omega arith) c.encode.ensures.encoded in
    let long : length written ≡ snapshot_length (ram_length_of c.args.machine.processor.memory.banks.rom) = ap length whole ∙ sym (ap length c.encode.ensures.encoded) ∙ (omega arith) in
    record {
      own = (recovered_machine c.args.machine.processor.memory.banks.rom 0 c.args.count (seen c.args.opened) c.args.machine c.requires.recovered).1;
      encoded = whole;
      long = long;
      short = omega (arith, long);
      looks = subst (λ (n : ℕ). LooksAt (g.D.SectorDevice.disk (device_under c.args.opened)) (found_generation c.args.opened) c.args.count n c.args.machine) (sym c.logged_of-logged.ensures) c.requires.looks;
    }

use Rattle.std.proofs.Common.{◌+◌, ◌<◌, arith, set, length-set}
use Rattle.bank_controllers.proofs.Fits.{bank_fits, half_bytes_fit, clock_fits_of}
use Rattle.bank_controllers.proofs.Legal.{clock_written-legal, ram_set-legal, sound-with_ram}
use Rattle.bank_controllers.proofs.banks.Banks.write_window.Goals as goal

pub index_mut-requires : goal.index_mut-requires
index_mut-requires c =
    let fits = bank_fits c.self.inside.ram.items c.self.inside.state c.self.inside.window c.in-RamBank.start c.self.invariant.legal.ram c.self.invariant.at_window c.in-RamBank.is in
    omega (arith, fits.0, c.requires, c.self.inside.ram.ok.0)

pub overflow_add-start : goal.overflow_add-start
overflow_add-start c =
    let fits = bank_fits c.self.inside.ram.items c.self.inside.state c.self.inside.window c.in-RamBank.start c.self.invariant.legal.ram c.self.invariant.at_window c.in-RamBank.is in
    omega (arith, fits.0, c.requires, c.self.inside.ram.ok, c.self.inside.ram.small)

pub index_mut-requires-in-HalfBytes : goal.index_mut-requires-in-HalfBytes
index_mut-requires-in-HalfBytes c =
    let fits = half_bytes_fit c.self.inside.ram.items c.self.inside.state c.self.inside.window c.self.invariant.legal.ram c.self.invariant.at_window c.in-HalfBytes.is in
    omega (arith, fits.0, c.self.inside.ram.ok.0)

pub restore-requires : goal.restore-requires
restore-requires c =
    let has = clock_fits_of c.self.inside.ram.items c.self.inside.state c.self.inside.window c.in-Clock.register c.self.invariant.legal.ram c.self.invariant.at_window c.in-Clock.is in
    let small : c.args.value < 256 = omega arith in
    rw (c.clock_written-state.ensures, ← c.self.view_is)
    (clock_written-legal c.self.inside.state.kind c.self.inside.rumble c.in-Clock.register c.args.value c.self.inside.state has small c.self.invariant.legal.state)

pub invariant_of-self : goal.invariant_of-self
invariant_of-self c =
    let fits = bank_fits c.self.inside.ram.items c.self.inside.state c.self.inside.window c.in-RamBank.start c.self.invariant.legal.ram c.self.invariant.at_window c.in-RamBank.is in
    let at = c.in-RamBank.start + c.args.offset in
    sound-with_ram _ (set c.self.inside.ram.items at c.args.value) _ _ _ c.self.invariant (length-set c.self.inside.ram.items at c.args.value)
    (ram_set-legal c.self.inside.state.kind c.self.inside.ram.items at c.args.value (λ half. absurd (fits.1 half)) c.self.invariant.legal.ram)

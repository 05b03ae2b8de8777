use Rattle.std.proofs.Common.{◌∙◌, ◌+◌, ◌<◌, ◌%◌, length, arith, ap}
use Rattle.std.proofs.lemmas.Grind.{get_or_default_zero}
use Rattle.bank_controllers.proofs.Fits.{bank_fits, half_bytes_fit, half_byte_below}
use Rattle.bank_controllers.proofs.banks.Banks.read_window.Goals as goal

in_bank : (c : goal.In-RamBank) → c.in-RamBank.start + c.args.offset < length c.self.inside.ram.items
in_bank c =
    let fits = bank_fits c.self.inside.ram.items c.self.inside.state c.self.inside.window c.in-RamBank.start c.self.invariant.legal.ram c.self.invariant.at_window c.in-RamBank.is in
    omega (arith, fits.0, c.requires)

pub index-requires : goal.index-requires
index-requires c = omega (arith, in_bank c, c.self.inside.ram.ok.0)

pub overflow_add-start : goal.overflow_add-start
overflow_add-start c = let small = c.self.inside.ram.small in omega (arith, in_bank c, c.self.inside.ram.ok, small)

pub index-requires-in-HalfBytes : goal.index-requires-in-HalfBytes
index-requires-in-HalfBytes c =
    let fits = half_bytes_fit c.self.inside.ram.items c.self.inside.state c.self.inside.window c.self.invariant.legal.ram c.self.invariant.at_window c.in-HalfBytes.is in
    omega (arith, fits.0, c.self.inside.ram.ok.0)

pub overflow_add-result : goal.overflow_add-result
overflow_add-result c =
    let fits = half_bytes_fit c.self.inside.ram.items c.self.inside.state c.self.inside.window c.self.invariant.legal.ram c.self.invariant.at_window c.in-HalfBytes.is in
    let within : c.args.offset % 512 < length c.self.inside.ram.items = omega (arith, fits.0) in
    let small = half_byte_below c.self.inside.ram.items (c.args.offset % 512) c.index-in-HalfBytes.result.now fits.1 within in
    omega (arith, small, c.index-in-HalfBytes.ensures)

pub returns-in-RamBank : goal.returns-in-RamBank
returns-in-RamBank c =
    let fits = bank_fits c.self.inside.ram.items c.self.inside.state c.self.inside.window c.in-RamBank.start c.self.invariant.legal.ram c.self.invariant.at_window c.in-RamBank.is in
    let within : c.in-RamBank.start + c.args.offset < length c.self.inside.ram.items = omega (arith, fits.0, c.requires) in
    let read = c.index.ensures ∙ get_or_default_zero c.self.inside.ram.items (c.in-RamBank.start + c.args.offset) c.index.result.now within in
    rw (← c.self.view_is, ← c.self.invariant.at_window, c.in-RamBank.is) read

pub returns-in-HalfBytes : goal.returns-in-HalfBytes
returns-in-HalfBytes c =
    let fits = half_bytes_fit c.self.inside.ram.items c.self.inside.state c.self.inside.window c.self.invariant.legal.ram c.self.invariant.at_window c.in-HalfBytes.is in
    let within : c.args.offset % 512 < length c.self.inside.ram.items = omega (arith, fits.0) in
    let read = c.index-in-HalfBytes.ensures ∙ get_or_default_zero c.self.inside.ram.items (c.args.offset % 512) c.index-in-HalfBytes.result.now within in
    rw (← c.self.view_is, ← c.self.invariant.at_window, c.in-HalfBytes.is) (ap (λ v. 240 + v) read)

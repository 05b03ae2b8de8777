use Rattle.std.proofs.Common.{◌≡◌, ◌∙◌, ◌+◌, ◌-◌, ◌<◌, length, arith}
use Rattle.std.proofs.lemmas.Grind.{get_or_default_zero}
use Rattle.bank_controllers.proofs.Fits.{low_fits, high_fits}
use Rattle.bank_controllers.proofs.RomReads.{read_low, read_high}
use Rattle.bank_controllers.proofs.banks.Banks.read.Goals as goal

pub index-requires : goal.index-requires
index-requires c =
    let legal = c.self.invariant.legal in
    let fits = low_fits (length c.self.inside.rom.items) c.self.inside.state c.args.address legal.rom legal.least c.if-address-lt16384.true in
    omega (arith, fits, c.self.invariant.at_low, c.from.ensures, c.self.inside.rom.ok.0)

pub overflow_add-self-inside : goal.overflow_add-self-inside
overflow_add-self-inside c =
    let legal = c.self.invariant.legal in
    let fits = low_fits (length c.self.inside.rom.items) c.self.inside.state c.args.address legal.rom legal.least c.if-address-lt16384.true in
    omega (arith, fits, c.self.invariant.at_low, c.from.ensures, c.self.inside.rom.ok, c.self.inside.rom.small)

pub returns-then-address-lt16384 : goal.returns-then-address-lt16384
returns-then-address-lt16384 c =
    let legal = c.self.invariant.legal in
    let fits = low_fits (length c.self.inside.rom.items) c.self.inside.state c.args.address legal.rom legal.least c.if-address-lt16384.true in
    let within : c.self.inside.low + c.args.address < length c.self.inside.rom.items = omega (arith, fits, c.self.invariant.at_low) in
    let read = rw c.from.ensures at c.index.ensures in
    rw (← c.self.view_is, read_low _ c.args.address c.if-address-lt16384.true, ← c.self.invariant.at_low)
    (read ∙ get_or_default_zero c.self.inside.rom.items (c.self.inside.low + c.args.address) c.index.result.now within)

pub index-requires-then-address-lt32768 : goal.index-requires-then-address-lt32768
index-requires-then-address-lt32768 c =
    let legal = c.self.invariant.legal in
    let near : c.args.address - 0x4000 < 16384 = omega (arith, c.if-address-lt32768.true) in
    let fits = high_fits (length c.self.inside.rom.items) c.self.inside.state (c.args.address - 0x4000) legal.rom legal.least near in
    omega (arith, fits, c.self.invariant.at_high, c.from-then-address-lt32768.ensures, c.self.inside.rom.ok.0)

pub overflow_add-self-inside-then-address-lt32768 : goal.overflow_add-self-inside-then-address-lt32768
overflow_add-self-inside-then-address-lt32768 c =
    let legal = c.self.invariant.legal in
    let near : c.args.address - 0x4000 < 16384 = omega (arith, c.if-address-lt32768.true) in
    let fits = high_fits (length c.self.inside.rom.items) c.self.inside.state (c.args.address - 0x4000) legal.rom legal.least near in
    omega (arith, fits, c.self.invariant.at_high, c.if-address-lt32768.true, c.from-then-address-lt32768.ensures, c.self.inside.rom.ok, c.self.inside.rom.small)

pub returns-then-address-lt32768 : goal.returns-then-address-lt32768
returns-then-address-lt32768 c =
    let legal = c.self.invariant.legal in
    let near : c.args.address - 0x4000 < 16384 = omega (arith, c.if-address-lt32768.true) in
    let fits = high_fits (length c.self.inside.rom.items) c.self.inside.state (c.args.address - 0x4000) legal.rom legal.least near in
    let within : c.self.inside.high + (c.args.address - 0x4000) < length c.self.inside.rom.items = omega (arith, fits, c.self.invariant.at_high) in
    let same : c.self.inside.high + c.args.address - 0x4000 ≡ c.self.inside.high + (c.args.address - 0x4000) = omega (arith, c.if-address-lt16384.false) in
    let read = rw (c.from-then-address-lt32768.ensures, same) at c.index-then-address-lt32768.ensures in
    rw (← c.self.view_is, read_high _ c.args.address c.if-address-lt16384.false c.if-address-lt32768.true, ← c.self.invariant.at_high)
    (read ∙ get_or_default_zero c.self.inside.rom.items (c.self.inside.high + (c.args.address - 0x4000)) c.index-then-address-lt32768.result.now within)

use Rattle.std.proofs.Common.{ap, sym, subst, ◌∙◌, arith}
use Rattle.machine.specs.Machine.{MachineState}
use Rattle.snapshot.specs.Encoding.{encoded}
use Rattle.snapshot.specs.Reading.{machine_in}
use Rattle.snapshot.specs.Legal.{IsMachineOf, IsLegalSnapshot}
use Rattle.snapshot.proofs.Decoding.{placed_registers, placed_ram, placed_is, made_legal}
use Rattle.snapshot.proofs.Machines.{machine_back, encoded_again, encoded_legal}
use Rattle.snapshot.proofs.from_bytes.decode_into.Goals as goal

pub returns-in-Some-clause-all : goal.returns-in-Some-clause-all
returns-in-Some-clause-all c =
    λ m of same. c.in-Some.ensures.illegal (subst (IsLegalSnapshot c.args.cartridge.now) same (encoded_legal c.args.cartridge.now m of))

pub restore-requires : goal.restore-requires
restore-requires c =
    rw c.registers_in-registers.ensures
    (placed_registers c.args.cartridge.now c.args.bytes.now c.controller.result c.args.machine.now c.requires (λ i. omega (arith, c.type_inv.bytes i)) c.in_default.ensures.none c.controller.ensures)

pub fill_stores-requires-clause-ram : goal.fill_stores-requires-clause-ram
fill_stores-requires-clause-ram c =
    rw (c.restore.ensures, c.registers_in-registers.ensures)
    (placed_ram c.args.cartridge.now c.args.bytes.now c.controller.result c.args.machine.now c.requires c.controller.ensures c.in_default.ensures.none)

pub returns-clause-ok : goal.returns-clause-ok
returns-clause-ok c =
    let made = placed_is c.args.cartridge.now c.args.bytes.now c.controller.result c.registers_in-registers.result c.args.machine.now c.restore.new.self c.fill_stores.new.machine c.requires c.registers_in-registers.ensures c.controller.ensures c.restore.ensures c.fill_stores.ensures in (
      subst (λ (m : MachineState). IsMachineOf c.args.cartridge.now m) (sym made) (made_legal c.args.cartridge.now c.args.bytes.now c.controller.result (λ i. omega (arith, c.type_inv.bytes i)) c.in_default.ensures.none c.controller.ensures),
      ap encoded made ∙ encoded_again c.args.cartridge.now c.args.bytes.now (λ i. omega (arith, c.type_inv.bytes i)) c.in_default.ensures.none,
    )

pub returns-clause-all : goal.returns-clause-all
returns-clause-all c =
    let made = placed_is c.args.cartridge.now c.args.bytes.now c.controller.result c.registers_in-registers.result c.args.machine.now c.restore.new.self c.fill_stores.new.machine c.requires c.registers_in-registers.ensures c.controller.ensures c.restore.ensures c.fill_stores.ensures in
    λ m of same. made ∙ ap (machine_in c.args.cartridge.now) (sym same) ∙ machine_back c.args.cartridge.now m of

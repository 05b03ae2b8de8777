use Rattle.std.proofs.Common.{ℕ, List, ap, sym, subst, ◌∙◌, arith}
use Rattle.std.specs.Prelude.{replicate}
use Rattle.std.proofs.lemmas.List.{length-replicate}
use Rattle.picture_unit.specs.Picture.{picture_at_power_on, blank_rows}
use Rattle.machine.specs.Machine.{MachineState}
use Rattle.snapshot.specs.Encoding.{encoded}
use Rattle.snapshot.specs.Reading.{machine_in}
use Rattle.snapshot.specs.Legal.{IsMachineOf}
use Rattle.snapshot.proofs.Decoding.{start_registers, start_length, start_ram, made_is, made_legal, refused_bytes}
use Rattle.snapshot.proofs.Machines.{machine_back, encoded_again}
use Rattle.snapshot.proofs.Offsets.{kind_is}
use Rattle.snapshot.proofs.from_bytes.decode.Goals as goal

pub returns-in-Some-clause-all : goal.returns-in-Some-clause-all
returns-in-Some-clause-all c = refused_bytes c.args.cartridge.now c.args.bytes.now c.in-Some.fault c.in-Some.ensures.some

pub restore-requires : goal.restore-requires
restore-requires c =
    rw (c.in-Ok.ensures, c.registers_in.ensures, sym (kind_is c.args.cartridge.now c.controller.result c.controller.ensures)) (start_registers c.args.cartridge.now c.args.bytes.now (λ i. omega (arith, c.type_inv.bytes i)) c.in_default.ensures.none)

pub fill_stores-requires-clause-length : goal.fill_stores-requires-clause-length
fill_stores-requires-clause-length c = rw (c.restore.ensures, c.in-Ok.ensures) (start_length c.args.cartridge.now c.args.bytes.now c.in_default.ensures.none)

pub fill_stores-requires-clause-rows : goal.fill_stores-requires-clause-rows
unfolding picture_at_power_on blank_rows
fill_stores-requires-clause-rows c =
    let row : List ℕ = replicate 160 0 in
    rw (c.restore.ensures, c.in-Ok.ensures) (length-replicate 144 row)

pub fill_stores-requires-clause-ram : goal.fill_stores-requires-clause-ram
fill_stores-requires-clause-ram c =
    rw (c.restore.ensures, c.in-Ok.ensures, c.registers_in.ensures) (start_ram c.args.cartridge.now c.args.bytes.now c.controller.result c.controller.ensures c.in_default.ensures.none)

pub returns-clause-ok : goal.returns-clause-ok
returns-clause-ok c =
    let made = made_is c.args.cartridge.now c.args.bytes.now c.controller.result c.registers_in.result c.in-Ok.machine c.restore.new.self c.fill_stores.new.machine c.in-Ok.ensures c.registers_in.ensures c.controller.ensures c.restore.ensures c.fill_stores.ensures in (
      subst (λ (m : MachineState). IsMachineOf c.args.cartridge.now m) (sym made) (made_legal c.args.cartridge.now c.args.bytes.now c.controller.result (λ i. omega (arith, c.type_inv.bytes i)) c.in_default.ensures.none c.controller.ensures),
      ap encoded made ∙ encoded_again c.args.cartridge.now c.args.bytes.now (λ i. omega (arith, c.type_inv.bytes i)) c.in_default.ensures.none,
    )

pub returns-clause-all : goal.returns-clause-all
returns-clause-all c =
    let made = made_is c.args.cartridge.now c.args.bytes.now c.controller.result c.registers_in.result c.in-Ok.machine c.restore.new.self c.fill_stores.new.machine c.in-Ok.ensures c.registers_in.ensures c.controller.ensures c.restore.ensures c.fill_stores.ensures in
    λ m of same. made ∙ ap (machine_in c.args.cartridge.now) (sym same) ∙ machine_back c.args.cartridge.now m of

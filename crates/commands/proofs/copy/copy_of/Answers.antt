use Rattle.std.proofs.Common.{◌≡◌, ◌∙◌, arith, drop, length}
use Rattle.machine.specs.Machine.{MachineState}
use Rattle.snapshot.specs.Legal.{IsMachineOf}
use Rattle.snapshot.specs.Encoding.{encoded}
use Rattle.snapshot.proofs.Machines.{one_machine}
use Rattle.session.proofs.Beginnings.{machine_of_rom}
use Rattle.commands.proofs.Copies.{filled, some_of_ok}
use Rattle.commands.proofs.copy.copy_of.Goals as goal

pub returns : goal.returns
returns c =
    let of : IsMachineOf c.args.cartridge.now c.args.machine.now = machine_of_rom c.args.cartridge.now c.args.machine.now c.requires.rom c.requires.own c.encode.ensures.legal in
    let size : c.in_ok-encoded.encoded.len ≡ length c.encode.new.out = omega arith in
    let bytes : c.deref.result.now ≡ encoded c.args.machine.now =
    c.deref.ensures.value ∙ filled c.encode.new.out (drop (length c.encode.new.out) c.in_ok-encoded.encoded.items) c.in_ok-encoded.encoded.len size ∙ c.encode.ensures.encoded in
    rw c.ok-2.ensures.value (some_of_ok c.decode.result c.decode.ensures.ok
    (λ (m : MachineState) is. (one_machine c.args.cartridge.now m c.args.machine.now is.0 of (is.1 ∙ bytes), of)))

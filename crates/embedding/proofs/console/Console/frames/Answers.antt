use Rattle.std.proofs.Common.{replicate, sym, subst, ◌∙◌}
use Rattle.std.proofs.lemmas.List.Elements.{All-replicate}
use Rattle.bank_controllers.specs.CartridgeState.{IsSameCartridge}
use Rattle.machine.specs.Machine.{MachineState}
use Rattle.machine.specs.Machine.{Frame, PassesTime}
use Rattle.machine.proofs.KeptByInputs.{by_inputs}
use Rattle.session.proofs.Beginnings.{own_again}
use Rattle.embedding.proofs.console.Console.frames.Goals as goal

pub invariant_of-self : goal.invariant_of-self
invariant_of-self c =
    let old = c.args.self.now.machine in
    let new = c.play_frames.new.machine in
    let same = subst (λ (m : MachineState). IsSameCartridge old.processor.memory.banks m.processor.memory.banks) (sym c.play_frames.ensures) (by_inputs old (replicate c.args.count (Frame c.args.buttons)) (All-replicate PassesTime c.args.count (Frame c.args.buttons) tt)) in
    record { rom = same.rom ∙ c.args.self.now.rom; own = own_again old new same c.args.self.now.own }

use Rattle.std.proofs.Common.{◌≤◌, subst, ◌∙◌}
use Rattle.memory_map.specs.State.{BusState}
use Rattle.memory_map.proofs.Together.{no_copy}
use Rattle.memory_map.proofs.bus.Bus.pass_dma_and_picture.Goals as goal

pub returns : goal.returns
returns c =
    let ended = subst (λ (b : BusState). 160 ≤ b.control.dma_copied) c.self.view_is c.if-self-lt160.false in
    c.pass_picture.ensures ∙ no_copy c.args.cycles c.args.self.now ended

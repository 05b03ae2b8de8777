use Rattle.std.proofs.Common.{◌≡◌, ◌<◌, ◌≤◌, ℕ, ap, subst, sym, ◌∙◌, arith}
use Rattle.std.specs.Fn.{iterate}
use Rattle.memory_map.specs.State.{BusState}
use Rattle.memory_map.specs.Ticks.{tick_dma_and_picture, tick_picture}
use Rattle.memory_map.proofs.Together.{after_byte, no_copy}
use Rattle.memory_map.proofs.bus.Bus.pass_copying.Goals as goal
use Rattle.memory_map.proofs.bus.Bus.pass_copying.Goals.{then-loop-left-test+else-self-lt160, else-loop-left-test}

pub loop-left-preserved : goal.loop-left-preserved
loop-left-preserved c =
    let copying = subst (λ (b : BusState). b.control.dma_copied < 160) c.self.view_is c.if-self-lt160.true in
    after_byte c.loop-left.left c.loop-left.self c.copy_byte.new.self c.pass_picture.new.self (omega arith) copying c.copy_byte.ensures c.pass_picture.ensures ∙ c.loop-left.invariant

pub returns : goal.returns
returns c =
    elim c.loop-left-test.branch [
      | then-loop-left-test+else-self-lt160 w ↦
          let ended = subst (λ (b : BusState). 160 ≤ b.control.dma_copied) c.self.view_is w.if-self-lt160.false in
          c.pass_picture-2.ensures ∙ no_copy c.loop-left.left c.loop-left.self ended ∙ c.loop-left.invariant
      | else-loop-left-test w ↦
          let none : c.loop-left.left ≡ 0 = omega (arith, w.loop-left-test.false) in
          c.pass_picture-2.ensures ∙ ap (λ (n : ℕ). iterate tick_picture n c.loop-left.self) none ∙ sym (ap (λ (n : ℕ). iterate tick_dma_and_picture n c.loop-left.self) none) ∙ c.loop-left.invariant
    ]

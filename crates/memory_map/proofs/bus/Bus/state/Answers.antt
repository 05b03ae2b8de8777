use Rattle.std.proofs.Common.{◌<◌, subst, arith}
use Rattle.std.proofs.lemmas.Bool.Decides.{nat_tests}
use Rattle.bank_controllers.specs.State.{IsLegalBanks}
use Rattle.memory_map.specs.State.{BusState}
use Rattle.memory_map.proofs.bus.Bus.state.Goals as goal

pub returns-clause-legal : goal.returns-clause-legal
returns-clause-legal c =
    let control = c.self.invariant.control in
    let few : c.interrupt_flag.result < 32 = grind (arith, nat_tests, c.interrupt_flag.ensures) in record {
      ie = control.ie;
      interrupt_flag = few;
      buttons = control.buttons;
      p1_select = control.p1_select;
      timer = c.state.ensures.legal;
      serial = c.state-2.ensures.legal;
      dma = control.dma;
      dma_copied = omega (arith, control.dma_copied);
      picture = c.state-3.ensures.legal;
      banks = subst (λ (b : BusState). IsLegalBanks b.banks.state.kind b.banks.rumble c.state-4.result) c.self.view_is c.state-4.ensures.legal;
    }

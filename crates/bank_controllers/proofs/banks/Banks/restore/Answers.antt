use Rattle.std.proofs.Common.{◌∙◌}
use Rattle.bank_controllers.proofs.Legal.{sound-with_state}
use Rattle.bank_controllers.proofs.banks.Banks.restore.Goals as goal

pub invariant_of-self : goal.invariant_of-self
invariant_of-self c =
    let legal = rw (← c.self.view_is) at c.requires in
    sound-with_state _ c.args.state.now _ _ _ _ _ _ _ _ c.self.invariant.legal legal
    (c.len.ensures ∙ c.self.inside.rom.ok.0) c.low_bank.ensures c.rom_bank-self-inside.ensures
    (c.len-2.ensures ∙ c.self.inside.rom.ok.0) c.high_bank.ensures c.rom_bank-self-inside-2.ensures
    (c.len-3.ensures ∙ c.self.inside.ram.ok.0) c.of-self-inside.ensures

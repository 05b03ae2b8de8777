use Rattle.std.proofs.Common.{◌∙◌}
use Rattle.bank_controllers.proofs.Legal.{sound_at_power_on}
use Rattle.bank_controllers.proofs.banks.Banks.at_power_on.Goals as goal

pub invariant_of-result : goal.invariant_of-result
invariant_of-result c =
    sound_at_power_on _ _ c.args.rumble c.args.kind _ _ _ _ _ _ _ _ _ c.requires.rom c.requires.least c.requires.ram c.at_power_on-state.ensures
    (c.len.ensures ∙ c.args.rom.ok.0) c.low_bank.ensures c.rom_bank-low.ensures
    (c.len-2.ensures ∙ c.args.rom.ok.0) c.high_bank.ensures c.rom_bank-high.ensures
    (c.len-3.ensures ∙ c.args.ram.ok.0) c.of-window.ensures

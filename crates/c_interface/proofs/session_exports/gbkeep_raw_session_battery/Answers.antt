use Rattle.std.proofs.Common.{◌≡◌, ◌∙◌, true, sym, subst}
use Rattle.cartridge.specs.Header.{has_battery}
use Rattle.session.specs.Accessors.{machine_of, rom_of}
use Rattle.battery_files.specs.Battery.{battery_of}
use Rattle.embedding.specs.declared.game.Game.{Game}
use Rattle.c_interface.proofs.session_exports.gbkeep_raw_session_battery.Goals as goal
use Rattle.c_interface.proofs.session_exports.gbkeep_raw_session_battery.Goals.{in-Ok, in-Err}

pub returns-clause-battery : goal.returns-clause-battery
returns-clause-battery c = λ code.
    let old : c.deref.result.now ≡ c.args.session.value = c.deref.ensures ∙ c.into_box-game.ensures in
    elim c.match-battery.branch [
      | in-Ok w ↦ subst (λ (g : Game). (has_battery (rom_of g.session) ≡ true) × (c.battery.new.bytes ≡ battery_of (machine_of g.session))) old w.in-Ok.ensures.battery
      | in-Err w ↦ absurd (w.code-code.ensures.refused (sym w.code-is ∙ code))
    ]

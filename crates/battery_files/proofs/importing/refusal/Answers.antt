use Rattle.std.proofs.Common.{◌≡◌, ℕ, List, length, true, subst}
use Rattle.std.specs.Prelude.{IfNone, IfSome}
use Rattle.cartridge.specs.Header.{has_battery}
use Rattle.battery_files.specs.Importing.{IsImportCause, is_taken_length}
use Rattle.battery_files.proofs.importing.refusal.Goals as goal

pub returns-clause-none : goal.returns-clause-none
returns-clause-none c =
    subst (λ (rom : List ℕ). IfNone c.refusal_of_file.result ((has_battery rom ≡ true) × (is_taken_length rom (length c.args.battery.now) ≡ true))) c.rom.ensures.image
    c.refusal_of_file.ensures.none

pub returns-clause-some : goal.returns-clause-some
returns-clause-some c =
    subst (λ (rom : List ℕ). IfSome c.refusal_of_file.result (IsImportCause rom c.args.battery.now)) c.rom.ensures.image c.refusal_of_file.ensures.some

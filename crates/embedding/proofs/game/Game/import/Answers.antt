use Rattle.std.proofs.Common.{◌≡◌, ◌∙◌, ℕ, List, [], length, true, ap, subst}
use Rattle.cartridge.specs.Header.{has_battery}
use Rattle.machine.specs.Machine.{MachineState}
use Rattle.session.specs.Accessors.{device_of}
use Rattle.session.specs.Stands.{IsAtRest, Position}
use Rattle.battery_files.specs.Importing.{IsImportCause as IsFileCause, is_taken_length, start_with}
use Rattle.embedding.specs.HostDevices.{host_disk}
use Rattle.embedding.proofs.Counting.{handed_same, same_count}
use Rattle.embedding.proofs.Taking.{file_refused}
use Rattle.embedding.proofs.game.Game.import.Goals as goal

pub returns-in-Err-clause-cause : goal.returns-in-Err-clause-cause
returns-in-Err-clause-cause c =
    file_refused c.args.rom.now c.args.battery.now c.args.sectors c.in_default.ensures.accepted _
    (subst (λ (rom : List ℕ). IsFileCause rom c.args.battery.now c.in-Err.why) c.in-Ok.ensures.image c.in-Err.ensures.cause)

pub returns-in-Some-refusal_of_file-clause-cause : goal.returns-in-Some-refusal_of_file-clause-cause
returns-in-Some-refusal_of_file-clause-cause c =
    file_refused c.args.rom.now c.args.battery.now c.args.sectors c.in_default.ensures.accepted c.in-Some-refusal_of_file.why c.in-Some-refusal_of_file.ensures.some

pub returns-in-Ok-new_game_from-clause-machine : goal.returns-in-Ok-new_game_from-clause-machine
returns-in-Ok-new_game_from-clause-machine c =
    let image = c.in-Ok.ensures.image in
    let machine = c.in-Ok-new_game_from.ensures.machine in
    (machine.0 ∙ c.in-Ok-machine_with_battery.ensures.machine ∙ ap (λ (rom : List ℕ). start_with rom c.args.battery.now) image, machine.1 ∙ image)

pub returns-in-Ok-new_game_from-clause-rests : goal.returns-in-Ok-new_game_from-clause-rests
returns-in-Ok-new_game_from-clause-rests c =
    let image = c.in-Ok.ensures.image in
    let disk = host_disk (device_of c.in-Ok-new_game_from.session) in
    let machine : c.in-Ok-machine_with_battery.machine ≡ start_with c.args.rom.now c.args.battery.now =
    c.in-Ok-machine_with_battery.ensures.machine ∙ ap (λ (rom : List ℕ). start_with rom c.args.battery.now) image in
    subst (λ (m : MachineState). IsAtRest c.args.rom.now disk 0 [] m) machine
    (subst (λ (rom : List ℕ). IsAtRest rom disk 0 [] c.in-Ok-machine_with_battery.machine) image (c.in-Ok-new_game_from.ensures.rests tt))

pub returns-in-Ok-new_game_from-clause-taken : goal.returns-in-Ok-new_game_from-clause-taken
returns-in-Ok-new_game_from-clause-taken c =
    let taken = subst (λ (rom : List ℕ). (has_battery rom ≡ true) × (is_taken_length rom (length c.args.battery.now) ≡ true)) c.in-Ok.ensures.image
    c.in-Ok-machine_with_battery.ensures.taken in
    (c.in_default.ensures.accepted, taken.0, taken.1)

pub returns-in-Ok-new_game_from-clause-first : goal.returns-in-Ok-new_game_from-clause-first
returns-in-Ok-new_game_from-clause-first c =
    let answered = c.in-Ok-new_game_from.ensures.answered in
    handed_same c.in-Ok-new.device (device_of c.in-Ok-new_game_from.session) answered.follows answered.handed ∙ c.in-Ok-new.ensures.handed

pub returns-in-Ok-new_game_from-clause-sectors : goal.returns-in-Ok-new_game_from-clause-sectors
returns-in-Ok-new_game_from-clause-sectors c =
    same_count c.in-Ok-new.device (device_of c.in-Ok-new_game_from.session) c.in-Ok-new_game_from.ensures.answered.count ∙ c.in-Ok-new.ensures.count

pub returns-in-Ok-new_game_from-clause-saved : goal.returns-in-Ok-new_game_from-clause-saved
returns-in-Ok-new_game_from-clause-saved c =
    let at : MachineState → Position = λ m. record { count = 0; machine = m } in
    c.in-Ok-new_game_from.ensures.saved ∙ ap at (c.in-Ok-machine_with_battery.ensures.machine ∙ ap (λ (rom : List ℕ). start_with rom c.args.battery.now) c.in-Ok.ensures.image)

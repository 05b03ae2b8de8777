use Rattle.std.proofs.Common.{◌≤◌, ◌∙◌, ℕ, ap, refl, true, arith}
use Rattle.std.specs.Prelude.{unwrap_or}
use Rattle.command_line.specs.declared.Request.TheVariants.{Import}
use Rattle.log_format.specs.Content.{need}
use Rattle.cartridge.specs.Header.{ram_length_of}
use Rattle.snapshot.specs.Encoding.{snapshot_length}
use Rattle.session.specs.Accessors.{device_of}
use Rattle.gbkeep.specs.Request.{sectors_for}
use Rattle.gbkeep.proofs.BegunTexts.{begun_served}
use Rattle.gbkeep.proofs.FileTexts.{game_unbegun, import_begun, no_cartridge_served, unmade_served, unread_served}
use Rattle.playing.proofs.Telling.{keeps_same}
use Rattle.gbkeep.proofs.BatteryTexts.{accepted_image, battery_refused}
use Rattle.gbkeep.proofs.batteries.import.Goals as goal

pub returns-in-Err-clause-served : goal.returns-in-Err-clause-served
returns-in-Err-clause-served g c =
    let kept = keeps_same (g.O.Output.contents c.args.out.now) in
    battery_refused c.in_ok-cartridge.cartridge _ (accepted_image _ _ c.in_ok-cartridge.ensures.image (c.in_ok-cartridge.ensures.accepted.0 (refl {a = true})))
    c.args.cart c.args.battery c.args.save c.args.sectors _ _ kept c.in-Err.fault c.in-Err.ensures.err

pub returns-in-Ok-clause-served : goal.returns-in-Ok-clause-served
returns-in-Ok-clause-served g c =
    let rom = c.in_ok-cartridge.cartridge in
    let accepted = accepted_image _ _ c.in_ok-cartridge.ensures.image (c.in_ok-cartridge.ensures.accepted.0 (refl {a = true})) in
    let same = c.sectors_or-sectors.ensures ∙ ap (λ (n : ℕ). unwrap_or c.args.sectors n) c.sectors_needed-need.ensures in
    let enough : need (snapshot_length (ram_length_of rom)) ≤ sectors_for rom c.args.sectors = omega (arith, same, c.sectors_needed-need.ensures, c.if-sectors-need.false) in
    let zero = c.in_ok-making.ensures.zero in
    let honest = c.in_ok-making.ensures.honest in
    let begun = import_begun c.args.cart c.args.battery c.args.save c.args.sectors rom _ c.sectors_or-sectors.result c.in_ok-making.field-0.device (device_of c.in-Ok.session) enough
    zero same (c.in-Ok.ensures.begun honest) in
    begun_served (Import c.args.cart c.args.battery c.args.save c.args.sectors) _ _ tt tt
    (λ written. (rom, (accepted, begun, written))) (λ cut. (rom, accepted, begun, cut))
    c.tell_begun-told.result c.tell_begun-told.ensures.written c.tell_begun-told.ensures.cause

pub returns-in_err-rom-clause-served : goal.returns-in_err-rom-clause-served
returns-in_err-rom-clause-served g c = unread_served (Import c.args.cart c.args.battery c.args.save c.args.sectors) _ tt _ _ (keeps_same _) c.from_residual.ensures.1 c.in_err-rom.ensures

pub returns-in_err-cartridge-clause-served : goal.returns-in_err-cartridge-clause-served
returns-in_err-cartridge-clause-served g c =
    no_cartridge_served (Import c.args.cart c.args.battery c.args.save c.args.sectors) _ tt _ c.in_ok-rom.rom.items _ c.from_residual-in_err-cartridge.ensures.1 c.in_err-cartridge.ensures.refused

pub returns-in_err-making-clause-served : goal.returns-in_err-making-clause-served
returns-in_err-making-clause-served g c =
    unmade_served (Import c.args.cart c.args.battery c.args.save c.args.sectors) _ tt _ _ tt (keeps_same _) c.from_residual-in_err-making.ensures.1 c.in_err-making.ensures.fault

pub returns-clause-served : goal.returns-clause-served
returns-clause-served g c =
    let why = game_unbegun c.in_ok-cartridge.cartridge c.args.sectors _ _ c.sectors_needed-need.ensures c.sectors_or-sectors.ensures c.in_ok-making.field-0.device _
    c.in_ok-making.ensures.zero c.in-Err-begin_import.ensures.cause in
    (keeps_same _, (c.in_ok-cartridge.cartridge, accepted_image _ _ c.in_ok-cartridge.ensures.image (c.in_ok-cartridge.ensures.accepted.0 (refl {a = true})), c.in_default.ensures.ok, why))

pub returns-in_err-battery-clause-served : goal.returns-in_err-battery-clause-served
returns-in_err-battery-clause-served g c =
    unread_served (Import c.args.cart c.args.battery c.args.save c.args.sectors) _ tt _ _ (keeps_same _) c.from_residual-in_err-battery.ensures.1 c.in_err-battery.ensures

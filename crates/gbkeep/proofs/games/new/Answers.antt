use Rattle.std.proofs.Common.{◌≤◌, ◌∙◌, ℕ, ap, refl, true, arith}
use Rattle.std.specs.Prelude.{unwrap_or}
use Rattle.command_line.specs.declared.Request.TheVariants.{New}
use Rattle.log_format.specs.Content.{need}
use Rattle.cartridge.specs.Header.{ram_length_of}
use Rattle.snapshot.specs.Encoding.{snapshot_length}
use Rattle.machine.specs.Machine.{start}
use Rattle.session.specs.Accessors.{device_of}
use Rattle.gbkeep.specs.Request.{sectors_for}
use Rattle.gbkeep.proofs.BatteryTexts.{accepted_image}
use Rattle.gbkeep.proofs.BegunTexts.{begun_served}
use Rattle.gbkeep.proofs.FileTexts.{game_begun, game_unbegun, no_cartridge_served, too_few, unmade_served, unread_served}
use Rattle.playing.proofs.Telling.{keeps_same}
use Rattle.gbkeep.proofs.games.new.Goals as goal

pub returns-in-Ok-clause-served : goal.returns-in-Ok-clause-served
returns-in-Ok-clause-served g c =
    let rom = c.in_ok-cartridge.cartridge in
    let accepted = accepted_image _ _ c.in_ok-cartridge.ensures.image (c.in_ok-cartridge.ensures.accepted.0 (refl {a = true})) in
    let same = c.sectors_or-sectors.ensures ∙ ap (λ (n : ℕ). unwrap_or c.args.sectors n) c.sectors_needed-need.ensures in
    let enough : need (snapshot_length (ram_length_of rom)) ≤ sectors_for rom c.args.sectors = omega (arith, same, c.sectors_needed-need.ensures, c.if-sectors-need.false) in
    let zero = c.in_ok-making.ensures.zero in
    let honest = c.in_ok-making.ensures.honest in
    let begun = game_begun rom c.sectors_or-sectors.result (sectors_for rom c.args.sectors) (start rom) c.in_ok-making.field-0.device (device_of c.in-Ok.session) zero same
    c.in-Ok.ensures.answered.count (c.in-Ok.ensures.rests honest) in
    begun_served (New c.args.cart c.args.save c.args.sectors) _ _ tt tt
    (λ written. (rom, (accepted, (enough, begun), written))) (λ cut. (rom, accepted, (enough, begun), cut))
    c.tell_begun-told.result c.tell_begun-told.ensures.written c.tell_begun-told.ensures.cause

pub returns-in_err-rom-clause-served : goal.returns-in_err-rom-clause-served
returns-in_err-rom-clause-served g c = unread_served (New c.args.cart c.args.save c.args.sectors) _ tt _ _ (keeps_same _) c.from_residual.ensures.1 c.in_err-rom.ensures

pub returns-in_err-cartridge-clause-served : goal.returns-in_err-cartridge-clause-served
returns-in_err-cartridge-clause-served g c =
    no_cartridge_served (New c.args.cart c.args.save c.args.sectors) _ tt _ c.in_ok-rom.rom.items _ c.from_residual-in_err-cartridge.ensures.1 c.in_err-cartridge.ensures.refused

pub returns-in_err-making-clause-served : goal.returns-in_err-making-clause-served
returns-in_err-making-clause-served g c =
    unmade_served (New c.args.cart c.args.save c.args.sectors) _ tt _ _ tt (keeps_same _) c.from_residual-in_err-making.ensures.1 c.in_err-making.ensures.fault

pub returns-then-sectors-need-clause-served : goal.returns-then-sectors-need-clause-served
returns-then-sectors-need-clause-served g c =
    let why = too_few c.in_ok-cartridge.cartridge c.args.sectors _ _ c.sectors_needed-need.ensures c.sectors_or-sectors.ensures c.if-sectors-need.true in
    (keeps_same _, (c.in_ok-cartridge.cartridge, accepted_image _ _ c.in_ok-cartridge.ensures.image (c.in_ok-cartridge.ensures.accepted.0 (refl {a = true})), why))

pub returns-clause-served : goal.returns-clause-served
returns-clause-served g c =
    let why = game_unbegun c.in_ok-cartridge.cartridge c.args.sectors _ _ c.sectors_needed-need.ensures c.sectors_or-sectors.ensures c.in_ok-making.field-0.device _
    c.in_ok-making.ensures.zero c.in-Err.ensures.refused.cause in
    (keeps_same _, (c.in_ok-cartridge.cartridge, accepted_image _ _ c.in_ok-cartridge.ensures.image (c.in_ok-cartridge.ensures.accepted.0 (refl {a = true})), why))

use Rattle.std.proofs.Common.{◌≡◌, true}
use Rattle.session.specs.Accessors.{device_of, machine_of}
use Rattle.commands.proofs.Plays.{drawn, part_drawn, picture_drawn, refused_alike, undrawn_failed}
use Rattle.commands.proofs.play.play_and_draw.Goals as goal

pub returns-in-Ok-clause-plays : goal.returns-in-Ok-clause-plays
returns-in-Ok-clause-plays g c =
    drawn g.D.SectorDevice.disk c.args.device (device_of c.in-Ok.session) c.args.rom.items c.args.script.now (g.W.Output.contents c.args.report.now) (g.W.Output.contents c.play_script.new.report)
    (g.W.Output.has_failed c.play_script.new.report) c.picture_of.result c.picture_of.ensures.device c.picture_of.ensures.why c.in-Ok.ensures.plays

pub returns-in-Err-clause-plays : goal.returns-in-Err-clause-plays
returns-in-Err-clause-plays g c = refused_alike c.in-Err.ensures.plays

pub returns-in-Ok-clause-drawing : goal.returns-in-Ok-clause-drawing
returns-in-Ok-clause-drawing g c = undrawn_failed c.picture_of.result (g.P.Output.has_failed c.picture_of.new.out ≡ true) c.picture_of.ensures.failed

pub returns-in-Ok-clause-picture : goal.returns-in-Ok-clause-picture
returns-in-Ok-clause-picture g c = picture_drawn c.picture_of.result _ _ (machine_of c.in-Ok.session) c.in-Ok.ensures.last c.picture_of.ensures.picture

pub returns-in-Ok-clause-part : goal.returns-in-Ok-clause-part
returns-in-Ok-clause-part g c = part_drawn c.picture_of.result _ _ _ _ _ (machine_of c.in-Ok.session) c.in-Ok.ensures.last c.picture_of.ensures.why c.picture_of.ensures.part

use Rattle.sector_device.specs.FileDevice.{file_disk}
use Rattle.gbkeep.specs.Request.{record_limits}
use Rattle.gbkeep.proofs.Belonging.{looked_tape}
use Rattle.gbkeep.proofs.recordings.marked.Goals as goal

pub returns-in-Ok-clause-belongs : goal.returns-in-Ok-clause-belongs
returns-in-Ok-clause-belongs c =
    let found = c.known_of-found.ensures in
    looked_tape record_limits c.args.cartridge.now (file_disk c.args.game.save) (file_disk c.args.game.recording) (file_disk c.known_of-found.result.device) found.answered.honest.0 found.looked

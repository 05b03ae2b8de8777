use Rattle.std.proofs.Common.{lit≤}
use Rattle.sector_device.specs.FileDevice.{file_disk}
use Rattle.session.proofs.Beginnings.{if_ok}
use Rattle.gbkeep.proofs.Belonging.{replayed_more}
use Rattle.gbkeep.proofs.recordings.certain.Goals as goal

pub returns-clause-belongs : goal.returns-clause-belongs
returns-clause-belongs c =
    if_ok c.belonging.result c.belonging.ensures.belongs (λ now belongs _. replayed_more 18446744073709551615 c.args.cartridge.now (file_disk now.save) (file_disk now.recording) (lit≤ tt) belongs)

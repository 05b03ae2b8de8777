use Rattle.sector_device.proofs.file.FileDevice.create.Given as goal

abbrev pub ghost-new : goal.ghost-new
ghost-new g a = g.held

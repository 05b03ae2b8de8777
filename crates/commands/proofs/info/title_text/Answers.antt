use Rattle.commands.proofs.HeaderLines.{title_fits}
use Rattle.commands.proofs.info.title_text.Goals as goal

pub shown_title-title-requires : goal.shown_title-title-requires
shown_title-title-requires c = rw c.title.ensures (title_fits c.args.cartridge.now)

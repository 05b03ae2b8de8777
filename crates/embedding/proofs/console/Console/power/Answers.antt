use Rattle.session.proofs.Beginnings.{same_as_start}
use Rattle.embedding.proofs.console.Console.power.Goals as goal

pub powered-requires : goal.powered-requires
powered-requires c = same_as_start c.args.self.now.cartridge c.args.self.now.machine c.args.self.now.rom c.args.self.now.own

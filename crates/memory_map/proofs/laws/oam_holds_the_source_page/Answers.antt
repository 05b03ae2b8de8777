use Rattle.memory_map.proofs.CopyLaws.{oam_holds_the_page}
use Rattle.memory_map.proofs.laws.oam_holds_the_source_page.Goals as goal

pub returns : goal.returns
returns c = oam_holds_the_page

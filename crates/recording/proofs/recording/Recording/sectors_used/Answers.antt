use Rattle.std.proofs.Common.{◌≡◌, ◌<◌, length, arith}
use Rattle.std.proofs.lemmas.List.{nil_from_length}
use Rattle.std.proofs.lemmas.Bool.Decides.{nat_tests}
use Rattle.recording.proofs.Images.{used_full, used_more}
use Rattle.recording.proofs.recording.Recording.sectors_used.Goals as goal

pub returns-then-is_empty-clause-whole : goal.returns-then-is_empty-clause-whole
returns-then-is_empty-clause-whole g c = λ honest.
    let self = c.args.self.now in
    let none : length self.tail.items ≡ 0 = grind (arith, nat_tests) in
    used_full (g.D.SectorDevice.disk self.device).sectors self.full self.tail.items (self.stored c.requires honest).ends (self.kept c.requires).short (nil_from_length self.tail.items none)

pub returns-else-is_empty-clause-whole : goal.returns-else-is_empty-clause-whole
returns-else-is_empty-clause-whole g c = λ honest.
    let self = c.args.self.now in
    let some : 0 < length self.tail.items = grind (arith, nat_tests) in
    used_more (g.D.SectorDevice.disk self.device).sectors self.full self.tail.items (self.stored c.requires honest).ends (self.kept c.requires).short some

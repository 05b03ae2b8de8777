use Rattle.std.proofs.Common.{IsTrue, length, ℕ, ◌+◌, ap, ◌∙◌, rules}
use Rattle.std.proofs.lemmas.List.{length_push}
use Rattle.sector_device.specs.Records.{is_sector}
use Rattle.sector_device.proofs.Files.{sectors_push}
use Rattle.sector_device.proofs.file.read_sectors.Goals as goal

pub loop-at-preserved : goal.loop-at-preserved
loop-at-preserved c =
    let one : IsTrue (is_sector c.read_exact_at.new.buf) = search rules in
    record {
      size = ap length c.push_reserved.ensures.items ∙ length_push c.loop-at.sectors.items c.read_exact_at.new.buf ∙ ap (λ (n : ℕ). n + 1) c.loop-at.invariant.size;
      sized = rw c.push_reserved.ensures.items (sectors_push c.loop-at.sectors.items c.read_exact_at.new.buf c.loop-at.invariant.sized one);
      room = c.push_reserved.ensures.capacity ∙ c.loop-at.invariant.room;
    }

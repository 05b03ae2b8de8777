use Rattle.std.proofs.Common.{◌-◌, ◌*◌, sym, ap, ◌∙◌}
use Rattle.log_format.specs.Log.{padded}
use Rattle.log_format.proofs.Areas.{fresh_log_at, fresh_blob_at, part_is}
use Rattle.log_format.proofs.format.area_sector.Goals as goal

pub returns-then-index-lt-LOG_SECTORS_PER_AREA : goal.returns-then-index-lt-LOG_SECTORS_PER_AREA
returns-then-index-lt-LOG_SECTORS_PER_AREA c = c.padded_sector.ensures ∙ sym (fresh_log_at c.args.index c.args.blob.now c.if-index-lt-LOG_SECTORS_PER_AREA.true)

pub returns : goal.returns
returns c =
    let blob = c.args.blob.now in
    let from = 512 * (c.args.index - 32) in
    c.padded_sector-2.ensures
    ∙ ap padded (part_is 512 blob from c.min-to.result c.min-to.ensures)
    ∙ sym (fresh_blob_at c.args.index blob c.if-index-lt-LOG_SECTORS_PER_AREA.false c.requires.within)

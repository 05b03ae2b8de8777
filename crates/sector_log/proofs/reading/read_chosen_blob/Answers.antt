use Rattle.std.proofs.Common.{◌≡◌, ◌+◌, ◌-◌, ◌*◌, ◌/◌, ◌%◌, sym, ap, ◌∙◌, arith}
use Rattle.log_format.specs.Content.{area_length}
use Rattle.sector_log.proofs.Looking.{blob_long, blob_short, blob_read}
use Rattle.sector_log.proofs.reading.read_chosen_blob.Goals as goal

pub returns-clause-blob : goal.returns-clause-blob
returns-clause-blob g c = λ honest is.
    let old = g.D.SectorDevice.disk c.args.device.now in
    let root = c.in-Some.root in
    let area = c.area_length-area.result in
    let area_is : area_length old.sectors ≡ area = ap (λ n. (n - 2) / 2) (sym c.count-count.ensures) ∙ sym c.area_length-area.ensures in
    blob_read old.sectors root c.args.most (is ∙ c.in-Some.is) (c.area_start-start.result + 32) (area - 32) c.read_blob.new.blob.items
    (omega (arith, c.count-count.ensures, c.if-count-lt2.false)) c.if-size-most.false (omega (arith, area_is, c.if-area-size.false)) (omega (arith, area_is, c.if-area-size.false))
    (ap (λ n. n + 32) c.area_start-start.ensures.is ∙ ap (λ n. 2 + root.generation % 2 * n + 32) (sym area_is)) (c.in_ok-read_blob.ensures.blob honest)

pub returns-then-size-most-clause-blob : goal.returns-then-size-most-clause-blob
returns-then-size-most-clause-blob g c = λ honest is. blob_long (g.D.SectorDevice.disk c.args.device.now).sectors c.in-Some.root c.args.most (is ∙ c.in-Some.is) c.if-size-most.true

pub returns-then-area-size-clause-blob : goal.returns-then-area-size-clause-blob
returns-then-area-size-clause-blob g c = λ honest is.
    let old = g.D.SectorDevice.disk c.args.device.now in
    let area_is : area_length old.sectors ≡ c.area_length-area.result = ap (λ n. (n - 2) / 2) (sym c.count-count.ensures) ∙ sym c.area_length-area.ensures in
    blob_short old.sectors c.in-Some.root c.args.most (is ∙ c.in-Some.is) (omega (arith, c.count-count.ensures, c.if-count-lt2.false)) (omega (arith, area_is, c.if-area-size.true))

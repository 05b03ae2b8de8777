use Rattle.std.proofs.Common.{◌≡◌, length, nat_le, ap, ◌∙◌, arith}
use Rattle.log_format.specs.Appends.{grown}
use Rattle.sector_log.proofs.Appending.{too_many, fits_by_entries}
use Rattle.sector_log.proofs.store.Store.fits.Goals as goal

pub returns-then-more-self : goal.returns-then-more-self
returns-then-more-self g c = too_many c.args.self.now.log.items c.args.more.now (omega (arith, c.if-more-self.true, c.args.self.now.count, c.args.self.now.kept.few))

pub returns : goal.returns
returns g c =
    let log = c.args.self.now.log.items in
    let es = c.args.more.now in
    let size : c.grown_length.result ≡ length (grown log es) = c.grown_length.ensures ∙ ap (λ l. length (grown l es)) c.deref.ensures.value in
    ap (λ n. nat_le n 2688) size ∙ fits_by_entries log es (omega (arith, c.if-more-self.false, c.args.self.now.count, c.args.self.now.kept.few))

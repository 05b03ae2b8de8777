use Rattle.std.proofs.Common.{sym, ◌∙◌}
use Rattle.std.proofs.lemmas.Bool.{and_parts}
use Rattle.log_format.specs.Appends.{fits}
use Rattle.session.specs.Inputs.{can_be_logged}
use Rattle.session.specs.Calls.{fits_log}
use Rattle.sector_log.specs.Accessors.{id_of, entries_of}
use Rattle.snapshot.specs.Encoding.{encoded}
use Rattle.session.proofs.Writes.{inputs_listed, since_appended, since_replaced, written_behind}
use Rattle.session.proofs.save.write_pending.Goals as goal

pub append-requires : goal.append-requires
append-requires g c =
    inputs_listed c.args.pending.now (and_parts (can_be_logged c.args.pending.now) (fits (entries_of c.args.store.now) c.args.pending.now) (sym c.fits_log.ensures ∙ c.if-fits_log.true)).0

pub returns-in-Ok-clause-images : goal.returns-in-Ok-clause-images
returns-in-Ok-clause-images g c = λ honest. since_appended (fits_log (entries_of c.args.store.now) c.args.pending.now) (id_of c.args.store.now) c.args.all (encoded c.args.machine.now) (sym c.fits_log.ensures ∙ c.if-fits_log.true) (c.append.ensures.images c.requires.open honest)

pub returns-in-Err-clause-images : goal.returns-in-Err-clause-images
returns-in-Err-clause-images g c = λ honest. since_appended (fits_log (entries_of c.args.store.now) c.args.pending.now) (id_of c.args.store.now) c.args.all (encoded c.args.machine.now) (sym c.fits_log.ensures ∙ c.if-fits_log.true) (c.append.ensures.images c.requires.open honest)

pub returns-in-Ok-clause-written : goal.returns-in-Ok-clause-written
returns-in-Ok-clause-written g c = λ honest.
    written_behind _ _ _ _ _ _ _ _ _ (sym c.fits_log.ensures ∙ c.if-fits_log.true) (c.in-Ok.ensures.appended.appended honest) c.in-Ok.ensures.appended.entries_are (c.in-Ok.ensures.appended.reads honest)

pub returns-in-Ok-replace-clause-images : goal.returns-in-Ok-replace-clause-images
returns-in-Ok-replace-clause-images g c = λ honest. since_replaced (fits_log (entries_of c.args.store.now) c.args.pending.now) c.args.pending.now (sym c.fits_log.ensures ∙ c.if-fits_log.false) c.encode.ensures.encoded (c.replace.ensures.images c.requires.open honest)

pub returns-in-Err-replace-clause-images : goal.returns-in-Err-replace-clause-images
returns-in-Err-replace-clause-images g c = λ honest. since_replaced (fits_log (entries_of c.args.store.now) c.args.pending.now) c.args.pending.now (sym c.fits_log.ensures ∙ c.if-fits_log.false) c.encode.ensures.encoded (c.replace.ensures.images c.requires.open honest)

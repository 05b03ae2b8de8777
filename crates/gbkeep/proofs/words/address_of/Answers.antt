use Rattle.std.proofs.Common.{sym}
use Rattle.gbkeep.proofs.Addresses.{unread_is_no_address}
use Rattle.gbkeep.proofs.words.address_of.Goals as goal

pub returns-in-Err : goal.returns-in-Err
returns-in-Err c =
    unread_is_no_address c.args.text.now c.in-Err.field-0 c.if-text-gt4.false (sym c.if-has_plus.ensures) c.in-Err.ensures.value

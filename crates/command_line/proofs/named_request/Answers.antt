use Rattle.std.proofs.Common.{◌≡◌, ◌∷◌, None, arith, codes, find, rules}
use Rattle.clap.specs.Words.{first_of, found_of, rows_of}
use Rattle.command_line.specs.Commands.{PassesAs, commands, given_at, is_named, number}
use Rattle.command_line.specs.Words.{AsksFor, IsCommand}
use Rattle.command_line.specs.declared.Request.TheVariants.{Debug, Import, New, Test}
use Rattle.command_line.proofs.Named.{number_or_none, unnamed, word_or_none}
use Rattle.command_line.proofs.named_request.Goals as goal

pub returns-in-info : goal.returns-in-info
returns-in-info c = rw c.in-info.is (λ words command passes. rw c.operand-cart.ensures command)

pub returns-in-list : goal.returns-in-list
returns-in-list c = rw c.in-list.is (λ words command passes.
    (given_at (codes "COUNT") (rows_of (found_of c.args.values.now)), rw (c.operand-cart.ensures, c.operand.ensures) command, c.number.ensures 1 4096 (omega arith) passes.1.1.0))

pub returns-in-step : goal.returns-in-step
returns-in-step c = rw c.in-step.is (λ words command passes.
    (given_at (codes "COUNT") (rows_of (found_of c.args.values.now)), rw c.operand-cart.ensures command, c.number-in-step.ensures 0 1000000 (omega arith) passes.1.0))

pub returns-in-new : goal.returns-in-new
returns-in-new c = rw c.in-new.is (λ words command passes.
    let rows = rows_of (found_of c.args.values.now) in
    number_or_none (λ more. IsCommand words (codes "new") (c.operand-cart.result.now ∷ c.operand-save.result.now ∷ more)) 1 65536 (PassesAs (number (codes "SECTORS") 1 65536) rows)
    (λ o. AsksFor words (New c.operand-cart.result c.operand-save.result o)) (λ asked. asked) (λ n number asked within. (number, asked, within))
    (first_of (codes "SECTORS") rows) c.optional_number.result c.optional_number.ensures.none (λ given passing. c.optional_number.ensures.some 1 65536 given (omega arith) passing) passes.1.1.0
    (rw (c.operand-cart.ensures, c.operand-save.ensures) command))

pub returns-in-play : goal.returns-in-play
returns-in-play c = rw c.in-play.is (λ words command passes. rw (c.operand-cart.ensures, c.operand-save.ensures, c.operand-in-play.ensures) command)

pub returns-in-frame : goal.returns-in-frame
returns-in-frame c = rw c.in-frame.is (λ words command passes. rw (c.operand-cart.ensures, c.operand-save.ensures, c.operand-out.ensures) command)

pub returns-in-trace : goal.returns-in-trace
returns-in-trace c = rw c.in-trace.is (λ words command passes.
    (given_at (codes "COUNT") (rows_of (found_of c.args.values.now)), rw (c.operand-cart.ensures, c.operand-save.ensures) command, c.number-in-trace.ensures 1 1024 (omega arith) passes.1.1.0))

pub returns-in-stream : goal.returns-in-stream
returns-in-stream c = rw c.in-stream.is (λ words command passes. rw (c.operand-cart.ensures, c.operand-save.ensures) command)

pub returns-in-test : goal.returns-in-test
returns-in-test c = rw c.in-test.is (λ words command passes.
    let rows = rows_of (found_of c.args.values.now) in
    let frames = given_at (codes "FRAMES") rows in
    let within = c.number-in-test.ensures 1 1000000 (omega arith) passes.1.0 in
    word_or_none (λ more. IsCommand words (codes "test") (c.operand-cart.result.now ∷ frames ∷ more)) (λ o. AsksFor words (Test c.operand-cart.result c.number-in-test.result o))
    (λ asked. (frames, asked, within)) (λ s asked. (frames, asked, within)) (first_of (codes "SCRIPT") rows) c.optional_operand.result c.optional_operand.ensures
    (rw c.operand-cart.ensures command))

pub returns-in-text : goal.returns-in-text
returns-in-text c = rw c.in-text.is (λ words command passes.
    (given_at (codes "SECTORS") (rows_of (found_of c.args.values.now)), rw (c.operand-cart.ensures, c.operand-recording.ensures) command, c.number-in-text.ensures 1 65536 (omega arith) passes.1.1.0))

pub returns-in-record : goal.returns-in-record
returns-in-record c = rw c.in-record.is (λ words command passes. rw (c.operand-cart.ensures, c.operand-save.ensures, c.operand-recording.ensures) command)

pub returns-in-recorded : goal.returns-in-recorded
returns-in-recorded c = rw c.in-recorded.is (λ words command passes. rw (c.operand-cart.ensures, c.operand-recording.ensures) command)

pub returns-in-verify : goal.returns-in-verify
returns-in-verify c = rw c.in-verify.is (λ words command passes. rw (c.operand-cart.ensures, c.operand-save.ensures, c.operand-recording.ensures) command)

pub returns-in-show : goal.returns-in-show
returns-in-show c = rw c.in-show.is (λ words command passes. rw (c.operand-cart.ensures, c.operand-save.ensures) command)

pub returns-in-export : goal.returns-in-export
returns-in-export c = rw c.in-export.is (λ words command passes. rw (c.operand-cart.ensures, c.operand-save.ensures, c.operand-out.ensures) command)

pub returns-in-import : goal.returns-in-import
returns-in-import c = rw c.in-import.is (λ words command passes.
    let rows = rows_of (found_of c.args.values.now) in
    number_or_none (λ more. IsCommand words (codes "import") (c.operand-cart.result.now ∷ c.operand-in-import.result.now ∷ c.operand-save.result.now ∷ more)) 1 65536 (PassesAs (number (codes "SECTORS") 1 65536) rows)
    (λ o. AsksFor words (Import c.operand-cart.result c.operand-in-import.result c.operand-save.result o)) (λ asked. asked) (λ n number asked within. (number, asked, within))
    (first_of (codes "SECTORS") rows) c.optional_number-in-import.result c.optional_number-in-import.ensures.none (λ given passing. c.optional_number-in-import.ensures.some 1 65536 given (omega arith) passing) passes.1.1.1.0
    (rw (c.operand-cart.ensures, c.operand-in-import.ensures, c.operand-save.ensures) command))

pub returns-in-debug : goal.returns-in-debug
returns-in-debug c = rw c.in-debug.is (λ words command passes.
    word_or_none (λ more. IsCommand words (codes "debug") (c.operand-cart.result.now ∷ more)) (λ o. AsksFor words (Debug c.operand-cart.result o)) (λ asked. asked) (λ s asked. asked)
    (first_of (codes "SAVE") (rows_of (found_of c.args.values.now))) c.optional_operand-in-debug.result c.optional_operand-in-debug.ensures (rw c.operand-cart.ensures command))

pub returns-in_default : goal.returns-in_default
returns-in_default c = λ words command matched.
    let none : find (is_named c.args.name.now) commands ≡ None = unnamed c.args.name.now commands (search rules) in
    rw none at matched

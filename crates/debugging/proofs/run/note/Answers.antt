use Rattle.std.proofs.Common.{◌∙◌, ℕ, Option, ◌++◌, ap, append-nil, sym}
use Rattle.circular_buffer.specs.Buffer.{keep_last}
use Rattle.machine.specs.Watched.{byte_list}
use Rattle.debugger.proofs.Histories.{keep_last-all}
use Rattle.debugging.proofs.run.note.Goals as goal

pub returns-in_default-clause-items : goal.returns-in_default-clause-items
returns-in_default-clause-items c =
    let sent = c.args.sent.now in
    sym (ap (λ (byte : Option ℕ). keep_last sent.capacity (sent.items ++ byte_list byte)) c.in_default.is
    ∙ ap (keep_last sent.capacity) (append-nil sent.items) ∙ keep_last-all sent.capacity sent.items c.requires)

use Rattle.std.proofs.Common.{◌≡◌, ◌∙◌, List, ℕ, length, drop, sym, ap, arith}
use Rattle.std.specs.Str.{bytes_eq}
use Rattle.std.proofs.lemmas.Slice.Eq.{bytes_eq-Decides}
use Rattle.snapshot.specs.Encoding.{encoded}
use Rattle.session.proofs.Looks.{filled}
use Rattle.replaying.proofs.verifying.has_snapshot.Goals as goal

pub returns-clause-same : goal.returns-clause-same
returns-clause-same c =
    let m = c.args.machine.now in
    let wanted = c.args.snapshot.now in
    let whole : c.as_slice.result.now ≡ encoded m = filled c.as_slice.result.now c.encode.new.out (encoded m) (drop (length c.encode.new.out) c.in-Ok.room.items) c.in-Ok.room.len c.as_slice.ensures.value (omega arith) c.encode.ensures.encoded in
    let equal : c.eq.result ≡ bytes_eq (encoded m) wanted = c.eq.ensures ∙ ap (λ (l : List ℕ). bytes_eq l wanted) whole in
    let decides = bytes_eq-Decides (encoded m) wanted in
    (λ yes. decides.0 (sym equal ∙ yes), λ same. equal ∙ decides.1 same)

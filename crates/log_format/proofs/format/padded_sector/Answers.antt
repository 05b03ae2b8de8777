use Rattle.std.proofs.Common.{◌++◌, length, drop, ap, ◌∙◌, List, ℕ}
use Rattle.std.proofs.lemmas.List.{drop-replicate}
use lib.ListN.{replicate}
use Rattle.log_format.proofs.format.padded_sector.Goals as goal

pub returns : goal.returns
returns c =
    ap (λ (l : List ℕ). l ++ drop (length c.args.part.now) (replicate 512 0)) c.copy_from_slice.ensures.after
    ∙ ap (λ (l : List ℕ). c.args.part.now ++ l) (drop-replicate (length c.args.part.now) 512 0)

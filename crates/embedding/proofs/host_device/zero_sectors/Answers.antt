use Rattle.std.proofs.Common.{◌≡◌, ◌∷◌, ◌++◌, [], List, ℕ, replicate, ap, ◌∙◌, arith}
use Rattle.std.proofs.lemmas.List.{replicate-append-replicate}
use Rattle.embedding.specs.Calls.{blank}
use Rattle.embedding.proofs.host_device.zero_sectors.Goals as goal

pub loop-preserved : goal.loop-preserved
loop-preserved c = record {
  items = c.push_reserved.ensures.items ∙ ap (λ (s : List (List ℕ)). s ++ replicate 512 0 ∷ []) c.loop.invariant.items ∙ replicate-append-replicate c.loop.counter 1 (replicate 512 0);
  room = c.push_reserved.ensures.capacity ∙ c.loop.invariant.room;
}

pub returns : goal.returns
returns c = let ends : c.loop.counter ≡ c.args.count = omega arith in c.loop.invariant.items ∙ ap blank ends

use Rattle.embedding.proofs.game.Game.input.Goals as goal

pub returns-clause-kept : goal.returns-clause-kept
returns-clause-kept c =
    let is = c.input.ensures in
    record { device = is.device; saved = is.saved; rom = is.kept.2; broken = is.kept.1; log = is.log.0; generation = is.log.1 }

use Rattle.std.proofs.Common.{◌≡◌, List, [], ◌∷◌, ◌++◌, length, true, false, inr, refl, sym, subst, true≢false, arith}
use Rattle.std.proofs.lemmas.List.{take_all}
use Rattle.whole_lives.specs.Lives.{Files}
use Rattle.whole_lives.specs.Devices.{AreRounds, HasLived, memories, memories_of, position_of, texts_of, all_texts, reports_of, wholes_of}
use Rattle.whole_lives.specs.declared.rounds.Round.{Round}
use Rattle.whole_lives.proofs.Behind.{lived_both, rounds_leave}
use Rattle.whole_lives.proofs.lives.live.Goals as goal

pub returns-in-Ok-play-clause-lived : goal.returns-in-Ok-play-clause-lived
returns-in-Ok-play-clause-lived g c = λ agree.
    let rom = c.args.cartridge.now in
    let first = memories c.args.devices in
    let now = memories c.in-Ok.lived.0 in
    let given = c.in-Ok-play.given in
    let ends = c.in-Ok.lived.1.items in
    let come = rounds_leave g.P.Player.asks g.P.Player.obeys g.P.Player.refuses rom c.args.rounds.now first now (reports_of ends) (wholes_of ends) c.in-Ok.ensures.rounds in
    let gives = c.in-Ok-play.ensures.gives in
    let found = gives.ends (come.agree agree) in
    let files = found.0 in
    let both = lived_both g.P.Player.asks rom first now (memories_of given.game) (texts_of c.args.rounds.now) (reports_of ends) (wholes_of ends) ([] ∷ []) (given.report.items ∷ []) (true ∷ []) come gives.leaves in
    let same : files ≡ record { save = position_of given.game; recorded = files.recorded } = λ i. record { save = found.2 i; recorded = files.recorded } in
    (files.recorded, subst (λ (f : Files). HasLived g.P.Player.asks rom first (all_texts c.args.rounds.now) (reports_of ends ++ given.report.items ∷ []) (wholes_of ends ++ true ∷ []) f) same (both.lives agree files found.1))

pub returns-in-Ok-play-clause-rounds : goal.returns-in-Ok-play-clause-rounds
returns-in-Ok-play-clause-rounds g c =
    let gives = c.in-Ok-play.ensures.gives in
    record {
      left = memories c.in-Ok.lived.0;
      rounds_are = c.in-Ok.ensures.rounds;
      taken_up = record { leaves = gives.leaves; said = gives.said; counts = gives.counts; blown = λ no. absurd (true≢false no) };
    }

pub returns-in-Err-play-clause-left : goal.returns-in-Err-play-clause-left
returns-in-Err-play-clause-left g c =
    let ends = c.in-Ok.lived.1.items in
    let stops = c.in-Err-play.ensures.stops in
    record {
      texts = all_texts c.args.rounds.now;
      reports = reports_of ends ++ stops.front ∷ [];
      wholes = wholes_of ends ++ false ∷ [];
      are = inr refl;
      leaves = lived_both g.P.Player.asks c.args.cartridge.now (memories c.args.devices) (memories c.in-Ok.lived.0) (memories c.in-Err-play.stopped.refused.devices) (texts_of c.args.rounds.now) (reports_of ends) (wholes_of ends) ([] ∷ []) (stops.front ∷ []) (false ∷ [])
          (rounds_leave g.P.Player.asks g.P.Player.obeys g.P.Player.refuses c.args.cartridge.now c.args.rounds.now (memories c.args.devices) (memories c.in-Ok.lived.0) (reports_of ends) (wholes_of ends) c.in-Ok.ensures.rounds) stops.leaves;
    }

pub returns-in-Err-play-clause-refused : goal.returns-in-Err-play-clause-refused
returns-in-Err-play-clause-refused g c =
    let rom = c.args.cartridge.now in
    let rounds = c.args.rounds.now in
    let ends = c.in-Ok.lived.1.items in
    let now = memories c.in-Ok.lived.0 in
    inr (record {
      done = length rounds;
      now = now;
      reports = reports_of ends;
      wholes = wholes_of ends;
      come = subst (λ (l : List Round). AreRounds g.P.Player.asks g.P.Player.obeys g.P.Player.refuses rom l (memories c.args.devices) now (reports_of ends) (wholes_of ends)) (sym (take_all (length rounds) rounds (omega arith))) c.in-Ok.ensures.rounds;
      refused = inr (refl, (_, c.in-Err-play.ensures.stops.refused));
    })

pub returns-in-Err-play-clause-sound : goal.returns-in-Err-play-clause-sound
returns-in-Err-play-clause-sound g c =
    let ends = c.in-Ok.lived.1.items in
    let come = rounds_leave g.P.Player.asks g.P.Player.obeys g.P.Player.refuses c.args.cartridge.now c.args.rounds.now (memories c.args.devices) (memories c.in-Ok.lived.0) (reports_of ends) (wholes_of ends) c.in-Ok.ensures.rounds in
    λ stand. c.in-Err-play.ensures.sound (come.stand stand)

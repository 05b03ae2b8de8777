use Rattle.std.proofs.Common.{◌≡◌, List, [], ◌∷◌, ◌++◌, length, take, get_or, ◌+◌, inl, inr, refl, sym, ap, subst, arith}
use Rattle.std.proofs.lemmas.List.{take_all, length_push}
use Rattle.std.proofs.lemmas.Option.{slice_get-get_or}
use Rattle.whole_lives.specs.Devices.{AreRounds, IsCutRound, LeavesRound, RefusesRound, memories, texts_of, reports_of, wholes_of}
use Rattle.whole_lives.specs.declared.rounds.Round.{Round}
use Rattle.whole_lives.specs.declared.rounds.RoundEnd.{RoundEnd}
use Rattle.whole_lives.proofs.Behind.{ends_more, lived_both, lived_nothing, rounds_leave, rounds_more, take_more, texts_more}
use Rattle.whole_lives.proofs.lives.live_rounds.Goals as goal

pub returns-in_default-clause-left : goal.returns-in_default-clause-left
returns-in_default-clause-left g c = record { texts = []; reports = []; wholes = []; are = inl (0, refl); leaves = lived_nothing g.P.Player.asks c.args.cartridge.now (memories c.args.devices) }

pub loop-round-init : goal.loop-round-init
loop-round-init g c =
    let none : c.in-Ok.ends.items ≡ [] = c.in-Ok.ensures.items in
    let first = memories c.args.devices in
    record {
      rounds = subst (λ (ends : List RoundEnd). AreRounds g.P.Player.asks g.P.Player.obeys g.P.Player.refuses c.args.cartridge.now [] first first (reports_of ends) (wholes_of ends)) (sym none) refl;
      size = ap length none;
      room = omega (arith, c.in-Ok.ensures.capacity);
    }

pub push_reserved-requires : goal.push_reserved-requires
push_reserved-requires g c = omega (arith, c.loop-round.invariant.size, c.loop-round.invariant.room, c.loop-round-test.true)

pub returns-in-Err-clause-left : goal.returns-in-Err-clause-left
returns-in-Err-clause-left g c =
    let rom = c.args.cartridge.now in
    let rounds = c.args.rounds.now in
    let i = c.loop-round.round-index in
    let ends = c.loop-round.ends.items in
    let first = memories c.args.devices in
    let now = memories c.loop-round.left in
    let left = memories c.in-Err.refused.devices in
    let stopped = c.in-Err.ensures.stopped in
    let lines = (get_or rounds i c.round-item.result).lines.items in
    record {
      texts = texts_of (take i rounds) ++ lines ∷ [];
      reports = reports_of ends ++ stopped.0 ∷ [];
      wholes = wholes_of ends ++ stopped.1 ∷ [];
      are = inl (i + 1, texts_more rounds i c.round-item.result c.loop-round-test.true);
      leaves = lived_both g.P.Player.asks rom first now left (texts_of (take i rounds)) (reports_of ends) (wholes_of ends) (lines ∷ []) (stopped.0 ∷ []) (stopped.1 ∷ [])
          (rounds_leave g.P.Player.asks g.P.Player.obeys g.P.Player.refuses rom (take i rounds) first now (reports_of ends) (wholes_of ends) c.loop-round.invariant.rounds)
          (subst (λ (round : Round). LeavesRound g.P.Player.asks rom now left round.lines.items stopped.0 stopped.1) c.round-item.is stopped.2);
    }

pub returns-in-Err-clause-refused : goal.returns-in-Err-clause-refused
returns-in-Err-clause-refused g c =
    let rom = c.args.cartridge.now in
    let rounds = c.args.rounds.now in
    let i = c.loop-round.round-index in
    let now = memories c.loop-round.left in
    let refused = c.in-Err.refused in
    inr (record {
      done = i;
      now = now;
      reports = reports_of c.loop-round.ends.items;
      wholes = wholes_of c.loop-round.ends.items;
      come = c.loop-round.invariant.rounds;
      refused = inl (_, slice_get-get_or rounds i c.round-item.result c.loop-round-test.true, subst (λ (round : Round). RefusesRound g.P.Player.asks g.P.Player.obeys g.P.Player.refuses rom now (memories refused.devices) round refused.why) c.round-item.is c.in-Err.ensures.refused);
    })

pub returns-in-Err-clause-sound : goal.returns-in-Err-clause-sound
returns-in-Err-clause-sound g c =
    let ends = c.loop-round.ends.items in
    let leaves = rounds_leave g.P.Player.asks g.P.Player.obeys g.P.Player.refuses c.args.cartridge.now (take c.loop-round.round-index c.args.rounds.now) (memories c.args.devices) (memories c.loop-round.left) (reports_of ends) (wholes_of ends) c.loop-round.invariant.rounds in
    λ stand. c.in-Err.ensures.sound (leaves.stand stand)

pub loop-round-preserved : goal.loop-round-preserved
loop-round-preserved g c =
    let rom = c.args.cartridge.now in
    let rounds = c.args.rounds.now in
    let i = c.loop-round.round-index in
    let ends = c.loop-round.ends.items in
    let end = c.in-Ok-one_round.end in
    let first = memories c.args.devices in
    let now = memories c.loop-round.left in
    let next = memories c.in-Ok-one_round.devices in
    let cut = subst (λ (round : Round). IsCutRound g.P.Player.asks g.P.Player.obeys g.P.Player.refuses rom now round next end.report.items end.whole) c.round-item.is c.in-Ok-one_round.ensures.cut in
    record {
      rounds =
          subst (λ (l : List RoundEnd). AreRounds g.P.Player.asks g.P.Player.obeys g.P.Player.refuses rom (take (i + 1) rounds) first next (reports_of l) (wholes_of l)) (sym c.push_reserved.ensures.items)
          (ends_more (AreRounds g.P.Player.asks g.P.Player.obeys g.P.Player.refuses rom (take (i + 1) rounds) first next) ends end
          (subst (λ (l : List Round). AreRounds g.P.Player.asks g.P.Player.obeys g.P.Player.refuses rom l first next (reports_of ends ++ end.report.items ∷ []) (wholes_of ends ++ end.whole ∷ [])) (take_more rounds i c.round-item.result c.loop-round-test.true)
          (rounds_more g.P.Player.asks g.P.Player.obeys g.P.Player.refuses rom (take i rounds) first now next (reports_of ends) (wholes_of ends) _ end.report.items end.whole c.loop-round.invariant.rounds cut)));
      size = omega (arith, c.loop-round.invariant.size, ap length c.push_reserved.ensures.items, length_push ends end);
      room = omega (arith, c.loop-round.invariant.room, c.push_reserved.ensures.capacity);
    }

pub returns-clause-rounds : goal.returns-clause-rounds
returns-clause-rounds g c =
    let ends = c.loop-round.ends.items in
    subst (λ (l : List Round). AreRounds g.P.Player.asks g.P.Player.obeys g.P.Player.refuses c.args.cartridge.now l (memories c.args.devices) (memories c.loop-round.left) (reports_of ends) (wholes_of ends)) (take_all c.loop-round.round-index c.args.rounds.now c.loop-round-test.false)
    c.loop-round.invariant.rounds

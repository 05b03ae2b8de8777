use Rattle.std.proofs.Common.{true, sym, subst, true≢false, refl}
use Rattle.whole_lives.specs.Devices.{Memories, CountsCut, KeepFuses, LeavesRound, memories}
use Rattle.whole_lives.proofs.FuseLaws.{ended_by_fuse}
use Rattle.whole_lives.proofs.rounds.play_until_cut.Goals as goal

pub returns-in-Ok-clause-played : goal.returns-in-Ok-clause-played
returns-in-Ok-clause-played g c =
    let gives = c.in-Ok.ensures.gives in
    let old = memories c.args.devices in
    record {
      leaves = subst (λ (m : Memories). LeavesRound g.P.Player.asks c.args.cartridge.now old m c.args.lines.now c.in-Ok.given.report.items true) (sym c.into_devices.ensures) gives.leaves;
      said = subst (λ (m : Memories). g.P.Player.obeys c.args.cartridge.now old m c.args.lines.now c.in-Ok.given.report.items) (sym c.into_devices.ensures) gives.said;
      counts = subst (CountsCut true old) (sym c.into_devices.ensures) gives.counts;
      blown = λ no. absurd (true≢false no);
    }

pub returns-else-not-is_by_fuse-clause-played : goal.returns-else-not-is_by_fuse-clause-played
returns-else-not-is_by_fuse-clause-played g c = ended_by_fuse c.in-Err.ensures.stops (c.if-not-is_by_fuse.ensures.yes refl)

pub returns-in-Ok-clause-fuses : goal.returns-in-Ok-clause-fuses
returns-in-Ok-clause-fuses g c = subst (KeepFuses (memories c.args.devices)) (sym c.into_devices.ensures) c.in-Ok.ensures.gives.fuses

pub returns-else-not-is_by_fuse-clause-fuses : goal.returns-else-not-is_by_fuse-clause-fuses
returns-else-not-is_by_fuse-clause-fuses g c = c.in-Err.ensures.stops.fuses

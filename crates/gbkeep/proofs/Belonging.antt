-- A recording that was compared with its game is still that of the game once both were looked at.
use Rattle.std.proofs.Common.{ℕ, ◌≤◌, List, Some, sym, subst, arith}
use Rattle.sector_device.specs.DiskState.{DiskState}
use Rattle.sector_device.specs.Looking.{HasLooked}
use Rattle.replaying.specs.Verifying.{IsVerifiedWithin}
use Rattle.replaying.specs.declared.verifying.Limits.{Limits}
use Rattle.gbkeep.specs.Request.{Belongs, limits_up_to, record_limits}

-- both were compared, and then only looked at
pub looked_both : (limits : Limits) (rom : List ℕ) (old_game game old_tape tape : DiskState) (count : ℕ) → (game.honest → old_game.honest) → (tape.honest → old_tape.honest) → (old_game.honest → HasLooked old_game game)
    → (old_tape.honest → HasLooked old_tape tape) → (old_game.honest → old_tape.honest → IsVerifiedWithin (Some limits) rom old_game.sectors old_tape.sectors count) → Belongs limits rom game tape
looked_both limits rom old_game game old_tape tape count honest tape_honest look tape_look verified = record {
  count = count;
  verified = λ now tape_now.
      subst (λ (s : List (List ℕ)). IsVerifiedWithin (Some limits) rom s tape.sectors count) (sym (look (honest now)).sectors)
      (subst (λ (s : List (List ℕ)). IsVerifiedWithin (Some limits) rom old_game.sectors s count) (sym (tape_look (tape_honest tape_now)).sectors) (verified (honest now) (tape_honest tape_now)));
}

-- the recording was looked at once more
pub looked_tape : (limits : Limits) (rom : List ℕ) (game old_tape tape : DiskState) → (tape.honest → old_tape.honest) → (old_tape.honest → HasLooked old_tape tape) → Belongs limits rom game old_tape → Belongs limits rom game tape
looked_tape limits rom game old_tape tape tape_honest tape_look belongs = record {
  count = belongs.count;
  verified = λ now tape_now.
      subst (λ (s : List (List ℕ)). IsVerifiedWithin (Some limits) rom game.sectors s belongs.count) (sym (tape_look (tape_honest tape_now)).sectors) (belongs.verified now (tape_honest tape_now));
}

-- a longer game was replayed than `record` replays
pub replayed_more : (replayed : ℕ) (rom : List ℕ) (game tape : DiskState) → 20000 ≤ replayed → Belongs (limits_up_to replayed) rom game tape → Belongs record_limits rom game tape
replayed_more replayed rom game tape more belongs = record {
  count = belongs.count;
  verified = λ now tape_now.
      let found = belongs.verified now tape_now in
      let leads = found.holds.1 in record {
        at = found.at;
        entries = found.entries;
        stood = found.stood;
        recorded_is = found.recorded_is;
        holds = (found.holds.0, record { enough = leads.enough; near = leads.near; machine_is = λ few. leads.machine_is (omega arith) });
      };
}

use Rattle.std.proofs.Common.{◌≡◌, ◌<◌, ◌+◌, List, ℕ, length, ap, sym, ◌∙◌, arith, length-set, Vec, Global, true, false}
use Rattle.sector_device.proofs.Images.{apply_write, apply_none, recordable_next}
use Rattle.sector_device.proofs.replay.apply_chosen.Goals as goal
use Rattle.sector_device.proofs.replay.apply_chosen.Goals.{in-Write, then-choice_at, else-choice_at, in-Sync}

pub loop-call-preserved : goal.loop-call-preserved
loop-call-preserved c =
    let calls = c.args.calls.now in
    let i = c.loop-call.call-index in
    let s = c.loop-call.sectors.items in
    let inv = c.loop-call.invariant in
    let lt : i < length calls = omega arith in
    elim c.match-call.branch [
      | in-Write w ↦
          let step : c.match-call.choice ≡ c.loop-call.choice + 1 = w.choice-is in
          elim w.if-choice_at.branch [
            | then-choice_at v ↦
                let put = ap (λ (x : Vec (List ℕ) Global). x.items) (w.sectors-is ∙ v.sectors-is) in
                record {
                  cut = rw step (apply_write calls c.args.kept.now i c.loop-call.choice _ w.in-Write.at w.in-Write.bytes w.in-Write.kept true s c.match-call.sectors.items _ lt w.in-Write.is (sym w.choice_at.ensures ∙ v.if-choice_at.true) put inv.cut);
                  recordable = recordable_next (length s) (length c.match-call.sectors.items) calls i _ _ lt w.in-Write.is (ap length put ∙ length-set s w.in-Write.at w.in-Write.bytes) inv.recordable;
                  choice = omega arith;
                }
            | else-choice_at v ↦
                let put = ap (λ (x : Vec (List ℕ) Global). x.items) (w.sectors-is ∙ v.sectors-is) in
                record {
                  cut = rw step (apply_write calls c.args.kept.now i c.loop-call.choice _ w.in-Write.at w.in-Write.bytes w.in-Write.kept false s c.match-call.sectors.items _ lt w.in-Write.is (sym w.choice_at.ensures ∙ v.if-choice_at.false) put inv.cut);
                  recordable = recordable_next (length s) (length c.match-call.sectors.items) calls i _ _ lt w.in-Write.is (ap length put) inv.recordable;
                  choice = omega arith;
                }
          ]
      | in-Sync w ↦
          let put = ap (λ (x : Vec (List ℕ) Global). x.items) w.sectors-is in
          record {
            cut = rw w.choice-is (apply_none calls c.args.kept.now i c.loop-call.choice _ w.in-Sync.done s c.match-call.sectors.items _ lt w.in-Sync.is put inv.cut);
            recordable = recordable_next (length s) (length c.match-call.sectors.items) calls i _ _ lt w.in-Sync.is (ap length put) inv.recordable;
            choice = omega arith;
          }
    ]

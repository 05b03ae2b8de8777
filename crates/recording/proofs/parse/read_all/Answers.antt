use Rattle.std.proofs.Common.{◌≡◌, ◌+◌, ◌-◌, ◌*◌, ◌++◌, ◌∷◌, ℕ, List, [], length, take, drop, sym, ap, ◌∙◌, arith}
use Rattle.std.proofs.lemmas.List.{drop-drop}
use Rattle.recording.specs.Format.{stored}
use Rattle.recording.proofs.ListBytes.{length-entries_from, entries_more}
use Rattle.recording.proofs.parse.read_all.Goals as goal

pub push_reserved-requires : goal.push_reserved-requires
push_reserved-requires c =
    omega (arith, ap length c.loop-i.invariant.items, length-entries_from c.loop-i.i (drop 10 c.args.sector.now), c.requires.room, c.requires.few, c.loop-i.invariant.capacity, c.loop-i-test.true)

pub loop-i-preserved : goal.loop-i-preserved
loop-i-preserved c =
    let sector = c.args.sector.now in
    let i = c.loop-i.i in
    let six : 10 + 6 * i + 6 - (10 + 6 * i) ≡ 6 = omega arith in
    let one : c.read_entry.result ≡ stored (take 6 (drop (6 * i) (drop 10 sector))) =
    c.read_entry.ensures ∙ ap (λ n. stored (take n (drop (10 + 6 * i) sector))) six ∙ ap (λ (l : List ℕ). stored (take 6 l)) (sym (drop-drop (6 * i) 10 sector)) in
    record {
      items = c.push_reserved.ensures.items
          ∙ (λ j. c.loop-i.invariant.items j ++ one j ∷ [])
          ∙ sym (entries_more i (drop 10 sector));
      capacity = omega (arith, c.loop-i.invariant.capacity, c.push_reserved.ensures.capacity);
    }

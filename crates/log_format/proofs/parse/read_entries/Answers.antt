use Rattle.std.proofs.Common.{◌≡◌, ◌==◌, ◌+◌, ◌-◌, ◌*◌, ◌++◌, ◌∷◌, List, [], length, take, drop, refl, sym, ap, ◌∙◌, arith, length-append, append_assoc}
use Rattle.log_format.specs.Log.{stored, width, entries_from, entries_at}
use Rattle.input_entries.specs.declared.StoredEntry.{StoredEntry}
use Rattle.log_format.proofs.Parsing.{chunk_at, few_fill, length-entries_from, entries_more, entries_by_count}
use Rattle.log_format.proofs.parse.read_entries.Goals as goal

pub push_reserved-requires : goal.push_reserved-requires
push_reserved-requires c =
    let sector = c.args.sector.now in
    let v = c.args.version in
    let i = c.loop-i.i in
    let size : length c.loop-i.log.items ≡ length c.args.log.now.items + i =
    omega (arith, ap length c.loop-i.invariant.items, length-append c.args.log.now.items (entries_from v i (drop 8 sector)), length-entries_from v i (drop 8 sector)) in
    omega (arith, size, c.requires, c.loop-i.invariant.capacity, c.loop-i-test.true, c.entry_count-count.ensures.few, few_fill v)

pub loop-i-preserved : goal.loop-i-preserved
loop-i-preserved c =
    let sector = c.args.sector.now in
    let v = c.args.version in
    let i = c.loop-i.i in
    let w = width v in
    let size : length c.loop-i.log.items ≡ length c.args.log.now.items + i =
    omega (arith, ap length c.loop-i.invariant.items, length-append c.args.log.now.items (entries_from v i (drop 8 sector)), length-entries_from v i (drop 8 sector)) in
    let one : c.read_entry.result ≡ stored v (take w (drop (w * i) (drop 8 sector))) =
    c.read_entry.ensures ∙ ap (stored v) (chunk_at sector c.size-width.result w i (8 + c.size-width.result * i + c.size-width.result - (8 + c.size-width.result * i)) c.size-width.ensures refl) in
    record {
      items = c.push_reserved.ensures.items
          ∙ (λ j. c.loop-i.invariant.items j ++ one j ∷ [])
          ∙ append_assoc c.args.log.now.items (entries_from v i (drop 8 sector)) (stored v (take w (drop (w * i) (drop 8 sector))) ∷ [])
          ∙ ap (λ (l : List StoredEntry). c.args.log.now.items ++ l) (sym (entries_more v i (drop 8 sector)));
      capacity = omega (arith, c.loop-i.invariant.capacity, c.push_reserved.ensures.capacity);
    }

pub returns-clause-items : goal.returns-clause-items
returns-clause-items c =
    let sector = c.args.sector.now in
    let end : c.loop-i.i ≡ c.entry_count-count.result = omega (arith, c.loop-i.auto, c.loop-i-test.false) in
    c.loop-i.invariant.items ∙ ap (λ (l : List StoredEntry). c.args.log.now.items ++ l)
    (ap (λ n. entries_from c.args.version n (drop 8 sector)) end ∙ sym (entries_by_count c.args.version c.args.index c.entry_count-count.result sector c.entry_count-count.ensures.count))

pub returns-clause-few : goal.returns-clause-few
returns-clause-few c =
    let sector = c.args.sector.now in
    omega (arith, ap length c.loop-i.invariant.items, length-append c.args.log.now.items (entries_from c.args.version c.loop-i.i (drop 8 sector)), length-entries_from c.args.version c.loop-i.i (drop 8 sector), c.loop-i.auto, c.entry_count-count.ensures.few, few_fill c.args.version)

pub returns-clause-full : goal.returns-clause-full
returns-clause-full c =
    let sector = c.args.sector.now in
    let is : length (entries_at c.args.version c.args.index sector) ≡ c.entry_count-count.result = ap length (entries_by_count c.args.version c.args.index c.entry_count-count.result sector c.entry_count-count.ensures.count) ∙ length-entries_from c.args.version c.entry_count-count.result (drop 8 sector) in
    (λ j. sym is j == c.room.ensures j)

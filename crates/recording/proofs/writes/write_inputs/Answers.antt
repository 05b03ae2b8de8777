use Rattle.std.proofs.Common.{◌≡◌, ◌≤◌, ◌<◌, ◌+◌, ◌-◌, ◌*◌, ◌++◌, min, inl, inr, ℕ, List, [], length, take, drop, refl, sym, ap, ◌∙◌, subst, arith, length-drop, length-take}
use Rattle.std.proofs.lemmas.List.{take_all, drop_all, drop-drop}
use Rattle.std.proofs.lemmas.Bool.{cases_lt}
use Rattle.sector_device.specs.DiskState.{sector_at}
use Rattle.sector_device.specs.Runs.{Mixed, WrittenUpTo}
use Rattle.sector_device.proofs.Runs.{none_called, one_more, begun, has_written, mixed_old, mixed_set, written_more, written_all}
use Rattle.input_entries.specs.declared.Entry.{Entry}
use Rattle.input_entries.specs.declared.StoredEntry.{StoredEntry}
use Rattle.recording.specs.Format.{list_sector}
use Rattle.input_entries.specs.Growing.{with_inputs}
use Rattle.recording.specs.Keeping.{grown_image, HasPacked}
use Rattle.recording.specs.Sizes.{list_sectors_in, sectors_for}
use Rattle.input_entries.proofs.MoreInputs.{some-with_inputs, input_take, input_drop}
use Rattle.recording.proofs.Images.{most_is, length-grown}
use Rattle.recording.proofs.ListBytes.{good_of}
use Rattle.recording.proofs.Turns.{GoesOn, chunk_is, room_left, sector_is, turned, written_to, none_written, same_behind}
use Rattle.recording.proofs.writes.write_inputs.Given.{Over}
use Rattle.recording.proofs.writes.write_inputs.Goals.{After-fill-done}
use Rattle.recording.proofs.writes.write_inputs.Goals as goal

pub loop-done-init : goal.loop-done-init
loop-done-init g c =
    let old = g.D.SectorDevice.disk c.args.device.now in
    let s = old.sectors in
    let list = with_inputs c.args.tail.now.items c.args.more.now in
    let new = grown_image c.args.full list s in
    let none : 83 * (c.args.full - c.args.full) ≡ 0 = omega arith in
    record {
      called = none_called;
      capacity = omega arith;
      later = omega arith;
      short = c.requires.short;
      good = c.requires.good;
      done = omega arith;
      within = omega (arith, none);
      is = ap (λ n. take n list ++ list) (sym none);
      next = λ some _. absurd (omega (arith, some));
      moments = λ honest settled. begun old (Mixed s new) (Mixed s new) honest (λ i is. subst (Mixed s new) (sym (settled i is)) (mixed_old s new)) (λ i m. m);
      written = λ honest settled. none_written s c.args.full (sectors_for (length c.args.tail.now.items)) list (omega (arith, c.requires.placed, c.requires.some));
    }

pub fill-done-requires-clause-input : goal.fill-done-requires-clause-input
fill-done-requires-clause-input g c = input_take (length c.args.more.now - c.loop-done.done) (drop c.loop-done.done c.args.more.now) (input_drop c.loop-done.done c.args.more.now c.requires.input)

-- what is known once a sector was filled
module _ (g : Over) (c : After-fill-done g) where
  abbrev s : List (List ℕ)
  s = (g.D.SectorDevice.disk c.args.device.now).sectors

  abbrev list : List StoredEntry
  list = with_inputs c.args.tail.now.items c.args.more.now

  abbrev rest : List Entry
  rest = drop c.loop-done.done c.args.more.now

  all : take (length c.args.more.now - c.loop-done.done) rest ≡ rest
  all = take_all (length c.args.more.now - c.loop-done.done) rest (omega (arith, length-drop c.loop-done.done c.args.more.now))

  some : 0 < length rest
  some = omega (arith, length-drop c.loop-done.done c.args.more.now, c.loop-done-test.true)

  room : c.loop-done.full < list_sectors_in (length s)
  room = let inv = c.loop-done.invariant in room_left list c.loop-done.tail.items rest c.args.full c.loop-done.full (list_sectors_in (length s)) c.requires.fits inv.later inv.within inv.is some

  few : c.fill-done.result ≤ length rest
  few = omega (arith, c.fill-done.ensures.count, ap length all)

  is_filled : c.fill-done.new.entries.items ≡ with_inputs c.loop-done.tail.items (take c.fill-done.result rest)
  is_filled = c.fill-done.ensures.items ∙ ap (λ l. with_inputs c.loop-done.tail.items (take c.fill-done.result l)) all

  goes : c.fill-done.result < length rest → (length c.fill-done.new.entries.items ≡ 83) × (with_inputs c.loop-done.tail.items rest ≡ c.fill-done.new.entries.items ++ with_inputs [] (drop c.fill-done.result rest))
  goes lt =
      let f = c.fill-done.ensures.full (omega (arith, lt, ap length all)) in
      (f.0, ap (with_inputs c.loop-done.tail.items) (sym all) ∙ f.1 ∙ ap (λ l. c.fill-done.new.entries.items ++ with_inputs [] (drop c.fill-done.result l)) all)

  put_is : list_sector (c.loop-done.full + 1) c.fill-done.new.entries.items ≡ sector_at (grown_image c.args.full list s) (c.loop-done.full + 1)
  put_is =
      let inv = c.loop-done.invariant in
      sector_is s c.args.full c.loop-done.full list c.fill-done.new.entries.items inv.later (omega (arith, room))
      (chunk_is list c.loop-done.tail.items c.fill-done.new.entries.items rest (83 * (c.loop-done.full - c.args.full)) c.fill-done.result inv.within inv.is few is_filled c.fill-done.ensures.short goes)

pub overflow_cast-full : goal.overflow_cast-full
overflow_cast-full g c =
    let small : c.loop-done.full < 4294967295 = omega (arith, room g (goal.at.overflow_cast-full g c).After-fill-done, most_is) in
    omega (arith, small)

pub write-requires : goal.write-requires
write-requires g c = omega (arith, room g (goal.at.write-requires g c).After-fill-done, c.loop-done.invariant.called.count)

pub returns-in_err-write-clause-moments : goal.returns-in_err-write-clause-moments
returns-in_err-write-clause-moments g c = λ honest settled.
    let before = (goal.at.returns-in_err-write-clause-moments g c).After-fill-done in
    let new = grown_image c.args.full (list g before) (s g before) in
    let sector : c.list_sector.result ≡ sector_at new (c.loop-done.full + 1) = c.list_sector.ensures ∙ ap (list_sector (c.loop-done.full + 1)) c.deref.ensures.value ∙ put_is g before in
    let held = c.loop-done.invariant.moments honest settled in
    has_written held (c.write.ensures.written held.honest) (λ d mixed. mixed_set (s g before) new d (c.loop-done.full + 1) c.list_sector.result (omega (arith, room g before)) sector mixed)

goes_on : (full full' : ℕ) (now tail' : List StoredEntry) → length now ≤ 83 → (length now ≡ 83 → (full' ≡ full + 1) × (tail' ≡ [])) → (length now < 83 → (full' ≡ full) × (tail' ≡ now)) → GoesOn full full' now tail'
goes_on full full' now tail' short next same = elim (cases_lt (length now) 83) [
  | inl less ↦ let p = same less in inr (less, p.0, p.1)
  | inr most ↦ let is : length now ≡ 83 = omega (arith, short, most) in let p = next is in inl (is, p.0, p.1)
]

pub loop-done-preserved : goal.loop-done-preserved
loop-done-preserved g c =
    let before = (goal.at.loop-done-preserved g c).After-fill-done in
    let s = s g before in
    let more = c.args.more.now in
    let list = list g before in
    let new = grown_image c.args.full list s in
    let inv = c.loop-done.invariant in
    let full = c.loop-done.full in
    let done = c.loop-done.done in
    let tail = c.loop-done.tail.items in
    let rest = drop done more in
    let r = c.fill-done.result in
    let filled = c.fill-done.new.entries.items in
    let few = few g before in
    let is_filled = is_filled g before in
    let within : full + 1 < length s = omega (arith, room g before) in
    let sector : c.list_sector.result ≡ sector_at new (full + 1) = c.list_sector.ensures ∙ ap (list_sector (full + 1)) c.deref.ensures.value ∙ put_is g before in
    let full' = c.leave_if_full-full.result in
    let tail' = c.leave_if_full-full.new.entries.items in
    let on = goes_on full full' filled tail' c.fill-done.ensures.short c.leave_if_full-full.ensures.next c.leave_if_full-full.ensures.same in
    let t = turned list tail filled rest c.args.full full r inv.later inv.within inv.is few is_filled c.fill-done.ensures.short c.fill-done.ensures.good (goes g before) full' tail' on (good_of [] tt tt) in
    let more_done : 0 < r = c.fill-done.ensures.some (omega (arith, some g before, ap length (all g before))) in
    let then : drop r rest ≡ drop (done + r) more = drop-drop r done more in
    record {
      called = one_more inv.called c.in_ok-write.ensures.called;
      capacity = omega (arith, inv.capacity, c.fill-done.ensures.capacity, c.leave_if_full-full.ensures.capacity);
      later = t.later;
      short = t.short;
      good = t.good;
      done = omega (arith, few, length-drop done more, inv.done);
      within = t.within;
      is = t.is ∙ ap (λ l. take (83 * (full' - c.args.full)) list ++ with_inputs tail' l) then;
      next = λ _ less. t.next (omega (arith, ap length then, length-drop (done + r) more, less));
      moments = λ honest settled.
          let held = inv.moments honest settled in
          has_written held (c.write.ensures.written held.honest) (λ d mixed. mixed_set s new d (full + 1) c.list_sector.result within sector mixed);
      written = λ honest settled.
          let held = inv.moments honest settled in
          let zero_done : min (sectors_for (length tail)) done ≡ 0 = none_yet (length tail) done (length more) c.loop-done-test.true inv.next in
          let at : full + 1 + min (sectors_for (length tail)) done ≡ full + 1 = omega (arith, zero_done) in
          let made : 0 < length filled = omega (arith, ap length is_filled, some-with_inputs tail (take r rest) (omega (arith, length-take r rest, few, more_done))) in
          written_more s new (g.D.SectorDevice.disk c.loop-done.device).sectors (g.D.SectorDevice.disk c.write.new.self).sectors (full + 1) (full' + 1 + min (sectors_for (length tail')) (done + r)) c.list_sector.result within sector
          (c.in_ok-write.ensures.written held.honest).written (written_to full full' done r filled tail' on made more_done) (subst (λ n. WrittenUpTo s new n (g.D.SectorDevice.disk c.loop-done.device).sectors) at (inv.written honest settled));
    }
  where
    none_yet : (size done long : ℕ) → done < long → (0 < done → done < long → size ≡ 0) → min (sectors_for size) done ≡ 0
    none_yet size done long less next = elim (cases_lt 0 done) [
      | inl some ↦ omega (arith, next some less)
      | inr none ↦ omega (arith, none)
    ]

pub returns-clause-written : goal.returns-clause-written
returns-clause-written g c = λ honest settled some blank_after.
    let s = (g.D.SectorDevice.disk c.args.device.now).sectors in
    let more = c.args.more.now in
    let tail0 = c.args.tail.now.items in
    let list = with_inputs tail0 more in
    let new = grown_image c.args.full list s in
    let inv = c.loop-done.invariant in
    let full = c.loop-done.full in
    let done = c.loop-done.done in
    let tail = c.loop-done.tail.items in
    let end : done ≡ length more = omega (arith, inv.done, c.loop-done-test.false) in
    let none : drop done more ≡ [] = drop_all done more (omega (arith, end)) in
    let p : HasPacked c.args.full list full tail = record { later = inv.later; short = inv.short; good = inv.good; within = inv.within; is = inv.is ∙ ap (λ l. take (83 * (full - c.args.full)) list ++ with_inputs tail l) none } in
    let in_s : c.args.full + 1 ≤ length s = omega (arith, c.requires.placed, c.requires.some) in
    let held = inv.moments honest settled in
    let sync = c.in_ok-sync_once.ensures.synced held.honest in
    let whole = written_all s new (g.D.SectorDevice.disk c.loop-done.device).sectors (full + 1 + min (sectors_for (length tail)) done) (length-grown c.args.full list s in_s)
    (same_behind s c.args.full full done list tail0 tail p (some-with_inputs tail0 more some) (omega (arith, end, some)) c.requires.short in_s blank_after) (inv.written honest settled) in
    (sync.settled, sync.sectors ∙ whole)

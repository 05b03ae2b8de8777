use Rattle.std.proofs.Common.{◌≡◌, ◌∙◌, refl, subst, arith}
use Rattle.input_lines.specs.Reading.{left_of}
use Rattle.machine_lines.proofs.SlotLaws.{none_kept}
use Rattle.streaming.specs.Obeying.{AdvancesByLines}
use Rattle.streaming.specs.declared.obeying.End.TheVariants.{Wrong as WrongLine}
use Rattle.streaming.proofs.OrderLines.{needs_are}
use Rattle.streaming.proofs.Lines.{IsOrdered, ordered, none_yet, rom_is, empty_line, obeyed_line, refused_line, went_wrong, lacked_memory, was_damaged, was_of_another, bytes_failed, wrong_line, at_the_end, read_failed, last_number}
use Rattle.streaming.proofs.obeying.obey_lines.Given.{Over}
use Rattle.streaming.proofs.obeying.obey_lines.Goals as goal
use Rattle.streaming.proofs.obeying.obey_lines.Goals.{In-Line-Some}

pub loop-number-init : goal.loop-number-init
loop-number-init g c = record {
  so_far = λ of.
      none_yet g.G.Playable c.args.cartridge.now c.args.game.now of (g.R.LineInput.remaining c.args.input.now) (g.W.Output.contents c.args.out.now) c.new-unread.result.items (g.R.LineInput.remaining c.args.input.now) c.args.room.now.kept
      refl c.new-unread.ensures (none_kept c.args.cartridge.now c.args.room.now.kept c.requires.kept);
  room = c.requires.room;
  whole = c.requires.whole;
  few = c.requires.few;
}

-- what the line asks for
next_is : (g : Over) (c : In-Line-Some g) → IsOrdered g.G.Playable.takes_states c.in-Line-Some.order (left_of c.loop-number.unread.items (g.R.LineInput.remaining c.loop-number.input)) (left_of c.read_next.new.unread.items (g.R.LineInput.remaining c.read_next.new.input))
next_is g c = ordered c.takes_states-states.ensures c.in-Line-Some.field-0-is c.in-Line-Some.ensures.next

pub obey-requires-clause-takes : goal.obey-requires-clause-takes
obey-requires-clause-takes g c =
    let next = next_is g (goal.at.obey-requires-clause-takes g c).In-Line-Some in
    needs_are g.G.Playable.takes_states next.line c.in-Line-Some.order next.order_is

pub obey-requires-clause-numbered : goal.obey-requires-clause-numbered
obey-requires-clause-numbered g c = (next_is g (goal.at.obey-requires-clause-numbered g c).In-Line-Some).numbered

pub obey-requires-clause-of : goal.obey-requires-clause-of
obey-requires-clause-of g c = rom_is (c.loop-number.invariant.so_far c.requires.of)

pub loop-number-preserved-in-Line-None : goal.loop-number-preserved-in-Line-None
loop-number-preserved-in-Line-None g c = record {
  so_far = λ of. empty_line (c.loop-number.invariant.so_far of) _ c.takes_states-states.ensures c.in-Line-None.field-0-is c.in-Line-None.ensures.next;
  room = c.loop-number.invariant.room;
  whole = c.loop-number.invariant.whole;
  few = c.loop-number.invariant.few;
}

pub loop-number-preserved : goal.loop-number-preserved
loop-number-preserved g c = record {
  so_far = λ of.
      let so_far = c.loop-number.invariant.so_far of in
      obeyed_line so_far (next_is g (goal.at.loop-number-preserved g c).In-Line-Some) (rw c.in-Ok-On.field-0-is at (c.in-Ok-On.ensures.step so_far.kept so_far.kept_is));
  room = c.in-Ok-On.ensures.room ∙ c.loop-number.invariant.room;
  whole = c.in-Ok-On.ensures.whole.0;
  few = c.in-Ok-On.ensures.whole.1;
}

pub returns-in-Ok-Wrong-clause-obeyed : goal.returns-in-Ok-Wrong-clause-obeyed
returns-in-Ok-Wrong-clause-obeyed g c =
    let so_far = c.loop-number.invariant.so_far c.requires.of in
    let next = next_is g (goal.at.returns-in-Ok-Wrong-clause-obeyed g c).In-Line-Some in
    went_wrong so_far next c.obey.new.unread.items (rw c.in-Ok-Wrong.field-0-is at (c.in-Ok-Wrong.ensures.step so_far.kept so_far.kept_is))

pub returns-in-Ok-Failed-clause-obeyed : goal.returns-in-Ok-Failed-clause-obeyed
returns-in-Ok-Failed-clause-obeyed g c =
    let so_far = c.loop-number.invariant.so_far c.requires.of in
    let next = next_is g (goal.at.returns-in-Ok-Failed-clause-obeyed g c).In-Line-Some in
    bytes_failed so_far next c.obey.new.unread.items (rw c.in-Ok-Failed.field-0-is at (c.in-Ok-Failed.ensures.step so_far.kept so_far.kept_is))

pub returns-in-Ok-Damaged-clause-obeyed : goal.returns-in-Ok-Damaged-clause-obeyed
returns-in-Ok-Damaged-clause-obeyed g c =
    let so_far = c.loop-number.invariant.so_far c.requires.of in
    let next = next_is g (goal.at.returns-in-Ok-Damaged-clause-obeyed g c).In-Line-Some in
    was_damaged so_far next c.obey.new.unread.items (rw c.in-Ok-Damaged.field-0-is at (c.in-Ok-Damaged.ensures.step so_far.kept so_far.kept_is))

pub returns-in-Ok-OtherCartridge-clause-obeyed : goal.returns-in-Ok-OtherCartridge-clause-obeyed
returns-in-Ok-OtherCartridge-clause-obeyed g c =
    let so_far = c.loop-number.invariant.so_far c.requires.of in
    let next = next_is g (goal.at.returns-in-Ok-OtherCartridge-clause-obeyed g c).In-Line-Some in
    was_of_another so_far next c.obey.new.unread.items (rw c.in-Ok-OtherCartridge.field-0-is at (c.in-Ok-OtherCartridge.ensures.step so_far.kept so_far.kept_is))

pub returns-in-Ok-NoMemory-clause-obeyed : goal.returns-in-Ok-NoMemory-clause-obeyed
returns-in-Ok-NoMemory-clause-obeyed g c =
    let so_far = c.loop-number.invariant.so_far c.requires.of in
    let next = next_is g (goal.at.returns-in-Ok-NoMemory-clause-obeyed g c).In-Line-Some in
    lacked_memory so_far next c.obey.new.unread.items (rw c.in-Ok-NoMemory.field-0-is at (c.in-Ok-NoMemory.ensures.step so_far.kept so_far.kept_is))

pub returns-in-Err-clause-stopped : goal.returns-in-Err-clause-stopped
returns-in-Err-clause-stopped g c =
    let so_far = c.loop-number.invariant.so_far c.requires.of in
    let next = next_is g (goal.at.returns-in-Err-clause-stopped g c).In-Line-Some in
    refused_line so_far next c.obey.new.unread.items (c.in-Err.ensures.refused so_far.kept so_far.kept_is)

pub returns-in-Wrong-clause-obeyed : goal.returns-in-Wrong-clause-obeyed
returns-in-Wrong-clause-obeyed g c = wrong_line (c.loop-number.invariant.so_far c.requires.of) c.read_next.new.unread.items (rw c.takes_states-states.ensures at c.in-Wrong.ensures.next)

pub returns-in-End-clause-obeyed : goal.returns-in-End-clause-obeyed
returns-in-End-clause-obeyed g c = at_the_end (c.loop-number.invariant.so_far c.requires.of) c.in-End.ensures.next

pub returns-in-Failed-clause-obeyed : goal.returns-in-Failed-clause-obeyed
returns-in-Failed-clause-obeyed g c = read_failed (c.loop-number.invariant.so_far c.requires.of) c.in-Failed.ensures.next

pub returns-clause-obeyed : goal.returns-clause-obeyed
returns-clause-obeyed g c =
    let last : c.loop-number.number ≡ 18446744073709551615 = omega (arith, c.loop-number-test.false, c.loop-number.auto.number-end) in
    subst (λ n. AdvancesByLines g.G.Playable c.args.game.now c.loop-number.game (g.R.LineInput.remaining c.args.input.now) (g.R.LineInput.remaining c.loop-number.input) (g.W.Output.contents c.args.out.now) (g.W.Output.contents c.loop-number.out) (WrongLine n)) last
    (last_number (c.loop-number.invariant.so_far c.requires.of) c.loop-number.unread.items (g.R.LineInput.remaining c.loop-number.input) refl last)

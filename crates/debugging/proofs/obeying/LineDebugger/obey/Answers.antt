use Rattle.std.proofs.Common.{◌≡◌, ◌∙◌, List, ℕ, [], ap, length, refl, subst, sym, arith}
use Rattle.std.proofs.lemmas.List.{with_items_is}
use Rattle.std.specs.Prelude.{is_err}
use Rattle.std.specs.Vec.{with_items}
use Rattle.snapshot.specs.Encoding.{snapshot_length}
use Rattle.std.specs.Io.KnownBytes.{Appends}
use Rattle.exact_text.specs.Written.{AppendsProperPrefix}
use Rattle.input_lines.specs.Reading.{left_of}
use Rattle.debugging.specs.declared.error.DebugError.{DebugError}
use Rattle.debugging.specs.Run.{RunState}
use Rattle.debugging.specs.KeptStates.{with_none_kept}
use Rattle.debugging.specs.Orders.{state_order_of}
use Rattle.debugging.specs.Answers.{after_line, answer_line, restored_text}
use Rattle.debugging.specs.States.{after_snapshot, is_snapshot, rom_of}
use Rattle.debugging.specs.Switching.{IsNotSwitched}
use Rattle.debugging.proofs.Exchanges.{IsObeying, state_of, none_obeyed, switch_obeyed, switch_refused, line_obeyed, line_broken, state_obeyed, state_broken, wrong_obeyed, wrong_broken, last_obeyed, last_broken, ended, failed_to_read, all_obeyed}
use Rattle.snapshot.specs.Legal.{IsOfImage}
use Rattle.debugging.proofs.Kept.{line_of, ram_length, rom_is, room_is}
use Rattle.debugging.proofs.Parts.{on_err_of, on_ok_of}
use Rattle.debugging.proofs.obeying.LineDebugger.obey.Goals as goal
use Rattle.debugging.proofs.obeying.LineDebugger.obey.Goals.{in-Line+in_default, in-State, in-Wrong, else-loop-number-test, then-loop-number-test+in-Last+then-is_err, then-loop-number-test+in-Last+else-is_err, then-loop-number-test+in-End, then-loop-number-test+in-Failed, then-loop-number-test+then-is_err-2}
use Rattle.machine_lines.proofs.SlotLaws.{none_kept}

pub loop-number-init : goal.loop-number-init
loop-number-init g c = record {
  so_far = record {
    machines = [];
    kept = none_kept c.args.cartridge.now c.self.inside.kept c.self.invariant.2;
    obeying = subst (λ (r : RunState). IsObeying r (with_none_kept c.self.inside.run) 1 (g.R.LineInput.remaining c.args.input.now) (left_of c.new-unread.result.items (g.R.LineInput.remaining c.args.input.now)) (g.W.Output.contents c.args.out.now) (g.W.Output.contents c.args.out.now))
        c.self.view_is (none_obeyed c.self.inside.run c.new-unread.result.items (g.R.LineInput.remaining c.args.input.now) (g.W.Output.contents c.args.out.now) c.new-unread.ensures);
  };
  ended = refl;
  rom = c.self.invariant.0;
  room = c.self.invariant.1;
  of = subst (λ (r : RunState). IsOfImage c.args.cartridge.now r.debugger.machine) (sym c.self.view_is) c.requires;
}

pub next_given-requires : goal.next_given-requires
next_given-requires g c = ap length c.deref_mut.ensures.value ∙ c.loop-number.invariant.room ∙ ap snapshot_length c.loop-number.invariant.of.ram_length

pub answer-answered-requires-clause-of : goal.answer-answered-requires-clause-of
answer-answered-requires-clause-of g c = c.loop-number.invariant.of.rom

pub loop-number-preserved : goal.loop-number-preserved
loop-number-preserved g c =
    let so_far = c.loop-number.invariant.so_far.obeying in
    let machines = c.loop-number.invariant.so_far.machines in
    let kept = c.loop-number.invariant.so_far.kept in
    let now = state_of c.loop-number.run machines in
    let of = c.loop-number.invariant.of in
    let rom = c.args.cartridge.now in
    let unread = g.R.LineInput.remaining c.args.input.now in
    let left = left_of c.loop-number.unread.items (g.R.LineInput.remaining c.loop-number.input) in
    let known = g.R.LineInput.remaining c.next_given.new.input in
    let rest = left_of c.next_given.new.unread.items known in
    let before = g.W.Output.contents c.args.out.now in
    let since = g.W.Output.contents c.loop-number.out in
    let taken = c.next_given.new.snapshot in
    let long : length taken ≡ snapshot_length (ram_length c.loop-number.run) = c.next_given.ensures.room ∙ ap length c.deref_mut.ensures.value ∙ c.loop-number.invariant.room in
    let items = with_items_is c.loop-number.snapshot taken (omega (arith, c.next_given.ensures.room, ap length c.deref_mut.ensures.value, c.loop-number.snapshot.ok)) in
    elim c.match-next_given.branch [
      | in-Line+in_default w ↦
          let written = w.answer-answered.result.written in
          let moved : w.answer-answered.result.run ≡ after_line w.in-Line.line.items c.loop-number.run =
          on_ok_of written (c.is_err-in-loop-number.ensures.value ∙ ap is_err w.written-is) c.if-is_err-2.false w.answer-answered.ensures.run
          ∙ ap (λ (line : List ℕ). after_line line c.loop-number.run) w.as_slice-in-Line.ensures.value in
          let still = line_of rom w.in-Line.line.items c.loop-number.run w.answer-answered.result.run moved of in
          let second : length w.answer-answered.new.snapshot ≡ length taken = w.answer-answered.ensures.room ∙ ap length (w.deref_mut-in-Line.ensures.value ∙ items) in
          rw (w.run-is, w.out-is, w.snapshot-is) (record {
            so_far = record {
              machines = machines;
              kept = kept;
              obeying = line_obeyed c.args.cartridge.now c.args.self now c.loop-number.number unread left before since so_far w.in-Line.line taken w.answer-answered.result.run rest known
                  (g.W.Output.contents w.answer-answered.new.out) w.in-Line.ensures.given (ap state_order_of (sym w.as_slice.ensures.value) ∙ sym w.read_state_order.ensures.order ∙ w.in_default.is) moved
                  (subst (λ (line : List ℕ). Appends since (g.W.Output.contents w.answer-answered.new.out) (answer_line line c.loop-number.number c.loop-number.run)) w.as_slice-in-Line.ensures.value
                  (on_ok_of written (c.is_err-in-loop-number.ensures.value ∙ ap is_err w.written-is) c.if-is_err-2.false w.answer-answered.ensures.ok));
            };
            ended = c.loop-number.invariant.ended;
            rom = rom_is c.self.inside.rom rom c.loop-number.run w.answer-answered.result.run c.loop-number.invariant.rom of still;
            of = still;
            room = ap length (with_items_is (with_items c.loop-number.snapshot taken) w.answer-answered.new.snapshot (omega (arith, second, c.next_given.ensures.room, ap length c.deref_mut.ensures.value, c.loop-number.snapshot.ok)))
                ∙ second ∙ room_is (length taken) rom c.loop-number.run w.answer-answered.result.run long of still;
          })
      | in-State w ↦
          let written = w.restore-answered.result.written in
          let bytes = w.deref.ensures.value ∙ items in
          let moved : w.restore-answered.result.run ≡ after_snapshot taken c.loop-number.run =
          on_ok_of written (c.is_err-in-loop-number.ensures.value ∙ ap is_err w.written-is) c.if-is_err-2.false w.restore-answered.ensures.run
          ∙ ap (λ (b : List ℕ). after_snapshot b c.loop-number.run) bytes in
          rw (w.run-is, w.out-is, w.snapshot-is) (record {
            so_far = record {
              machines = machines;
              kept = kept;
              obeying = state_obeyed c.args.cartridge.now c.args.self now c.loop-number.number unread left before since so_far taken of.rom w.restore-answered.result.run rest known
                  (g.W.Output.contents w.restore-answered.new.out) w.in-State.ensures.given moved
                  (subst (λ (b : List ℕ). Appends since (g.W.Output.contents w.restore-answered.new.out) (restored_text (is_snapshot (rom_of c.loop-number.run) b) c.loop-number.number)) bytes
                  (on_ok_of written (c.is_err-in-loop-number.ensures.value ∙ ap is_err w.written-is) c.if-is_err-2.false w.restore-answered.ensures.ok));
            };
            ended = c.loop-number.invariant.ended;
            rom = rom_is c.self.inside.rom rom c.loop-number.run w.restore-answered.result.run c.loop-number.invariant.rom of w.restore-answered.ensures.of;
            of = w.restore-answered.ensures.of;
            room = ap length items ∙ room_is (length taken) rom c.loop-number.run w.restore-answered.result.run long of w.restore-answered.ensures.of;
          })
      | in-Wrong w ↦
          rw (w.run-is, w.out-is, w.snapshot-is) (record {
            so_far = record {
              machines = machines;
              kept = kept;
              obeying = wrong_obeyed c.args.cartridge.now c.args.self now c.loop-number.number unread left before since so_far taken rest known (g.W.Output.contents w.write_wrong-written.new.out)
                  of.rom w.in-Wrong.ensures.given
                  (on_ok_of w.write_wrong-written.result (c.is_err-in-loop-number.ensures.value ∙ ap is_err w.written-is) c.if-is_err-2.false w.write_wrong-written.ensures.ok);
            };
            ended = c.loop-number.invariant.ended;
            rom = c.loop-number.invariant.rom;
            of = of;
            room = ap length items ∙ long;
          })
    ]

pub loop-number-preserved-in-Some : goal.loop-number-preserved-in-Some
loop-number-preserved-in-Some g c =
    let so_far = c.loop-number.invariant.so_far in
    let of = c.loop-number.invariant.of in
    let rom = c.args.cartridge.now in
    let known = g.R.LineInput.remaining c.next_given.new.input in
    let taken = c.next_given.new.snapshot in
    let long : length taken ≡ snapshot_length (ram_length c.loop-number.run) = c.next_given.ensures.room ∙ ap length c.deref_mut.ensures.value ∙ c.loop-number.invariant.room in
    let items = with_items_is c.loop-number.snapshot taken (omega (arith, c.next_given.ensures.room, ap length c.deref_mut.ensures.value, c.loop-number.snapshot.ok)) in
    record {
      so_far = switch_obeyed c.args.cartridge.now c.args.self (state_of c.loop-number.run so_far.machines) c.loop-number.number (g.R.LineInput.remaining c.args.input.now)
          (left_of c.loop-number.unread.items (g.R.LineInput.remaining c.loop-number.input)) (g.W.Output.contents c.args.out.now) (g.W.Output.contents c.loop-number.out) so_far.obeying c.switch.new.kept
          c.in-Line.line taken c.in-Some.order c.in-Ok.run' (left_of c.next_given.new.unread.items known) known (g.W.Output.contents c.switch.new.out) c.in-Line.ensures.given
          (ap state_order_of (sym c.as_slice.ensures.value) ∙ sym c.read_state_order.ensures.order ∙ c.in-Some.is) (c.in-Ok.ensures.done so_far.machines so_far.kept);
      ended = c.loop-number.invariant.ended;
      rom = rom_is c.self.inside.rom rom c.loop-number.run c.in-Ok.run' c.loop-number.invariant.rom of c.in-Ok.ensures.of;
      of = c.in-Ok.ensures.of;
      room = ap length items ∙ room_is (length taken) rom c.loop-number.run c.in-Ok.run' long of c.in-Ok.ensures.of;
    }

pub returns-clause-answered : goal.returns-clause-answered
returns-clause-answered g c =
    elim c.loop-number-test.branch [
      | else-loop-number-test w ↦ rw (w.ended-is, c.loop-number.invariant.ended, w.input-is, w.out-is) (
          all_obeyed c.args.self (state_of c.loop-number.run c.loop-number.invariant.so_far.machines) c.loop-number.number (g.R.LineInput.remaining c.args.input.now) c.loop-number.unread.items (g.R.LineInput.remaining c.loop-number.input)
          (g.W.Output.contents c.args.out.now) (g.W.Output.contents c.loop-number.out) c.loop-number.invariant.so_far.obeying (omega (arith, w.loop-number-test.false, c.loop-number.auto.number-end)))
      | then-loop-number-test+in-Last+then-is_err w ↦ rw w.ended-is tt
      | then-loop-number-test+in-Last+else-is_err w ↦ rw (w.ended-is, c.loop-number.invariant.ended, w.input-is, w.out-is) (
          last_obeyed c.args.cartridge.now c.args.self (state_of c.loop-number.run c.loop-number.invariant.so_far.machines) c.loop-number.number (g.R.LineInput.remaining c.args.input.now) (left_of c.loop-number.unread.items (g.R.LineInput.remaining c.loop-number.input))
          (g.W.Output.contents c.args.out.now) (g.W.Output.contents c.loop-number.out) c.loop-number.invariant.so_far.obeying
          w.next_given.new.snapshot (left_of w.next_given.new.unread.items (g.R.LineInput.remaining w.next_given.new.input)) (g.R.LineInput.remaining w.next_given.new.input) (g.W.Output.contents w.write_wrong.new.out)
          c.loop-number.invariant.of.rom w.in-Last.ensures.given
          (on_ok_of w.write_wrong.result w.is_err.ensures.value w.if-is_err.false w.write_wrong.ensures.ok))
      | then-loop-number-test+in-End w ↦ rw (w.ended-is, c.loop-number.invariant.ended, w.input-is, w.out-is) (
          ended c.args.cartridge.now c.args.self (state_of c.loop-number.run c.loop-number.invariant.so_far.machines) c.loop-number.number (g.R.LineInput.remaining c.args.input.now) (left_of c.loop-number.unread.items (g.R.LineInput.remaining c.loop-number.input))
          (g.W.Output.contents c.args.out.now) (g.W.Output.contents c.loop-number.out) c.loop-number.invariant.so_far.obeying
          w.next_given.new.snapshot (left_of w.next_given.new.unread.items (g.R.LineInput.remaining w.next_given.new.input)) (g.R.LineInput.remaining w.next_given.new.input) w.in-End.ensures.given)
      | then-loop-number-test+in-Failed w ↦ rw w.ended-is tt
      | then-loop-number-test+then-is_err-2 w ↦ rw w.ended-is tt
    ]

pub returns-clause-refused : goal.returns-clause-refused
returns-clause-refused g c =
    elim c.loop-number-test.branch [
      | else-loop-number-test w ↦ rw (w.ended-is, c.loop-number.invariant.ended) tt
      | then-loop-number-test+in-Last+then-is_err w ↦ rw (w.ended-is, w.input-is, w.out-is) (
          last_broken c.args.cartridge.now c.args.self (state_of c.loop-number.run c.loop-number.invariant.so_far.machines) c.loop-number.number (g.R.LineInput.remaining c.args.input.now) (left_of c.loop-number.unread.items (g.R.LineInput.remaining c.loop-number.input))
          (g.W.Output.contents c.args.out.now) (g.W.Output.contents c.loop-number.out) c.loop-number.invariant.so_far.obeying
          w.next_given.new.snapshot (left_of w.next_given.new.unread.items (g.R.LineInput.remaining w.next_given.new.input)) (g.R.LineInput.remaining w.next_given.new.input) (g.W.Output.contents w.write_wrong.new.out)
          c.loop-number.invariant.of.rom w.in-Last.ensures.given
          (on_err_of w.write_wrong.result w.is_err.ensures.value w.if-is_err.true w.write_wrong.ensures.err))
      | then-loop-number-test+in-Last+else-is_err w ↦ rw (w.ended-is, c.loop-number.invariant.ended) tt
      | then-loop-number-test+in-End w ↦ rw (w.ended-is, c.loop-number.invariant.ended) tt
      | then-loop-number-test+in-Failed w ↦ rw (w.ended-is, w.input-is, w.out-is) (
          failed_to_read c.args.cartridge.now c.args.self (state_of c.loop-number.run c.loop-number.invariant.so_far.machines) c.loop-number.number (g.R.LineInput.remaining c.args.input.now) (left_of c.loop-number.unread.items (g.R.LineInput.remaining c.loop-number.input))
          (g.W.Output.contents c.args.out.now) (g.W.Output.contents c.loop-number.out) c.loop-number.invariant.so_far.obeying
          w.next_given.new.snapshot (left_of w.next_given.new.unread.items (g.R.LineInput.remaining w.next_given.new.input)) (g.R.LineInput.remaining w.next_given.new.input) w.in-Failed.ensures.given)
      | then-loop-number-test+then-is_err-2 w ↦ rw (w.ended-is, w.input-is, w.out-is) (elim w.match-next_given.branch [
        | in-Line+in_default w' ↦ rw w'.out-is (
            line_broken c.args.cartridge.now c.args.self (state_of c.loop-number.run c.loop-number.invariant.so_far.machines) c.loop-number.number (g.R.LineInput.remaining c.args.input.now) (left_of c.loop-number.unread.items (g.R.LineInput.remaining c.loop-number.input))
            (g.W.Output.contents c.args.out.now) (g.W.Output.contents c.loop-number.out) c.loop-number.invariant.so_far.obeying
            w'.in-Line.line w.next_given.new.snapshot w.next_given.new.unread.items (g.R.LineInput.remaining w.next_given.new.input) (g.W.Output.contents w'.answer-answered.new.out) w'.in-Line.ensures.given (ap state_order_of (sym w'.as_slice.ensures.value) ∙ sym w'.read_state_order.ensures.order ∙ w'.in_default.is)
            (subst (λ (line : List ℕ). AppendsProperPrefix (g.W.Output.contents c.loop-number.out) (g.W.Output.contents w'.answer-answered.new.out) (answer_line line c.loop-number.number c.loop-number.run)) w'.as_slice-in-Line.ensures.value
            (on_err_of w'.answer-answered.result.written (w.is_err-in-loop-number.ensures.value ∙ ap is_err w'.written-is) w.if-is_err-2.true w'.answer-answered.ensures.err)))
        | in-State w' ↦ rw w'.out-is (
            state_broken c.args.cartridge.now c.args.self (state_of c.loop-number.run c.loop-number.invariant.so_far.machines) c.loop-number.number (g.R.LineInput.remaining c.args.input.now) (left_of c.loop-number.unread.items (g.R.LineInput.remaining c.loop-number.input))
            (g.W.Output.contents c.args.out.now) (g.W.Output.contents c.loop-number.out) c.loop-number.invariant.so_far.obeying
            w.next_given.new.snapshot c.loop-number.invariant.of.rom w.next_given.new.unread.items (g.R.LineInput.remaining w.next_given.new.input) (g.W.Output.contents w'.restore-answered.new.out) w'.in-State.ensures.given
            (subst (λ (bytes : List ℕ). AppendsProperPrefix (g.W.Output.contents c.loop-number.out) (g.W.Output.contents w'.restore-answered.new.out) (restored_text (is_snapshot (rom_of c.loop-number.run) bytes) c.loop-number.number))
            (w'.deref.ensures.value ∙ with_items_is c.loop-number.snapshot w.next_given.new.snapshot (omega (arith, w.next_given.ensures.room, ap length w.deref_mut.ensures.value, c.loop-number.snapshot.ok)))
            (on_err_of w'.restore-answered.result.written (w.is_err-in-loop-number.ensures.value ∙ ap is_err w'.written-is) w.if-is_err-2.true w'.restore-answered.ensures.err)))
        | in-Wrong w' ↦ rw w'.out-is (
            wrong_broken c.args.cartridge.now c.args.self (state_of c.loop-number.run c.loop-number.invariant.so_far.machines) c.loop-number.number (g.R.LineInput.remaining c.args.input.now) (left_of c.loop-number.unread.items (g.R.LineInput.remaining c.loop-number.input))
            (g.W.Output.contents c.args.out.now) (g.W.Output.contents c.loop-number.out) c.loop-number.invariant.so_far.obeying
            w.next_given.new.snapshot w.next_given.new.unread.items (g.R.LineInput.remaining w.next_given.new.input) (g.W.Output.contents w'.write_wrong-written.new.out)
            c.loop-number.invariant.of.rom w'.in-Wrong.ensures.given
            (on_err_of w'.write_wrong-written.result (w.is_err-in-loop-number.ensures.value ∙ ap is_err w'.written-is) w.if-is_err-2.true w'.write_wrong-written.ensures.err))
      ])
    ]

pub returns-in-Err-clause-refused : goal.returns-in-Err-clause-refused
returns-in-Err-clause-refused g c =
    let so_far = c.loop-number.invariant.so_far in
    switch_refused c.args.cartridge.now c.args.self (state_of c.loop-number.run so_far.machines) c.loop-number.number (g.R.LineInput.remaining c.args.input.now) (left_of c.loop-number.unread.items (g.R.LineInput.remaining c.loop-number.input))
    (g.W.Output.contents c.args.out.now) (g.W.Output.contents c.loop-number.out) so_far.obeying
    c.in-Line.line c.next_given.new.snapshot c.in-Some.order c.next_given.new.unread.items (g.R.LineInput.remaining c.next_given.new.input) (g.W.Output.contents c.switch.new.out) c.in-Err.why c.in-Line.ensures.given
    (ap state_order_of (sym c.as_slice.ensures.value) ∙ sym c.read_state_order.ensures.order ∙ c.in-Some.is) (c.in-Err.ensures.refused so_far.machines so_far.kept)

-- ---- a read or a write has failed

pub returns-in-Err-clause-input : goal.returns-in-Err-clause-input
returns-in-Err-clause-input g c is =
    let so_far = c.loop-number.invariant.so_far in
    absurd (subst (λ (why : DebugError). IsNotSwitched why c.in-Some.order c.loop-number.number (state_of c.loop-number.run so_far.machines) (g.W.Output.contents c.loop-number.out) (g.W.Output.contents c.switch.new.out))
    is (c.in-Err.ensures.refused so_far.machines so_far.kept))

pub returns-clause-input : goal.returns-clause-input
returns-clause-input g c =
    elim c.loop-number-test.branch [
      | else-loop-number-test w ↦ rw (w.ended-is, c.loop-number.invariant.ended) tt
      | then-loop-number-test+in-Last+then-is_err w ↦ rw w.ended-is (λ is. absurd (cc))
      | then-loop-number-test+in-Last+else-is_err w ↦ rw (w.ended-is, c.loop-number.invariant.ended) tt
      | then-loop-number-test+in-End w ↦ rw (w.ended-is, c.loop-number.invariant.ended) tt
      | then-loop-number-test+in-Failed w ↦ rw (w.ended-is, w.input-is) (λ is. w.in-Failed.ensures.failed refl)
      | then-loop-number-test+then-is_err-2 w ↦ rw w.ended-is (λ is. absurd (cc))
    ]

pub returns-clause-output : goal.returns-clause-output
returns-clause-output g c =
    elim c.loop-number-test.branch [
      | else-loop-number-test w ↦ rw (w.ended-is, c.loop-number.invariant.ended) tt
      | then-loop-number-test+in-Last+then-is_err w ↦ rw (w.ended-is, w.out-is) (λ is. on_err_of w.write_wrong.result w.is_err.ensures.value w.if-is_err.true w.write_wrong.ensures.failed)
      | then-loop-number-test+in-Last+else-is_err w ↦ rw (w.ended-is, c.loop-number.invariant.ended) tt
      | then-loop-number-test+in-End w ↦ rw (w.ended-is, c.loop-number.invariant.ended) tt
      | then-loop-number-test+in-Failed w ↦ rw w.ended-is (λ is. absurd (cc))
      | then-loop-number-test+then-is_err-2 w ↦ rw (w.ended-is, w.out-is) (λ is. elim w.match-next_given.branch [
        | in-Line+in_default w' ↦ rw w'.out-is (on_err_of w'.answer-answered.result.written (w.is_err-in-loop-number.ensures.value ∙ ap is_err w'.written-is) w.if-is_err-2.true w'.answer-answered.ensures.failed)
        | in-State w' ↦ rw w'.out-is (on_err_of w'.restore-answered.result.written (w.is_err-in-loop-number.ensures.value ∙ ap is_err w'.written-is) w.if-is_err-2.true w'.restore-answered.ensures.failed)
        | in-Wrong w' ↦ rw w'.out-is (on_err_of w'.write_wrong-written.result (w.is_err-in-loop-number.ensures.value ∙ ap is_err w'.written-is) w.if-is_err-2.true w'.write_wrong-written.ensures.failed)
      ])
    ]

-- How the parts of a test make up the whole.
use Rattle.std.proofs.Math.Seq.{take-suc}
use Rattle.script.specs.declared.moves.Move.{Move}
use Rattle.script.specs.declared.moves.Move.TheVariants.{Power as PowerMove}
use Rattle.std.proofs.Common.{◌≡◌, ◌≢◌, ◌≤◌, ◌<◌, ℕ, zero, suc, ◌+◌, ◌-◌, take, drop, get_or, replicate, List, [], ◌∷◌, ◌++◌, true, false, Bool, cond, length, refl, sym, ap, subst, ◌∙◌, append-nil, append_assoc, Option, Some, None}
use Rattle.std.specs.Prelude.{◌==◌}
use Rattle.std.proofs.lemmas.Bool.Decides.{nat_tests}
use Rattle.std.proofs.Common.{arith}
use Rattle.std.specs.Io.KnownBytes.{Appends}
use Rattle.exact_text.specs.Written.{AppendsProperPrefix}
use Rattle.exact_text.proofs.Writes.{appends_nothing, appends_twice, prefix_of_longer, whole_then_prefix}
use Rattle.machine.specs.Machine.{Input}
use Rattle.machine.specs.Machine.{Frame, Seconds, Power}
use Rattle.machine.specs.Machine.{MachineState, powered, seconds_passed}
use Rattle.machine.specs.Watched.{FrameState, Seen, begun_with, machine_after, seen_in}
use Rattle.debugger.specs.Registers.{register_line}
use Rattle.test_run.specs.declared.ends.End.{End}
use Rattle.test_run.specs.declared.ends.End.TheVariants.{Frames, Locked, Breakpoint, Loop, Memory}
use Rattle.test_run.specs.declared.frame.PlayedFrame.{PlayedFrame}
use Rattle.test_run.specs.declared.run.Ended.{Ended}
use Rattle.test_run.specs.declared.run.Went.{Went}
use Rattle.test_run.specs.declared.run.Went.TheVariants.{On, Over}
use Rattle.test_run.specs.declared.run.Progress.{Progress}
use Rattle.test_run.specs.Ends.{end_seen}
use Rattle.test_run.specs.Told.{ToldState, told_all}
use Rattle.script.specs.Inputs.{inputs_of_move, inputs_of_moves}
use Rattle.test_run.specs.Tested.{Tested, ended_at, frames_with, played_then, sent_first, tested}
use Rattle.test_run.specs.Playing.{HasPlayed, HasReached, HasEnded, IsEnded, GoesOn, StopsIn}
use Rattle.test_run.specs.Refusals.{FindsNoMemory}
use Rattle.test_run.proofs.Telling.{told_all-append}

-- ---- one input

pub tested-none : (limit done : ℕ) (m : MachineState) → tested limit done [] m ≡ ended_at m.processor done Frames
unfolding tested
tested-none limit done m = refl

pub tested-seconds : (limit done n : ℕ) (inputs : List Input) (m : MachineState) → tested limit done (Seconds n ∷ inputs) m ≡ tested limit done inputs (seconds_passed n m)
unfolding tested
tested-seconds limit done n inputs m = refl

pub tested-power : (limit done : ℕ) (inputs : List Input) (m : MachineState) → tested limit done (Power ∷ inputs) m ≡ tested limit done inputs (powered m)
unfolding tested
tested-power limit done inputs m = refl

abbrev frame_then : ℕ → ℕ → Seen → List Input → Tested
frame_then limit done seen inputs =
    sent_first seen.sent (played_then (end_seen seen) seen.end.processor done (tested limit (done + 1) inputs (machine_after seen.end)))

same_test : (a b : ℕ) → a ≡ b → (a == b) ≡ true
same_test a b e = grind (arith, nat_tests)

other_test : (a b : ℕ) → a ≢ b → (a == b) ≡ false
other_test a b ne = grind (arith, nat_tests)

pub tested-full : (limit done buttons : ℕ) (inputs : List Input) (m : MachineState) → done ≡ limit
    → tested limit done (Frame buttons ∷ inputs) m ≡ ended_at m.processor done Frames
unfolding tested
tested-full limit done buttons inputs m e =
    ap (λ (b : Bool). cond b (ended_at m.processor done Frames) (frame_then limit done (seen_in (begun_with buttons m)) inputs)) (same_test done limit e)

pub tested-frame : (limit done buttons : ℕ) (inputs : List Input) (m : MachineState) → done ≢ limit
    → tested limit done (Frame buttons ∷ inputs) m ≡ frame_then limit done (seen_in (begun_with buttons m)) inputs
unfolding tested
tested-frame limit done buttons inputs m ne =
    ap (λ (b : Bool). cond b (ended_at m.processor done Frames) (frame_then limit done (seen_in (begun_with buttons m)) inputs)) (other_test done limit ne)

-- ---- one part after another

sent_twice : (a b : List ℕ) (t : Tested) → sent_first a (sent_first b t) ≡ sent_first (a ++ b) t
sent_twice a b t = ap (λ (s : List ℕ). record { processor = t.processor; frames = t.frames; sent = s; why = t.why }) (sym (append_assoc a b t.sent))

goes_then : (whole first : Tested) (rest : MachineState → Tested) (a b : List ℕ) (done : ℕ) (went : Went)
    → whole ≡ sent_first a first → GoesOn first rest b done went → GoesOn whole rest (a ++ b) done went
goes_then whole first rest a b done (On m) e goes = e ∙ ap (sent_first a) goes ∙ sent_twice a b (rest m)
goes_then whole first rest a b done (Over ended) e goes = (goes.0, e ∙ ap (sent_first a) goes.1 ∙ sent_twice a b goes.0, goes.2)

pub reached_nothing : (limit : ℕ) (given : List Input) (machine : MachineState) (old : Progress) (a : Option (List ℕ)) → old.done ≤ limit
    → HasReached limit given given machine old old a a (On machine)
reached_nothing limit given machine old a most =
    record { sent = []; written = appends_nothing a; told = refl; most = most; goes = λ inputs. refl }

pub reached_then : (limit : ℕ) (given left one others : List Input) (machine m : MachineState) (old mid new : Progress) (a b c : Option (List ℕ)) (went : Went)
    → left ≡ one ++ others → HasReached limit given left machine old mid a b (On m) → HasReached limit one [] m mid new b c went
    → HasReached limit given others machine old new a c went
reached_then limit given left one others machine m old mid new a b c went parts first second = record {
  sent = first.sent ++ second.sent;
  written = appends_twice a b c first.sent second.sent first.written second.written;
  told = second.told ∙ ap (λ (t : ToldState). told_all t second.sent) first.told ∙ sym (told_all-append old.told first.sent second.sent);
  most = second.most;
  goes = λ inputs.
      goes_then (tested limit old.done (given ++ inputs) machine) (tested limit mid.done (one ++ (others ++ inputs)) m) (λ m. tested limit new.done (others ++ inputs) m)
      first.sent second.sent new.done went
      (first.goes inputs ∙ ap (λ (rest : List Input). sent_first first.sent (tested limit mid.done rest m)) (ap (λ (l : List Input). l ++ inputs) parts ∙ append_assoc one others inputs))
      (second.goes (others ++ inputs));
}

pub stops_then : (limit : ℕ) (given left one others : List Input) (machine m : MachineState) (old mid : Progress) (a b c : Option (List ℕ))
    → left ≡ one ++ others → HasReached limit given left machine old mid a b (On m) → StopsIn limit one m mid b c → StopsIn limit given machine old a c
stops_then limit given left one others machine m old mid a b c parts first second inputs =
    let whole : tested limit old.done (given ++ inputs) machine ≡ sent_first first.sent (tested limit mid.done (one ++ (others ++ inputs)) m) =
    first.goes inputs ∙ ap (λ (rest : List Input). sent_first first.sent (tested limit mid.done rest m)) (ap (λ (l : List Input). l ++ inputs) parts ∙ append_assoc one others inputs) in
    subst (λ (t : Tested). AppendsProperPrefix a c t.sent) (sym whole)
    (whole_then_prefix a b c first.sent (tested limit mid.done (one ++ (others ++ inputs)) m).sent first.written (second (others ++ inputs)))

-- where a test has ended nothing is left
pub over_anyway : (limit : ℕ) (given left : List Input) (machine : MachineState) (old new : Progress) (a b : Option (List ℕ)) (ended : Ended)
    → HasReached limit given left machine old new a b (Over ended) → HasReached limit given [] machine old new a b (Over ended)
over_anyway limit given left machine old new a b ended reached =
    record { sent = reached.sent; written = reached.written; told = reached.told; most = reached.most; goes = λ inputs. reached.goes inputs }

pub left_none : (limit : ℕ) (given left : List Input) (machine : MachineState) (old new : Progress) (a b : Option (List ℕ)) (went : Went) → left ≡ []
    → HasReached limit given left machine old new a b went → HasReached limit given [] machine old new a b went
left_none limit given left machine old new a b went none = subst (λ (l : List Input). HasReached limit given l machine old new a b went) none

-- ---- one frame

pub frame_full : (limit buttons : ℕ) (machine : MachineState) (old : Progress) (a : Option (List ℕ)) (ended : Ended) → old.done ≤ limit → limit ≤ old.done
    → ended.line.bytes ≡ register_line machine.processor → ended.registers ≡ machine.processor.registers → ended.why ≡ Frames
    → HasReached limit (Frame buttons ∷ []) [] machine old old a a (Over ended)
frame_full limit buttons machine old a ended most least line registers why = record {
  sent = [];
  written = appends_nothing a;
  told = refl;
  most = most;
  goes = λ inputs. (
    ended_at machine.processor old.done Frames,
    tested-full limit old.done buttons inputs machine (omega (arith, most, least)),
    record { line = line; registers = registers; why = why; frames = refl; none = refl },
  );
}

pub frame_stops : (limit buttons : ℕ) (machine : MachineState) (old : Progress) (a b : Option (List ℕ)) → old.done < limit
    → AppendsProperPrefix a b (seen_in (begun_with buttons machine)).sent → StopsIn limit (Frame buttons ∷ []) machine old a b
frame_stops limit buttons machine old a b less part inputs =
    let seen : Seen = seen_in (begun_with buttons machine) in
    let rest : Tested = played_then (end_seen seen) seen.end.processor old.done (tested limit (old.done + 1) inputs (machine_after seen.end)) in
    subst (λ (t : Tested). AppendsProperPrefix a b t.sent) (sym (tested-frame limit old.done buttons inputs machine (λ e. omega (arith, e, less))))
    (prefix_of_longer a b seen.sent rest.sent part)

played_as : (limit buttons : ℕ) (machine : MachineState) (done : ℕ) (inputs : List Input) (end : Option End) → done < limit
    → end ≡ end_seen (seen_in (begun_with buttons machine))
    → tested limit done (Frame buttons ∷ inputs) machine ≡ (let seen : Seen = seen_in (begun_with buttons machine) in
    sent_first seen.sent (played_then end seen.end.processor done (tested limit (done + 1) inputs (machine_after seen.end))))
played_as limit buttons machine done inputs end less e =
    let seen : Seen = seen_in (begun_with buttons machine) in
    tested-frame limit done buttons inputs machine (λ e. omega (arith, e, less))
    ∙ ap (λ (end : Option End). sent_first seen.sent (played_then end seen.end.processor done (tested limit (done + 1) inputs (machine_after seen.end)))) (sym e)

frames_within : (why : End) (done limit : ℕ) → done < limit → frames_with why done ≤ limit
frames_within Breakpoint done limit less = omega (arith, less)
frames_within Frames done limit less = omega (arith, less)
frames_within Locked done limit less = omega (arith, less)
frames_within Loop done limit less = omega (arith, less)
frames_within (Memory status) done limit less = omega (arith, less)

pub frame_ends : (limit buttons : ℕ) (machine : MachineState) (old new : Progress) (a b : Option (List ℕ)) (played : PlayedFrame) (why : End) (ended : Ended) → old.done < limit
    → HasPlayed (seen_in (begun_with buttons machine)) old.told new.told a b played → played.end ≡ Some why → new.done ≡ frames_with why old.done
    → ended.line.bytes ≡ register_line played.frame.processor → ended.registers ≡ played.frame.processor.registers → ended.why ≡ why
    → HasReached limit (Frame buttons ∷ []) [] machine old new a b (Over ended)
frame_ends limit buttons machine old new a b played why ended less has is done line registers why_is =
    let seen : Seen = seen_in (begun_with buttons machine) in record {
      sent = seen.sent;
      written = has.written;
      told = has.told;
      most = subst (λ (n : ℕ). n ≤ limit) (sym done) (frames_within why old.done limit less);
      goes = λ inputs. (
        ended_at seen.end.processor (frames_with why old.done) why,
        played_as limit buttons machine old.done inputs (Some why) less (sym is ∙ has.end),
        record {
          line = line ∙ ap (λ (f : FrameState). register_line f.processor) has.frame;
          registers = registers ∙ ap (λ (f : FrameState). f.processor.registers) has.frame;
          why = why_is;
          frames = done;
          none = refl;
        },
      );
    }

pub frame_goes_on : (limit buttons : ℕ) (machine m : MachineState) (old new : Progress) (a b : Option (List ℕ)) (played : PlayedFrame) → old.done < limit
    → HasPlayed (seen_in (begun_with buttons machine)) old.told new.told a b played → played.end ≡ None → new.done ≡ old.done + 1 → m ≡ machine_after played.frame
    → HasReached limit (Frame buttons ∷ []) [] machine old new a b (On m)
frame_goes_on limit buttons machine m old new a b played less has is done e =
    let seen : Seen = seen_in (begun_with buttons machine) in record {
      sent = seen.sent;
      written = has.written;
      told = has.told;
      most = omega (arith, done, less);
      goes = λ inputs.
          played_as limit buttons machine old.done inputs None less (sym is ∙ has.end)
          ∙ ap (λ (n : ℕ). sent_first seen.sent (tested limit n inputs (machine_after seen.end))) (sym done)
          ∙ ap (λ (m : MachineState). sent_first seen.sent (tested limit new.done inputs m)) (sym (e ∙ ap machine_after has.frame));
    }

-- the next of several frames
pub frames_next : (times i buttons : ℕ) → i < times
    → ◌≡◌ {A = List Input} (replicate (times - i) (Frame buttons)) ((Frame buttons ∷ []) ++ replicate (times - (i + 1)) (Frame buttons))
frames_next times i buttons less =
    let more : times - i ≡ suc (times - (i + 1)) = omega arith in
    ap (λ (n : ℕ). replicate {A = Input} n (Frame buttons)) more

pub frames_all : (times i buttons : ℕ) → times ≤ i → ◌≡◌ {A = List Input} (replicate (times - i) (Frame buttons)) []
frames_all times i buttons all =
    let none : times - i ≡ 0 = omega arith in
    ap (λ (n : ℕ). replicate {A = Input} n (Frame buttons)) none

-- ---- a move

pub reached_seconds : (limit n : ℕ) (machine m : MachineState) (old : Progress) (a : Option (List ℕ)) → old.done ≤ limit → m ≡ seconds_passed n machine
    → HasReached limit (Seconds n ∷ []) [] machine old old a a (On m)
reached_seconds limit n machine m old a most e = record {
  sent = [];
  written = appends_nothing a;
  told = refl;
  most = most;
  goes = λ inputs. tested-seconds limit old.done n inputs machine ∙ ap (λ (m : MachineState). tested limit old.done inputs m) (sym e);
}

pub reached_power : (limit : ℕ) (machine m : MachineState) (old : Progress) (a : Option (List ℕ)) → old.done ≤ limit → m ≡ powered machine
    → HasReached limit (Power ∷ []) [] machine old old a a (On m)
reached_power limit machine m old a most e = record {
  sent = [];
  written = appends_nothing a;
  told = refl;
  most = most;
  goes = λ inputs. tested-power limit old.done inputs machine ∙ ap (λ (m : MachineState). tested limit old.done inputs m) (sym e);
}

-- ---- the end

ended_by : (whole t : Tested) (sent : List ℕ) (old new : Progress) (a b : Option (List ℕ)) (ended : Ended) → whole ≡ sent_first sent t → IsEnded t new.done ended
    → Appends a b sent → new.told ≡ told_all old.told sent → HasEnded whole old new a b ended
ended_by whole t sent old new a b ended e is written told =
    let all : whole.sent ≡ sent = ap (λ (t : Tested). t.sent) e ∙ ap (λ (s : List ℕ). sent ++ s) is.none ∙ append-nil sent in record {
      written = subst (Appends a b) (sym all) written;
      told = told ∙ ap (told_all old.told) (sym all);
      line = is.line ∙ sym (ap (λ (t : Tested). register_line t.processor) e);
      registers = is.registers ∙ sym (ap (λ (t : Tested). t.processor.registers) e);
      why = is.why ∙ sym (ap (λ (t : Tested). t.why) e);
      frames = is.frames ∙ sym (ap (λ (t : Tested). t.frames) e);
    }

-- it ended among these inputs, whatever comes after them
pub ended_among : (limit : ℕ) (given inputs : List Input) (machine : MachineState) (old new : Progress) (a b : Option (List ℕ)) (ended : Ended)
    → HasReached limit given [] machine old new a b (Over ended) → HasEnded (tested limit old.done (given ++ inputs) machine) old new a b ended
ended_among limit given inputs machine old new a b ended reached =
    let goes = reached.goes inputs in
    ended_by _ goes.0 reached.sent old new a b ended goes.1 goes.2 reached.written reached.told

-- all inputs were given
pub ended_after_all : (limit : ℕ) (given : List Input) (machine m : MachineState) (old new : Progress) (a b : Option (List ℕ)) (ended : Ended)
    → HasReached limit given [] machine old new a b (On m) → ended.line.bytes ≡ register_line m.processor → ended.registers ≡ m.processor.registers → ended.why ≡ Frames
    → HasEnded (tested limit old.done given machine) old new a b ended
ended_after_all limit given machine m old new a b ended reached line registers why =
    let goes : tested limit old.done (given ++ []) machine ≡ sent_first reached.sent (tested limit new.done [] m) = reached.goes [] in
    let whole : tested limit old.done given machine ≡ sent_first reached.sent (ended_at m.processor new.done Frames) =
    ap (λ (l : List Input). tested limit old.done l machine) (sym (append-nil given)) ∙ goes ∙ ap (sent_first reached.sent) (tested-none limit new.done m) in
    ended_by _ (ended_at m.processor new.done Frames) reached.sent old new a b ended whole
    (record { line = line; registers = registers; why = why; frames = refl; none = refl }) reached.written reached.told

-- ---- two parts as a whole

-- the second part is what is left
reached_before : (limit : ℕ) (given more : List Input) (machine m : MachineState) (old new : Progress) (a b : Option (List ℕ))
    → HasReached limit given [] machine old new a b (On m) → HasReached limit (given ++ more) more machine old new a b (On m)
reached_before limit given more machine m old new a b reached = record {
  sent = reached.sent;
  written = reached.written;
  told = reached.told;
  most = reached.most;
  goes = λ inputs. ap (λ (l : List Input). tested limit old.done l machine) (append_assoc given more inputs) ∙ reached.goes (more ++ inputs);
}

pub whole_reached : (limit : ℕ) (given more : List Input) (machine m : MachineState) (old mid new : Progress) (a b c : Option (List ℕ)) (went : Went)
    → HasReached limit given [] machine old mid a b (On m) → HasReached limit more [] m mid new b c went → HasReached limit (given ++ more) [] machine old new a c went
whole_reached limit given more machine m old mid new a b c went first second =
    reached_then limit (given ++ more) more more [] machine m old mid new a b c went (sym (append-nil more)) (reached_before limit given more machine m old mid a b first) second

pub ended_over : (limit : ℕ) (given : List Input) (machine : MachineState) (old new : Progress) (a b : Option (List ℕ)) (ended : Ended)
    → HasReached limit given [] machine old new a b (Over ended) → HasEnded (tested limit old.done given machine) old new a b ended
ended_over limit given machine old new a b ended reached =
    subst (λ (l : List Input). HasEnded (tested limit old.done l machine) old new a b ended) (append-nil given) (ended_among limit given [] machine old new a b ended reached)

pub whole_stops : (limit : ℕ) (given more : List Input) (machine m : MachineState) (old mid : Progress) (a b c : Option (List ℕ))
    → HasReached limit given [] machine old mid a b (On m) → StopsIn limit more m mid b c → AppendsProperPrefix a c (tested limit old.done (given ++ more) machine).sent
whole_stops limit given more machine m old mid a b c first second =
    subst (λ (l : List Input). AppendsProperPrefix a c (tested limit old.done l machine).sent) (append-nil (given ++ more))
    (stops_then limit (given ++ more) more more [] machine m old mid a b c (sym (append-nil more)) (reached_before limit given more machine m old mid a b first) second [])

-- ---- moves, one after another

split : (moves : List Move) (i : ℕ) → take i moves ++ drop i moves ≡ moves
split moves zero = refl
split [] (suc i) = refl
split (m ∷ moves) (suc i) = ap (λ (l : List Move). m ∷ l) (split moves i)

inputs_append : (first second : List Move) → inputs_of_moves (first ++ second) ≡ inputs_of_moves first ++ inputs_of_moves second
inputs_append [] second = refl
inputs_append (m ∷ first) second = ap (λ (l : List Input). inputs_of_move m ++ l) (inputs_append first second) ∙ sym (append_assoc (inputs_of_move m) (inputs_of_moves first) (inputs_of_moves second))

one_more : (moves : List Move) (i : ℕ) (d : Move) → i < length moves → take i moves ++ get_or moves i d ∷ [] ≡ take (i + 1) moves
one_more moves i d less = let next : suc i ≡ i + 1 = omega arith in sym (take-suc moves i d less) ∙ ap (λ (k : ℕ). take k moves) next

module _ (limit : ℕ) (moves : List Move) (i : ℕ) (d : Move) (less : i < length moves) (machine m : MachineState) (old mid new : Progress) (a b c : Option (List ℕ))
    (so_far : HasReached limit (inputs_of_moves (take i moves)) [] machine old mid a b (On m)) where
  abbrev next : Move
  next = get_or moves i d

  first_are : inputs_of_moves (take i moves) ++ inputs_of_move next ≡ inputs_of_moves (take (i + 1) moves)
  first_are =
      ap (λ (l : List Input). inputs_of_moves (take i moves) ++ l) (sym (append-nil (inputs_of_move next)))
      ∙ sym (inputs_append (take i moves) (next ∷ [])) ∙ ap inputs_of_moves (one_more moves i d less)

  all_are : (inputs_of_moves (take i moves) ++ inputs_of_move next) ++ inputs_of_moves (drop (i + 1) moves) ≡ inputs_of_moves moves
  all_are = ap (λ (l : List Input). l ++ inputs_of_moves (drop (i + 1) moves)) first_are ∙ sym (inputs_append (take (i + 1) moves) (drop (i + 1) moves)) ∙ ap inputs_of_moves (split moves (i + 1))

  so_far_and : (went : Went) → HasReached limit (inputs_of_move next) [] m mid new b c went → HasReached limit (inputs_of_moves (take i moves) ++ inputs_of_move next) [] machine old new a c went
  so_far_and went one = whole_reached limit (inputs_of_moves (take i moves)) (inputs_of_move next) machine m old mid new a b c went so_far one

  pub move_reached : (n : MachineState) → HasReached limit (inputs_of_move next) [] m mid new b c (On n) → HasReached limit (inputs_of_moves (take (i + 1) moves)) [] machine old new a c (On n)
  move_reached n one = subst (λ (l : List Input). HasReached limit l [] machine old new a c (On n)) first_are (so_far_and (On n) one)

  pub move_ended : (ended : Ended) → HasReached limit (inputs_of_move next) [] m mid new b c (Over ended) → HasReached limit (inputs_of_moves moves) [] machine old new a c (Over ended)
  move_ended ended one =
      let reached = so_far_and (Over ended) one in
      let more = inputs_of_moves (drop (i + 1) moves) in
      subst (λ (l : List Input). HasReached limit l [] machine old new a c (Over ended)) all_are
      (record {
        sent = reached.sent;
        written = reached.written;
        told = reached.told;
        most = reached.most;
        goes = λ inputs.
            subst (λ (t : Tested). GoesOn t (λ n. tested limit new.done ([] ++ inputs) n) reached.sent new.done (Over ended))
            (ap (λ (l : List Input). tested limit old.done l machine) (sym (append_assoc (inputs_of_moves (take i moves) ++ inputs_of_move next) more inputs)))
            (reached.goes (more ++ inputs));
      })

  pub move_failed : StopsIn limit (inputs_of_move next) m mid b c → StopsIn limit (inputs_of_moves moves) machine old a c
  move_failed stop = λ inputs.
      let given = inputs_of_moves (take i moves) in
      let more = inputs_of_moves (drop (i + 1) moves) in
      let all : (given ++ inputs_of_move next) ++ (more ++ inputs) ≡ inputs_of_moves moves ++ inputs =
      sym (append_assoc (given ++ inputs_of_move next) more inputs) ∙ ap (λ (l : List Input). l ++ inputs) all_are in
      subst (λ (l : List Input). AppendsProperPrefix a c (tested limit old.done l machine).sent) all
      (stops_then limit (given ++ inputs_of_move next) (inputs_of_move next) (inputs_of_move next) [] machine m old mid a b c (sym (append-nil (inputs_of_move next)))
      (reached_before limit given (inputs_of_move next) machine m old mid a b so_far) stop (more ++ inputs))

  pub move_without_memory : next ≡ PowerMove → c ≡ b → FindsNoMemory limit old.done moves machine a c
  move_without_memory is quiet =
      let given = inputs_of_moves (take i moves) in
      let reached : tested limit old.done (given ++ []) machine ≡ sent_first so_far.sent (tested limit mid.done [] m) = so_far.goes [] in
      let whole : tested limit old.done given machine ≡ sent_first so_far.sent (ended_at m.processor mid.done Frames) =
      ap (λ (l : List Input). tested limit old.done l machine) (sym (append-nil given)) ∙ reached ∙ ap (sent_first so_far.sent) (tested-none limit mid.done m) in
      let sent_is : so_far.sent ≡ (tested limit old.done given machine).sent = sym (append-nil so_far.sent) ∙ sym (ap (λ (t : Tested). t.sent) whole) in
      record {
        made = take i moves;
        left = drop (i + 1) moves;
        moves_are =
            sym (split moves (i + 1)) ∙ ap (λ (l : List Move). l ++ drop (i + 1) moves) (sym (one_more moves i d less)) ∙ append_assoc (take i moves) (next ∷ []) (drop (i + 1) moves)
            ∙ ap (λ (m : Move). take i moves ++ m ∷ drop (i + 1) moves) is;
        written = subst (λ (o : Option (List ℕ)). Appends a o (tested limit old.done given machine).sent) (sym quiet) (subst (Appends a b) sent_is so_far.written);
      }

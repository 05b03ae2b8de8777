-- How a SAVE and a recording come on together, and where they stop.
use Rattle.std.proofs.Common.{◌≡◌, ℕ, ◌+◌, ◌≤◌, List, [], ◌∷◌, ◌++◌, length, take, drop, Option, None, Some, refl, sym, ap, ◌∙◌, subst, arith, append_assoc, append-nil, length-append}
use Rattle.std.proofs.lemmas.List.{take-take, take-map, take-append-le, length-take-le, length-map}
use Rattle.std.specs.Option.{option_map}
use Rattle.sha2.specs.Sha256.{sha256}
use Rattle.machine.specs.Machine.{MachineState, Input, start, after}
use Rattle.sector_device.specs.DiskState.{DiskState}
use Rattle.sector_device.specs.Runs.{HoldsSince}
use Rattle.sector_device.specs.declared.device.SectorDevice.{Ghosts as Disks}
use Rattle.log_format.specs.Content.{content}
use Rattle.input_entries.specs.declared.Entry.{Entry}
use Rattle.recording.specs.Accessors.{device_of as device_of_recording}
use Rattle.recording.specs.Recorded.{recorded}
use Rattle.session.specs.Accessors.{device_of}
use Rattle.session.specs.Inputs.{input_of, inputs_of}
use Rattle.session.specs.Stands.{Position, stands}
use Rattle.session.specs.declared.error.SessionError.{SessionError}
use Rattle.session.specs.declared.error.SessionError.TheVariants.{Output}
use Rattle.session.proofs.Answering.{answered_both, answered_error, answered_nothing, answered_refusal, answered_refused, answered_value}
use Rattle.session.proofs.StandsLaws.{after_append, after_none}
use Rattle.session.proofs.Writes.{since_weaker}
use Rattle.session.proofs.Beginnings.{since_then}
use Rattle.playing.specs.Going.{Place, all_of, SaveAdvances, SaveStops}
use Rattle.playing.specs.Making.{Advances, Stops}
use Rattle.playing.specs.Making.Advances.{stays, by_input, by_save}
use Rattle.playing.specs.Making.Stops.{at_input, at_save, at_line, past_input, past_save}
use Rattle.playing.specs.Played.{Reaches}
use Rattle.playing.specs.declared.playable.Playable.{Ghosts}
use Rattle.playing.proofs.Going.{IsNow}
use Rattle.playing.proofs.PlayLaws.{going_nowhere, going_then, going_by, stopped_here, stopped_then, stopped_by, stopped_more}
use Rattle.playing.proofs.Stops.{stops_among}
use Rattle.replaying.specs.Agreeing.{Agrees, AllAgree}
use Rattle.recorded_play.specs.Steps.{Game, game, power_on, HoldsFirst, HoldsSaved, Records, IsFull, IsInStep, IsBehind, BothAdvance, BothStop, IsRecordStop, told_as}
use Rattle.recorded_play.specs.declared.error.RecordError.{RecordError}
use Rattle.recorded_play.specs.declared.error.RecordError.TheVariants.{Session}
use Rattle.recorded_play.specs.declared.recorded_game.RecordedGame.{RecordedGame}
use Rattle.recorded_play.proofs.Recordings.{first_since_here, first_more, holds_here, records_then, saved_more}

-- ---- what agrees

-- the entries of these inputs
pub entries_of : (found : Option (List Entry)) (all : List Input) → option_map inputs_of found ≡ Some all → (entries : List Entry) × (found ≡ Some entries) × (inputs_of entries ≡ all)
entries_of None all is = absurd (cc)
entries_of (Some entries) all is = (entries, refl, cc)

-- an image that stands for some of these inputs, and one that holds at least these
pub reached_agrees : (rom : List ℕ) (all : List Input) (most : ℕ) (s r : List (List ℕ)) → Reaches rom (power_on rom) 0 (take most all) s → HoldsFirst rom most all r → Agrees rom s r
reached_agrees rom all most s r reaches held = λ position stood.
    let is : Some position ≡ Some (record { count = 0 + reaches.count; machine = after (start rom) (take reaches.count (take most all)) }) = sym stood ∙ reaches.is in
    let same : position ≡ record { count = 0 + reaches.count; machine = after (start rom) (take reaches.count (take most all)) } = cc in
    let counts : position.count ≡ 0 + reaches.count = ap (λ (p : Position). p.count) same in
    let count_is : position.count ≡ reaches.count = omega (arith, counts) in
    let enough : most ≤ length all = omega (arith, held.at_least, held.within) in
    let below : reaches.count ≤ most = omega (arith, reaches.within, length-take-le most all enough) in
    let front : take reaches.count (take most all) ≡ take reaches.count (take held.count all) =
    take-take reaches.count most all below ∙ sym (take-take reaches.count held.count all (omega (arith, below, held.at_least))) in
    let found = entries_of (recorded (sha256 rom) r) (take held.count all) held.is in
    let size : length found.0 ≡ held.count = sym (length-map found.0 input_of) ∙ ap length found.2 ∙ length-take-le held.count all held.within in
    record {
      entries = found.0;
      holds = found.1;
      enough = omega (arith, count_is, below, held.at_least, size);
      machine_is =
          ap (λ (p : Position). p.machine) same ∙ ap (after (start rom)) front
          ∙ ap (λ (n : ℕ). after (start rom) (take n (take held.count all))) (sym count_is)
          ∙ ap (λ (l : List Input). after (start rom) (take position.count l)) (sym found.2)
          ∙ ap (after (start rom)) (take-map input_of position.count found.0);
    }

pub behind_agree : (rom : List ℕ) (old now : Game) (all : List Input) → IsBehind rom old now all → AllAgree rom now.save.disk now.recording
behind_agree rom old now all behind = λ s r is_save is_recording. reached_agrees rom all behind.most s r (behind.saves s is_save) (behind.recordings r is_recording)

-- ---- at rest

-- the one image of the SAVE stands for what is acknowledged
pub save_reaches : (rom : List ℕ) (now : Game) (all : List Input) → IsInStep rom now all → (image : List (List ℕ)) → now.save.disk.image image → Reaches rom (power_on rom) 0 (take now.save.acknowledged all) image
save_reaches rom now all step image here =
    let played = step.played in
    let whole : take now.save.acknowledged (take now.save.acknowledged all) ≡ take now.save.acknowledged all = take-take now.save.acknowledged now.save.acknowledged all (omega arith) in
    let saved : now.save.acknowledged ≡ played.saved = omega (arith, played.acknowledged_is) in
    let count_is : now.save.acknowledged ≡ 0 + now.save.acknowledged = omega arith in
    let machine_is : after (start rom) (take played.saved all) ≡ after (start rom) (take now.save.acknowledged (take now.save.acknowledged all)) =
    ap (after (start rom)) (ap (λ (n : ℕ). take n all) (sym saved) ∙ sym whole) in
    record {
      count = now.save.acknowledged;
      at_least = omega arith;
      within = omega (arith, length-take-le now.save.acknowledged all step.holds.within);
      is = ap (λ (i : List (List ℕ)). stands rom (content i)) (played.settled image here) ∙ played.stands_is
          ∙ (λ i. Some (record { count = count_is i; machine = machine_is i }));
    }

pub behind_here : (rom : List ℕ) (now : Game) (all : List Input) → IsInStep rom now all → IsNow now.recording → IsBehind rom now now all
behind_here rom now all step only = record {
  honest = step.holds.honest;
  moments = first_since_here rom now.recording now.save.acknowledged now.save.pending all step.holds only;
  most = now.save.acknowledged;
  within = step.holds.within;
  least = omega arith;
  saves = save_reaches rom now all step;
  recordings = holds_here rom now.recording now.save.acknowledged now.save.pending all step.holds;
}

-- ---- one after the other

pub behind_on : (rom : List ℕ) (a b c : Game) (all : List Input) → HoldsSince a.recording b.recording (HoldsFirst rom 0 all) → IsBehind rom b c all → IsBehind rom a c all
behind_on rom a b c all first second = record {
  honest = second.honest;
  moments = since_then first second.moments;
  most = second.most;
  within = second.within;
  least = second.least;
  saves = second.saves;
  recordings = second.recordings;
}

-- more inputs that were not given
pub behind_more : (rom : List ℕ) (old now : Game) (all more : List Input) → IsBehind rom old now all → IsBehind rom old now (all ++ more)
behind_more rom old now all more behind = record {
  honest = behind.honest;
  moments = since_weaker behind.moments (first_more rom 0 all more);
  most = behind.most;
  within = omega (arith, behind.within, length-append all more);
  least = behind.least;
  saves = λ image here. subst (λ (l : List Input). Reaches rom (power_on rom) 0 l image) (sym (take-append-le behind.most all more behind.within)) (behind.saves image here);
  recordings = λ image here. first_more rom behind.most all more image (behind.recordings image here);
}

module _ (rom : List ℕ) (a b : Game) (all more : List Input) (comes : BothAdvance a b more) (step : IsInStep rom a all) where
  pub in_step_then : IsInStep rom b (all ++ more)
  in_step_then = record { played = (comes.going rom (power_on rom) all step.played).played; holds = (comes.records rom all step.holds).holds }

  pub behind_after : IsNow b.recording → IsBehind rom a b (all ++ more)
  behind_after only = behind_on rom a b b (all ++ more) (comes.records rom all step.holds).moments (behind_here rom b (all ++ more) in_step_then only)

-- ---- steps

pub comes_nothing : (a : Game) → IsNow a.save.disk → IsNow a.recording → BothAdvance a a []
comes_nothing a only_save only_recording = record {
  going = λ rom from given played. going_nowhere rom a.save.disk a.save.acknowledged a.save.pending a.save.machine from given played only_save;
  records = λ rom all held. subst (Records rom a.recording a.recording a.save.acknowledged a.save.pending) (sym (append-nil all)) (record { moments = first_since_here rom a.recording a.save.acknowledged a.save.pending all held only_recording; holds = held });
  machine_is = sym (after_none a.save.machine);
  all_is = omega arith;
  later = omega arith;
  save_calls = answered_nothing;
  recording_calls = answered_nothing;
  rom = refl;
}

pub comes_then : (a b c : Game) (first second : List Input) → BothAdvance a b first → BothAdvance b c second → BothAdvance a c (first ++ second)
comes_then a b c first second one two = record {
  going = λ rom from given played.
      let before = one.going rom from given played in
      going_by (append_assoc given first second)
      (going_then rom a.save.disk b.save.disk c.save.disk c.save.acknowledged c.save.pending c.save.machine from (given ++ first) second before.moments (two.going rom from (given ++ first) before.played));
  records = λ rom all held.
      let before = one.records rom all held in
      subst (Records rom a.recording c.recording c.save.acknowledged c.save.pending) (append_assoc all first second)
      (records_then rom a.recording b.recording c.recording c.save.acknowledged c.save.pending (all ++ first) second before.moments (two.records rom (all ++ first) before.holds));
  machine_is = two.machine_is ∙ ap (λ (m : MachineState). after m second) one.machine_is ∙ after_append a.save.machine first second;
  all_is = omega (arith, two.all_is, one.all_is, length-append first second);
  later = omega (arith, one.later, two.later);
  save_calls = answered_both one.save_calls two.save_calls;
  recording_calls = answered_both one.recording_calls two.recording_calls;
  rom = two.rom ∙ one.rom;
}

pub record_stops_among : (why : RecordError) (less all : ℕ) (now : DiskState) → less ≤ all → IsRecordStop why less now → IsRecordStop why all now
record_stops_among (Session why) less all now more stop = stops_among why less all now more stop
record_stops_among why less all now more stop = stop

-- more inputs that were not given
pub full_more : (rom : List ℕ) (recording : DiskState) (all more : List Input) → IsFull rom recording all → IsFull rom recording (all ++ more)
full_more rom recording all more full =
    record {
      saved = full.saved;
      recorded_is = full.recorded_is ∙ ap (λ (l : List Input). Some l) (sym (take-append-le full.saved all more (omega (arith, full.saved_given, full.within))));
      given = full.given;
      saved_given = full.saved_given;
      within = omega (arith, full.within, length-append all more);
      unsaved = full.unsaved;
      unsaved_is = full.unsaved_is ∙ ap (drop full.saved) (sym (take-append-le full.given all more full.within));
      too_many = full.too_many;
    }

pub halts_then : (a b c : Game) (first second : List Input) (why : RecordError) → BothAdvance a b first → BothStop b c second why → BothStop a c (first ++ second) why
halts_then a b c first second why one two = record {
  stopped = λ rom from given played.
      let before = one.going rom from given played in
      stopped_by (append_assoc given first second)
      (stopped_then rom a.save.disk b.save.disk c.save.disk c.save.acknowledged from (given ++ first) second before.moments (two.stopped rom from (given ++ first) before.played));
  behind = λ rom all step.
      subst (IsBehind rom a c) (append_assoc all first second)
      (behind_on rom a b c ((all ++ first) ++ second) (since_weaker (one.records rom all step.holds).moments (first_more rom 0 (all ++ first) second)) (two.behind rom (all ++ first) (in_step_then rom a b all first one step)));
  cause =
      let size : all_of b.save + length second ≤ all_of a.save + length (first ++ second) = omega (arith, one.all_is, length-append first second) in
      record_stops_among why (all_of b.save + length second) (all_of a.save + length (first ++ second)) c.save.disk size two.cause;
  full = λ is rom all held. subst (IsFull rom c.recording) (append_assoc all first second) (two.full is rom (all ++ first) (one.records rom all held).holds);
  later = omega (arith, one.later, two.later);
  save_calls = answered_refused one.save_calls two.save_calls (λ n. refl);
  recording_calls = answered_refused one.recording_calls two.recording_calls (λ n. refl);
}

-- before more inputs
pub halts_more : (a b : Game) (first second : List Input) (why : RecordError) → BothStop a b first why → BothStop a b (first ++ second) why
halts_more a b first second why halts = record {
  stopped = λ rom from given played.
      stopped_by (append_assoc given first second) (stopped_more rom a.save.disk b.save.disk b.save.acknowledged from (given ++ first) second (halts.stopped rom from given played));
  behind = λ rom all step. subst (IsBehind rom a b) (append_assoc all first second) (behind_more rom a b (all ++ first) second (halts.behind rom all step));
  cause =
      let size : all_of a.save + length first ≤ all_of a.save + length (first ++ second) = omega (arith, length-append first second) in
      record_stops_among why (all_of a.save + length first) (all_of a.save + length (first ++ second)) b.save.disk size halts.cause;
  full = λ is rom all held. subst (IsFull rom b.recording) (append_assoc all first second) (full_more rom b.recording (all ++ first) second (halts.full is rom all held));
  later = halts.later;
  save_calls = halts.save_calls;
  recording_calls = halts.recording_calls;
}

-- a line that could not be written
pub halts_at_line : (a : Game) (more : List Input) → IsNow a.save.disk → IsNow a.recording → BothStop a a more (Session Output)
halts_at_line a more only_save only_recording = record {
  stopped = λ rom from given played.
      stopped_more rom a.save.disk a.save.disk a.save.acknowledged from given more (stopped_here rom a.save.disk a.save.acknowledged a.save.pending a.save.machine from given played only_save);
  behind = λ rom all step. behind_more rom a a all more (behind_here rom a all step only_recording);
  cause = tt;
  full = λ is. absurd (cc);
  later = omega arith;
  save_calls = answered_refusal (λ n. refl);
  recording_calls = answered_refusal (λ n. refl);
}

-- ---- an input

-- a game whose session alone went on
abbrev moved : Game → Place → Game
moved a b = record { save = b; recording = a.recording }

-- which makes no call of either device
module _ (a : Game) (b : Place) (input : Input) (goes : SaveAdvances a.save b (input ∷ [])) (count_is : b.acknowledged ≡ a.save.acknowledged) (only_recording : IsNow a.recording) where
  pub input_comes : inputs_of b.pending ≡ inputs_of a.save.pending ++ input ∷ [] → BothAdvance a (moved a b) (input ∷ [])
  input_comes more_is = record {
    going = goes.going;
    records = λ rom all held.
        let next : HoldsSaved rom a.recording b.acknowledged b.pending (all ++ input ∷ []) =
        subst (λ (n : ℕ). HoldsSaved rom a.recording n b.pending (all ++ input ∷ [])) (sym count_is) (saved_more rom a.recording a.save.acknowledged a.save.pending b.pending all (input ∷ []) held more_is) in
        record { moments = first_since_here rom a.recording b.acknowledged b.pending (all ++ input ∷ []) next only_recording; holds = next };
    machine_is = goes.machine_is;
    all_is = goes.all_is;
    later = goes.later;
    save_calls = answered_value goes.calls;
    recording_calls = answered_nothing;
    rom = goes.rom;
  }

-- one that is refused leaves the game as it was
pub input_halts : (a : Game) (b : Place) (input : Input) (why : SessionError) → SaveStops a.save b (input ∷ []) why → b ≡ a.save → IsNow a.recording → BothStop a (moved a b) (input ∷ []) (Session why)
input_halts a b input why stop same only_recording = record {
  stopped = stop.stopped;
  behind = λ rom all step.
      subst (λ (p : Place). IsBehind rom a (moved a p) (all ++ input ∷ [])) (sym same) (behind_more rom a a all (input ∷ []) (behind_here rom a all step only_recording));
  cause = stop.cause;
  full = λ is. absurd (cc);
  later = stop.later;
  save_calls = answered_error stop.calls (λ n. refl);
  recording_calls = answered_refusal (λ n. refl);
}

-- only a line that could not be written is told as one
pub told_output : (why : RecordError) → told_as why ≡ Output → why ≡ Session Output
told_output (Session why) is = ap Session is
told_output why is = cc

-- ---- all steps of a game

module _ {D E : Type 0} {disk : Disks D} {others : Disks E} where
  abbrev at : RecordedGame D E disk others → Game
  at a = game a.session a.recording

module _ {D E : Type 0} {disk : Disks D} {others : Disks E} {dict : Ghosts (RecordedGame D E disk others) RecordError} (only : (d : D) → IsNow (disk.disk d)) (only_recording : (e : E) → IsNow (others.disk e))
    (gives : (a b : RecordedGame D E disk others) (input : Input) → dict.gives a b input → BothAdvance (game a.session a.recording) (game b.session b.recording) (input ∷ []))
    (saves : (a b : RecordedGame D E disk others) → dict.saves a b → BothAdvance (game a.session a.recording) (game b.session b.recording) []) where
  pub comes_all : (a b : RecordedGame D E disk others) (inputs : List Input) → Advances dict a b inputs → BothAdvance (at a) (at b) inputs
  comes_all a b inputs (stays s) = comes_nothing (at a) (only (device_of a.session)) (only_recording (device_of_recording a.recording))
  comes_all a c inputs (by_input {b = b} {input = input} {more = more} one rest) = comes_then (at a) (at b) (at c) (input ∷ []) more (gives a b input one.gives) (comes_all b c more rest)
  comes_all a c inputs (by_save {b = b} one rest) = comes_then (at a) (at b) (at c) [] inputs (saves a b one.saves) (comes_all b c inputs rest)

  module _ (refuses : (a b : RecordedGame D E disk others) (input : Input) (why : RecordError) → dict.refuses a b input why → BothStop (game a.session a.recording) (game b.session b.recording) (input ∷ []) why)
      (fails : (a b : RecordedGame D E disk others) (why : RecordError) → dict.fails a b why → BothStop (game a.session a.recording) (game b.session b.recording) [] why) (unwritten_is : dict.unwritten ≡ Session Output) where
    pub halts_all : (a b : RecordedGame D E disk others) (inputs : List Input) (why : RecordError) → Stops dict a b inputs why → BothStop (at a) (at b) inputs why
    halts_all a b inputs why (at_input {input = input} {more = more} refused same) = halts_more (at a) (at b) (input ∷ []) more why (refuses a b input why refused)
    halts_all a b inputs why (at_save failed same) = halts_more (at a) (at b) [] inputs why (fails a b why failed)
    halts_all a b inputs why (at_line s more) =
        subst (λ (w : RecordError). BothStop (at a) (at a) inputs w) (sym unwritten_is) (halts_at_line (at a) inputs (only (device_of a.session)) (only_recording (device_of_recording a.recording)))
    halts_all a c inputs why (past_input {b = b} {input = input} {more = more} one rest) = halts_then (at a) (at b) (at c) (input ∷ []) more why (gives a b input one.gives) (halts_all b c more why rest)
    halts_all a c inputs why (past_save {b = b} one rest) = halts_then (at a) (at b) (at c) [] inputs why (saves a b one.saves) (halts_all b c inputs why rest)

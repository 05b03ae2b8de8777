-- A whole stream, from the line of the resume to the last save.
use Rattle.std.proofs.Common.{◌≡◌, inl, inr, Bool, true, ℕ, ◌==◌, ◌+◌, ◌-◌, List, [], ◌∷◌, ◌++◌, length, Option, Some, refl, sym, ap, ◌∙◌, subst, arith, append-nil}
use Rattle.std.specs.Io.KnownBytes.{Appends}
use Rattle.std.proofs.lemmas.Bool.{cases_Bool}
use Rattle.machine.specs.Machine.{Input}
use Rattle.snapshot.specs.Legal.{IsMachineOf}
use Rattle.sector_device.specs.DiskState.{DiskState}
use Rattle.sector_device.specs.Runs.{HoldsSince}
use Rattle.log_format.specs.Content.{content}
use Rattle.session.specs.Stands.{IsAtRest, StandsAsBefore, Position, stands}
use Rattle.session.specs.declared.error.SessionError.{SessionError}
use Rattle.session.proofs.Writes.{since_weaker}
use Rattle.session.proofs.Beginnings.{since_then}
use Rattle.playing.specs.Going.{Place, all_of, SaveAdvances, SaveStops}
use Rattle.playing.specs.Making.{AdvancesTelling, StopsTelling}
use Rattle.playing.specs.Played.{Reaches, IsPlayed, IsStop, PlayImage}
use Rattle.playing.specs.Report.{HasTold}
use Rattle.playing.specs.Lines.{Line, texts, resumed_line}
use Rattle.playing.specs.declared.playable.Playable.{Ghosts}
use Rattle.playing.proofs.Going.{none_left}
use Rattle.playing.proofs.Telling.{told_by}
use Rattle.playing.proofs.Making.{makes_by, makes_then, stops_by, stops_then as behind}
use Rattle.playing.proofs.PlayLaws.{begun_played, all_saved}
use Rattle.input_lines.specs.Given.{Given, HasReadGiven}
use Rattle.machine_lines.specs.KeptStates.{KeptMachine}
use Rattle.streaming.specs.Orders.{Deed, asked}
use Rattle.streaming.specs.Reading.{Asks, AsksUpTo, ReadsTo}
use Rattle.streaming.specs.Answers.{inputs_of_deeds, unsaved_behind_deeds, lines_of_deeds, last_deeds, ended, stream_lines}
use Rattle.streaming.specs.Obeying.{stream_from, AdvancesByDeeds, StopsByDeeds}
use Rattle.streaming.specs.Streamed.{HasStreamed, HasStreamedAll, HasStopped}
use Rattle.streaming.specs.declared.obeying.End.{End}
use Rattle.streaming.specs.declared.obeying.End.TheVariants.{Whole, Wrong, Failed, Damaged, OtherCartridge, NoMemory}
use Rattle.streaming.proofs.Compositions.{inputs_append, obeys_then, stops_then}
use Rattle.streaming.proofs.LinesRead.{read_before}

-- ---- the save at the end

last_gives_none : (unsaved : ℕ) → inputs_of_deeds (last_deeds unsaved) ≡ []
last_gives_none unsaved = elim (cases_Bool (unsaved == 0)) [
  | inl none ↦ rw none refl
  | inr some ↦ rw some refl
]

pub ended_gives : (unsaved : ℕ) (deeds : List Deed) → inputs_of_deeds (ended unsaved deeds) ≡ inputs_of_deeds deeds
ended_gives unsaved deeds =
    inputs_append deeds (last_deeds (unsaved_behind_deeds unsaved deeds))
    ∙ ap (λ (l : List Input). inputs_of_deeds deeds ++ l) (last_gives_none (unsaved_behind_deeds unsaved deeds)) ∙ append-nil (inputs_of_deeds deeds)

module _ {G F : Type 0} {game : Ghosts G F} {a b : G} {x y z : Option (List ℕ)} (deeds : List Deed) where
  pub ended_obeyed : {m : G} → AdvancesByDeeds game a m x y deeds → AdvancesByDeeds game m b y z (last_deeds (game.unsaved m)) → AdvancesByDeeds game a b x z (ended (game.unsaved a) deeds)
  ended_obeyed {m} one two = subst (λ (n : ℕ). AdvancesByDeeds game a b x z (deeds ++ last_deeds n)) one.unsaved_is (obeys_then deeds (last_deeds (game.unsaved m)) one two)

  pub ended_stopped : {m : G} {has_failed : Type 0} {why : F} → AdvancesByDeeds game a m x y deeds → StopsByDeeds game m b y z has_failed (last_deeds (game.unsaved m)) why → StopsByDeeds game a b x z has_failed (ended (game.unsaved a) deeds) why
  ended_stopped {m} {has_failed} {why} one two = subst (λ (n : ℕ). StopsByDeeds game a b x z has_failed (deeds ++ last_deeds n) why) one.unsaved_is (stops_then deeds (last_deeds (game.unsaved m)) one two)

  -- behind the line of the resume
  module _ (resumed : AdvancesTelling game a a x y [] (game.unsaved a) (resumed_line (game.acknowledged a) ∷ [])) where
    pub streams_behind : game.unsaved b ≡ 0 → AdvancesByDeeds game a b y z (ended (game.unsaved a) deeds) → AdvancesTelling game a b x z (inputs_of_deeds deeds) 0 (stream_from game a deeds)
    streams_behind saved obeyed = makes_by game (ended_gives (game.unsaved a) deeds) (sym obeyed.unsaved_is ∙ saved) refl (makes_then game resumed obeyed)

    -- what was refused
    pub stops_behind : {has_failed : Type 0} {why : F} → StopsByDeeds game a b y z has_failed (ended (game.unsaved a) deeds) why → StopsTelling game a b x z has_failed (inputs_of_deeds deeds) (stream_from game a deeds) why
    stops_behind stop = stops_by game (ended_gives (game.unsaved a) deeds) refl (behind game resumed stop)

-- whatever the end, the lines before it were read
pub reads_some : (states : Bool) (rom : List ℕ) (kept : List KeptMachine) (end : End) (lines : List Given) (a b : Option (List ℕ)) → ReadsTo states rom kept end lines a b → (more : List ℕ) × HasReadGiven (asked states) lines more a b
reads_some states rom kept Whole lines a b (read, at_end) = ([], read)
reads_some states rom kept (Wrong number) lines a b (is, inl wrong) = read_before states lines wrong.given wrong.more a b wrong.read
reads_some states rom kept (Wrong number) lines a b (is, inr (inl long)) = (long.line ++ long.more, long.read)
reads_some states rom kept (Wrong number) lines a b (is, inr (inr last)) = (last.1.0, last.1.1)
reads_some states rom kept Failed lines a b failed = (failed.0, failed.2)
reads_some states rom kept Damaged lines a b damaged = read_before states lines damaged.given damaged.more a b damaged.read
reads_some states rom kept OtherCartridge lines a b other = read_before states lines other.given other.more a b other.read
reads_some states rom kept NoMemory lines a b lacked = read_before states lines lacked.given lacked.more a b lacked.read

-- ---- from the resume

pub record TakenUp (rom : List ℕ) (old : DiskState) (a : Place) : Type 0 where
  pub none : a.pending ≡ []
  pub rom_is : a.machine.processor.memory.banks.rom ≡ rom
  pub of_rom : IsMachineOf rom a.machine
  pub honest : old.honest → a.disk.honest
  pub rests : old.honest → IsAtRest rom a.disk a.acknowledged [] a.machine
  pub stood : old.honest → stands rom (content old.sectors) ≡ Some (record { count = a.acknowledged; machine = a.machine })
  pub images : old.honest → HoldsSince old a.disk (StandsAsBefore rom old)

-- what is then written
abbrev pub stream_at : Place → List Deed → List Line
stream_at a deeds = resumed_line a.acknowledged ∷ lines_of_deeds a.machine (all_of a) (length a.pending) (ended (length a.pending) deeds)

pub lines_resumed : (a : Place) → a.pending ≡ [] → (deeds : List Deed) → stream_at a deeds ≡ stream_lines (record { count = a.acknowledged; machine = a.machine }) deeds
lines_resumed a none deeds =
    let all : all_of a ≡ a.acknowledged = omega (arith, ap length none) in
    ap (λ (n : ℕ). resumed_line a.acknowledged ∷ lines_of_deeds a.machine n (length a.pending) (ended (length a.pending) deeds)) all
    ∙ ap (λ (n : ℕ). resumed_line a.acknowledged ∷ lines_of_deeds a.machine a.acknowledged n (ended n deeds)) (ap length none)

module _ {rom : List ℕ} {old : DiskState} {a : Place} (up : TakenUp rom old a) (deeds : List Deed) where
  abbrev pub from : Position
  from = record { count = a.acknowledged; machine = a.machine }

  abbrev pub inputs : List Input
  inputs = inputs_of_deeds deeds

  pub begun : old.honest → IsPlayed rom a.disk a.acknowledged a.pending a.machine from []
  begun honest = begun_played rom a.disk a.acknowledged a.pending a.machine (up.honest honest) up.rom_is up.none (up.rests honest)

  all_from : all_of a ≡ from.count
  all_from = omega (arith, ap length up.none)

  pub images_since : {now : DiskState} → old.honest → HoldsSince a.disk now (Reaches rom from 0 inputs) → HoldsSince old now (PlayImage rom old inputs)
  images_since honest held =
      since_then (since_weaker (up.images honest) (λ image stands. inl stands))
      (since_weaker held (λ image reaches. inr (record { from = from; stood = up.stood honest; reaches = reaches })))

  -- to an end
  abbrev pub streamed_to : {b : Place} {before_in since_in before since : Option (List ℕ)} {own : List ℕ} {lines : List Given} {kept : List KeptMachine} {found end : End} → SaveAdvances a b inputs → length b.pending ≡ 0 → Appends before since (texts (stream_at a deeds))
      → own ≡ rom → Asks true own a.machine lines deeds kept → found ≡ end → ReadsTo true own kept found lines before_in since_in → HasStreamed rom old b.disk end before_in since_in before since
  streamed_to {b} {before_in} {since_in} {before} {since} {own} {lines} {kept} {found} {end} goes saved answered own_is asks end_is read = record {
    from = from;
    lines = lines;
    deeds = deeds;
    kept = kept;
    asks = subst (λ (r : List ℕ). Asks true r a.machine lines deeds kept) own_is asks;
    read = subst (λ (e : End). ReadsTo true rom kept e lines before_in since_in) end_is (subst (λ (r : List ℕ). ReadsTo true r kept found lines before_in since_in) own_is read);
    of_rom = up.of_rom;
    stood = up.stood;
    answered = subst (λ (l : List Line). Appends before since (texts l)) (lines_resumed a up.none deeds) answered;
    rests = λ honest. all_saved rom b.disk b.acknowledged b.pending b.machine from inputs (goes.going rom from [] (begun honest)).played (none_left b.pending saved);
    images = λ honest. images_since honest (goes.going rom from [] (begun honest)).moments;
  }

  pub streamed_all : {b : Place} {before_in since_in before since : Option (List ℕ)} {own : List ℕ} {lines : List Given} {kept : List KeptMachine} {found : End} → SaveAdvances a b inputs → length b.pending ≡ 0 → Appends before since (texts (stream_at a deeds))
      → own ≡ rom → Asks true own a.machine lines deeds kept → found ≡ Whole → ReadsTo true own kept found lines before_in since_in → HasStreamedAll rom old b.disk b.acknowledged b.machine before_in since_in before since
  streamed_all goes saved answered own_is asks end_is read = record {
    streamed = streamed_to goes saved answered own_is asks end_is read;
    count_is = omega (arith, goes.all_is, saved, ap length up.none);
    machine_is = goes.machine_is;
  }

  -- stopped
  pub stopped_stream : {b : Place} {before_in since_in before since : Option (List ℕ)} {own : List ℕ} {lines : List Given} {why : SessionError} (more : List ℕ) → own ≡ rom → AsksUpTo true own a.machine lines deeds → HasReadGiven (asked true) lines more before_in since_in
      → HasTold why b.acknowledged (stream_at a deeds) before since → SaveStops a b inputs why → HasStopped rom old b.disk why before_in since_in before since
  stopped_stream {b} {before_in} {since_in} {before} {since} {own} {lines} {why} more own_is asks read told stop =
      let least : ℕ = b.acknowledged - a.acknowledged in
      let saved_is : b.acknowledged ≡ from.count + least = omega (arith, stop.later) in
      record {
        from = from;
        lines = lines;
        deeds = deeds;
        asks = subst (λ (r : List ℕ). AsksUpTo true r a.machine lines deeds) own_is asks;
        more = more;
        read = read;
        of_rom = up.of_rom;
        stood = up.stood;
        cause = subst (λ (n : ℕ). IsStop why (n + length inputs) b.disk) all_from stop.cause;
        least = least;
        told = told_by (lines_resumed a up.none deeds) (subst (λ (n : ℕ). HasTold why n (stream_at a deeds) before since) saved_is told);
        images = λ honest. images_since honest (stop.stopped rom from [] (begun honest)).moments;
        left = λ honest.
            let stopped = stop.stopped rom from [] (begun honest) in
            let same : stopped.least ≡ least = omega (arith, stopped.acknowledged_is, saved_is) in
            subst (λ (n : ℕ). (image : List (List ℕ)) → b.disk.image image → Reaches rom from n inputs image) same stopped.images;
      }

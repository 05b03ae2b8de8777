-- Lives: what is kept in them, and where a part of one leads.
use Rattle.std.proofs.Common.{◌≡◌, ℕ, ◌+◌, ◌-◌, ◌≤◌, List, [], ◌∷◌, ◌++◌, length, take, drop, Option, Some, None, refl, sym, ap, ◌∙◌, subst, arith, append-nil, append_assoc, length-append}
use Rattle.std.specs.List.{All}
use Rattle.std.specs.Option.{option_map}
use Rattle.std.proofs.Math.Seq.{take-add}
use Rattle.std.proofs.lemmas.List.{take-append-le}
use Rattle.std.proofs.lemmas.List.Elements.{All-nil, All-cons, All-weaker}
use Rattle.machine.specs.Machine.{MachineState, start, after}
use Rattle.machine.specs.Machine.{Input}
use Rattle.session.specs.Stands.{Position, behind}
use Rattle.session.proofs.StandsLaws.{after_append, after_none}
use Rattle.playing.specs.Lines.{Line, resumed_line}
use Rattle.whole_lives.specs.Lives.{Asking, Files, Agree, AgreesWith, IsRecorded, Played, kept_of, position, taken_up_at, GoesOn, IsRound, IsLife}
use Rattle.whole_lives.specs.Laws.{all_kept, AreTold, NoLifeLosesWhatWasSaved}

-- ---- positions

pub behind_none : (at : Position) → behind at [] ≡ at
behind_none at =
    let none : at.count + 0 ≡ at.count = omega arith in
    let same = after_none at.machine in
    λ i. record { count = none i; machine = same i }

behind_both : (at : Position) (a b : List Input) → behind (behind at a) b ≡ behind at (a ++ b)
behind_both at a b =
    let size : at.count + length a + length b ≡ at.count + length (a ++ b) = omega (arith, length-append a b) in
    let machines = after_append at.machine a b in
    λ i. record { count = size i; machine = machines i }

-- the first of a list, and some of the next ones
module _ (rom : List ℕ) (n m : ℕ) (all : List Input) (later : n ≤ m) where
  pub two_parts : after (after (start rom) (take n all)) (take (m - n) (drop n all)) ≡ after (start rom) (take m all)
  two_parts =
      let whole : n + (m - n) ≡ m = omega (arith, later) in
      after_append (start rom) (take n all) (take (m - n) (drop n all)) ∙ ap (after (start rom)) (sym (take-add n (m - n) all)) ∙ ap (λ (k : ℕ). after (start rom) (take k all)) whole

-- what is recorded behind it changes no agreement
pub agree_more : (rom : List ℕ) (save : Position) (recorded more : List Input) → IsRecorded rom save recorded → save.machine ≡ after (start rom) (take save.count (recorded ++ more))
agree_more rom save recorded more agree = agree.machine_is ∙ ap (after (start rom)) (sym (take-append-le save.count recorded more agree.enough))

-- ---- a round

module _ (rom : List ℕ) (kept : List Input) (first : Position) (last : Files) where
  goes_at : (recorded : Option (List Input)) → GoesOn recorded kept first last → position rom last ≡ behind (taken_up_at rom first recorded) kept
  goes_at None by = ap (taken_up_at rom last.save) by.1 ∙ by.0
  goes_at (Some recorded) by =
      let size : length (recorded ++ kept) ≡ length recorded + length kept = length-append recorded kept in
      let machines : after (start rom) (recorded ++ kept) ≡ after (after (start rom) recorded) kept = sym (after_append (start rom) recorded kept) in
      ap (taken_up_at rom last.save) by.0 ∙ (λ i. record { count = size i; machine = machines i })

  goes_agreeing : (recorded : Option (List Input)) → AgreesWith rom first recorded → GoesOn recorded kept first last → Agree rom last
  goes_agreeing None agree by = subst (AgreesWith rom last.save) (sym by.1) tt
  goes_agreeing (Some recorded) agree by =
      let follows = by.1 in
      subst (AgreesWith rom last.save) (sym by.0)
      (record {
        enough = follows.enough;
        machine_is =
            follows.machine_is ∙ ap (λ (m : MachineState). after m (take (last.save.count - first.count) (drop first.count (recorded ++ kept)))) (agree_more rom first recorded kept agree)
            ∙ two_parts rom first.count last.save.count (recorded ++ kept) follows.later;
      })

  goes_later : (recorded : Option (List Input)) → GoesOn recorded kept first last → first.count ≤ last.save.count
  goes_later None by = omega (arith, ap (λ (p : Position). p.count) by.0)
  goes_later (Some recorded) by = by.1.later

  goes_recorded : (recorded : Option (List Input)) → GoesOn recorded kept first last → last.recorded ≡ option_map (λ (l : List Input). l ++ kept) recorded
  goes_recorded None by = by.1
  goes_recorded (Some recorded) by = by.0

-- a SAVE is not behind where the game that it is of goes on
not_ahead : (rom : List ℕ) (save : Position) (recorded : Option (List Input)) → AgreesWith rom save recorded → save.count ≤ (taken_up_at rom save recorded).count
not_ahead rom save None agree = omega arith
not_ahead rom save (Some recorded) agree = agree.enough

-- ---- a life

none_more : (recorded : Option (List Input)) → recorded ≡ option_map (λ (l : List Input). l ++ []) recorded
none_more None = refl
none_more (Some recorded) = ap Some (sym (append-nil recorded))

both_more : (recorded : Option (List Input)) (a b : List Input) → option_map (λ (l : List Input). l ++ b) (option_map (λ (l : List Input). l ++ a) recorded) ≡ option_map (λ (l : List Input). l ++ (a ++ b)) recorded
both_more None a b = refl
both_more (Some recorded) a b = ap Some (append_assoc recorded a b)

record Keeps (rom : List ℕ) (rounds : List Played) (first last : Files) : Type 0 where
  agree : Agree rom last
  position_is : position rom last ≡ behind (position rom first) (all_kept rounds)
  recorded_is : last.recorded ≡ option_map (λ (l : List Input). l ++ all_kept rounds) first.recorded
  later : first.save.count ≤ last.save.count
  saved : AreTold last.save.count rounds

told_later : (less most : ℕ) → less ≤ most → (told : List Line) → All (λ line. line.told ≤ less) told → All (λ line. line.told ≤ most) told
told_later less most le told all = All-weaker (λ (line : Line). line.told ≤ less) (λ line. line.told ≤ most) (λ line (within : line.told ≤ less). omega (arith, within, le)) told all

keeps : (asks : Asking) (rom : List ℕ) (rounds : List Played) (first last : Files) → Agree rom first → IsLife asks rom rounds first last → Keeps rom rounds first last
keeps asks rom [] first last agree life = record {
  agree = subst (Agree rom) (sym life) agree;
  position_is = ap (position rom) life ∙ sym (behind_none (position rom first));
  recorded_is = ap (λ (f : Files). f.recorded) life ∙ none_more first.recorded;
  later = omega (arith, ap (λ (f : Files). f.save.count) life);
  saved = All-nil (λ (round : Played). All (λ line. line.told ≤ last.save.count) round.told);
}
keeps asks rom (round ∷ rounds) first last agree life =
    let next = life.0 in
    let one = life.1 in
    let kept = kept_of round in
    let rest = keeps asks rom rounds next last (goes_agreeing rom kept first.save next first.recorded agree one.goes_on) life.2 in
    record {
      agree = rest.agree;
      position_is =
          rest.position_is ∙ ap (λ (p : Position). behind p (all_kept rounds)) (goes_at rom kept first.save next first.recorded one.goes_on)
          ∙ behind_both (position rom first) kept (all_kept rounds);
      recorded_is =
          rest.recorded_is ∙ ap (option_map (λ (l : List Input). l ++ all_kept rounds)) (goes_recorded rom kept first.save next first.recorded one.goes_on)
          ∙ both_more first.recorded kept (all_kept rounds);
      later = omega (arith, goes_later rom kept first.save next first.recorded one.goes_on, rest.later);
      saved =
          All-cons (λ (r : Played). All (λ line. line.told ≤ last.save.count) r.told) round rounds
          (told_later next.save.count last.save.count rest.later round.told one.are_saved)
          rest.saved;
    }

-- ---- on the way

-- a round of a life, and the part before it
record Within (asks : Asking) (rom : List ℕ) (before : List Played) (round : Played) (first : Files) : Type 0 where
  mid : Files
  next : Files
  life : IsLife asks rom before first mid
  is : IsRound asks rom round mid next

within : (asks : Asking) (rom : List ℕ) (before : List Played) (round : Played) (later : List Played) (first last : Files) → IsLife asks rom (before ++ round ∷ later) first last → Within asks rom before round first
within asks rom [] round later first last life = record { mid = first; next = life.0; life = refl; is = life.1 }
within asks rom (r ∷ before) round later first last life =
    let rest = within asks rom before round later life.0 last life.2 in
    record { mid = rest.mid; next = rest.next; life = (life.0, life.1, rest.life); is = rest.is }

pub keeps_what_was_saved : (asks : Asking) → NoLifeLosesWhatWasSaved asks
keeps_what_was_saved asks rom rounds first last agree life =
    let kept = keeps asks rom rounds first last agree life in
    record {
      agree = kept.agree;
      position_is = kept.position_is;
      recorded_is = kept.recorded_is;
      saved = kept.saved;
      never_falls = λ before round later line lines are told.
          let one = within asks rom before round later first last (subst (λ (l : List Played). IsLife asks rom l first last) are life) in
          let so_far = keeps asks rom before first one.mid agree one.life in
          let ahead = not_ahead rom one.mid.save one.mid.recorded so_far.agree in
          let lines_are : resumed_line (position rom one.mid).count ∷ one.is.lines ≡ (line ∷ lines) ++ one.is.untold = one.is.told_are ∙ ap (λ (l : List Line). l ++ one.is.untold) told in
          let same : (position rom one.mid).count ≡ line.told = cc in
          All-weaker (λ (r : Played). All (λ l. l.told ≤ one.mid.save.count) r.told) (λ r. All (λ l. l.told ≤ line.told) r.told)
          (λ r all. told_later one.mid.save.count line.told (omega (arith, ahead, same)) r.told all) before so_far.saved;
    }

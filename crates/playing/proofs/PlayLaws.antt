-- How a play goes on over one save, over one input, and over several.
use Rattle.std.proofs.Common.{◌≡◌, inl, inr, ⊎_elim, Bool, true, false, true≢false, ℕ, ◌+◌, ◌≤◌, List, [], ◌∷◌, ◌++◌, length, take, drop, Some, Result, Ok, Err, OnOk, sym, ap, ◌∙◌, subst, arith, length-append, length-drop, append-nil}
use Rattle.std.proofs.Math.Seq.{take-add}
use Rattle.std.proofs.lemmas.Bool.{cases_Bool}
use Rattle.std.proofs.lemmas.List.{take_all, drop_all, drop-append-le, take-append-le, length-take-le}
use Rattle.machine.specs.Machine.{MachineState, Input, after, applied}
use Rattle.sector_device.specs.DiskState.{DiskState}
use Rattle.sector_device.specs.Runs.{HoldsSince}
use Rattle.sector_device.proofs.Runs.{holds_since}
use Rattle.log_format.specs.Content.{content}
use Rattle.input_entries.specs.declared.Entry.{Entry}
use Rattle.session.specs.Stands.{IsAtRest, Position, stands, further, StandsWithin, StandsBetween}
use Rattle.session.specs.Inputs.{can_be_logged, entry_of, inputs_of}
use Rattle.session.proofs.StandsLaws.{after_append, after_none, after_one}
use Rattle.input_entries.specs.Inputs.{is_input}
use Rattle.session.proofs.Saving.{leading, not_logged}
use Rattle.session.proofs.Writes.{since_weaker}
use Rattle.session.proofs.Beginnings.{since_then}
use Rattle.playing.specs.Played.{Reaches, IsPlayed, Advanced, Stopped}

-- ---- one more input

-- among the pending ones there is one more; where a log can hold them all, it could hold those before, and it is this input
pub record IsOneMore (pending more : List Entry) (input : Input) : Type 0 where
  pub size : length more ≡ length pending + 1
  pub logged : can_be_logged more ≡ true → can_be_logged pending ≡ true
  pub given : can_be_logged more ≡ true → inputs_of more ≡ inputs_of pending ++ input ∷ []

-- one that a log can hold
pub one_logged : (pending more : List Entry) (input : Input) → more ≡ pending ++ entry_of input ∷ [] → can_be_logged more ≡ can_be_logged pending → inputs_of more ≡ inputs_of pending ++ input ∷ [] → IsOneMore pending more input
one_logged pending more input is same given = record {
  size = ap length is ∙ length-append pending (entry_of input ∷ []);
  logged = λ logged. sym same ∙ logged;
  given = λ logged. given;
}

-- one that no log holds
pub one_unlogged : (pending more : List Entry) (input : Input) → more ≡ pending ++ entry_of input ∷ [] → is_input (entry_of input) ≡ false → IsOneMore pending more input
one_unlogged pending more input is none =
    let other : can_be_logged more ≡ false = ap can_be_logged is ∙ not_logged pending (entry_of input) none in
    record {
      size = ap length is ∙ length-append pending (entry_of input ∷ []);
      logged = λ logged. absurd (true≢false (sym logged ∙ other));
      given = λ logged. absurd (true≢false (sym logged ∙ other));
    }

-- ---- how far an image reaches

pub reaches_more : (rom : List ℕ) (from : Position) (least : ℕ) (given more : List Input) (image : List (List ℕ)) → Reaches rom from least given image → Reaches rom from least (given ++ more) image
reaches_more rom from least given more image r = record {
  count = r.count;
  at_least = r.at_least;
  within = omega (arith, r.within, length-append given more);
  is = r.is ∙ ap (λ (l : List Input). Some (record { count = from.count + r.count; machine = after from.machine l })) (sym (take-append-le r.count given more r.within));
}

pub reaches_none : (rom : List ℕ) (from : Position) (least : ℕ) (given : List Input) (image : List (List ℕ)) → Reaches rom from least given image → Reaches rom from 0 given image
reaches_none rom from least given image r = record { count = r.count; at_least = omega arith; within = r.within; is = r.is }

module _ (rom : List ℕ) (now : DiskState) (acknowledged : ℕ) (pending : List Entry) (machine : MachineState) (from : Position) (given : List Input) (played : IsPlayed rom now acknowledged pending machine from given) where
  -- what is some pending inputs further is some given inputs from the start
  within : can_be_logged pending ≡ true → (image : List (List ℕ)) → StandsWithin rom (stands rom (content now.sectors)) (inputs_of pending) image → Reaches rom from played.saved given image
  within logged image w =
      let are = played.pending_is logged in
      let front : take (played.saved + w.count) given ≡ take played.saved given ++ take w.count (drop played.saved given) = take-add played.saved w.count given in
      let machine_is : after (after from.machine (take played.saved given)) (take w.count (inputs_of pending)) ≡ after from.machine (take (played.saved + w.count) given) =
      ap (λ (l : List Input). after (after from.machine (take played.saved given)) (take w.count l)) are
      ∙ after_append from.machine (take played.saved given) (take w.count (drop played.saved given)) ∙ ap (after from.machine) (sym front) in
      let size : length (take w.count (inputs_of pending)) ≡ w.count = length-take-le w.count (inputs_of pending) w.within in
      let count_is : acknowledged + length (take w.count (inputs_of pending)) ≡ from.count + (played.saved + w.count) = omega (arith, size, played.acknowledged_is) in
      record {
        count = played.saved + w.count;
        at_least = omega arith;
        within = omega (arith, w.within, ap length are, length-drop played.saved given, played.within);
        is = w.is ∙ ap (further (take w.count (inputs_of pending))) played.stands_is ∙ (λ i. Some (record { count = count_is i; machine = machine_is i }));
      }

  -- what was saved
  reaches_saved : (image : List (List ℕ)) → stands rom (content image) ≡ stands rom (content now.sectors) → Reaches rom from played.saved given image
  reaches_saved image same = record {
    count = played.saved;
    at_least = omega arith;
    within = played.within;
    is = same ∙ played.stands_is ∙ (λ i. Some (record { count = played.acknowledged_is i; machine = after from.machine (take played.saved given) }));
  }

  -- all of them
  reaches_all : (image : List (List ℕ)) → stands rom (content image) ≡ Some (record { count = acknowledged + length pending; machine = machine }) → Reaches rom from played.saved given image
  reaches_all image is =
      let count_is : acknowledged + length pending ≡ from.count + length given = omega (arith, played.acknowledged_is, played.unsaved_is) in
      let machine_is : machine ≡ after from.machine (take (length given) given) = played.machine_is ∙ ap (after from.machine) (sym (take_all (length given) given (omega arith))) in
      record { count = length given; at_least = played.within; within = omega arith; is = is ∙ (λ i. Some (record { count = count_is i; machine = machine_is i })) }

  abbrev Between : Bool → List (List ℕ) → Type 0
  Between logged image = StandsBetween logged rom (stands rom (content now.sectors)) (inputs_of pending) (record { count = acknowledged + length pending; machine = machine }) image

  pub reaches : (image : List (List ℕ)) → Between (can_be_logged pending) image → Reaches rom from played.saved given image
  reaches image between =
      elim (cases_Bool (can_be_logged pending)) [
        | inl can ↦ within can image (subst (λ (b : Bool). Between b image) can between)
        | inr other ↦ ⊎_elim (reaches_saved image) (reaches_all image) (subst (λ (b : Bool). Between b image) other between)
      ]

  -- the one image that is left
  pub reaches_here : (image : List (List ℕ)) → now.image image → Reaches rom from played.saved given image
  reaches_here image here = reaches_saved image (ap (λ (c : List (List ℕ)). stands rom (content c)) (played.settled image here))

  -- no device call at all
  pub since_here : ((image : List (List ℕ)) → now.since now.moment image → now.image image) → HoldsSince now now (Reaches rom from 0 given)
  since_here only =
      holds_since only (record { later = omega arith; each = λ t c le since. inl since }) (λ t c le since. since) (λ image here. reaches_none rom from played.saved given image (reaches_here image here))

  pub stopped_here : ((image : List (List ℕ)) → now.since now.moment image → now.image image) → Stopped rom now now acknowledged from given
  stopped_here only = record { honest = played.honest; moments = since_here only; least = played.saved; acknowledged_is = played.acknowledged_is; images = reaches_here }

  module _ (own : List ℕ) (is_own : machine.processor.memory.banks.rom ≡ own) where
    own_is : own ≡ rom
    own_is = sym is_own ∙ played.rom_is

    -- each image of a save
    abbrev Saves : (r : List ℕ) → DiskState → Type 0
    Saves r new =
        HoldsSince now new
        (StandsBetween (can_be_logged pending) r (stands r (content now.sectors)) (inputs_of pending) (record { count = acknowledged + length pending; machine = machine }))

    since_save : (new : DiskState) → Saves own new → Saves rom new
    since_save new held = subst (λ (r : List ℕ). Saves r new) own_is held

    -- after a save
    pub played_saved : (new : DiskState) (all then : ℕ) (cleared : List Entry) (after_it : MachineState) → new.honest → all ≡ acknowledged + length pending → then ≡ all → cleared ≡ [] → after_it ≡ machine
        → IsAtRest own new all [] machine → IsPlayed rom new then cleared after_it from given
    played_saved new all then cleared after_it honest all_is then_is empty same rests =
        let lead = leading (stands own (content new.sectors)) [] (all + 0) machine rests.leads in
        let whole : take (length given) given ≡ given = take_all (length given) given (omega arith) in
        let here : lead.position.machine ≡ after from.machine (take (length given) given) = sym (after_none lead.position.machine) ∙ lead.machine_is ∙ played.machine_is ∙ ap (after from.machine) (sym whole) in
        let count_is : lead.position.count ≡ then = omega (arith, lead.count_is, then_is) in
        record {
          honest = honest;
          rom_is = ap (λ (n : MachineState). n.processor.memory.banks.rom) same ∙ played.rom_is;
          saved = length given;
          within = omega arith;
          acknowledged_is = omega (arith, then_is, all_is, played.acknowledged_is, played.unsaved_is, played.within);
          unsaved_is = omega (arith, ap length empty);
          pending_is = λ logged. ap inputs_of empty ∙ sym (drop_all (length given) given (omega arith));
          machine_is = same ∙ played.machine_is;
          settled = rests.settled;
          stands_is = ap (λ (r : List ℕ). stands r (content new.sectors)) (sym own_is) ∙ lead.stood ∙ (λ i. Some (record { count = count_is i; machine = here i }));
        }

    pub going_saved : (new : DiskState) (all then : ℕ) (cleared : List Entry) (after_it : MachineState) → new.honest → all ≡ acknowledged + length pending → then ≡ all → cleared ≡ [] → after_it ≡ machine
        → IsAtRest own new all [] machine → Saves own new → Advanced rom now new then cleared after_it from given
    going_saved new all then cleared after_it honest all_is then_is empty same rests held = record {
      moments = since_weaker (since_save new held) (λ image w. reaches_none rom from played.saved given image (reaches image w));
      played = played_saved new all then cleared after_it honest all_is then_is empty same rests;
    }

    -- a save that failed
    pub stopped_failed : (new : DiskState) (then : ℕ) → new.honest → then ≡ acknowledged → ((t : ℕ) (c : List (List ℕ)) → t ≤ new.moment → new.image c → new.since t c)
        → Saves own new → Stopped rom now new then from given
    stopped_failed new then honest then_is counts held =
        let all = since_save new held in
        record {
          honest = honest;
          moments = since_weaker all (λ image w. reaches_none rom from played.saved given image (reaches image w));
          least = played.saved;
          acknowledged_is = then_is ∙ played.acknowledged_is;
          images = λ image here. reaches image (all.each image (counts now.moment image all.moments.later here));
        }

  -- after one more input
  pub played_more : (more : List Entry) (after_it : MachineState) (input : Input) → IsOneMore pending more input → after_it ≡ applied input machine → after_it.processor.memory.banks.rom ≡ machine.processor.memory.banks.rom
      → IsPlayed rom now acknowledged more after_it from (given ++ input ∷ [])
  played_more more after_it input one is same = record {
    honest = played.honest;
    rom_is = same ∙ played.rom_is;
    saved = played.saved;
    within = omega (arith, played.within, length-append given (input ∷ []));
    acknowledged_is = played.acknowledged_is;
    unsaved_is = omega (arith, one.size, played.unsaved_is, length-append given (input ∷ []));
    pending_is = λ logged.
        one.given logged ∙ ap (λ (l : List Input). l ++ input ∷ []) (played.pending_is (one.logged logged)) ∙ sym (drop-append-le played.saved given (input ∷ []) played.within);
    machine_is = is ∙ ap (applied input) played.machine_is ∙ sym (after_one (after from.machine given) input) ∙ after_append from.machine given (input ∷ []);
    settled = played.settled;
    stands_is = played.stands_is ∙ ap (λ (l : List Input). Some (record { count = acknowledged; machine = after from.machine l })) (sym (take-append-le played.saved given (input ∷ []) played.within));
  }

-- one more input makes no device call
pub going_input : (rom : List ℕ) (now : DiskState) (acknowledged : ℕ) (pending more : List Entry) (machine after_it : MachineState) (from : Position) (given : List Input) (input : Input) → IsPlayed rom now acknowledged pending machine from given
    → IsOneMore pending more input → after_it ≡ applied input machine → after_it.processor.memory.banks.rom ≡ machine.processor.memory.banks.rom
    → ((image : List (List ℕ)) → now.since now.moment image → now.image image) → Advanced rom now now acknowledged more after_it from (given ++ input ∷ [])
going_input rom now acknowledged pending more machine after_it from given input played one is same only =
    let next = played_more rom now acknowledged pending machine from given played more after_it input one is same in
    record { moments = since_here rom now acknowledged more after_it from (given ++ input ∷ []) next only; played = next }

-- nothing was given yet
pub going_nowhere : (rom : List ℕ) (now : DiskState) (acknowledged : ℕ) (pending : List Entry) (machine : MachineState) (from : Position) (given : List Input) → IsPlayed rom now acknowledged pending machine from given
    → ((image : List (List ℕ)) → now.since now.moment image → now.image image) → Advanced rom now now acknowledged pending machine from (given ++ [])
going_nowhere rom now acknowledged pending machine from given played only =
    subst (Advanced rom now now acknowledged pending machine from) (sym (append-nil given)) (record { moments = since_here rom now acknowledged pending machine from given played only; played = played })

-- ---- answers

pub on_ok : {T E : Type 0} (r : Result T E) {P Q : Type 0} → OnOk r P → (P → Q) → OnOk r Q
on_ok (Ok x) p to = to p
on_ok (Err e) p to = tt

-- ---- runs

-- a stop before more inputs
pub stopped_more : (rom : List ℕ) (old new : DiskState) (acknowledged : ℕ) (from : Position) (given more : List Input) → Stopped rom old new acknowledged from given → Stopped rom old new acknowledged from (given ++ more)
stopped_more rom old new acknowledged from given more stopped = record {
  honest = stopped.honest;
  moments = since_weaker stopped.moments (reaches_more rom from 0 given more);
  least = stopped.least;
  acknowledged_is = stopped.acknowledged_is;
  images = λ image here. reaches_more rom from stopped.least given more image (stopped.images image here);
}

-- a run, and one after it
pub going_then : (rom : List ℕ) (old mid new : DiskState) (acknowledged : ℕ) (pending : List Entry) (machine : MachineState) (from : Position) (given more : List Input)
    → HoldsSince old mid (Reaches rom from 0 given) → Advanced rom mid new acknowledged pending machine from (given ++ more) → Advanced rom old new acknowledged pending machine from (given ++ more)
going_then rom old mid new acknowledged pending machine from given more first second =
    record { moments = since_then (since_weaker first (reaches_more rom from 0 given more)) second.moments; played = second.played }

pub stopped_then : (rom : List ℕ) (old mid new : DiskState) (acknowledged : ℕ) (from : Position) (given more : List Input)
    → HoldsSince old mid (Reaches rom from 0 given) → Stopped rom mid new acknowledged from (given ++ more) → Stopped rom old new acknowledged from (given ++ more)
stopped_then rom old mid new acknowledged from given more first second = record {
  honest = second.honest;
  moments = since_then (since_weaker first (reaches_more rom from 0 given more)) second.moments;
  least = second.least;
  acknowledged_is = second.acknowledged_is;
  images = second.images;
}

pub going_by : {rom : List ℕ} {old new : DiskState} {acknowledged : ℕ} {pending : List Entry} {machine : MachineState} {from : Position} {given given' : List Input}
    → given ≡ given' → Advanced rom old new acknowledged pending machine from given → Advanced rom old new acknowledged pending machine from given'
going_by {rom} {old} {new} {acknowledged} {pending} {machine} {from} {given} {given'} same going = subst (Advanced rom old new acknowledged pending machine from) same going

pub stopped_by : {rom : List ℕ} {old new : DiskState} {acknowledged : ℕ} {from : Position} {given given' : List Input} → given ≡ given' → Stopped rom old new acknowledged from given → Stopped rom old new acknowledged from given'
stopped_by {rom} {old} {new} {acknowledged} {from} {given} {given'} same stopped = subst (Stopped rom old new acknowledged from) same stopped

-- ---- whole plays

-- a session that was just taken up
pub begun_played : (rom : List ℕ) (now : DiskState) (acknowledged : ℕ) (pending : List Entry) (machine : MachineState) → now.honest → machine.processor.memory.banks.rom ≡ rom → pending ≡ []
    → IsAtRest rom now acknowledged [] machine → IsPlayed rom now acknowledged pending machine (record { count = acknowledged; machine = machine }) []
begun_played rom now acknowledged pending machine honest rom_is empty rests =
    let lead = leading (stands rom (content now.sectors)) [] (acknowledged + 0) machine rests.leads in
    let count_is : lead.position.count ≡ acknowledged = omega (arith, lead.count_is) in
    let machine_is : lead.position.machine ≡ after machine [] = sym (after_none lead.position.machine) ∙ lead.machine_is ∙ sym (after_none machine) in
    record {
      honest = honest;
      rom_is = rom_is;
      saved = 0;
      within = omega arith;
      acknowledged_is = omega arith;
      unsaved_is = omega (arith, ap length empty);
      pending_is = λ logged. ap inputs_of empty;
      machine_is = sym (after_none machine);
      settled = rests.settled;
      stands_is = lead.stood ∙ (λ i. Some (record { count = count_is i; machine = machine_is i }));
    }

-- and one of which all is saved
pub all_saved : (rom : List ℕ) (now : DiskState) (acknowledged : ℕ) (pending : List Entry) (machine : MachineState) (from : Position) (given : List Input) → IsPlayed rom now acknowledged pending machine from given → pending ≡ []
    → IsAtRest rom now (from.count + length given) [] (after from.machine given)
all_saved rom now acknowledged pending machine from given played empty =
    let all : played.saved ≡ length given = omega (arith, played.unsaved_is, ap length empty) in
    let count_is : acknowledged + 0 ≡ from.count + length given + 0 = omega (arith, played.acknowledged_is, all) in
    let whole : take played.saved given ≡ given = take_all played.saved given (omega (arith, all)) in
    let machine_is : after (after from.machine (take played.saved given)) [] ≡ after from.machine given = after_none (after from.machine (take played.saved given)) ∙ ap (after from.machine) whole in
    record {
      settled = played.settled;
      leads = ap (further []) played.stands_is ∙ (λ i. Some (record { count = count_is i; machine = machine_is i }));
    }

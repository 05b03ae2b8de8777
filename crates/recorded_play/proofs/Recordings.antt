-- What an append, and no call at all, make of a recording.
use Rattle.std.proofs.Common.{◌≡◌, inl, ℕ, ◌+◌, ◌-◌, List, [], ◌++◌, length, take, drop, Option, Some, None, sym, ap, ◌∙◌, subst, arith, length-append, length-drop}
use Rattle.std.specs.Option.{option_map}
use Rattle.std.proofs.Math.Seq.{take-add}
use Rattle.std.proofs.lemmas.List.{take_all, drop_all, drop-append-le, take-append-le, take-map, length-map, take-append-drop}
use Rattle.sha2.specs.Sha256.{sha256}
use Rattle.machine.specs.Machine.{Input}
use Rattle.sector_device.specs.DiskState.{DiskState}
use Rattle.sector_device.specs.Runs.{HoldsSince}
use Rattle.sector_device.proofs.Runs.{holds_since}
use Rattle.input_entries.specs.declared.Entry.{Entry}
use Rattle.recording.specs.Calls.{with_more, HoldsPrefix, IsAppended}
use Rattle.recording.specs.Recorded.{recorded}
use Rattle.session.specs.Inputs.{input_of, inputs_of}
use Rattle.session.proofs.StandsLaws.{logged_append}
use Rattle.session.proofs.Writes.{since_weaker}
use Rattle.session.proofs.Beginnings.{since_then}
use Rattle.replaying.specs.Agreeing.{recorded_inputs}
use Rattle.recorded_play.specs.Steps.{HoldsFirst, HoldsSaved, Records}

-- ---- the inputs of a list of entries

more_of : (more : List Entry) (before : List Input) (old new : Option (List Entry)) → new ≡ with_more more old → option_map inputs_of old ≡ Some before → option_map inputs_of new ≡ Some (before ++ inputs_of more)
more_of more before None new is holds = absurd (cc)
more_of more before (Some entries) new is holds =
    let same : inputs_of entries ≡ before = cc in
    ap (option_map inputs_of) is ∙ ap (λ (l : List Input). Some l) (logged_append entries more ∙ ap (λ (l : List Input). l ++ inputs_of more) same)

-- with more entries behind them
pub recorded_more : (rom : List ℕ) (old new : List (List ℕ)) (more : List Entry) (before : List Input) → recorded (sha256 rom) new ≡ with_more more (recorded (sha256 rom) old) → recorded_inputs rom old ≡ Some before
    → recorded_inputs rom new ≡ Some (before ++ inputs_of more)
recorded_more rom old new more before is holds = more_of more before (recorded (sha256 rom) old) (recorded (sha256 rom) new) is holds

module _ (rom : List ℕ) (now : DiskState) (acknowledged : ℕ) (pending : List Entry) (all : List Input) (held : HoldsSaved rom now acknowledged pending all) where
  pub unsaved : length pending ≡ length all - acknowledged
  unsaved = sym (length-map pending input_of) ∙ ap length held.pending_is ∙ length-drop acknowledged all

  -- some pending inputs behind those that are recorded
  pub holds_first : (image : List (List ℕ)) → HoldsPrefix now.sectors pending image → HoldsFirst rom acknowledged all image
  holds_first image prefix =
      let some : inputs_of (take prefix.count pending) ≡ take prefix.count (drop acknowledged all) =
      sym (take-map input_of prefix.count pending) ∙ ap (λ (l : List Input). take prefix.count l) held.pending_is in
      record {
        count = acknowledged + prefix.count;
        at_least = omega arith;
        within = omega (arith, prefix.within, unsaved, held.within);
        is = recorded_more rom now.sectors image (take prefix.count pending) (take acknowledged all) (prefix.adds (sha256 rom)) held.recorded_is
            ∙ ap (λ (l : List Input). Some (take acknowledged all ++ l)) some
            ∙ ap (λ (l : List Input). Some l) (sym (take-add acknowledged prefix.count all));
      }

  -- the one image that is left
  pub holds_here : (image : List (List ℕ)) → now.image image → HoldsFirst rom acknowledged all image
  holds_here image here = subst (HoldsFirst rom acknowledged all) (sym (held.settled image here)) (record { count = acknowledged; at_least = omega arith; within = held.within; is = held.recorded_is })

  -- all of them
  pub saved_all : (new : DiskState) (then : ℕ) (cleared : List Entry) → new.honest → then ≡ acknowledged + length pending → cleared ≡ [] → IsAppended now new pending → HoldsSaved rom new then cleared all
  saved_all new then cleared honest then_is empty appended =
      let count : then ≡ length all = omega (arith, then_is, unsaved, held.within) in
      let whole : take acknowledged all ++ inputs_of pending ≡ take then all =
      ap (λ (l : List Input). take acknowledged all ++ l) held.pending_is ∙ take-append-drop acknowledged all ∙ sym (take_all then all (omega (arith, count))) in
      record {
        honest = honest;
        settled = appended.settled;
        within = omega (arith, count);
        pending_is = ap inputs_of empty ∙ sym (drop_all then all (omega (arith, count)));
        recorded_is = recorded_more rom now.sectors new.sectors pending (take acknowledged all) (appended.adds (sha256 rom)) held.recorded_is ∙ ap (λ (l : List Input). Some l) whole;
      }

pub first_none : (rom : List ℕ) (least : ℕ) (all : List Input) (image : List (List ℕ)) → HoldsFirst rom least all image → HoldsFirst rom 0 all image
first_none rom least all image held = record { count = held.count; at_least = omega arith; within = held.within; is = held.is }

pub first_more : (rom : List ℕ) (least : ℕ) (all more : List Input) (image : List (List ℕ)) → HoldsFirst rom least all image → HoldsFirst rom least (all ++ more) image
first_more rom least all more image held = record {
  count = held.count;
  at_least = held.at_least;
  within = omega (arith, held.within, length-append all more);
  is = held.is ∙ ap (λ (l : List Input). Some l) (sym (take-append-le held.count all more held.within));
}

-- no device call at all
pub first_since_here : (rom : List ℕ) (now : DiskState) (acknowledged : ℕ) (pending : List Entry) (all : List Input) → HoldsSaved rom now acknowledged pending all → ((image : List (List ℕ)) → now.since now.moment image → now.image image)
    → HoldsSince now now (HoldsFirst rom 0 all)
first_since_here rom now acknowledged pending all held only =
    holds_since only (record { later = omega arith; each = λ t c le since. inl since }) (λ t c le since. since)
    (λ image here. first_none rom acknowledged all image (holds_here rom now acknowledged pending all held image here))

-- one more input is pending
pub saved_more : (rom : List ℕ) (now : DiskState) (acknowledged : ℕ) (pending more : List Entry) (all added : List Input) → HoldsSaved rom now acknowledged pending all → inputs_of more ≡ inputs_of pending ++ added → HoldsSaved rom now acknowledged more (all ++ added)
saved_more rom now acknowledged pending more all added held more_is = record {
  honest = held.honest;
  settled = held.settled;
  within = omega (arith, held.within, length-append all added);
  pending_is = more_is ∙ ap (λ (l : List Input). l ++ added) held.pending_is ∙ sym (drop-append-le acknowledged all added held.within);
  recorded_is = held.recorded_is ∙ ap (λ (l : List Input). Some l) (sym (take-append-le acknowledged all added held.within));
}

-- one after the other
pub records_then : (rom : List ℕ) (old mid new : DiskState) (acknowledged : ℕ) (pending : List Entry) (all more : List Input) → HoldsSince old mid (HoldsFirst rom 0 all) → Records rom mid new acknowledged pending (all ++ more) → Records rom old new acknowledged pending (all ++ more)
records_then rom old mid new acknowledged pending all more first second =
    record { moments = since_then (since_weaker first (first_more rom 0 all more)) second.moments; holds = second.holds }

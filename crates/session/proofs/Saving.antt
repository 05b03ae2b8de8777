-- The steps of an input and of a save.
use Rattle.std.proofs.Common.{◌≡◌, ◌&&◌, inl, inr, ⊎_elim, ℕ, ◌+◌, ◌-◌, ◌<◌, ◌≤◌, ◌^◌, List, [], ◌∷◌, ◌++◌, length, take, Bool, true, false, Option, Some, None, refl, sym, ap, ◌∙◌, subst, arith, length-append}
use Rattle.std.proofs.lemmas.Bool.{cases_Bool}
use Rattle.std.proofs.lemmas.List.Elements.{All-nil, All-cons}
use Rattle.std.proofs.lemmas.List.{take_all, take-map, length-map, length-take-le}
use Rattle.sha2.specs.Sha256.{sha256}
use Rattle.bank_controllers.specs.CartridgeState.{IsSameCartridge}
use Rattle.machine.specs.Machine.{MachineState, Input, PassesTime, as_input, after, applied}
use Rattle.machine.specs.declared.input.Input.{Input as PassingInput}
use Rattle.machine.specs.declared.input.Input.TheVariants.{Frame as FrameInput, Seconds as SecondsInput}
use Rattle.machine.proofs.KeptByInputs.{by_inputs}
use Rattle.snapshot.specs.Encoding.{encoded}
use Rattle.snapshot.specs.Legal.{IsMachineOf}
use Rattle.sector_device.specs.DiskState.{DiskState}
use Rattle.sector_device.specs.Runs.{HoldsSince}
use Rattle.sector_device.proofs.Runs.{holds_since}
use Rattle.sector_log.specs.Calls.{IsAppended}
use Rattle.log_format.specs.Appends.{HoldsPrefix, fits, grown}
use Rattle.log_format.specs.Content.{content, new_generation}
use Rattle.log_format.specs.Found.{log_of}
use Rattle.input_entries.specs.Inputs.{is_input, all_input}
use Rattle.input_entries.specs.declared.Entry.{Entry}
use Rattle.input_entries.specs.declared.StoredEntry.{StoredEntry}
use Rattle.session.specs.Calls.{IsSaved, fits_log, most_unsaved}
use Rattle.session.specs.Stands.{IsAtRest, Position, StandsAt, stands, further, StandsWithin, StandsBetween}
use Rattle.session.specs.Inputs.{can_be_logged, input_of, inputs_of, no_input}
use Rattle.session.specs.Resting.{LeadsTo, Rests}
use Rattle.session.specs.Writing.{HoldsWritten, IsWritten}
use Rattle.session.proofs.StandsLaws.{after_append, after_none, after_one, logged_append, more_stands}
use Rattle.session.proofs.AtRest.{at_rest_with}
use Rattle.session.proofs.Beginnings.{begun_stands, begun_rests}
use Rattle.session.proofs.Writes.{since_weaker}

-- ---- where some inputs lead

pub record Leading (from : Option Position) (more : List Input) (count : ℕ) (m : MachineState) : Type 0 where
  pub position : Position
  pub stood : from ≡ Some position
  pub count_is : position.count + length more ≡ count
  pub machine_is : after position.machine more ≡ m

pub leading : (from : Option Position) (more : List Input) (count : ℕ) (m : MachineState) → further more from ≡ Some (record { count = count; machine = m }) → Leading from more count m
leading None more count m leads = absurd (cc)
leading (Some p) more count m leads =
    let same : record { count = p.count + length more; machine = after p.machine more } ≡ record { count = count; machine = m } = cc in
    record { position = p; stood = refl; count_is = ap (λ (q : Position). q.count) same; machine_is = ap (λ (q : Position). q.machine) same }

-- ---- an input

pub same_after : (m now : MachineState) (input : Input) → PassesTime input → now ≡ applied input m → IsSameCartridge m.processor.memory.banks now.processor.memory.banks
same_after m now input passes is =
    subst (λ (n : MachineState). IsSameCartridge m.processor.memory.banks n.processor.memory.banks) (after_one m input ∙ sym is)
    (by_inputs m (input ∷ []) (All-cons PassesTime input [] passes (All-nil PassesTime)))

pub given_passes : (input : PassingInput) → PassesTime (as_input input)
given_passes (FrameInput buttons) = tt
given_passes (SecondsInput n) = tt

-- one more entry, where there is room for it
pub few_more : (before after : List Entry) (entry : Entry) → after ≡ before ++ entry ∷ [] → length before < most_unsaved → length after ≤ most_unsaved
few_more before after entry is room = omega (arith, ap length is ∙ length-append before (entry ∷ []))

pub counted_more : (before after : List Entry) (entry : Entry) (n : ℕ) → after ≡ before ++ entry ∷ [] → n + length before < 2 ^ 64 - 1 → n + length after < 2 ^ 64
counted_more before after entry n is room = omega (arith, ap length is ∙ length-append before (entry ∷ []))

and_no : (b : Bool) → (b && false) ≡ false
and_no true = refl
and_no false = refl

-- one more that is a frame or seconds, and one that is not
pub logged_more : (entries : List Entry) (entry : Entry) → is_input entry ≡ true → can_be_logged (entries ++ entry ∷ []) ≡ can_be_logged entries
logged_more [] entry one = λ i. one i && true
logged_more (e ∷ entries) entry one = λ i. is_input e && logged_more entries entry one i

pub not_logged : (entries : List Entry) (entry : Entry) → is_input entry ≡ false → can_be_logged (entries ++ entry ∷ []) ≡ false
not_logged [] entry none = λ i. none i && true
not_logged (e ∷ entries) entry none = (λ i. is_input e && not_logged entries entry none i) ∙ and_no (is_input e)

pub no_input_is_none : is_input no_input ≡ false
unfolding is_input
no_input_is_none = refl

-- they lead on by one more that a log can hold
pub leads_more :
    (saved : MachineState) (pending after_it : List Entry) (entry : Entry) (m then : MachineState) (input : Input)
    → LeadsTo saved pending m → after_it ≡ pending ++ entry ∷ [] → is_input entry ≡ true → input_of entry ≡ input → then ≡ applied input m → LeadsTo saved after_it then
leads_more saved pending after_it entry m then input leads more one input_is is = λ logged.
    let was : can_be_logged pending ≡ true = sym (logged_more pending entry one) ∙ sym (ap can_be_logged more) ∙ logged in
    let inputs_are : inputs_of after_it ≡ inputs_of pending ++ input ∷ [] = ap inputs_of more ∙ logged_append pending (entry ∷ []) ∙ ap (λ (i : Input). inputs_of pending ++ i ∷ []) input_is in
    ap (after saved) inputs_are ∙ sym (after_append saved (inputs_of pending) (input ∷ []))
    ∙ ap (λ (n : MachineState). after n (input ∷ [])) (leads was) ∙ after_one m input ∙ sym is

-- behind a power switch, or with another machine, nothing is said of where they lead
pub leads_otherwise : (saved : MachineState) (pending after_it : List Entry) (entry : Entry) (then : MachineState) → after_it ≡ pending ++ entry ∷ [] → entry ≡ no_input → LeadsTo saved after_it then
leads_otherwise saved pending after_it entry then more none = λ logged.
    let clash : true ≡ false = sym logged ∙ ap can_be_logged more ∙ not_logged pending entry (ap is_input none ∙ no_input_is_none) in
    absurd (cc)

-- what a session rests on is of its ROM alone
pub rests_by : {rom other : List ℕ} {now : DiskState} {log : List StoredEntry} {saved : Position} → other ≡ rom → Rests rom now log saved → Rests other now log saved
rests_by {now = now} {log = log} {saved = saved} same rests = subst (λ (r : List ℕ). Rests r now log saved) (sym same) rests

-- with nothing unsaved, the saved inputs are all inputs
pub nothing_stands : (from : Position) (pending : List Entry) (m : MachineState) → LeadsTo from.machine pending m → (none : ℕ) → pending ≡ [] → none ≡ length pending → from ≡ record { count = from.count + none; machine = m }
nothing_stands from pending m leads none empty size =
    let count_is : from.count ≡ from.count + none = omega (arith, size, ap length empty) in
    let machine_is : from.machine ≡ m = sym (after_none from.machine) ∙ ap (λ (l : List Entry). after from.machine (inputs_of l)) (sym empty) ∙ leads (ap can_be_logged empty) in
    λ i. record { count = count_is i; machine = machine_is i }

-- ---- a save

module _
    (old : DiskState) (log : List StoredEntry) (from : Position) (pending : List Entry) (m : MachineState) (rests : Rests m.processor.memory.banks.rom old log from)
    (leads : LeadsTo from.machine pending m) (few : from.count + length pending < 2 ^ 64) where
  abbrev rom : List ℕ
  rom = m.processor.memory.banks.rom

  abbrev total : ℕ
  total = from.count + length pending

  abbrev behind : Position
  behind = record { count = total; machine = m }

  -- where the log can hold all that is pending
  module _ (logged : can_be_logged pending ≡ true) where
    size : length (inputs_of pending) ≡ length pending
    size = length-map pending input_of

    led : further (inputs_of pending) (Some from) ≡ Some behind
    led = let count_is : from.count + length (inputs_of pending) ≡ total = ap (λ (n : ℕ). from.count + n) size in λ i. Some (record { count = count_is i; machine = leads logged i })

    -- none further
    here : (image : List (List ℕ)) → content image ≡ content old.sectors → StandsWithin rom (Some from) (inputs_of pending) image
    here image same = record {
      count = 0;
      within = omega arith;
      is = ap (stands rom) same ∙ rests.stood.is
          ∙ (let count_is : from.count ≡ from.count + 0 = omega arith in let machine_is = sym (after_none from.machine) in λ i. Some (record { count = count_is i; machine = machine_is i }));
    }

    -- a prefix further
    front : (image : List (List ℕ)) → HoldsPrefix old.sectors pending image → StandsWithin rom (Some from) (inputs_of pending) image
    front image holds =
        let taken : length (take holds.count pending) ≡ holds.count = length-take-le holds.count pending holds.within in
        let less : from.count + length (take holds.count pending) < 2 ^ 64 = omega (arith, taken, few, holds.within) in
        record {
          count = holds.count;
          within = omega (arith, holds.within, size);
          is = more_stands rom (content old.sectors) (content image) (take holds.count pending) from holds.adds rests.stood.is less
              ∙ ap (λ (l : List Input). further l (Some from)) (sym (take-map input_of holds.count pending));
        }

    -- all further
    whole : (id : List ℕ) (image : List (List ℕ)) → IsMachineOf rom m → id ≡ sha256 rom → content image ≡ Some (new_generation id total (encoded m)) → StandsWithin rom (Some from) (inputs_of pending) image
    whole id image of id_is is = record {
      count = length (inputs_of pending);
      within = omega arith;
      is = begun_stands rom id (encoded m) m total image of few id_is refl is
          ∙ sym led
          ∙ ap (λ (l : List Input). further l (Some from)) (sym (take_all (length (inputs_of pending)) (inputs_of pending) (omega arith)));
    }

    within : (fits : Bool) (now : DiskState) (id : List ℕ) → (fits ≡ false → IsMachineOf rom m) → id ≡ sha256 rom
        → HoldsSince old now (HoldsWritten fits old.sectors pending id total (encoded m)) → HoldsSince old now (StandsWithin rom (Some from) (inputs_of pending))
    within true now id of id_is held = since_weaker held front
    within false now id of id_is held = since_weaker held (λ image. ⊎_elim (here image) (whole id image (of refl) id_is))

    -- after an append
    appended_rests : (now : DiskState) (then : List StoredEntry) → IsAppended old now pending → log_of (content now.sectors) ≡ then → Rests rom now then behind
    appended_rests now then appended reads = record {
      stood = record { settled = appended.settled; is = more_stands rom (content old.sectors) (content now.sectors) pending from appended.adds rests.stood.is few ∙ led };
      log_is = reads;
    }

  -- each image of a save, by whether the log can hold what is pending
  abbrev Between : Bool → DiskState → Type 0
  Between logged now = HoldsSince old now (StandsBetween logged rom (Some from) (inputs_of pending) behind)

  otherwise : (now : DiskState) (id : List ℕ) → IsMachineOf rom m → id ≡ sha256 rom
      → HoldsSince old now (HoldsWritten false old.sectors pending id total (encoded m)) → Between false now
  otherwise now id of id_is held =
      since_weaker held (λ image. ⊎_elim (λ same. inl (ap (stands rom) same ∙ rests.stood.is)) (λ new. inr (begun_stands rom id (encoded m) m total image of few id_is refl new)))

  pub written_within : (fits : Bool) (now : DiskState) (id : List ℕ) → (can_be_logged pending ≡ false → fits ≡ false) → (fits ≡ false → IsMachineOf rom m) → id ≡ sha256 rom
      → HoldsSince old now (HoldsWritten fits old.sectors pending id total (encoded m)) → Between (can_be_logged pending) now
  written_within fits now id unfit of id_is held =
      elim (cases_Bool (can_be_logged pending)) [
        | inl can ↦ subst (λ (b : Bool). Between b now) (sym can) (within can fits now id of id_is held)
        | inr other ↦
            subst (λ (b : Bool). Between b now) (sym other)
            (otherwise now id (of (unfit other)) id_is (subst (λ (b : Bool). HoldsSince old now (HoldsWritten b old.sectors pending id total (encoded m))) (unfit other) held))
      ]

  pub written_rests : (fits : Bool) (now : DiskState) (id : List ℕ) (then : List StoredEntry) → (can_be_logged pending ≡ false → fits ≡ false) → (fits ≡ false → IsMachineOf rom m) → id ≡ sha256 rom
      → IsWritten fits old now pending id total (encoded m) log then → Rests rom now then behind
  written_rests true now id then unfit of id_is written =
      elim (cases_Bool (can_be_logged pending)) [
        | inl can ↦ appended_rests can now then written.0 written.2
        | inr other ↦ let is : true ≡ false = unfit other in absurd (cc)
      ]
  written_rests false now id then unfit of id_is written = begun_rests id (encoded m) m total old now then (of refl) few id_is refl written.0 written.1

  pub written_saved : (fits : Bool) (now : DiskState) (id : List ℕ) (then : List StoredEntry) → id ≡ sha256 rom
      → IsWritten fits old now pending id total (encoded m) log then → IsSaved fits rom total m pending old.sectors now.sectors
  written_saved true now id then id_is written = (written.0.adds, written.2 ∙ written.1 ∙ ap (λ (l : List StoredEntry). grown l pending) (sym rests.log_is), written.0.generation_is)
  written_saved false now id then id_is written =
      (written.0.holds.content_is ∙ ap (λ (i : List ℕ). Some (new_generation i total (encoded m))) id_is, written.0.holds.generation_is)

  -- a save of nothing
  pub nothing_within : pending ≡ [] → ((image : List (List ℕ)) → old.since old.moment image → old.image image) → Between (can_be_logged pending) old
  nothing_within empty only =
      let can : can_be_logged pending ≡ true = ap can_be_logged empty in
      subst (λ (b : Bool). Between b old) (sym can)
      (holds_since only (record { later = omega arith; each = λ t c le since. inl since }) (λ t c le since. since)
      (λ image now. here can image (ap content (rests.stood.settled image now))))

  pub nothing_rests : (none : ℕ) → pending ≡ [] → none ≡ length pending → IsAtRest rom old (from.count + none) [] m
  nothing_rests none empty size =
      at_rest_with rom old (record { count = from.count + none; machine = m }) [] m (subst (StandsAt rom old) (nothing_stands from pending m leads none empty size) rests.stood) (after_none m)

  -- the same where entries and count have other names
  module _ (test : List Entry → Bool) (unfit : can_be_logged pending ≡ false → test pending ≡ false) (now : DiskState) (id : List ℕ) (entries : List Entry) (count : ℕ) (entries_are : entries ≡ pending)
      (count_is : count ≡ total) (id_is : id ≡ sha256 rom) where
    renamed : (then : List StoredEntry) → IsWritten (test entries) old now entries id count (encoded m) log then → IsWritten (test pending) old now pending id total (encoded m) log then
    renamed then written =
        subst (λ (l : List Entry). IsWritten (test l) old now l id total (encoded m) log then) entries_are
        (subst (λ (n : ℕ). IsWritten (test entries) old now entries id n (encoded m) log then) count_is written)

    legal_then : (test entries ≡ false → IsMachineOf rom m) → test pending ≡ false → IsMachineOf rom m
    legal_then of e = of (ap test entries_are ∙ e)

    pub rests_after : (then : List StoredEntry) → (test entries ≡ false → IsMachineOf rom m) → IsWritten (test entries) old now entries id count (encoded m) log then → Rests rom now then (record { count = count; machine = m })
    rests_after then of written =
        subst (λ (n : ℕ). Rests rom now then (record { count = n; machine = m })) (sym count_is) (written_rests (test pending) now id then unfit (legal_then of) id_is (renamed then written))

    pub saved_after : (then : List StoredEntry) → IsWritten (test entries) old now entries id count (encoded m) log then → IsSaved (test pending) rom count m pending old.sectors now.sectors
    saved_after then written =
        subst (λ (n : ℕ). IsSaved (test pending) rom n m pending old.sectors now.sectors) (sym count_is) (written_saved (test pending) now id then id_is (renamed then written))

    pub within_after : (test entries ≡ false → IsMachineOf rom m) → HoldsSince old now (HoldsWritten (test entries) old.sectors entries id count (encoded m)) → Between (can_be_logged pending) now
    within_after of held =
        written_within (test pending) now id unfit (legal_then of) id_is
        (subst (λ (l : List Entry). HoldsSince old now (HoldsWritten (test l) old.sectors l id total (encoded m))) entries_are
        (subst (λ (n : ℕ). HoldsSince old now (HoldsWritten (test entries) old.sectors entries id n (encoded m))) count_is held))

pub listed_inputs : (entries : List Entry) → all_input entries → can_be_logged entries ≡ true
listed_inputs [] all = refl
listed_inputs (e ∷ entries) all = λ i. all.0 i && listed_inputs entries all.1 i

-- what no log can hold does not fit one
pub no_fit : (log : List StoredEntry) (entries : List Entry) → can_be_logged entries ≡ false → fits_log log entries ≡ false
no_fit log entries other = λ i. other i && fits log entries

pub none_left : (entries : List Entry) → length entries ≡ 0 → entries ≡ []
none_left [] size = refl
none_left (e ∷ entries) size = absurd (omega (arith, size))

-- a buffer that was written in place keeps its length
pub buffer_length : (out raw : List ℕ) (n : ℕ) → length out ≡ n → length (take n (out ++ raw)) ≡ n
buffer_length out raw n size = length-take-le n (out ++ raw) (omega (arith, size, length-append out raw))

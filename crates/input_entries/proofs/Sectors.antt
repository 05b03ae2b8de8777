-- Entries in sectors, as many in each as fit, and what is read of them after any of the writes of one append.
use Rattle.std.proofs.Common.{◌≡◌, ◌⊎◌, ◌==◌, inl, inr, ⊎_elim, ℕ, zero, suc, ◌+◌, ◌-◌, ◌*◌, ◌<◌, ◌≤◌, List, [], ◌∷◌, ◌++◌, length, take, drop, get_or, Bool, true, false, if◌then◌else◌, refl, sym, ap, ◌∙◌, subst, arith, append_assoc, length-append, length-drop, length-take}
use Rattle.std.proofs.lemmas.List.{append-nil, length-take-le, take_all, take-append-drop, take-take, take_more, drop_at, drop-drop, get_or-take, get_or-drop, get_or_past, ext_get_or}
use Rattle.std.proofs.lemmas.Bool.{cases_lt}
use Rattle.std.proofs.lemmas.Bool.Decides.{nat_tests}
use lib.Seq.{take-add}
use Rattle.input_entries.specs.Growing.{with_inputs}
use Rattle.input_entries.specs.Inputs.{AllFive, all_input, all_entries, inputs}
use Rattle.input_entries.specs.declared.Entry.{Entry}
use Rattle.input_entries.specs.declared.StoredEntry.{StoredEntry}
use Rattle.input_entries.proofs.CodeLengths.{AreCodes, codes-take, codes-drop}
use Rattle.input_entries.proofs.MoreInputs.{Prefix, prefix, codes-with_inputs, length-with_inputs, whole}
use Rattle.input_entries.proofs.Runs.{inputs-append, entries-take, entries-drop}

-- How entries are packed: what a sector with this number is read as, what is written there, and the list that sectors hold from
-- this number on, which ends with the first sector that is not full.
pub record Packing : Type 0 where
  pub per : ℕ
  pub limit : ℕ
  pub read : ℕ → List ℕ → List StoredEntry
  pub write : ℕ → List StoredEntry → List ℕ
  pub from : ℕ → List (List ℕ) → List StoredEntry
  pub some : 0 < per
  pub back : (number : ℕ) (es : List StoredEntry) → number < limit → length es ≤ per → AreCodes es → all_entries es → read number (write number es) ≡ es
  pub nothing : (number : ℕ) → read number [] ≡ []
  pub none : (number : ℕ) → from number [] ≡ []
  pub next : (number : ℕ) (s : List ℕ) (ss : List (List ℕ)) → from number (s ∷ ss) ≡ read number s ++ (if length (read number s) == per then from (suc number) ss else [])

-- so many full sectors from this number on, and then these entries
pub record Ends (p : Packing) (number : ℕ) (ss : List (List ℕ)) (full : ℕ) (tail : List StoredEntry) : Type 0 where
  pub each : (k : ℕ) → k < full → length (p.read (number + k) (get_or ss k [])) ≡ p.per
  pub tail_is : p.read (number + full) (get_or ss full []) ≡ tail
  pub within : full ≤ length ss
  pub short : length tail < p.per

-- the list stays, or becomes a front of the new one that has all of the old
pub record CutAfter (tail list now : List StoredEntry) : Type 0 where
  pub is : (now ≡ tail) ⊎ ((count : ℕ) × (length tail ≤ count) × (now ≡ take count list))

-- the entries of the full sectors, and what others hold of the inputs behind them
pub record Cut (front tail : List StoredEntry) (more : List Entry) (now : List StoredEntry) : Type 0 where
  pub cut : List StoredEntry
  pub is : now ≡ front ++ cut
  pub holds : Prefix tail cut more

-- what stands behind the same front
pub inputs_behind : (front tail cut old now : List StoredEntry) (more : List Entry) → old ≡ front ++ tail → now ≡ front ++ cut → inputs cut ≡ inputs tail ++ more → inputs now ≡ inputs old ++ more
inputs_behind front tail cut old now more was is stand =
    ap inputs is ∙ inputs-append front cut ∙ ap (λ l. inputs front ++ l) stand ∙ sym (append_assoc (inputs front) (inputs tail) more) ∙ ap (λ l. l ++ more) (sym (inputs-append front tail) ∙ ap inputs (sym was))

module _ (p : Packing) where
  pub full_then : (number : ℕ) (s : List ℕ) (ss : List (List ℕ)) (es : List StoredEntry) → p.read number s ≡ es → length es ≡ p.per → p.from number (s ∷ ss) ≡ es ++ p.from (suc number) ss
  full_then number s ss es are size =
      let holds : (length es == p.per) ≡ true = grind (arith, nat_tests) in
      p.next number s ss ∙ ap (λ (l : List StoredEntry). l ++ (if length l == p.per then p.from (suc number) ss else [])) are
      ∙ ap (λ (b : Bool). es ++ (if b then p.from (suc number) ss else [])) holds

  pub short_last : (number : ℕ) (s : List ℕ) (ss : List (List ℕ)) (es : List StoredEntry) → p.read number s ≡ es → length es < p.per → p.from number (s ∷ ss) ≡ es
  short_last number s ss es are few =
      let fails : (length es == p.per) ≡ false = grind (arith, nat_tests) in
      p.next number s ss ∙ ap (λ (l : List StoredEntry). l ++ (if length l == p.per then p.from (suc number) ss else [])) are
      ∙ ap (λ (b : Bool). es ++ (if b then p.from (suc number) ss else [])) fails ∙ append-nil es

  -- so many full sectors, and what follows
  pub split : (n number : ℕ) (ss : List (List ℕ)) → n ≤ length ss → ((k : ℕ) → k < n → length (p.read (number + k) (get_or ss k [])) ≡ p.per)
      → (p.from number ss ≡ p.from number (take n ss) ++ p.from (number + n) (drop n ss)) × (length (p.from number (take n ss)) ≡ p.per * n)
  split zero number ss within each =
      let e : number + 0 ≡ number = omega arith in
      (ap (λ m. p.from m ss) (sym e) ∙ ap (λ l. l ++ p.from (number + 0) ss) (sym (p.none number)), omega (arith, ap length (p.none number)))
  split (suc n) number [] within each = absurd (omega arith)
  split (suc n) number (s ∷ ss) within each =
      let es = p.read number s in
      let first : length es ≡ p.per = (let e : number ≡ number + 0 = omega arith in ap (λ m. length (p.read m s)) e) ∙ each 0 (omega arith) in
      let later = split n (suc number) ss (omega arith) (λ k le. (let e : suc number + k ≡ number + suc k = omega arith in ap (λ m. length (p.read m (get_or ss k []))) e) ∙ each (suc k) (omega arith)) in
      let front : p.from number (s ∷ take n ss) ≡ es ++ p.from (suc number) (take n ss) = full_then number s (take n ss) es refl first in
      let next : suc number + n ≡ number + suc n = omega arith in (
        full_then number s ss es refl first ∙ ap (λ l. es ++ l) later.0 ∙ sym (append_assoc es (p.from (suc number) (take n ss)) (p.from (suc number + n) (drop n ss)))
            ∙ (λ i. sym front i ++ p.from (next i) (drop n ss)),
        omega (arith, ap length front, length-append es (p.from (suc number) (take n ss)), first, later.1),
      )

  -- one full sector more
  pub one_more : (n number : ℕ) (ss : List (List ℕ)) → n < length ss → ((k : ℕ) → k < n → length (p.read (number + k) (get_or ss k [])) ≡ p.per)
      → p.from number (take (n + 1) ss) ≡ p.from number (take n ss) ++ p.read (number + n) (get_or ss n [])
  one_more n number ss within each =
      let s = get_or ss n [] in
      let front : take n (take (n + 1) ss) ≡ take n ss = take-take n (n + 1) ss (omega arith) in
      let back : drop n (take (n + 1) ss) ≡ s ∷ [] = ap (drop n) (take_more ss n [] within) ∙ drop_at (take n ss) (s ∷ []) n (length-take-le n ss (omega arith)) in
      (split n number (take (n + 1) ss) (omega (arith, length-take (n + 1) ss)) (λ k le. ap (λ x. length (p.read (number + k) x)) (get_or-take (n + 1) ss k [] (omega arith)) ∙ each k le)).0
      ∙ (λ i. p.from number (front i) ++ p.from (number + n) (back i)) ∙ ap (λ l. p.from number (take n ss) ++ l) (p.next (number + n) s [] ∙ ap (λ l. p.read (number + n) s ++ l) (ended (length (p.read (number + n) s) == p.per)) ∙ append-nil (p.read (number + n) s))
    where
      ended : (b : Bool) → (if b then p.from (suc (number + n)) [] else []) ≡ []
      ended true = p.none (suc (number + n))
      ended false = refl

  pub parts : {number full : ℕ} {ss : List (List ℕ)} {tail : List StoredEntry} → Ends p number ss full tail → p.from number ss ≡ p.from number (take full ss) ++ tail
  parts {number} {full} {ss} {tail} e = (split full number ss e.within e.each).0 ∙ ap (λ l. p.from number (take full ss) ++ l) (rest (drop full ss) refl)
    where
      at : (l : List (List ℕ)) → drop full ss ≡ l → get_or ss full [] ≡ get_or l 0 []
      at l is = (let n : full ≡ full + 0 = omega arith in ap (λ k. get_or ss k []) n) ∙ sym (get_or-drop full ss 0 []) ∙ ap (λ (x : List (List ℕ)). get_or x 0 []) is

      rest : (l : List (List ℕ)) → drop full ss ≡ l → p.from (number + full) l ≡ tail
      rest [] is = p.none (number + full) ∙ sym (sym e.tail_is ∙ ap (p.read (number + full)) (at [] is) ∙ p.nothing (number + full))
      rest (s ∷ l) is = short_last (number + full) s l tail (ap (p.read (number + full)) (sym (at (s ∷ l) is)) ∙ e.tail_is) e.short

  -- the entries of the sector with this index
  abbrev pub chunk : ℕ → List StoredEntry → List StoredEntry
  chunk k list = take p.per (drop (p.per * k) list)

  pub chunk_next : (k : ℕ) (list : List StoredEntry) → chunk (suc k) list ≡ chunk k (drop p.per list)
  chunk_next k list = let m : p.per + p.per * k ≡ p.per * suc k = grind arith in sym (ap (take p.per) (drop-drop (p.per * k) p.per list ∙ ap (λ j. drop j list) m))

  read_first : (number : ℕ) (list : List StoredEntry) (s : List ℕ) → number < p.limit → AreCodes list → all_entries list → s ≡ p.write (number + 0) (chunk 0 list) → p.read number s ≡ take p.per list
  read_first number list s small codes are is =
      let e : number + 0 ≡ number = omega arith in
      let z : p.per * 0 ≡ 0 = omega arith in
      ap (p.read number) (is ∙ (λ i. p.write (e i) (take p.per (drop (z i) list))))
      ∙ p.back number (take p.per list) small (omega (arith, length-take p.per list)) (codes-take p.per list codes) (entries-take p.per list are)

  -- all of the list was written
  pub all_back : (ss : List (List ℕ)) (number : ℕ) (list : List StoredEntry) → number + length ss ≤ p.limit → length list ≤ p.per * length ss → AreCodes list → all_entries list
      → ((k : ℕ) → k < length ss → get_or ss k [] ≡ p.write (number + k) (chunk k list)) → p.from number ss ≡ list
  all_back [] number [] small fits codes are each = p.none number
  all_back [] number (e ∷ es) small fits codes are each = absurd (omega arith)
  all_back (s ∷ ss) number list small fits codes are each =
      let read = read_first number list s (omega arith) codes are (each 0 (omega arith)) in
      elim (cases_lt (length list) p.per) [
        | inl ends ↦ short_last number s ss (take p.per list) read (omega (arith, length-take p.per list)) ∙ take_all p.per list (omega arith)
        | inr goes ↦
            let later = all_back ss (suc number) (drop p.per list) (omega arith) (omega (arith, length-drop p.per list)) (codes-drop p.per list codes) (entries-drop p.per list are)
            (λ k le. let e : number + suc k ≡ suc number + k = omega arith in each (suc k) (omega arith) ∙ (λ i. p.write (e i) (chunk_next k list i))) in
            full_then number s ss (take p.per list) read (length-take-le p.per list goes) ∙ ap (λ l. take p.per list ++ l) later ∙ take-append-drop p.per list
      ]

  -- any of it was, over the sector that the old one ends in and over sectors without entries
  pub cut_after : (ss : List (List ℕ)) (number : ℕ) (tail list : List StoredEntry) → number + length ss ≤ p.limit → length tail < p.per → length tail ≤ length list → AreCodes list → all_entries list
      → (0 ≡ length ss → tail ≡ [])
      → (0 < length ss → (p.read (number + 0) (get_or ss 0 []) ≡ tail) ⊎ (get_or ss 0 [] ≡ p.write (number + 0) (chunk 0 list)))
      → ((k : ℕ) → 0 < k → k < length ss → (p.read (number + k) (get_or ss k []) ≡ []) ⊎ (get_or ss k [] ≡ p.write (number + k) (chunk k list)))
      → CutAfter tail list (p.from number ss)
  cut_after [] number tail list small short grows codes are none first later = record { is = inl (p.none number ∙ sym (none refl)) }
  cut_after (s ∷ ss) number tail list small short grows codes are none first later =
      ⊎_elim
      (λ old. let e : number ≡ number + 0 = omega arith in record { is = inl (short_last number s ss tail (ap (λ m. p.read m s) e ∙ old) short) })
      (λ new.
      let read = read_first number list s (omega arith) codes are new in
      elim (cases_lt (length list) p.per) [
        | inl ends ↦ record { is = inr (p.per, omega arith, short_last number s ss (take p.per list) read (omega (arith, length-take p.per list))) }
        | inr goes ↦
            let here = full_then number s ss (take p.per list) read (length-take-le p.per list goes) in
            let shifted = λ (k : ℕ) (le : k < length ss). shift k (later (suc k) (omega arith) (omega arith)) in
            let behind = cut_after ss (suc number) [] (drop p.per list) (omega arith) p.some (omega arith) (codes-drop p.per list codes) (entries-drop p.per list are) (λ _. refl) (λ some. shifted 0 some) (λ k some le. shifted k le) in
            ⊎_elim
            (λ nothing. record { is = inr (p.per, omega arith, here ∙ ap (λ l. take p.per list ++ l) nothing ∙ append-nil (take p.per list)) })
            (λ more. record { is = inr (p.per + more.0, omega arith, here ∙ ap (λ l. take p.per list ++ l) more.2 ∙ sym (take-add p.per more.0 list)) })
            behind.is
      ])
      (first (omega arith))
    where
      shift : (k : ℕ) → (p.read (number + suc k) (get_or ss k []) ≡ []) ⊎ (get_or ss k [] ≡ p.write (number + suc k) (chunk (suc k) list))
          → (p.read (suc number + k) (get_or ss k []) ≡ []) ⊎ (get_or ss k [] ≡ p.write (suc number + k) (chunk k (drop p.per list)))
      shift k either =
          let e : number + suc k ≡ suc number + k = omega arith in
          ⊎_elim (λ b. inl (ap (λ m. p.read m (get_or ss k [])) (sym e) ∙ b)) (λ n. inr (n ∙ (λ i. p.write (e i) (chunk_next k list i)))) either

-- one append behind the full sectors
module _ (p : Packing) (number full : ℕ) (olds now : List (List ℕ)) (tail : List StoredEntry) (more : List Entry) (ends : Ends p number olds full tail) (small : number + length olds ≤ p.limit)
    (codes : AreCodes tail) (are : all_entries tail) (fives : AllFive more) (input : all_input more) (size : length now ≡ length olds) (same : (k : ℕ) → k < full → get_or now k [] ≡ get_or olds k []) where
  abbrev list : List StoredEntry
  list = with_inputs tail more

  abbrev front : List StoredEntry
  front = p.from number (take full olds)

  fronts : take full now ≡ take full olds
  fronts =
      let long_now : length (take full now) ≡ full = length-take-le full now (omega (arith, size, ends.within)) in
      let long_old : length (take full olds) ≡ full = length-take-le full olds ends.within in
      ext_get_or [] (take full now) (take full olds) (long_now ∙ sym long_old) (λ k le.
      let less : k < full = omega (arith, le, long_now) in
      get_or-take full now k [] less ∙ same k less ∙ sym (get_or-take full olds k [] less))

  front_then : p.from number now ≡ front ++ p.from (number + full) (drop full now)
  front_then =
      (split p full number now (omega (arith, size, ends.within)) (λ k le. ap (λ s. length (p.read (number + k) s)) (same k le) ∙ ends.each k le)).0
      ∙ ap (λ l. p.from number l ++ p.from (number + full) (drop full now)) fronts

  inside : (k : ℕ) → k < length (drop full now) → full + k < length olds
  inside k le = omega (arith, le, length-drop full now, size)

  few : number + full + length (drop full now) ≤ p.limit
  few = omega (arith, length-drop full now, size, ends.within, small)

  -- the list is the same if the sector after the full ones is read as before
  pub same_list : p.read (number + full) (get_or now full []) ≡ tail → p.from number now ≡ p.from number olds
  same_list is =
      let ends_now : Ends p number now full tail = record { each = λ k le. ap (λ s. length (p.read (number + k) s)) (same k le) ∙ ends.each k le; tail_is = is; within = omega (arith, size, ends.within); short = ends.short } in
      parts p ends_now ∙ ap (λ l. p.from number l ++ tail) fronts ∙ sym (parts p ends)

  -- all of the writes were made
  pub all_put : ((k : ℕ) → full + k < length olds → get_or now (full + k) [] ≡ p.write (number + full + k) (chunk p k list)) → length list ≤ p.per * (length olds - full) → p.from number now ≡ front ++ list
  all_put each fits =
      front_then ∙ ap (λ l. front ++ l) (all_back p (drop full now) (number + full) list few (subst (λ n. length list ≤ p.per * n) rest fits) (codes-with_inputs tail more codes fives) (whole tail more are fives input).each
      (λ k le. get_or-drop full now k [] ∙ each k (inside k le)))
    where
      rest : length olds - full ≡ length (drop full now)
      rest = omega (arith, length-drop full now, size)

  -- any of them were
  pub any_put : ((k : ℕ) → full + k < length olds → (get_or now (full + k) [] ≡ get_or olds (full + k) []) ⊎ (get_or now (full + k) [] ≡ p.write (number + full + k) (chunk p k list)))
      → ((k : ℕ) → 0 < k → full + k < length olds → p.read (number + full + k) (get_or olds (full + k) []) ≡ []) → Cut front tail more (p.from number now)
  any_put each blank =
      ⊎_elim
      (λ old. record { cut = tail; is = front_then ∙ ap (λ l. front ++ l) old; holds = record { count = 0; within = omega arith; each = are; stand = sym (append-nil (inputs tail)) } })
      (λ cut. record { cut = take cut.0 list; is = front_then ∙ ap (λ l. front ++ l) cut.2; holds = prefix tail more are fives input cut.0 cut.1 })
      (cut_after p (drop full now) (number + full) tail list few ends.short (length-with_inputs tail more) (codes-with_inputs tail more codes fives) (whole tail more are fives input).each no_tail
      (λ le. ⊎_elim (λ was. inl (ap (p.read (number + full + 0)) (here 0 ∙ was) ∙ first)) (λ new. inr (here 0 ∙ new)) (each 0 (inside 0 le)))
      (λ k some le. ⊎_elim (λ was. inl (ap (p.read (number + full + k)) (here k ∙ was) ∙ blank k some (inside k le))) (λ new. inr (here k ∙ new)) (each k (inside k le)))).is
    where
      here : (k : ℕ) → get_or (drop full now) k [] ≡ get_or now (full + k) []
      here k = get_or-drop full now k []

      first : p.read (number + full + 0) (get_or olds (full + 0) []) ≡ tail
      first =
          let a : number + full + 0 ≡ number + full = omega arith in
          let b : full + 0 ≡ full = omega arith in
          ap (λ n. p.read n (get_or olds (full + 0) [])) a ∙ ap (λ k. p.read (number + full) (get_or olds k [])) b ∙ ends.tail_is

      no_tail : 0 ≡ length (drop full now) → tail ≡ []
      no_tail none = sym ends.tail_is ∙ ap (p.read (number + full)) (get_or_past olds full [] (omega (arith, none, length-drop full now, size, ends.within))) ∙ p.nothing (number + full)

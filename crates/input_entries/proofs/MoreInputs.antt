-- What entries stand for with more inputs behind them.
use Rattle.std.proofs.Common.{◌≡◌, inl, inr, ℕ, zero, suc, ◌+◌, ◌-◌, ◌<◌, ◌≤◌, List, [], ◌∷◌, ◌++◌, length, take, drop, get_or, set, Bool, true, false, if◌then◌else◌, Option, Some, None, refl, sym, ap, ◌∙◌, subst, arith, append_assoc, length-append}
use Rattle.std.proofs.lemmas.List.{append-nil, take_at, take_all, take-append-drop, take_more}
use Rattle.std.proofs.Math.Seq.{drop-cons, set-append_seam, get_or-append_seam}
use Rattle.std.proofs.lemmas.Bool.{cases_lt, cases_Bool, and_parts}
use Rattle.std.proofs.lemmas.Bool.Decides.{nat_tests}
use Rattle.input_entries.specs.Growing.{lengthens, with_input, with_inputs, last_of}
use Rattle.input_entries.specs.Inputs.{AllFive, is_input, all_input, run_length, inputs_in, inputs, all_entries, single, joins, longer}
use Rattle.input_entries.specs.declared.Entry.{Entry}
use Rattle.input_entries.specs.declared.StoredEntry.{StoredEntry}
use Rattle.input_entries.proofs.CodeLengths.{AreCodes, code_single, code_longer}
use Rattle.input_entries.proofs.Runs.{single_inputs, single_entry, joined, longer_inputs, longer_entry, entries-take}

-- the input joins the run, and the run is not the longest
pub lengthens_means : (s : StoredEntry) (e : Entry) → lengthens s e ≡ true → (joins s e ≡ true) × (run_length s < 216000)
unfolding lengthens
lengthens_means s e is = let p = and_parts _ _ is in (p.0, (let q = p.1 in grind (arith, nat_tests)))

-- the last entry alone may change
pub with_input-snoc : (front : List StoredEntry) (s : StoredEntry) (e : Entry) → with_input (front ++ s ∷ []) e ≡ front ++ (if lengthens s e then longer s ∷ [] else s ∷ single e ∷ [])
with_input-snoc [] s e = refl
with_input-snoc (x ∷ []) s e = refl
with_input-snoc (x ∷ y ∷ front) s e = ap (λ l. x ∷ l) (with_input-snoc (y ∷ front) s e)

pub record Snoc (list : List StoredEntry) : Type 0 where
  pub front : List StoredEntry
  pub last : StoredEntry
  pub is : list ≡ front ++ last ∷ []

pub snoc : (list : List StoredEntry) → 0 < length list → Snoc list
snoc [] some = absurd (omega arith)
snoc (s ∷ []) some = record { front = []; last = s; is = refl }
snoc (s ∷ t ∷ list) some = let r = snoc (t ∷ list) (omega arith) in record { front = s ∷ r.front; last = r.last; is = ap (λ l. s ∷ l) r.is }

-- one input more: the last entry goes on, or a new one is added
pub goes_then : (front : List StoredEntry) (s : StoredEntry) (e : Entry) → lengthens s e ≡ true → with_input (front ++ s ∷ []) e ≡ front ++ longer s ∷ []
goes_then front s e holds = with_input-snoc front s e ∙ ap (λ (t : Bool). front ++ (if t then longer s ∷ [] else s ∷ single e ∷ [])) holds

pub goes_else : (front : List StoredEntry) (s : StoredEntry) (e : Entry) → lengthens s e ≡ false → with_input (front ++ s ∷ []) e ≡ (front ++ s ∷ []) ++ single e ∷ []
goes_else front s e fails = with_input-snoc front s e ∙ ap (λ (t : Bool). front ++ (if t then longer s ∷ [] else s ∷ single e ∷ [])) fails ∙ sym (append_assoc front (s ∷ []) (single e ∷ []))

-- what one input more makes of a list
pub record OneMore (list new : List StoredEntry) (e : Entry) : Type 0 where
  pub each : all_entries new
  pub stand : inputs new ≡ inputs list ++ e ∷ []

pub one_more : (list : List StoredEntry) (e : Entry) → all_entries list → length e.code ≡ 5 → is_input e ≡ true → OneMore list (with_input list e) e
one_more [] e are size input = record { each = (single_entry e size input, tt); stand = append-nil (inputs_in (single e)) ∙ single_inputs e size input }
one_more (s ∷ []) e are size input = elim (cases_Bool (lengthens s e)) [
  | inl holds ↦
      let means = lengthens_means s e holds in
      let j = joined s e size are.0 input means.0 in
      let is : with_input (s ∷ []) e ≡ longer s ∷ [] = goes_then [] s e holds in
      subst (λ l. OneMore (s ∷ []) l e) (sym is) (record {
        each = (longer_entry s means.1, tt);
        stand = append-nil (inputs_in (longer s)) ∙ longer_inputs s e j means.1 ∙ ap (λ l. l ++ e ∷ []) (sym (append-nil (inputs_in s)));
      })
  | inr fails ↦
      let is : with_input (s ∷ []) e ≡ s ∷ single e ∷ [] = goes_else [] s e fails in
      subst (λ l. OneMore (s ∷ []) l e) (sym is) (record {
        each = (are.0, (single_entry e size input, tt));
        stand = (λ i. inputs_in s ++ (append-nil (inputs_in (single e)) ∙ single_inputs e size input) i) ∙ ap (λ l. l ++ e ∷ []) (sym (append-nil (inputs_in s)));
      })
]
one_more (s ∷ t ∷ list) e are size input =
    let later = one_more (t ∷ list) e are.1 size input in
    record {
      each = (are.0, later.each);
      stand = ap (λ l. inputs_in s ++ l) later.stand ∙ sym (append_assoc (inputs_in s) (inputs (t ∷ list)) (e ∷ []));
    }

-- all of them were added
pub record Whole (list now : List StoredEntry) (new : List Entry) : Type 0 where
  pub each : all_entries now
  pub stand : inputs now ≡ inputs list ++ new

pub whole : (list : List StoredEntry) (new : List Entry) → all_entries list → AllFive new → all_input new → Whole list (with_inputs list new) new
whole list [] are fives input = record { each = are; stand = sym (append-nil (inputs list)) }
whole list (e ∷ es) are fives input =
    let next = one_more list e are fives.0 input.0 in
    let later = whole (with_input list e) es next.each fives.1 input.1 in
    record { each = later.each; stand = later.stand ∙ ap (λ l. l ++ es) next.stand ∙ append_assoc (inputs list) (e ∷ []) es }

pub codes-with_input : (list : List StoredEntry) (e : Entry) → AreCodes list → length e.code ≡ 5 → AreCodes (with_input list e)
codes-with_input [] e codes size = (code_single e size, tt)
codes-with_input (s ∷ []) e codes size = elim (cases_Bool (lengthens s e)) [
  | inl holds ↦ subst AreCodes (sym (goes_then [] s e holds)) (code_longer s, tt)
  | inr fails ↦ subst AreCodes (sym (goes_else [] s e fails)) (codes.0, (code_single e size, tt))
]
codes-with_input (s ∷ t ∷ list) e codes size = (codes.0, codes-with_input (t ∷ list) e codes.1 size)

pub codes-with_inputs : (list : List StoredEntry) (es : List Entry) → AreCodes list → AllFive es → AreCodes (with_inputs list es)
codes-with_inputs list [] codes fives = codes
codes-with_inputs list (e ∷ es) codes fives = codes-with_inputs (with_input list e) es (codes-with_input list e codes fives.0) fives.1

pub length-with_input : (list : List StoredEntry) (e : Entry) → length list ≤ length (with_input list e)
length-with_input [] e = omega arith
length-with_input (s ∷ []) e = elim (cases_Bool (lengthens s e)) [
  | inl holds ↦ omega (arith, ap length (goes_then [] s e holds))
  | inr fails ↦ omega (arith, ap length (goes_else [] s e fails))
]
length-with_input (s ∷ t ∷ list) e = omega (arith, length-with_input (t ∷ list) e)

pub some-with_input : (list : List StoredEntry) (e : Entry) → 0 < length (with_input list e)
some-with_input [] e = omega arith
some-with_input (s ∷ list) e = omega (arith, length-with_input (s ∷ list) e)

pub length-with_inputs : (list : List StoredEntry) (es : List Entry) → length list ≤ length (with_inputs list es)
length-with_inputs list [] = omega arith
length-with_inputs list (e ∷ es) = omega (arith, length-with_input list e, length-with_inputs (with_input list e) es)

pub some-with_inputs : (list : List StoredEntry) (es : List Entry) → 0 < length es → 0 < length (with_inputs list es)
some-with_inputs list [] some = absurd (omega arith)
some-with_inputs list (e ∷ es) some = omega (arith, some-with_input list e, length-with_inputs (with_input list e) es)

pub with_inputs-append : (list : List StoredEntry) (xs ys : List Entry) → with_inputs list (xs ++ ys) ≡ with_inputs (with_inputs list xs) ys
with_inputs-append list [] ys = refl
with_inputs-append list (x ∷ xs) ys = with_inputs-append (with_input list x) xs ys

-- entries before the last one are never changed again
pub behind : (front : List StoredEntry) (s : StoredEntry) (es : List Entry) → with_inputs (front ++ s ∷ []) es ≡ front ++ with_inputs (s ∷ []) es
behind front s [] = refl
behind front s (e ∷ es) = elim (cases_Bool (lengthens s e)) [
  | inl holds ↦ ap (λ l. with_inputs l es) (goes_then front s e holds) ∙ behind front (longer s) es ∙ ap (λ l. front ++ with_inputs l es) (sym (goes_then [] s e holds))
  | inr fails ↦
      ap (λ l. with_inputs l es) (goes_else front s e fails) ∙ behind (front ++ s ∷ []) (single e) es
      ∙ append_assoc front (s ∷ []) (with_inputs (single e ∷ []) es)
      ∙ ap (λ l. front ++ l) (sym (behind (s ∷ []) (single e) es))
      ∙ ap (λ l. front ++ with_inputs l es) (sym (goes_else [] s e fails))
]

-- what a list that was cut stands for
pub record Prefix (list cut : List StoredEntry) (new : List Entry) : Type 0 where
  pub count : ℕ
  pub within : count ≤ length new
  pub each : all_entries cut
  pub stand : inputs cut ≡ inputs list ++ take count new

pub prefix : (list : List StoredEntry) (new : List Entry) → all_entries list → AllFive new → all_input new → (m : ℕ) → length list ≤ m → Prefix list (take m (with_inputs list new)) new
prefix list [] are fives input m long = record {
  count = 0;
  within = omega arith;
  each = entries-take m list are;
  stand = ap inputs (take_all m list long) ∙ sym (append-nil (inputs list));
}
prefix list (e ∷ es) are fives input m long =
    let next = one_more list e are fives.0 input.0 in
    elim (cases_lt m (length (with_input list e))) [
      | inr enough ↦
          let later = prefix (with_input list e) es next.each fives.1 input.1 m enough in
          record {
            count = suc later.count;
            within = omega (arith, later.within);
            each = later.each;
            stand = later.stand ∙ ap (λ l. l ++ take later.count es) next.stand ∙ append_assoc (inputs list) (e ∷ []) (take later.count es);
          }
      | inl short ↦
          let is : take m (with_inputs (with_input list e) es) ≡ list = cut_here list e es m long short in
          record {
            count = 0;
            within = omega arith;
            each = subst all_entries (sym is) are;
            stand = ap inputs is ∙ sym (append-nil (inputs list));
          }
    ]
  where
    cut_here : (list : List StoredEntry) (e : Entry) (es : List Entry) (m : ℕ) → length list ≤ m → m < length (with_input list e) → take m (with_inputs (with_input list e) es) ≡ list
    cut_here [] e es m long short = let none : m ≡ 0 = omega arith in ap (λ k. take k (with_inputs (single e ∷ []) es)) none
    cut_here (x ∷ xs) e es m long short =
        let v = snoc (x ∷ xs) (omega arith) in
        elim (cases_Bool (lengthens v.last e)) [
          | inl holds ↦
              let grown : with_input (x ∷ xs) e ≡ v.front ++ longer v.last ∷ [] = ap (λ l. with_input l e) v.is ∙ goes_then v.front v.last e holds in
              absurd (omega (arith, ap length grown, ap length v.is, length-append v.front (longer v.last ∷ []), length-append v.front (v.last ∷ [])))
          | inr fails ↦
              let grown : with_input (x ∷ xs) e ≡ (x ∷ xs) ++ single e ∷ [] = ap (λ l. with_input l e) v.is ∙ goes_else v.front v.last e fails ∙ ap (λ l. l ++ single e ∷ []) (sym v.is) in
              let size : m ≡ length (x ∷ xs) = omega (arith, ap length grown, length-append (x ∷ xs) (single e ∷ [])) in
              (λ i. take (size i) (with_inputs (grown i) es)) ∙ ap (take (length (x ∷ xs))) (behind (x ∷ xs) (single e) es) ∙ take_at (x ∷ xs) (with_inputs (single e ∷ []) es) (length (x ∷ xs)) refl
        ]

-- ---- one turn of the loop that fills a sector

pub next_input : (list : List StoredEntry) (es : List Entry) (k : ℕ) (d : Entry) → k < length es → with_inputs list (take (k + 1) es) ≡ with_input (with_inputs list (take k es)) (get_or es k d)
next_input list es k d le = ap (with_inputs list) (take_more es k d le) ∙ with_inputs-append list (take k es) (get_or es k d ∷ [])

-- the next input begins a new sector
pub stops : (list here : List StoredEntry) (es : List Entry) (k : ℕ) (d : Entry) → k < length es → here ≡ with_inputs list (take k es) → with_input here (get_or es k d) ≡ here ++ single (get_or es k d) ∷ []
    → with_inputs list es ≡ here ++ with_inputs [] (drop k es)
stops list here es k d le is new =
    let e = get_or es k d in
    let rest : drop k es ≡ e ∷ drop (suc k) es = drop-cons es k d le in
    ap (with_inputs list) (sym (take-append-drop k es)) ∙ with_inputs-append list (take k es) (drop k es)
    ∙ (λ i. with_inputs (sym is i) (rest i))
    ∙ ap (λ l. with_inputs l (drop (suc k) es)) new
    ∙ behind here (single e) (drop (suc k) es)
    ∙ ap (λ l. here ++ with_inputs [] l) (sym rest)

-- ---- the last entry

pub last_snoc : (front : List StoredEntry) (s : StoredEntry) → last_of (front ++ s ∷ []) ≡ Some s
last_snoc [] s = refl
last_snoc (x ∷ []) s = refl
last_snoc (x ∷ y ∷ front) s = last_snoc (y ∷ front) s

pub no_last : (list : List StoredEntry) → last_of list ≡ None → list ≡ []
no_last [] is = refl
no_last (x ∷ []) is = absurd (cc)
no_last (x ∷ y ∷ list) is = let none = no_last (y ∷ list) is in absurd (cc)

-- the entries before the last one, which is this
pub ends_in : (list : List StoredEntry) (s : StoredEntry) → last_of list ≡ Some s → (front : List StoredEntry) × (list ≡ front ++ s ∷ [])
ends_in [] s is = absurd (cc)
ends_in (x ∷ []) s is = let same : x ≡ s = cc in ([], ap (λ y. y ∷ []) same)
ends_in (x ∷ y ∷ list) s is = let r = ends_in (y ∷ list) s is in (x ∷ r.0, ap (λ l. x ∷ l) r.1)

pub last_goes : (list : List StoredEntry) (s : StoredEntry) (e : Entry) → last_of list ≡ Some s → lengthens s e ≡ true → set list (length list - 1) (longer s) ≡ with_input list e
last_goes list s e is holds =
    let f = ends_in list s is in
    let at : length list - 1 ≡ length f.0 = omega (arith, ap length f.1, length-append f.0 (s ∷ [])) in
    (λ i. set (f.1 i) (at i) (longer s)) ∙ set-append_seam f.0 s [] (longer s) ∙ sym (ap (λ l. with_input l e) f.1 ∙ goes_then f.0 s e holds)

pub last_stays : (list : List StoredEntry) (s : StoredEntry) (e : Entry) → last_of list ≡ Some s → lengthens s e ≡ false → with_input list e ≡ list ++ single e ∷ []
last_stays list s e is fails =
    let f = ends_in list s is in
    ap (λ l. with_input l e) f.1 ∙ goes_else f.0 s e fails ∙ ap (λ l. l ++ single e ∷ []) (sym f.1)

pub last_at : (list : List StoredEntry) (d : StoredEntry) → 0 < length list → last_of list ≡ Some (get_or list (length list - 1) d)
last_at list d some =
    let v = snoc list some in
    let at : length list - 1 ≡ length v.front = omega (arith, ap length v.is, length-append v.front (v.last ∷ [])) in
    ap last_of v.is ∙ last_snoc v.front v.last ∙ ap Some (sym ((λ i. get_or (v.is i) (at i) d) ∙ get_or-append_seam v.front v.last [] d))

pub grown_none : (list : List StoredEntry) (e : Entry) → last_of list ≡ None → (last_of (with_input list e) ≡ Some (single e)) × (length (with_input list e) ≡ length list + 1)
grown_none list e is =
    let none = no_last list is in
    (ap (λ l. last_of (with_input l e)) none, ap (λ l. length (with_input l e)) none ∙ omega (arith, ap length none))

pub grown_then : (list : List StoredEntry) (s : StoredEntry) (e : Entry) → last_of list ≡ Some s → lengthens s e ≡ true → (last_of (with_input list e) ≡ Some (longer s)) × (length (with_input list e) ≡ length list + 0)
grown_then list s e is holds =
    let f = ends_in list s is in
    let new : with_input list e ≡ f.0 ++ longer s ∷ [] = ap (λ l. with_input l e) f.1 ∙ goes_then f.0 s e holds in
    (ap last_of new ∙ last_snoc f.0 (longer s), omega (arith, ap length new, ap length f.1, length-append f.0 (longer s ∷ []), length-append f.0 (s ∷ [])))

pub grown_else : (list : List StoredEntry) (s : StoredEntry) (e : Entry) → last_of list ≡ Some s → lengthens s e ≡ false → (last_of (with_input list e) ≡ Some (single e)) × (length (with_input list e) ≡ length list + 1)
grown_else list s e is fails =
    let new = last_stays list s e is fails in
    (ap last_of new ∙ last_snoc list (single e), omega (arith, ap length new, length-append list (single e ∷ [])))

pub input_at : (es : List Entry) (k : ℕ) (d : Entry) → k < length es → all_input es → is_input (get_or es k d) ≡ true
input_at [] k d le are = absurd (omega arith)
input_at (e ∷ es) zero d le are = are.0
input_at (e ∷ es) (suc k) d le are = input_at es k d (omega arith) are.1

pub input_take : (n : ℕ) (es : List Entry) → all_input es → all_input (take n es)
input_take zero es are = tt
input_take (suc n) [] are = tt
input_take (suc n) (e ∷ es) are = (are.0, input_take n es are.1)

pub input_drop : (n : ℕ) (es : List Entry) → all_input es → all_input (drop n es)
input_drop zero es are = are
input_drop (suc n) [] are = tt
input_drop (suc n) (e ∷ es) are = input_drop n es are.1

pub five_more : (es : List Entry) (k : ℕ) (d : Entry) → k < length es → AllFive (take k es) → length (get_or es k d).code ≡ 5 → AllFive (take (k + 1) es)
five_more [] k d le are one = absurd (omega arith)
five_more (e ∷ es) zero d le are one = (one, tt)
five_more (e ∷ es) (suc k) d le are one =
    let next : suc (k + 1) ≡ suc k + 1 = omega arith in
    subst (λ n. AllFive (take n (e ∷ es))) next (are.0, five_more es k d (omega arith) are.1 one)

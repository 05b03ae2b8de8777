-- The lines of inputs, read as a script.
use Rattle.std.proofs.Common.{◌≡◌, ◌==◌, ◌&&◌, inl, inr, ℕ, zero, suc, ◌+◌, ◌*◌, ◌/◌, ◌%◌, ◌<◌, ◌≤◌, ◌^◌, List, [], ◌∷◌, ◌++◌, length, replicate, Bool, true, false, if◌then◌else◌, nat_lt, nat_le, None, Some, Ok, refl, sym, ap, subst, ◌∙◌, arith, lit<, lit≤, append_assoc, append-nil}
use Rattle.std.specs.Prelude.{codes, decimal}
use Rattle.std.specs.Char.{digit_value, is_digit}
use Rattle.std.specs.List.{All, list_all}
use Rattle.std.specs.Option.{option_map}
use Rattle.std.specs.Str.Parse.{AllDigits, digits_value}
use Rattle.std.proofs.lemmas.Bool.{cases_Bool, and_parts, ltb-true, lt-ltb, eqb-true}
use Rattle.std.proofs.lemmas.Bool.Decides.{nat_tests, eqb_tells}
use Rattle.std.proofs.lemmas.Fmt.{decimal_is_IsNumeral, length-decimal-le}
use Rattle.std.proofs.lemmas.List.Elements.{All-cons, All-nil, All-head, All-tail, All-append}
use Rattle.std.proofs.lemmas.List.{replicate-append-replicate}
use Rattle.std.proofs.lemmas.List.Splits.{slice_split_at, slice_split_none}
use Rattle.exact_text.specs.Hex.{hex_digit, byte_text}
use Rattle.machine.specs.Machine.{Input, Frame, Seconds, Power, State}
use Rattle.script.specs.Line.{is_count, count_of, byte_of, move_of_line, move_of_words, words_of, frames_of}
use Rattle.script.specs.Script.{lines_of, moves_from, with_line}
use Rattle.script.specs.declared.moves.Move.{Move}
use Rattle.script.specs.declared.moves.Move.TheVariants.{Frames, Seconds as PassSeconds}
use Rattle.script.specs.Inputs.{inputs_of_move, inputs_of_moves}
use Rattle.replaying.specs.Laws.{HasWidth, TheScriptGivesTheInputsBack}
use Rattle.replaying.specs.Script.{frames_line, lines_after, most_times, seconds_line}

-- ---- digits

abbrev is_byte_no : (stop byte : ℕ) → Type 0
is_byte_no stop byte = (byte == stop) ≡ false

-- neither a space nor a newline
abbrev IsPlain : ℕ → Type 0
IsPlain byte = is_byte_no 32 byte × is_byte_no 10 byte

abbrev Plain : List ℕ → Type 0
Plain word = All IsPlain word

differs : (byte stop : ℕ) → (byte ≡ stop → ⊥) → is_byte_no stop byte
differs byte stop other = elim (eqb_tells byte stop) [ inl same ↦ absurd (other same.1) | inr differ ↦ differ.0 ]

abbrev reads_digit : ℕ → Bool
reads_digit value = is_digit (hex_digit value) 16 && (digit_value (hex_digit value) == value && nat_lt 47 (hex_digit value))

abbrev up_to : ℕ → (ℕ → Bool) → Bool
up_to zero test = true
up_to (suc n) test = up_to n test && test n

up_to_each : (n : ℕ) (test : ℕ → Bool) → up_to n test ≡ true → (k : ℕ) → k < n → test k ≡ true
up_to_each zero test all k less = absurd (omega arith)
up_to_each (suc n) test all k less =
    let parts = and_parts (up_to n test) (test n) all in
    elim (eqb_tells k n) [
      | inl same ↦ ap test same.1 ∙ parts.1
      | inr differ ↦ up_to_each n test parts.0 k (let other = differ.1 in omega arith)
    ]

sixteen : up_to 16 reads_digit ≡ true
sixteen = refl

record ReadsDigit (value : ℕ) : Type 0 where
  is_one : is_digit (hex_digit value) 16 ≡ true
  value_is : digit_value (hex_digit value) ≡ value
  large : 47 < hex_digit value

digit_reads : (value : ℕ) → value < 16 → ReadsDigit value
digit_reads value less =
    let parts = and_parts _ _ (up_to_each 16 reads_digit sixteen value less) in
    let more = and_parts _ _ parts.1 in
    record { is_one = parts.0; value_is = eqb-true _ _ more.0; large = ltb-true _ _ more.1 }

-- two hexadecimal digits
buttons_back : (b : ℕ) → b < 256 → byte_of (byte_text b) ≡ Some b
buttons_back b fits =
    let high = digit_reads (b / 16) (omega arith) in
    let low = digit_reads (b % 16) (omega arith) in
    let value : digit_value (hex_digit (b / 16)) * 16 + digit_value (hex_digit (b % 16)) ≡ b = omega (arith, high.value_is, low.value_is) in
    let both : (is_digit (hex_digit (b / 16)) 16 && is_digit (hex_digit (b % 16)) 16) ≡ true = λ i. high.is_one i && low.is_one i in
    ap (λ (t : Bool). if t then Some (digit_value (hex_digit (b / 16)) * 16 + digit_value (hex_digit (b % 16))) else None) both ∙ ap Some value

plain_digit : (byte : ℕ) → 47 < byte → is_byte_no 32 byte × is_byte_no 10 byte
plain_digit byte large = (differs byte 32 (λ same. omega arith), differs byte 10 (λ same. omega arith))

buttons_plain : (b : ℕ) → b < 256 → Plain (byte_text b)
buttons_plain b fits =
    let high = digit_reads (b / 16) (omega arith) in
    let low = digit_reads (b % 16) (omega arith) in
    All-cons IsPlain (hex_digit (b / 16)) (hex_digit (b % 16) ∷ []) (plain_digit _ high.large)
    (All-cons IsPlain (hex_digit (b % 16)) [] (plain_digit _ low.large) (All-nil IsPlain))

-- decimal digits
plain_decimal_digit : (byte : ℕ) → digit_value byte < 10 → is_byte_no 32 byte × is_byte_no 10 byte
plain_decimal_digit byte less = (
  differs byte 32 (λ same. let wrong : 36 < 10 = subst (λ (n : ℕ). digit_value n < 10) same less in omega arith),
  differs byte 10 (λ same. let wrong : 36 < 10 = subst (λ (n : ℕ). digit_value n < 10) same less in omega arith),
)

digits_plain : (ds : List ℕ) → AllDigits 10 ds → Plain ds
digits_plain [] all = All-nil IsPlain
digits_plain (d ∷ ds) all = All-cons IsPlain d ds (plain_decimal_digit d all.0) (digits_plain ds all.1)

digits_listed : (ds : List ℕ) → AllDigits 10 ds → list_all (λ byte. is_digit byte 10) ds ≡ true
digits_listed [] all = refl
digits_listed (d ∷ ds) all = λ i. lt-ltb (digit_value d) 10 all.0 i && digits_listed ds all.1 i

decimal_plain : (n : ℕ) → n < 2 ^ 32 → Plain (decimal n)
decimal_plain n fits = digits_plain (decimal n) (decimal_is_IsNumeral n (omega arith)).0.1

-- a number in decimal digits, between two limits
count_back : (least most n : ℕ) → n < 2 ^ 32 → least ≤ n → n ≤ most → count_of least most (decimal n) ≡ Some n
count_back least most n fits low high =
    let numeral = decimal_is_IsNumeral n (omega arith) in
    let value : digits_value 10 (decimal n) ≡ n = numeral.1 in
    let long : nat_le 1 (length (decimal n)) ≡ true = let some = numeral.0.0 in grind (arith, nat_tests) in
    let short : nat_le (length (decimal n)) 10 ≡ true = let few = length-decimal-le 10 n (lit< tt) (omega arith) (omega arith) in grind (arith, nat_tests) in
    let digits : list_all (λ byte. is_digit byte 10) (decimal n) ≡ true = digits_listed (decimal n) numeral.0.1 in
    let counts : is_count (decimal n) ≡ true = λ i. long i && short i && digits i in
    let above : nat_le least (digits_value 10 (decimal n)) ≡ true = ap (nat_le least) value ∙ (grind (arith, nat_tests)) in
    let below : nat_le (digits_value 10 (decimal n)) most ≡ true = ap (λ k. nat_le k most) value ∙ (grind (arith, nat_tests)) in
    let all : (is_count (decimal n) && nat_le least (digits_value 10 (decimal n)) && nat_le (digits_value 10 (decimal n)) most) ≡ true = λ i. counts i && above i && below i in
    ap (λ (t : Bool). if t then Some (digits_value 10 (decimal n)) else None) all ∙ ap Some value

-- ---- lines

-- the words of a line of three, and of two
three_words : (first second third : List ℕ) → Plain first → Plain second → Plain third → words_of (first ++ 32 ∷ (second ++ 32 ∷ third)) ≡ first ∷ second ∷ third ∷ []
three_words first second third one two three =
    slice_split_at (λ byte. byte == 32) first 32 (second ++ 32 ∷ third) (λ k d less. (one k d less).0) refl
    ∙ ap (λ l. first ∷ l) (slice_split_at (λ byte. byte == 32) second 32 third (λ k d less. (two k d less).0) refl
    ∙ ap (λ l. second ∷ l) (slice_split_none (λ byte. byte == 32) third (λ k d less. (three k d less).0)))

two_words : (first second : List ℕ) → Plain first → Plain second → words_of (first ++ 32 ∷ second) ≡ first ∷ second ∷ []
two_words first second one two =
    slice_split_at (λ byte. byte == 32) first 32 second (λ k d less. (one k d less).0) refl
    ∙ ap (λ l. first ∷ l) (slice_split_none (λ byte. byte == 32) second (λ k d less. (two k d less).0))

-- without their newlines
abbrev frames_words : ℕ → ℕ → List ℕ
frames_words b t = codes "frames" ++ 32 ∷ (byte_text b ++ 32 ∷ decimal t)

abbrev seconds_words : ℕ → List ℕ
seconds_words n = codes "seconds" ++ 32 ∷ decimal n

plain_letters : (word : List ℕ) → list_all (λ byte. nat_lt 47 byte) word ≡ true → Plain word
plain_letters [] all = All-nil IsPlain
plain_letters (c ∷ word) all =
    let parts = and_parts (nat_lt 47 c) (list_all (λ byte. nat_lt 47 byte) word) all in
    All-cons IsPlain c word (plain_digit c (ltb-true _ _ parts.0)) (plain_letters word parts.1)

frames_read : (b t : ℕ) → b < 256 → 1 ≤ t → t ≤ most_times → move_of_line (frames_words b t) ≡ Some (Frames b t)
frames_read b t byte some few =
    let fits : t < 2 ^ 32 = omega arith in
    let words : words_of (frames_words b t) ≡ codes "frames" ∷ byte_text b ∷ decimal t ∷ [] = three_words (codes "frames") (byte_text b) (decimal t) (plain_letters (codes "frames") refl) (buttons_plain b byte) (decimal_plain t fits) in
    let buttons = buttons_back b byte in
    let times = count_back 1 1000000 t fits some few in
    ap move_of_words words ∙ (λ i. frames_of (buttons i) (times i))

seconds_read : (n : ℕ) → n < 2 ^ 32 → move_of_line (seconds_words n) ≡ Some (PassSeconds n)
seconds_read n fits =
    let words : words_of (seconds_words n) ≡ codes "seconds" ∷ decimal n ∷ [] = two_words (codes "seconds") (decimal n) (plain_letters (codes "seconds") refl) (decimal_plain n fits) in
    let low : 0 ≤ n = omega arith in
    let high : n ≤ 4294967295 = omega arith in
    ap move_of_words words ∙ ap (option_map PassSeconds) (count_back 0 4294967295 n fits low high)

-- ---- a text of lines

record ReadsBack (text : List ℕ) (inputs : List Input) : Type 0 where
  moves : ℕ → List Move
  reads : (n : ℕ) → moves_from n (lines_of text) ≡ Ok (moves n)
  are : (n : ℕ) → inputs_of_moves (moves n) ≡ inputs

nothing_back : ReadsBack [] []
unfolding moves_from
nothing_back = record { moves = λ n. []; reads = λ n. refl; are = λ n. refl }

abbrev IsOneLine : List ℕ → Type 0
IsOneLine line = All (is_byte_no 10) line

plain_line : (word : List ℕ) → Plain word → IsOneLine word
plain_line word plain k d less = (plain k d less).1

then_word : (line word : List ℕ) → IsOneLine line → Plain word → IsOneLine (line ++ 32 ∷ word)
then_word line word one plain = All-append (is_byte_no 10) line (32 ∷ word) one (All-cons (is_byte_no 10) 32 word refl (plain_line word plain))

-- a line that is right, and what is read of the lines after it
line_back : (line rest : List ℕ) (move : Move) (inputs : List Input) → IsOneLine line → 0 < length line → move_of_line line ≡ Some move → ReadsBack rest inputs → ReadsBack (line ++ 10 ∷ rest) (inputs_of_move move ++ inputs)
unfolding moves_from
line_back line rest move inputs one some read back =
    let split : lines_of (line ++ 10 ∷ rest) ≡ line ∷ lines_of rest = slice_split_at (λ byte. byte == 10) line 10 rest one refl in
    let long : (length line == 0) ≡ false = differs (length line) 0 (λ none. omega arith) in
    record {
      moves = λ n. move ∷ back.moves (n + 1);
      reads = λ n. ap (moves_from n) split
          ∙ ap (λ (t : Bool). if t then moves_from (n + 1) (lines_of rest) else with_line n (move_of_line line) (moves_from (n + 1) (lines_of rest))) long
          ∙ (λ i. with_line n (read i) (back.reads (n + 1) i));
      are = λ n. ap (λ l. inputs_of_move move ++ l) (back.are (n + 1));
    }

frames_one : (b t : ℕ) → b < 256 → t < 2 ^ 32 → IsOneLine (frames_words b t)
frames_one b t byte fits =
    All-append (is_byte_no 10) (codes "frames") (32 ∷ (byte_text b ++ 32 ∷ decimal t)) (plain_line (codes "frames") (plain_letters (codes "frames") refl))
    (All-cons (is_byte_no 10) 32 (byte_text b ++ 32 ∷ decimal t) refl (then_word (byte_text b) (decimal t) (plain_line (byte_text b) (buttons_plain b byte)) (decimal_plain t fits)))

seconds_one : (n : ℕ) → n < 2 ^ 32 → IsOneLine (seconds_words n)
seconds_one n fits = then_word (codes "seconds") (decimal n) (plain_line (codes "seconds") (plain_letters (codes "seconds") refl)) (decimal_plain n fits)

-- the line of a run
frames_back : (b t : ℕ) (rest : List ℕ) (inputs : List Input) → b < 256 → t ≤ most_times → ReadsBack rest inputs → ReadsBack (frames_line b t ++ rest) (replicate t (Frame b) ++ inputs)
unfolding frames_line
frames_back b zero rest inputs byte few back = back
frames_back b (suc t) rest inputs byte few back =
    let times = suc t in
    let fits : times < 2 ^ 32 = omega arith in
    let some : 1 ≤ times = omega arith in
    let long : 0 < length (frames_words b times) = omega arith in
    let none : (times == 0) ≡ false = differs times 0 (λ wrong. omega arith) in
    let text : frames_line b times ++ rest ≡ frames_words b times ++ 10 ∷ rest =
    ap (λ (k : Bool). (if k then [] else codes "frames " ++ (byte_text b ++ (codes " " ++ (decimal times ++ codes "\n")))) ++ rest) none
    ∙ ap (λ l. codes "frames " ++ (byte_text b ++ 32 ∷ l)) (append_assoc (decimal times) (10 ∷ []) rest) in
    subst (λ (l : List ℕ). ReadsBack l (replicate times (Frame b) ++ inputs)) (sym text)
    (line_back (frames_words b times) rest (Frames b times) inputs (frames_one b times byte fits) long (frames_read b times byte some few) back)

seconds_back : (n : ℕ) (rest : List ℕ) (inputs : List Input) → n < 2 ^ 32 → ReadsBack rest inputs → ReadsBack (seconds_line n ++ rest) (Seconds n ∷ inputs)
unfolding seconds_line
seconds_back n rest inputs fits back =
    let long : 0 < length (seconds_words n) = omega arith in
    let text : seconds_line n ++ rest ≡ seconds_words n ++ 10 ∷ rest = ap (λ l. codes "seconds " ++ l) (append_assoc (decimal n) (10 ∷ []) rest) in
    subst (λ (l : List ℕ). ReadsBack l (Seconds n ∷ inputs)) (sym text)
    (line_back (seconds_words n) rest (PassSeconds n) inputs (seconds_one n fits) long (seconds_read n fits) back)

-- ---- the whole script

-- one frame more before these inputs
one_frame : (b t : ℕ) (inputs : List Input) → replicate (t + 1) (Frame b) ++ inputs ≡ replicate t (Frame b) ++ (Frame b ∷ inputs)
one_frame b t inputs = ap (λ (l : List Input). l ++ inputs) (sym (replicate-append-replicate t 1 (Frame b))) ∙ append_assoc (replicate t (Frame b)) (Frame b ∷ []) inputs

lines_back : (inputs : List Input) (b t : ℕ) → All HasWidth inputs → b < 256 → t ≤ most_times → ReadsBack (lines_after b t inputs) (replicate t (Frame b) ++ inputs)
unfolding lines_after
lines_back [] b t widths byte few = subst (λ (l : List ℕ). ReadsBack l (replicate t (Frame b) ++ [])) (append-nil (frames_line b t)) (frames_back b t [] [] byte few nothing_back)
lines_back (Frame next ∷ inputs) b t widths byte few =
    let width : next < 256 = All-head HasWidth (Frame next) inputs widths in
    let others = All-tail HasWidth (Frame next) inputs widths in
    let joins = next == b && nat_lt t most_times in
    elim (cases_Bool joins) [
      | inl holds ↦
          let parts = and_parts (next == b) (nat_lt t most_times) holds in
          let same : next ≡ b = eqb-true next b parts.0 in
          let less : t < most_times = ltb-true t most_times parts.1 in
          let fits : t + 1 ≤ most_times = omega arith in
          let text : (if joins then lines_after b (t + 1) inputs else frames_line b t ++ lines_after next 1 inputs) ≡ lines_after b (t + 1) inputs = λ i. if holds i then lines_after b (t + 1) inputs else frames_line b t ++ lines_after next 1 inputs in
          subst (λ (l : List ℕ). ReadsBack l (replicate t (Frame b) ++ (Frame next ∷ inputs))) (sym text)
          (subst (λ (l : List Input). ReadsBack (lines_after b (t + 1) inputs) l) (one_frame b t inputs ∙ ap (λ (k : ℕ). replicate t (Frame b) ++ (Frame k ∷ inputs)) (sym same))
          (lines_back inputs b (t + 1) others byte fits))
      | inr ends ↦
          let one : 1 ≤ most_times = lit≤ tt in
          let text : (if joins then lines_after b (t + 1) inputs else frames_line b t ++ lines_after next 1 inputs) ≡ frames_line b t ++ lines_after next 1 inputs = λ i. if ends i then lines_after b (t + 1) inputs else frames_line b t ++ lines_after next 1 inputs in
          subst (λ (l : List ℕ). ReadsBack l (replicate t (Frame b) ++ (Frame next ∷ inputs))) (sym text)
          (frames_back b t (lines_after next 1 inputs) (Frame next ∷ inputs) byte few (lines_back inputs next 1 others width one))
    ]
lines_back (Seconds n ∷ inputs) b t widths byte few =
    let width : n < 2 ^ 32 = All-head HasWidth (Seconds n) inputs widths in
    let none : 0 ≤ most_times = lit≤ tt in
    frames_back b t (seconds_line n ++ lines_after b 0 inputs) (Seconds n ∷ inputs) byte few
    (seconds_back n (lines_after b 0 inputs) inputs width (lines_back inputs b 0 (All-tail HasWidth (Seconds n) inputs widths) byte none))
lines_back (Power ∷ inputs) b t widths byte few = absurd (All-head HasWidth Power inputs widths)
lines_back (State machine ∷ inputs) b t widths byte few = absurd (All-head HasWidth (State machine) inputs widths)

pub script_back : TheScriptGivesTheInputsBack
script_back inputs widths =
    let back = lines_back inputs 0 0 widths (lit< tt) (lit≤ tt) in
    (back.moves 1, back.reads 1, back.are 1)

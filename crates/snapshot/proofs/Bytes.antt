-- Numbers of bytes and words, flags packed into a byte, and the bits that a field may have.
use Rattle.std.proofs.Common.{◌≡◌, ℕ, zero, suc, ◌+◌, ◌*◌, ◌/◌, ◌%◌, ◌<◌, Bool, true, false, eqb, nat_eq, nat_lt, refl, sym, ap, ◌∙◌, arith}
use Rattle.std.specs.Prelude.{bit_and}
use Rattle.std.proofs.lemmas.Bool.{agree_below, agree_below_at, eqb-true}
use mathlib.Core.Bool.{beq}
use Rattle.sm83_alu.specs.declared.register_file.Flags.{Flags}
use Rattle.sm83_alu.specs.Flags.{digit_of, flags_byte, flags_of}
use Rattle.timer_unit.specs.Serial.{sc_bits}
use Rattle.memory_map.specs.Joypad.{select_bits}
use Rattle.snapshot.specs.Reading.{has}

-- ---- tests of each byte

same_bool : (x y : Bool) → beq x y ≡ true → x ≡ y
same_bool true true e = refl
same_bool true false e = cc
same_bool false true e = cc
same_bool false false e = refl

-- two functions that agree at each byte
pub numbers_at : (f g : ℕ → ℕ) → agree_below (λ k. nat_eq (f k) (g k)) (λ _. true) 256 ≡ true → (n : ℕ) → n < 256 → f n ≡ g n
numbers_at f g table n below = eqb-true _ _ (agree_below_at (λ k. nat_eq (f k) (g k)) (λ _. true) 256 n table below)

-- two tests that agree at each byte
pub tests_at : (f g : ℕ → Bool) → agree_below (λ k. beq (f k) (g k)) (λ _. true) 256 ≡ true → (n : ℕ) → n < 256 → f n ≡ g n
tests_at f g table n below = same_bool _ _ (agree_below_at (λ k. beq (f k) (g k)) (λ _. true) 256 n table below)

-- ---- words

pub word_back : (n : ℕ) → n % 256 + 256 * (n / 256) ≡ n
word_back n = omega arith

pub low_back : (a b : ℕ) → a < 256 → (a + 256 * b) % 256 ≡ a
low_back a b h = omega arith

pub high_back : (a b : ℕ) → a < 256 → (a + 256 * b) / 256 ≡ b
high_back a b h = omega arith

-- ---- flags

pub digit_small : (b : Bool) → digit_of b < 2
digit_small true = omega arith
digit_small false = omega arith

pub digit_test : (b : Bool) → eqb (digit_of b) 1 ≡ b
digit_test true = refl
digit_test false = refl

pub test_digit : (n : ℕ) → n < 2 → digit_of (eqb n 1) ≡ n
test_digit zero h = refl
test_digit (suc n) h = let e : n ≡ 0 = omega arith in rw e refl

-- a bit of a sum of weighted digits
pub bit_back : (b : Bool) (n weight : ℕ) → n / weight % 2 ≡ digit_of b → has n weight ≡ b
bit_back b n weight e = ap (λ (k : ℕ). eqb k 1) e ∙ digit_test b

-- six flags in a byte
pub six_back :
    (a b c d e f : Bool) → let n = digit_of a + 2 * digit_of b + 4 * digit_of c + 8 * digit_of d + 16 * digit_of e + 32 * digit_of f in
    (has n 1 ≡ a) × (has n 2 ≡ b) × (has n 4 ≡ c) × (has n 8 ≡ d) × (has n 16 ≡ e) × (has n 32 ≡ f)
six_back a b c d e f =
    let n : ℕ = digit_of a + 2 * digit_of b + 4 * digit_of c + 8 * digit_of d + 16 * digit_of e + 32 * digit_of f in
    let ha = digit_small a in
    let hb = digit_small b in
    let hc = digit_small c in
    let hd = digit_small d in
    let he = digit_small e in
    let hf = digit_small f in (
      bit_back a n 1 (omega arith),
      bit_back b n 2 (omega arith),
      bit_back c n 4 (omega arith),
      bit_back d n 8 (omega arith),
      bit_back e n 16 (omega arith),
      bit_back f n 32 (omega arith),
    )

-- the byte of six flags
pub six_again :
    (n : ℕ) → n < 64
    → digit_of (has n 1) + 2 * digit_of (has n 2) + 4 * digit_of (has n 4) + 8 * digit_of (has n 8) + 16 * digit_of (has n 16) + 32 * digit_of (has n 32) ≡ n
six_again n h =
    let same =
    numbers_at (λ n. digit_of (has (n % 64) 1) + 2 * digit_of (has (n % 64) 2) + 4 * digit_of (has (n % 64) 4) + 8 * digit_of (has (n % 64) 8) + 16 * digit_of (has (n % 64) 16) + 32 * digit_of (has (n % 64) 32)) (λ n. n % 64) refl n (omega arith) in
    let e : n % 64 ≡ n = omega arith in
    rw e at same

pub two_again : (n : ℕ) → n < 4 → digit_of (has n 1) + 2 * digit_of (has n 2) ≡ n
two_again n h =
    let same = numbers_at (λ n. digit_of (has (n % 4) 1) + 2 * digit_of (has (n % 4) 2)) (λ n. n % 4) refl n (omega arith) in
    let e : n % 4 ≡ n = omega arith in
    rw e at same

pub two_back : (a b : Bool) → let n = digit_of a + 2 * digit_of b in (has n 1 ≡ a) × (has n 2 ≡ b)
two_back a b =
    let n : ℕ = digit_of a + 2 * digit_of b in
    let ha = digit_small a in
    let hb = digit_small b in
    (bit_back a n 1 (omega arith), bit_back b n 2 (omega arith))

-- ---- the register F

flags_parts : (z n h c : Bool) → let f : Flags = record { zero = z; subtract = n; half_carry = h; carry = c } in flags_of (flags_byte f) ≡ f
flags_parts true true true true = refl
flags_parts true true true false = refl
flags_parts true true false true = refl
flags_parts true true false false = refl
flags_parts true false true true = refl
flags_parts true false true false = refl
flags_parts true false false true = refl
flags_parts true false false false = refl
flags_parts false true true true = refl
flags_parts false true true false = refl
flags_parts false true false true = refl
flags_parts false true false false = refl
flags_parts false false true true = refl
flags_parts false false true false = refl
flags_parts false false false true = refl
flags_parts false false false false = refl

pub flags_back : (f : Flags) → flags_of (flags_byte f) ≡ f
flags_back f = flags_parts f.zero f.subtract f.half_carry f.carry

pub flags_again : (n : ℕ) → n < 256 → bit_and n 0xF0 ≡ n → flags_byte (flags_of n) ≡ n
flags_again n h e = numbers_at (λ n. flags_byte (flags_of n)) (λ n. bit_and n 0xF0) refl n h ∙ e

pub flags_fit : (f : Flags) → bit_and (flags_byte f) 0xF0 ≡ flags_byte f
flags_fit f =
    let byte : ℕ = flags_byte f in
    let hz = digit_small f.zero in
    let hn = digit_small f.subtract in
    let hh = digit_small f.half_carry in
    let hc = digit_small f.carry in
    let small : byte < 256 = omega arith in
    sym (numbers_at (λ n. flags_byte (flags_of n)) (λ n. bit_and n 0xF0) refl byte small) ∙ ap flags_byte (flags_back f)

-- ---- only some bits

pub select_is : (n : ℕ) → n < 256 → select_bits n ≡ bit_and n 0x30
select_is n h = numbers_at select_bits (λ n. bit_and n 0x30) refl n h

pub sc_is : (n : ℕ) → n < 256 → sc_bits n ≡ bit_and n 0x81
sc_is n h = numbers_at sc_bits (λ n. bit_and n 0x81) refl n h

pub stat_is : (n : ℕ) → n < 256 → 8 * (n / 8 % 16) ≡ bit_and n 0x78
stat_is n h = numbers_at (λ n. 8 * (n / 8 % 16)) (λ n. bit_and n 0x78) refl n h

pub day_high_is : (n : ℕ) → n < 256 → eqb (bit_and n 0xC1) n ≡ nat_lt (n % 64) 2
day_high_is n h = tests_at (λ n. eqb (bit_and n 0xC1) n) (λ n. nat_lt (n % 64) 2) refl n h

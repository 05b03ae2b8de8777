-- Sums and differences as whole numbers, and their flags (Pan Docs, 'CPU Instruction Set' and 'CPU Registers and Flags').
use Rattle.std.specs.Prelude.{ℕ, true, false, not, ◌||◌, ◌&&◌, ◌+◌, ◌-◌, ◌%◌, ◌==◌, nat_le, nat_lt, if◌then◌else◌}
use Rattle.sm83_alu.specs.declared.register_file.Flags.{Flags}
use Rattle.sm83_alu.specs.declared.register_file.Outcome.{Outcome}
use Rattle.sm83_alu.specs.declared.register_file.WordOutcome.{WordOutcome}

-- a - b modulo n, for b at most n
abbrev pub difference_modulo : ℕ → ℕ → ℕ → ℕ
difference_modulo n a b = (a + (n - b)) % n

-- ADD and ADC: the sum of a, b and the carry c; H and C are the carries out of bits 3 and 7
abbrev pub sum_of : ℕ → ℕ → ℕ → Outcome
sum_of a b c = let value = (a + b + c) % 256 in record {
  value = value;
  flags = record { zero = value == 0; subtract = false; half_carry = nat_le 16 (a % 16 + b % 16 + c); carry = nat_le 256 (a + b + c) };
}

-- SUB, SBC and CP: a less b and the borrow c; H and C are the borrows from bits 4 and 8
abbrev pub difference_of : ℕ → ℕ → ℕ → Outcome
difference_of a b c = let value = difference_modulo 256 a (b + c) in record {
  value = value;
  flags = record { zero = value == 0; subtract = true; half_carry = nat_lt (a % 16) (b % 16 + c); carry = nat_lt a (b + c) };
}

-- INC of a byte: H tells that the low digit was F; C is kept
abbrev pub increment_of : ℕ → Flags → Outcome
increment_of n f = let value = (n + 1) % 256 in record {
  value = value;
  flags = record { zero = value == 0; subtract = false; half_carry = n % 16 == 15; carry = f.carry };
}

-- DEC of a byte: H tells that the low digit was 0; C is kept
abbrev pub decrement_of : ℕ → Flags → Outcome
decrement_of n f = let value = difference_modulo 256 n 1 in record {
  value = value;
  flags = record { zero = value == 0; subtract = true; half_carry = n % 16 == 0; carry = f.carry };
}

-- INC and DEC of a 16-bit register, which change no flag
abbrev pub next_word : ℕ → ℕ
next_word n = (n + 1) % 65536

abbrev pub previous_word : ℕ → ℕ
previous_word n = difference_modulo 65536 n 1

-- ADD HL,rp: H and C are the carries out of bits 11 and 15; Z is kept
abbrev pub word_sum_of : ℕ → ℕ → Flags → WordOutcome
word_sum_of m n f = record {
  value = (m + n) % 65536;
  flags = record { zero = f.zero; subtract = false; half_carry = nat_le 4096 (m % 4096 + n % 4096); carry = nat_le 65536 (m + n) };
}

-- the signed number of a byte, modulo 65536
abbrev pub signed_word : ℕ → ℕ
signed_word n = if nat_lt n 128 then n else 65536 - 256 + n

-- ADD SP,e and LD HL,SP+e: H and C are the carries of the low digits and of the low bytes, taken without sign
abbrev pub offset_sum_of : ℕ → ℕ → WordOutcome
offset_sum_of n e = record {
  value = (n + signed_word e) % 65536;
  flags = record { zero = false; subtract = false; half_carry = nat_le 16 (n % 16 + e % 16); carry = nat_le 256 (n % 256 + e) };
}

-- DAA: what is added after a sum
abbrev pub decimal_correction : ℕ → Flags → ℕ
decimal_correction a f =
    (if f.carry || nat_lt 0x99 a then 0x60 else 0) + (if f.half_carry || nat_lt 9 (a % 16) then 0x06 else 0)

-- DAA: what is subtracted after a difference
abbrev pub decimal_recovery : Flags → ℕ
decimal_recovery f = (if f.carry then 0x60 else 0) + (if f.half_carry then 0x06 else 0)

-- DAA: N is kept, H cleared; after a sum C tells that the decimal sum is 100 or more, after a difference it is kept
abbrev pub decimal_of : ℕ → Flags → Outcome
decimal_of a f =
    let value = (if f.subtract then difference_modulo 256 a (decimal_recovery f) else (a + decimal_correction a f) % 256) in record {
      value = value;
      flags = record { zero = value == 0; subtract = f.subtract; half_carry = false; carry = f.carry || (not f.subtract && nat_lt 0x99 a) };
    }

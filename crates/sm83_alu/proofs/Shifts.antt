-- Masks and shifts of bytes are the operations on whole numbers.
use Rattle.std.proofs.Common.{◌≡◌, ℕ, ◌-◌, ◌*◌, ◌/◌, ◌%◌, ◌^◌, ◌<◌, Bool, true, false, nat_eq, refl}
use Rattle.std.specs.Prelude.{bit_and, bit_or, not, ◌==◌}
use Rattle.std.specs.Int.{bit_at}
use mir.Val.{bool_byte}
use Rattle.sm83_alu.specs.declared.register_file.Flags.{Flags}
use Rattle.sm83_alu.specs.Flags.{flags_of}
use Rattle.sm83_alu.specs.Bits.{outcome_of, rotated_left, rotated_right, rotated_left_through, shifted_right_arithmetic, swapped_nibbles, without_bit, with_bit}
use Rattle.sm83_alu.proofs.Tables.{outcomes_at, flags_at, numbers_at_bit, tests_at_bit}

pub flags_by_masks : (n : ℕ) → n < 256 →
    ◌≡◌ {A = Flags} (record { zero = not (nat_eq (bit_and n 128) 0); subtract = not (nat_eq (bit_and n 64) 0); half_carry = not (nat_eq (bit_and n 32) 0); carry = not (nat_eq (bit_and n 16) 0) }) (flags_of n)
flags_by_masks = flags_at (λ n. record { zero = not (nat_eq (bit_and n 128) 0); subtract = not (nat_eq (bit_and n 64) 0); half_carry = not (nat_eq (bit_and n 32) 0); carry = not (nat_eq (bit_and n 16) 0) }) flags_of refl

pub rotated_left_by_masks : (n : ℕ) → n < 256 →
    outcome_of (bit_or (n * 2 % 256) (n / 128)) false (not (nat_eq (bit_and n 128) 0)) ≡ rotated_left n
rotated_left_by_masks = outcomes_at (λ n. outcome_of (bit_or (n * 2 % 256) (n / 128)) false (not (nat_eq (bit_and n 128) 0))) rotated_left refl

pub rotated_right_by_masks : (n : ℕ) → n < 256 →
    outcome_of (bit_or (n / 2) (n * 128 % 256)) false (not (nat_eq (bit_and n 1) 0)) ≡ rotated_right n
rotated_right_by_masks = outcomes_at (λ n. outcome_of (bit_or (n / 2) (n * 128 % 256)) false (not (nat_eq (bit_and n 1) 0))) rotated_right refl

pub shifted_right_arithmetic_by_masks : (n : ℕ) → n < 256 →
    outcome_of (bit_or (n / 2) (bit_and n 128)) false (not (nat_eq (bit_and n 1) 0)) ≡ shifted_right_arithmetic n
shifted_right_arithmetic_by_masks = outcomes_at (λ n. outcome_of (bit_or (n / 2) (bit_and n 128)) false (not (nat_eq (bit_and n 1) 0))) shifted_right_arithmetic refl

pub swapped_by_masks : (n : ℕ) → n < 256 → outcome_of (bit_or (n * 16 % 256) (n / 16)) false false ≡ swapped_nibbles n
swapped_by_masks = outcomes_at (λ n. outcome_of (bit_or (n * 16 % 256) (n / 16)) false false) swapped_nibbles refl

pub without_bit_by_masks : (i n : ℕ) → i < 8 → n < 256 → bit_and n (255 - 1 * 2 ^ i % 256) ≡ without_bit i n
without_bit_by_masks = numbers_at_bit (λ i n. bit_and n (255 - 1 * 2 ^ i % 256)) without_bit refl

pub with_bit_by_masks : (i n : ℕ) → i < 8 → n < 256 → bit_or n (1 * 2 ^ i % 256) ≡ with_bit i n
with_bit_by_masks = numbers_at_bit (λ i n. bit_or n (1 * 2 ^ i % 256)) with_bit refl

pub bit_by_mask : (i n : ℕ) → i < 8 → n < 256 → nat_eq (bit_and n (1 * 2 ^ i % 256)) 0 ≡ (bit_at n i == 0)
bit_by_mask = tests_at_bit (λ i n. nat_eq (bit_and n (1 * 2 ^ i % 256)) 0) (λ i n. bit_at n i == 0) refl

pub rotated_left_through_by_masks : (n : ℕ) (c : Bool) → n < 256 →
    outcome_of (bit_or (n * 2 % 256) (bool_byte c)) false (not (nat_eq (bit_and n 128) 0)) ≡ rotated_left_through n c
rotated_left_through_by_masks n true = outcomes_at (λ n. outcome_of (bit_or (n * 2 % 256) 1) false (not (nat_eq (bit_and n 128) 0))) (λ n. rotated_left_through n true) refl n
rotated_left_through_by_masks n false = outcomes_at (λ n. outcome_of (bit_or (n * 2 % 256) 0) false (not (nat_eq (bit_and n 128) 0))) (λ n. rotated_left_through n false) refl n

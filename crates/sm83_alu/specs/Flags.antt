-- The register F (Pan Docs, 'CPU Registers and Flags').
use Rattle.std.specs.Prelude.{ℕ, Bool, ◌+◌, ◌*◌, ◌==◌, if◌then◌else◌}
use Rattle.std.specs.Int.{bit_at}
use Rattle.sm83_alu.specs.declared.register_file.Flags.{Flags}

-- 1 for a flag that is set, else 0
abbrev pub digit_of : Bool → ℕ
digit_of b = if b then 1 else 0

-- the byte of F: Z, N, H and C are bits 7 to 4, and the low four are 0
abbrev pub flags_byte : Flags → ℕ
flags_byte f = 128 * digit_of f.zero + 64 * digit_of f.subtract + 32 * digit_of f.half_carry + 16 * digit_of f.carry

-- the flags of a byte, by its bits 7 to 4
abbrev pub flags_of : ℕ → Flags
flags_of n = record { zero = bit_at n 7 == 1; subtract = bit_at n 6 == 1; half_carry = bit_at n 5 == 1; carry = bit_at n 4 == 1 }

-- Texts that are joined of parts, and that there is room for a title.
use Rattle.std.proofs.Common.{◌≡◌, ◌∙◌, ◌≤◌, ◌==◌, ◌++◌, ℕ, List, length, take, drop, slice_range, append_assoc, length-take, arith}
use Rattle.std.specs.List.{position_or_len}
use Rattle.cartridge.specs.Header.{title_of}

-- ---- parts that are joined from the first on

pub of_five : (a b c d e : List ℕ) → a ++ b ++ c ++ d ++ e ≡ a ++ (b ++ (c ++ (d ++ e)))
of_five a b c d e = append_assoc (a ++ b ++ c) d e ∙ append_assoc (a ++ b) c (d ++ e) ∙ append_assoc a b (c ++ (d ++ e))

pub of_six : (a b c d e f : List ℕ) → a ++ b ++ c ++ d ++ e ++ f ≡ a ++ (b ++ (c ++ (d ++ (e ++ f))))
of_six a b c d e f = of_five (a ++ b) c d e f ∙ append_assoc a b (c ++ (d ++ (e ++ f)))

pub of_seven : (a b c d e f g : List ℕ) → a ++ b ++ c ++ d ++ e ++ f ++ g ≡ a ++ (b ++ (c ++ (d ++ (e ++ (f ++ g)))))
of_seven a b c d e f g = of_six (a ++ b) c d e f g ∙ append_assoc a b (c ++ (d ++ (e ++ (f ++ g))))

-- ---- a title has 16 bytes at most

part_fits : (n most : ℕ) (bytes : List ℕ) → length (take n (take most bytes)) ≤ most
part_fits n most bytes = omega (arith, length-take n (take most bytes), length-take most bytes)

pub title_fits : (rom : List ℕ) → length (title_of rom) ≤ 16
title_fits rom = part_fits (position_or_len (λ (byte : ℕ). byte == 0) (slice_range rom 0x134 0x144)) 16 (drop 0x134 rom)

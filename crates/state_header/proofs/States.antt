-- Which bytes are a state, by their header and what stands behind it.
use Rattle.std.proofs.Common.{◌≡◌, ◌<◌, ◌+◌, ℕ, List, ◌++◌, length, take, drop, refl, sym, ap, ◌∙◌, subst, arith, length-append}
use Rattle.std.proofs.lemmas.List.{take-append-le, take-append-drop}
use Rattle.std.proofs.Math.Seq.{take-append_seam, drop-append_seam}
use Rattle.sha2.specs.Sha256.{sha256}
use Rattle.sha2.proofs.Facts256.{length-sha256}
use Rattle.cartridge.specs.Header.{ram_length_of}
use Rattle.snapshot.specs.Encoding.{snapshot_length}
use Rattle.snapshot.specs.Legal.{IsLegalSnapshot}
use Rattle.state_header.specs.States.{header_of, mark, snapshot_in, IsLegalState, IsOfAnotherRom, IsNamed}
use Rattle.state_header.specs.declared.Named.TheVariants.{Other, Nothing}

pub header_long : (rom : List ℕ) → length (header_of rom) ≡ 40
unfolding header_of
header_long rom = length-append mark (sha256 rom) ∙ ap (λ (n : ℕ). 8 + n) (length-sha256 rom)

header_marked : (rom : List ℕ) → take 8 (header_of rom) ≡ mark
unfolding header_of
header_marked rom = refl

-- ---- behind a header

module _ (header rest : List ℕ) (long : length header ≡ 40) where
  pub header_is : take 40 (header ++ rest) ≡ header
  header_is = ap (λ (n : ℕ). take n (header ++ rest)) (sym long) ∙ take-append_seam header rest

  pub rest_is : snapshot_in (header ++ rest) ≡ rest
  rest_is = ap (λ (n : ℕ). drop n (header ++ rest)) (sym long) ∙ drop-append_seam header rest

  mark_is : take 8 (header ++ rest) ≡ take 8 header
  mark_is = take-append-le 8 header rest (omega (arith, long))

  -- ---- of another ROM, or of none

  module _ (rom : List ℕ) where
    pub other_named : IsNamed Other rom header → IsOfAnotherRom rom (header ++ rest)
    other_named named = record {
      whole = omega (arith, length-append header rest, long);
      marked = mark_is ∙ named.0;
      other = λ e. named.1 (sym header_is ∙ e);
    }

    pub nothing_illegal : IsNamed Nothing rom header → IsLegalState rom (header ++ rest) → ⊥
    nothing_illegal named legal = named (ap (take 8) (sym header_is ∙ legal.header) ∙ header_marked rom)

    pub nothing_other : IsNamed Nothing rom header → IsOfAnotherRom rom (header ++ rest) → ⊥
    nothing_other named other = named (sym mark_is ∙ other.marked)

-- ---- of this ROM

module _ (rom snapshot : List ℕ) where
  pub own_legal : IsLegalSnapshot rom snapshot → IsLegalState rom (header_of rom ++ snapshot)
  own_legal legal = record {
    header = header_is (header_of rom) snapshot (header_long rom);
    snapshot = subst (IsLegalSnapshot rom) (sym (rest_is (header_of rom) snapshot (header_long rom))) legal;
  }

  pub own_snapshot : IsLegalState rom (header_of rom ++ snapshot) → IsLegalSnapshot rom snapshot
  own_snapshot legal = subst (IsLegalSnapshot rom) (rest_is (header_of rom) snapshot (header_long rom)) legal.snapshot

  pub own_named : IsOfAnotherRom rom (header_of rom ++ snapshot) → ⊥
  own_named other = other.other (header_is (header_of rom) snapshot (header_long rom))

-- a state of another ROM is none of this one
pub another_illegal : (rom bytes : List ℕ) → IsOfAnotherRom rom bytes → IsLegalState rom bytes → ⊥
another_illegal rom bytes other legal = other.other legal.header

-- ---- by their length

module _ (rom bytes : List ℕ) where
  pub state_long : IsLegalState rom bytes → length bytes ≡ 40 + snapshot_length (ram_length_of rom)
  state_long legal =
      let front : length (take 40 bytes) ≡ 40 = ap length legal.header ∙ header_long rom in
      let parts : length bytes ≡ length (take 40 bytes) + length (drop 40 bytes) = sym (ap length (take-append-drop 40 bytes)) ∙ length-append (take 40 bytes) (drop 40 bytes) in
      omega (arith, parts, front, legal.snapshot.length)

  pub short_illegal : length bytes < 40 → IsLegalState rom bytes → ⊥
  short_illegal few legal = absurd (omega (arith, state_long legal, few))

  pub short_other : length bytes < 40 → IsOfAnotherRom rom bytes → ⊥
  short_other few other = absurd (omega (arith, other.whole, few))

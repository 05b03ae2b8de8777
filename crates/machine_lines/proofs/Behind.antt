-- What was taken behind a header, and with it.
use Rattle.std.proofs.Common.{◌≡◌, ◌≢◌, ◌≤◌, ◌<◌, ◌-◌, ◌++◌, ℕ, true, List, [], length, Option, None, Some, refl, ap, ◌∙◌, subst, arith, length-append}
use Rattle.std.specs.Io.KnownBytes.{Consumes, IsAtEnd}
use Rattle.std.proofs.KnownBytes.{Consumes-trans}
use Rattle.cartridge.specs.Header.{ram_length_of}
use Rattle.snapshot.specs.Encoding.{snapshot_length}
use Rattle.state_header.specs.States.{header_of, IsNamed, IsOfAnotherRom}
use Rattle.state_header.specs.declared.Named.{Named}
use Rattle.state_header.specs.declared.Named.TheVariants.{Same, Other as NamesOther, Nothing as NamesNothing}
use Rattle.state_header.proofs.States.{state_long, short_illegal, short_other, other_named, nothing_illegal, nothing_other, own_named}
use Rattle.input_lines.specs.Reading.{left_of}
use Rattle.input_lines.specs.Taking.{HasTakenBytes, HasSkippedBytes}
use Rattle.input_lines.specs.declared.taking.Taken.{Taken}
use Rattle.input_lines.specs.declared.taking.Taken.TheVariants.{All as AllTaken, End as EndMet, Failed as TakeFailed}
use Rattle.machine_lines.specs.Taking.{TakesAll, TakesFewer, HasTakenState, IsTakenBehind, is_same, refused_by, unless_fewer}
use Rattle.machine_lines.specs.declared.taking.TakenState.{TakenState}
use Rattle.machine_lines.specs.declared.taking.TakenState.TheVariants.{Snapshot, Other, Nothing, End, Failed}

-- ---- fewer bytes

left_none : (since : Option (List ℕ)) → left_of [] since ≡ since
left_none None = refl
left_none (Some bytes) = refl

-- where nothing stays unread, what is left is what the input has
nothing_unread : (taken : Taken) (unread : List ℕ) (since : Option (List ℕ)) → ((taken ≡ AllTaken → ⊥) → unread ≡ []) → (taken ≡ AllTaken → ⊥) → left_of unread since ≡ since
nothing_unread taken unread since none short = ap (λ (l : List ℕ). left_of l since) (none short) ∙ left_none since

module _ (unread : List ℕ) (old since : Option (List ℕ)) (size : ℕ) where
  fewer : (front : List ℕ) → length front < size → Consumes old (left_of unread since) front → left_of unread since ≡ since → TakesFewer size old since
  fewer front few took same = record { bytes = front; few = few; took = subst (λ (l : Option (List ℕ)). Consumes old l front) same took }

-- ---- a header with what is behind it

module _ (rom header : List ℕ) (size : ℕ) (snapshot : List ℕ) (old mid new since : Option (List ℕ)) (long : length header ≡ 40) (enough : 40 ≤ size) (took : Consumes old mid header) where
  with_all : {P : List ℕ → Type 0} → TakesAll (λ bytes. P (header ++ bytes)) (size - 40) mid new → TakesAll P size old new
  with_all all = record {
    bytes = header ++ all.bytes;
    long = omega (arith, length-append header all.bytes, long, all.long, enough);
    are = all.are;
    took = Consumes-trans old mid new header all.bytes took all.took;
  }

  with_fewer : TakesFewer (size - 40) mid since → TakesFewer size old since
  with_fewer few = record {
    bytes = header ++ few.bytes;
    few = omega (arith, length-append header few.bytes, long, few.few, enough);
    took = Consumes-trans old mid since header few.bytes took few.took;
  }

  pub with_header : (how : TakenState) → IsTakenBehind how rom header (size - 40) snapshot mid new since → HasTakenState how rom size snapshot old new since
  with_header Snapshot (is, room, behind) =
      (omega (arith, room, enough), subst (λ (h : List ℕ). Consumes old new (h ++ snapshot)) is (Consumes-trans old mid new header snapshot took behind))
  with_header Other all = with_all all
  with_header Nothing all = with_all all
  with_header End (few, is_end) = (with_fewer few, is_end)
  with_header Failed few = with_fewer few

-- ---- what was taken behind one

pub same_header : (named : Named) (rom header : List ℕ) → is_same named ≡ true → IsNamed named rom header → header ≡ header_of rom
same_header Same rom header same is = is
same_header NamesOther rom header same is = absurd (cc)
same_header NamesNothing rom header same is = absurd (cc)

module _ (rom header : List ℕ) (rest : ℕ) (snapshot : List ℕ) (old : Option (List ℕ)) (unread : List ℕ) (since : Option (List ℕ)) (long : length header ≡ 40) where
  abbrev new : Option (List ℕ)
  new = left_of unread since

  pub own_behind : (taken : Taken) → header ≡ header_of rom → rest ≡ length snapshot → HasTakenBytes taken snapshot old new → ((taken ≡ AllTaken → ⊥) → unread ≡ [])
      → IsTakenBehind (unless_fewer taken Snapshot) rom header rest snapshot old new since
  own_behind AllTaken is room took none = (is, room, took)
  own_behind EndMet is room (front, few, took, is_end) none =
      let same = nothing_unread EndMet unread since none (λ e. absurd (cc)) in
      (fewer unread old since rest front (omega (arith, few, room)) took same, subst IsAtEnd same is_end)
  own_behind TakeFailed is room (front, few, took) none =
      fewer unread old since rest front (omega (arith, few, room)) took (nothing_unread TakeFailed unread since none (λ e. absurd (cc)))

  -- those that were dropped are no state of this ROM
  refused : (named : Named) → IsNamed named rom header → (is_same named ≡ true → rest ≢ snapshot_length (ram_length_of rom)) → (bytes : List ℕ) → length bytes ≡ rest → Consumes old new bytes
      → IsTakenBehind (refused_by named) rom header rest snapshot old new since
  refused Same is other bytes size took = record {
    bytes = bytes;
    long = size;
    are = (
      λ legal. other refl (omega (arith, state_long rom (header ++ bytes) legal, length-append header bytes, long, size)),
      λ another. own_named rom bytes (subst (λ (h : List ℕ). IsOfAnotherRom rom (h ++ bytes)) is another),
    );
    took = took;
  }
  refused NamesOther is other bytes size took = record { bytes = bytes; long = size; are = other_named header bytes long rom is; took = took }
  refused NamesNothing is other bytes size took =
      record { bytes = bytes; long = size; are = (nothing_illegal header bytes long rom is, nothing_other header bytes long rom is); took = took }

  pub dropped_behind : (taken : Taken) (named : Named) → IsNamed named rom header → (is_same named ≡ true → rest ≢ snapshot_length (ram_length_of rom)) → HasSkippedBytes taken rest old new
      → ((taken ≡ AllTaken → ⊥) → unread ≡ []) → IsTakenBehind (unless_fewer taken (refused_by named)) rom header rest snapshot old new since
  dropped_behind AllTaken named is other (bytes, size, took) none = refused named is other bytes size took
  dropped_behind EndMet named is other (bytes, size, (front, few, took, is_end)) none =
      let same = nothing_unread EndMet unread since none (λ e. absurd (cc)) in
      (fewer unread old since rest front (omega (arith, few, size)) took same, subst IsAtEnd same is_end)
  dropped_behind TakeFailed named is other (bytes, size, (front, few, took)) none =
      fewer unread old since rest front (omega (arith, few, size)) took (nothing_unread TakeFailed unread since none (λ e. absurd (cc)))

-- ---- fewer than a header has

module _ (rom : List ℕ) (size : ℕ) (snapshot : List ℕ) (old : Option (List ℕ)) (unread : List ℕ) (since : Option (List ℕ)) (few : size < 40) where
  pub dropped_short : (taken : Taken) → HasSkippedBytes taken size old (left_of unread since) → ((taken ≡ AllTaken → ⊥) → unread ≡ [])
      → HasTakenState (unless_fewer taken Nothing) rom size snapshot old (left_of unread since) since
  dropped_short AllTaken (bytes, long, took) none =
      record { bytes = bytes; long = long; are = (short_illegal rom bytes (omega (arith, few, long)), short_other rom bytes (omega (arith, few, long))); took = took }
  dropped_short EndMet (bytes, long, (front, less, took, is_end)) none =
      let same = nothing_unread EndMet unread since none (λ e. absurd (cc)) in
      (fewer unread old since size front (omega (arith, less, long)) took same, subst IsAtEnd same is_end)
  dropped_short TakeFailed (bytes, long, (front, less, took)) none =
      fewer unread old since size front (omega (arith, less, long)) took (nothing_unread TakeFailed unread since none (λ e. absurd (cc)))

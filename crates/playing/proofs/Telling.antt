-- A report that is cut short, and why.
use Rattle.std.proofs.Common.{◌≡◌, ◌⊎◌, inl, inr, ⊎_elim, ℕ, ◌≤◌, List, [], ◌∷◌, ◌++◌, Option, None, Some, take, refl, sym, ap, ◌∙◌, subst, append_assoc, arith}
use Rattle.std.specs.List.{All}
use Rattle.std.specs.Io.KnownBytes.{Appends, Keeps}
use Rattle.std.proofs.lemmas.List.Elements.{All-nil, All-append, All-weaker}
use Rattle.exact_text.specs.Written.{AppendsProperPrefix}
use Rattle.exact_text.proofs.Writes.{appends_nothing, appends_twice}
use Rattle.session.specs.declared.error.SessionError.{SessionError}
use Rattle.session.specs.declared.error.SessionError.TheVariants.{Memory, Output}
use Rattle.sector_device.specs.DiskState.{DiskState}
use Rattle.playing.specs.Played.{IsAsItWas}
use Rattle.playing.specs.Report.{IsPart, HasTold}
use Rattle.playing.specs.Lines.{Line, texts}
use Rattle.playing.proofs.ReportLaws.{texts_append}

part_more : (why : SessionError) (rest more : List Line) (part : List ℕ) → IsPart why rest part → IsPart why (rest ++ more) part
part_more Output [] more part is = absurd is
part_more Output (line ∷ rest) more part is = is
part_more why rest more part is = is

no_part : (why : SessionError) (lines : List Line) → (why ≡ Output → ⊥) → IsPart why lines []
no_part Output lines other = absurd (other refl)
no_part why lines other = refl

pub told_by : {why : SessionError} {saved : ℕ} {lines lines' : List Line} {old new : Option (List ℕ)} → lines ≡ lines' → HasTold why saved lines old new → HasTold why saved lines' old new
told_by {why} {saved} {lines} {lines'} {old} {new} same told = subst (λ (l : List Line). HasTold why saved l old new) same told

-- before more lines
pub told_more : (why : SessionError) (saved : ℕ) (lines more : List Line) (old new : Option (List ℕ)) → HasTold why saved lines old new → HasTold why saved (lines ++ more) old new
told_more why saved lines more old new told = record {
  whole = told.whole;
  rest = told.rest ++ more;
  lines_are = ap (λ (l : List Line). l ++ more) told.lines_are ∙ append_assoc told.whole told.rest more;
  are_saved = told.are_saved;
  part = told.part;
  part_is = part_more why told.rest more told.part told.part_is;
  text = told.text;
}

-- behind lines that were written whole
pub told_then : (why : SessionError) (before saved : ℕ) (first more : List Line) (old mid new : Option (List ℕ)) → Appends old mid (texts first) → All (λ line. line.told ≤ before) first → before ≤ saved
    → HasTold why saved more mid new → HasTold why saved (first ++ more) old new
told_then why before saved first more old mid new front front_saved later told = record {
  whole = first ++ told.whole;
  rest = told.rest;
  lines_are = ap (λ (l : List Line). first ++ l) told.lines_are ∙ sym (append_assoc first told.whole told.rest);
  are_saved =
      All-append (λ line. line.told ≤ saved) first told.whole
      (All-weaker (λ line. line.told ≤ before) (λ line. line.told ≤ saved) (λ line (within : line.told ≤ before). omega arith) first front_saved)
      told.are_saved;
  part = told.part;
  part_is = told.part_is;
  text =
      subst (Appends old new) (sym (append_assoc (texts first) (texts told.whole) told.part) ∙ ap (λ (l : List ℕ). l ++ told.part) (sym (texts_append first told.whole)))
      (appends_twice old mid new (texts first) (texts told.whole ++ told.part) front told.text);
}

-- in its first line
pub told_part : (saved : ℕ) (line : Line) (more : List Line) (old new : Option (List ℕ)) → AppendsProperPrefix old new line.text → HasTold Output saved (line ∷ more) old new
told_part saved line more old new part = record {
  whole = [];
  rest = line ∷ more;
  lines_are = refl;
  are_saved = All-nil (λ l. l.told ≤ saved);
  part = take part.count line.text;
  part_is = (part.count, part.proper, refl);
  text = part.prefix;
}

-- before its first line
pub told_nothing : (why : SessionError) (saved : ℕ) (lines : List Line) (old : Option (List ℕ)) → (why ≡ Output → ⊥) → HasTold why saved lines old old
told_nothing why saved lines old other = record {
  whole = [];
  rest = lines;
  lines_are = refl;
  are_saved = All-nil (λ l. l.told ≤ saved);
  part = [];
  part_is = no_part why lines other;
  text = appends_nothing old;
}

pub keeps_same : (a : Option (List ℕ)) → Keeps a a
keeps_same None = tt
keeps_same (Some bytes) = refl

-- a device of which no call was made is as it was
pub memory_at : {D : Type 0} (disk : D → DiskState) {why : SessionError} {old now : D} {P : Type 0} → (why ≡ Memory → (now ≡ old) ⊎ P) → why ≡ Memory → IsAsItWas (disk old) (disk now) ⊎ P
memory_at disk memory is =
    ⊎_elim (λ same. inl (ap (λ d. (disk d).sectors) same, ap (λ d. (disk d).moment) same, ap (λ d. (disk d).faults) same)) (λ other. inr other) (memory is)

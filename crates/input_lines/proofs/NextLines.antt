-- What `next_line` answers.
use Rattle.std.proofs.Common.{◌≡◌, inl, inr, ⊎_elim, ℕ, ◌<◌, ◌≤◌, ◌==◌, List, [], ◌∷◌, ◌++◌, length, Option, sym, ap, subst, arith, append_assoc, append-nil, length-append, ◌∙◌, ◌≢◌}
use Rattle.std.specs.List.{position_or_len}
use Rattle.std.specs.Io.KnownBytes.{Consumes, IsAtEnd}
use Rattle.std.proofs.KnownBytes.{Consumes-trans}
use Rattle.std.proofs.lemmas.List.Elements.{All-append}
use Rattle.input_lines.specs.Newlines.{HasNoNewline, first_line, behind_first_line}
use Rattle.input_lines.specs.Reading.{left_of, TakesLine, IsCut, IsNextLine}
use Rattle.input_lines.specs.declared.lines.NextLine.{NextLine}
use Rattle.input_lines.specs.declared.lines.NextLine.TheVariants.{Line, TooLong, End, Failed}
use Rattle.input_lines.proofs.Newlines.{no_newline, all_of_it, nothing_behind, no_newline_at_all}
use Rattle.input_lines.proofs.KnownLeft.{left_read, none_left, nothing_first, line_taken, all_taken}

cut_line : (next : NextLine) (line : List ℕ) (old new since : Option (List ℕ)) → HasNoNewline line → IsCut next line → TakesLine line old new → IsNextLine next old new since
cut_line (Line text) line old new since one cut takes =
    let is = sym cut.0 in
    (subst HasNoNewline is one, subst (λ (l : List ℕ). length l ≤ 512) is cut.1, subst (λ (l : List ℕ). TakesLine l old new) is takes)
cut_line TooLong line old new since one cut takes = (line, one, cut, takes)
cut_line End line old new since one cut takes = absurd cut
cut_line Failed line old new since one cut takes = absurd cut

-- a line that ends in a newline
pub next_there : (next : NextLine) (old : Option (List ℕ)) (unread rest : List ℕ) (since : Option (List ℕ)) → Consumes old (left_of unread since) [] → IsCut next (first_line unread) → rest ≡ behind_first_line unread
    → position_or_len (λ byte. byte == 10) unread < length unread → IsNextLine next old (left_of rest since) since
next_there next old unread rest since before cut rest_is less =
    subst (λ (l : List ℕ). IsNextLine next old (left_of l since) since) (sym rest_is)
    (cut_line next (first_line unread) old (left_of (behind_first_line unread) since) since (no_newline unread) cut (inl (line_taken old unread since before less)))

-- the last one, which has none
pub next_last : (next : NextLine) (old : Option (List ℕ)) (unread rest : List ℕ) (since : Option (List ℕ)) → Consumes old (left_of unread since) [] → IsCut next (first_line unread) → rest ≡ behind_first_line unread
    → position_or_len (λ byte. byte == 10) unread ≡ length unread → 0 < length unread → IsAtEnd since → IsNextLine next old (left_of rest since) since
next_last next old unread rest since before cut rest_is all some at_end =
    subst (λ (l : List ℕ). IsNextLine next old (left_of l since) since) (sym rest_is)
    (subst (λ (l : List ℕ). IsNextLine next old (left_of l since) since) (sym (nothing_behind unread all))
    (cut_line next unread old (left_of [] since) since (no_newline_at_all unread all) (subst (IsCut next) (all_of_it unread all) cut)
    (inr (some, all_taken old unread since before, none_left since at_end))))

pub next_failed : (old : Option (List ℕ)) (unread : List ℕ) (since : Option (List ℕ)) → Consumes old (left_of unread since) [] → position_or_len (λ byte. byte == 10) unread ≡ length unread
    → IsNextLine Failed old (left_of unread since) since
next_failed old unread since before all = (unread, no_newline_at_all unread all, left_read old unread since [] before, inl before)

takes_behind : (line : List ℕ) (old mid new : Option (List ℕ)) → Consumes old mid [] → TakesLine line mid new → TakesLine line old new
takes_behind line old mid new before (inl takes) = inl (nothing_first old mid new (line ++ 10 ∷ []) before takes)
takes_behind line old mid new before (inr takes) = inr (takes.0, nothing_first old mid new line before takes.1, takes.2)

-- with more that was read first
pub next_behind : (next : NextLine) (old mid new since : Option (List ℕ)) → Consumes old mid [] → IsNextLine next mid new since → IsNextLine next old new since
next_behind (Line text) old mid new since before is = (is.0, is.1, takes_behind text.items old mid new before is.2)
next_behind TooLong old mid new since before is = (is.0, is.1, is.2, takes_behind is.0 old mid new before is.3)
next_behind End old mid new since before is = (nothing_first old mid since [] before is.0, is.1)
next_behind Failed old mid new since before is =
    (is.0, is.1, nothing_first old mid since is.0 before is.2, ⊎_elim (λ stays. inl (nothing_first old mid new [] before stays)) (λ gone. inr (gone.0, nothing_first old mid new is.0 before gone.1)) is.3)

-- ---- a line that is too long

-- so much of it was read, and more
pub skips_more : (old b : Option (List ℕ)) (skipped unread : List ℕ) (since : Option (List ℕ)) → Consumes old b skipped → Consumes b (left_of unread since) [] → Consumes old (left_of [] since) (skipped ++ unread)
skips_more old b skipped unread since took more = Consumes-trans old b (left_of [] since) skipped unread took (all_taken b unread since more)

pub one_still : (skipped more : List ℕ) → HasNoNewline skipped → HasNoNewline more → HasNoNewline (skipped ++ more)
one_still skipped more first second = All-append (λ byte. byte ≢ 10) skipped more first second

pub longer : (skipped more : List ℕ) → 512 < length skipped → 512 < length (skipped ++ more)
longer skipped more long = omega (arith, long, length-append skipped more)

-- up to its newline
pub skips_to_newline : (old b : Option (List ℕ)) (skipped unread rest : List ℕ) (since : Option (List ℕ)) → HasNoNewline skipped → 512 < length skipped → Consumes old b skipped → Consumes b (left_of unread since) []
    → position_or_len (λ byte. byte == 10) unread < length unread → rest ≡ behind_first_line unread → IsNextLine TooLong old (left_of rest since) since
skips_to_newline old b skipped unread rest since one long took more less rest_is =
    let line = skipped ++ first_line unread in
    let behind = left_of (behind_first_line unread) since in
    let taken : Consumes old behind (line ++ 10 ∷ []) =
    subst (Consumes old behind) (sym (append_assoc skipped (first_line unread) (10 ∷ [])))
    (Consumes-trans old b behind skipped (first_line unread ++ 10 ∷ []) took (line_taken b unread since more less)) in
    subst (λ (l : List ℕ). IsNextLine TooLong old (left_of l since) since) (sym rest_is)
    (line, one_still skipped (first_line unread) one (no_newline unread), longer skipped (first_line unread) long, inl taken)

-- up to the end, or to a read that failed
none_more : (old b : Option (List ℕ)) (skipped unread : List ℕ) (since : Option (List ℕ)) → Consumes old b skipped → Consumes b (left_of unread since) [] → Consumes old (left_of unread since) skipped
none_more old b skipped unread since took more = subst (Consumes old (left_of unread since)) (append-nil skipped) (Consumes-trans old b (left_of unread since) skipped [] took more)

pub skips_to_end : (old b : Option (List ℕ)) (skipped unread : List ℕ) (since : Option (List ℕ)) → HasNoNewline skipped → 512 < length skipped → Consumes old b skipped → Consumes b (left_of unread since) []
    → unread ≡ [] → IsAtEnd since → IsNextLine TooLong old (left_of unread since) since
skips_to_end old b skipped unread since one long took more none at_end =
    let some : 0 < length skipped = omega (arith, long) in
    (skipped, one, long, inr (some, none_more old b skipped unread since took more, subst (λ (l : List ℕ). IsAtEnd (left_of l since)) (sym none) (none_left since at_end)))

pub skips_failed : (old : Option (List ℕ)) (skipped unread : List ℕ) (since : Option (List ℕ)) → HasNoNewline skipped → 512 < length skipped → Consumes old (left_of unread since) skipped
    → unread ≡ [] → IsNextLine Failed old (left_of unread since) since
skips_failed old skipped unread since one long took none =
    let all : skipped ++ unread ≡ skipped = ap (λ (l : List ℕ). skipped ++ l) none ∙ append-nil skipped in
    (skipped, one, subst (Consumes old since) all (left_read old unread since skipped took), inr (long, took))

pub skips_failed_there : (old b : Option (List ℕ)) (skipped unread : List ℕ) (since : Option (List ℕ)) → HasNoNewline skipped → 512 < length skipped → Consumes old b skipped → Consumes b (left_of unread since) []
    → unread ≡ [] → IsNextLine Failed old (left_of unread since) since
skips_failed_there old b skipped unread since one long took more none = skips_failed old skipped unread since one long (none_more old b skipped unread since took more) none

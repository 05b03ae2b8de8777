-- Known bytes, of which some were read and not yet taken.
use Rattle.std.proofs.Common.{ℕ, ◌<◌, ◌==◌, List, [], ◌∷◌, ◌++◌, length, Option, None, Some, refl, sym, ◌∙◌, subst, append_assoc, append-nil}
use Rattle.std.specs.List.{position_or_len}
use Rattle.std.specs.Io.KnownBytes.{Consumes, IsAtEnd}
use Rattle.std.proofs.KnownBytes.{Consumes-trans}
use Rattle.input_lines.specs.Newlines.{first_line, behind_first_line}
use Rattle.input_lines.specs.Reading.{left_of}
use Rattle.input_lines.proofs.Newlines.{cut_there}

-- what is not yet taken was read
pub left_read : (a : Option (List ℕ)) (unread : List ℕ) (b : Option (List ℕ)) (text : List ℕ) → Consumes a (left_of unread b) text → Consumes a b (text ++ unread)
left_read None unread b text one = tt
left_read (Some x) unread None text one = absurd one
left_read (Some x) unread (Some y) text one = one ∙ sym (append_assoc text unread y)

pub left_taken : (line rest : List ℕ) (b : Option (List ℕ)) → Consumes (left_of (line ++ rest) b) (left_of rest b) line
left_taken line rest None = tt
left_taken line rest (Some y) = append_assoc line rest y

pub nothing_left : (a : Option (List ℕ)) → Consumes a (left_of [] a) []
nothing_left None = tt
nothing_left (Some x) = refl

pub none_left : (b : Option (List ℕ)) → IsAtEnd b → IsAtEnd (left_of [] b)
none_left None at_end = tt
none_left (Some y) at_end = at_end

pub nothing_first : (a b c : Option (List ℕ)) (text : List ℕ) → Consumes a b [] → Consumes b c text → Consumes a c text
nothing_first a b c text one two = Consumes-trans a b c [] text one two

-- the first line is taken with its newline
pub line_taken : (old : Option (List ℕ)) (unread : List ℕ) (since : Option (List ℕ)) → Consumes old (left_of unread since) [] → position_or_len (λ byte. byte == 10) unread < length unread
    → Consumes old (left_of (behind_first_line unread) since) (first_line unread ++ 10 ∷ [])
line_taken old unread since before less =
    let line = first_line unread ++ 10 ∷ [] in
    let behind = behind_first_line unread in
    nothing_first old (left_of unread since) (left_of behind since) line before
    (subst (λ (l : List ℕ). Consumes (left_of l since) (left_of behind since) line) (sym (cut_there unread less)) (left_taken line behind since))

-- all of it is taken
pub all_taken : (old : Option (List ℕ)) (unread : List ℕ) (since : Option (List ℕ)) → Consumes old (left_of unread since) [] → Consumes old (left_of [] since) unread
all_taken old unread since before =
    nothing_first old (left_of unread since) (left_of [] since) unread before
    (subst (λ (l : List ℕ). Consumes (left_of l since) (left_of [] since) unread) (append-nil unread) (left_taken unread [] since))

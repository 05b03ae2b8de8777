-- The text of a mark.
use Rattle.std.specs.Prelude.{◌++◌, List, ℕ, codes, decimal}
use Rattle.hex.specs.Hex.{encode_lower}
use Rattle.recording_marks.specs.declared.knowing.Known.{Known}
use Rattle.recording_marks.specs.declared.text.Mark.{Mark}
use Rattle.recording_marks.specs.declared.text.Mark.TheVariants.{Named, Remembered}

-- the end of the first line, and the second
abbrev pub second_line : List ℕ
second_line = codes "\ngbkeep record\n"

-- how many inputs the game had, and their digest
abbrev pub known_text : Known → List ℕ
known_text known = decimal known.count ++ codes " " ++ encode_lower known.digest ++ codes "\n"

-- the recording's name as it was given, the second line, and what is known of the recording, if it is known
abbrev pub mark_text : (name : List ℕ) → Mark → List ℕ
mark_text name Named = name ++ second_line
mark_text name (Remembered known) = name ++ second_line ++ known_text known

-- The lines of bytes.
use Rattle.std.proofs.Common.{◌≡◌, ◌∙◌, ℕ, suc, ◌+◌, ◌-◌, ◌*◌, ◌/◌, ◌%◌, ◌<◌, ◌≤◌, List, [], ◌++◌, append_assoc, append-nil, length, length-append, Option, ap, sym, subst, arith}
use Rattle.std.specs.Prelude.{codes}
use Rattle.exact_text.specs.Hex.{byte_text, word_text}
use Rattle.machine.specs.Machine.{MachineState}
use Rattle.memory_map.specs.Bus.{peeked}
use Rattle.debugger.specs.Listing.{byte_after}
use Rattle.std.specs.Prelude.{◌==◌, if◌then◌else◌, Bool, true, false}
use Rattle.std.proofs.lemmas.Bool.Decides.{nat_tests}
use Rattle.debugger.proofs.Lines.{IsWrittenBut, none_written}
use Rattle.machine_lines.specs.Texts.{bytes_from, memory_line, full_lines, memory_text}

-- what is left begins with the next byte
next_byte : (m : MachineState) (count i place : ℕ) → i < count →
    bytes_from m place (count - i) ≡ codes " " ++ (byte_text (byte_after m place 0) ++ bytes_from m ((place + 1) % 65536) (count - (i + 1)))
unfolding bytes_from
next_byte m count i place below =
    let left : count - i ≡ suc (count - (i + 1)) = omega arith in
    ap (bytes_from m place) left

no_byte_left : (m : MachineState) (count i place : ℕ) → count ≤ i → bytes_from m place (count - i) ≡ []
unfolding bytes_from
no_byte_left m count i place ended =
    let left : count - i ≡ 0 = omega arith in
    ap (bytes_from m place) left

-- a byte at an address
byte_is : (m : MachineState) (place : ℕ) → place < 65536 → byte_after m place 0 ≡ peeked m.processor.memory place
byte_is m place small =
    let same : (place + 0) % 65536 ≡ place = omega arith in
    ap (peeked m.processor.memory) same

pub byte_told : (m : MachineState) (count i place here byte : ℕ) (text all : List ℕ) → i < count → place < 65536 → here ≡ (place + 1) % 65536
    → byte ≡ peeked m.processor.memory place → text ++ bytes_from m place (count - i) ≡ all
    → ((text ++ codes " ") ++ byte_text byte) ++ bytes_from m here (count - (i + 1)) ≡ all
byte_told m count i place here byte text all below small next is so_far =
    let rest = bytes_from m here (count - (i + 1)) in
    append_assoc (text ++ codes " ") (byte_text byte) rest
    ∙ append_assoc text (codes " ") (byte_text byte ++ rest)
    ∙ ap (λ (b : ℕ). text ++ (codes " " ++ (byte_text b ++ rest))) (is ∙ sym (byte_is m place small))
    ∙ ap (λ (h : ℕ). text ++ (codes " " ++ (byte_text (byte_after m place 0) ++ bytes_from m h (count - (i + 1))))) next
    ∙ ap (λ (t : List ℕ). text ++ t) (sym (next_byte m count i place below))
    ∙ so_far

pub bytes_told : (m : MachineState) (count i place address : ℕ) (text : List ℕ) → count ≤ i
    → text ++ bytes_from m place (count - i) ≡ word_text address ++ bytes_from m address count
    → text ++ codes "\n" ≡ memory_line m address count
bytes_told m count i place address text ended so_far =
    let whole : text ≡ word_text address ++ bytes_from m address count =
    sym (append-nil text) ∙ ap (λ (t : List ℕ). text ++ t) (sym (no_byte_left m count i place ended)) ∙ so_far in
    ap (λ (t : List ℕ). t ++ codes "\n") whole ∙ append_assoc (word_text address) (bytes_from m address count) (codes "\n")

-- what is left begins with the next line
pub next_full : (m : MachineState) (count i place here : ℕ) → i < count → here ≡ (place + 16) % 65536
    → full_lines m place (count - i) ≡ memory_line m place 16 ++ full_lines m here (count - (i + 1))
unfolding full_lines
next_full m count i place here below next =
    let left : count - i ≡ suc (count - (i + 1)) = omega arith in
    ap (full_lines m place) left ∙ ap (λ (h : ℕ). memory_line m place 16 ++ full_lines m h (count - (i + 1))) (sym next)

pub no_full_left : (m : MachineState) (count i place : ℕ) → count ≤ i → full_lines m place (count - i) ≡ []
unfolding full_lines
no_full_left m count i place ended =
    let left : count - i ≡ 0 = omega arith in
    ap (full_lines m place) left

-- three characters a byte
pub byte_adds : (text : List ℕ) (byte : ℕ) → length ((text ++ codes " ") ++ byte_text byte) ≡ length text + 3
byte_adds text byte = let one = length-append text (codes " ") in let two = length-append (text ++ codes " ") (byte_text byte) in omega (arith, one, two)

pub none_told : (m : MachineState) (address count : ℕ) (old : Option (List ℕ)) → IsWrittenBut (full_lines m address (count - 0)) (full_lines m address count) old old
none_told m address count old =
    let all : count - 0 ≡ count = omega arith in
    subst (λ (n : ℕ). IsWrittenBut (full_lines m address n) (full_lines m address count) old old) (sym all) (none_written (full_lines m address count) old)

-- no byte is left for a shorter line, or some are
pub memory_whole : (m : MachineState) (address count : ℕ) → count % 16 ≡ 0 → full_lines m address (count / 16) ≡ memory_text m address count
memory_whole m address count none =
    let test : (count % 16 == 0) ≡ true = grind (arith, nat_tests) in
    sym (append-nil (full_lines m address (count / 16))) ∙ ap (λ (b : Bool). full_lines m address (count / 16) ++ rest b) (sym test)
  where
    rest : Bool → List ℕ
    rest b = if b then [] else memory_line m ((address + count / 16 * 16) % 65536) (count % 16)

pub memory_rest : (m : MachineState) (address count place : ℕ) → (count % 16 ≡ 0 → ⊥) → place ≡ (address + count / 16 * 16) % 65536
    → full_lines m address (count / 16) ++ memory_line m place (count % 16) ≡ memory_text m address count
memory_rest m address count place some is =
    let test : (count % 16 == 0) ≡ false = grind (arith, nat_tests) in
    ap (λ (p : ℕ). full_lines m address (count / 16) ++ memory_line m p (count % 16)) is ∙ ap (λ (b : Bool). full_lines m address (count / 16) ++ rest b) (sym test)
  where
    rest : Bool → List ℕ
    rest b = if b then [] else memory_line m ((address + count / 16 * 16) % 65536) (count % 16)

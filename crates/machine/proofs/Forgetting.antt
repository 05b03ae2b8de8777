-- Laps that depend on neither A nor the flags before them.
use Rattle.std.proofs.Common.{◌≡◌, ◌∙◌, ℕ, Bool, true, false, Option, Some, None, refl, sym, ap}
use Rattle.std.specs.Prelude.{not}
use Rattle.sm83_alu.specs.declared.register_file.Flags.{Flags}
use Rattle.sm83_alu.specs.declared.register_file.Registers.{Registers}
use Rattle.opcode_table.specs.declared.instruction.Operation.{Operation}
use Rattle.opcode_table.specs.declared.instruction.Operation.TheVariants as operation
use Rattle.sm83_processor.specs.RegisterOperations.{operated}
use Rattle.machine.specs.declared.polling_loop.Source.{Source}
use Rattle.machine.specs.declared.polling_loop.Source.TheVariants as source
use Rattle.machine.specs.declared.polling_loop.Look.{Look}
use Rattle.machine.specs.declared.polling_loop.Look.TheVariants.{Byte, Register, Bit}
use Rattle.machine.specs.declared.polling_loop.Poll.{Poll}
use Rattle.machine.specs.PollingLoop.{look_of, beyond, source_value, looked_by, looked, looked_again, loaded, asked, jumped, lap, uses_carry, forgets}

not_true : (b : Bool) → not b ≡ true → b ≡ false
not_true true e = cc
not_true false e = refl

operated_forgets : (o : Operation) (n : ℕ) (f : Flags) (r : Registers) → uses_carry o ≡ false → operated o n (record r { flags = f }) ≡ operated o n r
operated_forgets operation.Add n f r e = refl
operated_forgets operation.AddCarry n f r e = cc
operated_forgets operation.Subtract n f r e = refl
operated_forgets operation.SubtractCarry n f r e = cc
operated_forgets operation.And n f r e = refl
operated_forgets operation.Xor n f r e = refl
operated_forgets operation.Or n f r e = refl
operated_forgets operation.Compare n f r e = refl

source_forgets : (s : Source) (f : Flags) (r : Registers) → source_value s (record r { flags = f }) ≡ source_value s r
source_forgets source.B f r = refl
source_forgets source.C f r = refl
source_forgets source.D f r = refl
source_forgets source.E f r = refl
source_forgets source.H f r = refl
source_forgets source.L f r = refl
source_forgets source.A f r = refl

look_forgets : (l : Look) (f : Flags) (r : Registers) → forgets l ≡ true → looked_by l (record r { flags = f }) ≡ looked_by l r
look_forgets (Byte o n) f r e = operated_forgets o n f r (not_true (uses_carry o) e)
look_forgets (Register o s) f r e =
    ap (λ (n : ℕ). operated o n (record r { flags = f })) (source_forgets s f r) ∙ operated_forgets o (source_value s r) f r (not_true (uses_carry o) e)
look_forgets (Bit n) f r e = cc

-- t has other values of A, the flags and PC alone
abbrev IsAlike : Registers → Registers → Type 0
IsAlike r t = t ≡ record r { a = t.a; flags = t.flags; pc = t.pc }

alike_then : (r s t : Registers) → IsAlike r s → IsAlike s t → IsAlike r t
alike_then r s t e f = f ∙ ap (λ (x : Registers). record x { a = t.a; flags = t.flags; pc = t.pc }) e

operated_alike : (o : Operation) (n : ℕ) (r : Registers) → IsAlike r (operated o n r)
operated_alike operation.Add n r = refl
operated_alike operation.AddCarry n r = refl
operated_alike operation.Subtract n r = refl
operated_alike operation.SubtractCarry n r = refl
operated_alike operation.And n r = refl
operated_alike operation.Xor n r = refl
operated_alike operation.Or n r = refl
operated_alike operation.Compare n r = refl

looked_by_alike : (l : Look) (r : Registers) → IsAlike r (looked_by l r)
looked_by_alike (Byte o n) r = operated_alike o n r
looked_by_alike (Register o s) r = operated_alike o (source_value s r) r
looked_by_alike (Bit n) r = refl

looked_alike : (l : Look) (r : Registers) → IsAlike r (looked l r)
looked_alike l r = let s : Registers = record r { pc = beyond (look_of l) r.pc } in alike_then r s (looked l r) refl (looked_by_alike l s)

again_alike : (l : Option Look) (r : Registers) → IsAlike r (looked_again l r)
again_alike None r = refl
again_alike (Some l) r = looked_alike l r

lap_alike : (p : Poll) (v : ℕ) (r : Registers) → IsAlike r (lap p v r)
lap_alike p v r =
    let one = loaded p.load v r in
    let two = looked p.first one in
    let three = asked p v r in
    alike_then r three (lap p v r)
    (alike_then r two three (alike_then r one two refl (looked_alike p.first one)) (again_alike p.rest.second two)) refl

-- the lap after a lap of the same byte is the same
pub same_again : (p : Poll) (v : ℕ) (r t : Registers) → t ≡ lap p v r → t.pc ≡ r.pc → forgets p.first ≡ true → lap p v t ≡ t
same_again p v r t e back sure =
    let made = lap p v r in
    let there : made.pc ≡ r.pc = sym (ap (λ (x : Registers). x.pc) e) ∙ back in
    let near : t ≡ record r { a = made.a; flags = made.flags } =
    e ∙ lap_alike p v r ∙ ap (λ (pc : ℕ). record r { a = made.a; flags = made.flags; pc = pc }) there in
    let s : Registers = record (loaded p.load v r) { pc = beyond (look_of p.first) (loaded p.load v r).pc } in
    ap (lap p v) near
    ∙ ap (λ (x : Registers). jumped p.rest.jump (looked_again p.rest.second x)) (look_forgets p.first made.flags s sure)
    ∙ sym e

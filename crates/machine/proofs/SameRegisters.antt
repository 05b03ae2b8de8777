-- Registers and states whose parts are all the same.
use Rattle.std.proofs.Common.{◌≡◌, ◌∙◌, ℕ, Bool, true, false, refl, ap}
use Rattle.std.specs.Prelude.{◌&&◌, ◌==◌}
use Rattle.std.specs.Bool.{beq}
use Rattle.std.proofs.lemmas.Bool.{and_parts, eqb-true}
use Rattle.sm83_alu.specs.declared.register_file.Flags.{Flags}
use Rattle.sm83_alu.specs.declared.register_file.Registers.{Registers}
use Rattle.sm83_processor.specs.declared.processor.ProcessorState.{ProcessorState}

same_bool : (a b : Bool) → beq a b ≡ true → a ≡ b
same_bool true true e = refl
same_bool true false e = cc
same_bool false true e = cc
same_bool false false e = refl

abbrev pub have_same_flags : Flags → Flags → Bool
have_same_flags x y = beq x.zero y.zero && (beq x.subtract y.subtract && (beq x.half_carry y.half_carry && beq x.carry y.carry))

abbrev pub are_same_registers : Registers → Registers → Bool
are_same_registers x y =
    x.a == y.a && (have_same_flags x.flags y.flags && (x.b == y.b && (x.c == y.c && (x.d == y.d && (x.e == y.e && (x.h == y.h && (x.l == y.l && (x.sp == y.sp && x.pc == y.pc))))))))

abbrev pub are_same_states : ProcessorState → ProcessorState → Bool
are_same_states x y =
    beq x.ime y.ime && (beq x.ime_pending y.ime_pending && (beq x.halted y.halted && (beq x.stopped y.stopped && (beq x.locked y.locked && beq x.halt_bug y.halt_bug))))

same_flags : (x y : Flags) → have_same_flags x y ≡ true → x ≡ y
same_flags x y e =
    let zero = and_parts (beq x.zero y.zero) _ e in
    let subtract = and_parts (beq x.subtract y.subtract) _ zero.1 in
    let half_carry = and_parts (beq x.half_carry y.half_carry) _ subtract.1 in
    ap (λ (b : Bool). record x { zero = b }) (same_bool x.zero y.zero zero.0)
    ∙ ap (λ (b : Bool). record x { zero = y.zero; subtract = b }) (same_bool x.subtract y.subtract subtract.0)
    ∙ ap (λ (b : Bool). record y { half_carry = b; carry = x.carry }) (same_bool x.half_carry y.half_carry half_carry.0)
    ∙ ap (λ (b : Bool). record y { carry = b }) (same_bool x.carry y.carry half_carry.1)

pub same_registers : (x y : Registers) → are_same_registers x y ≡ true → x ≡ y
same_registers x y e =
    let a = and_parts (x.a == y.a) _ e in
    let flags = and_parts (have_same_flags x.flags y.flags) _ a.1 in
    let b = and_parts (x.b == y.b) _ flags.1 in
    let c = and_parts (x.c == y.c) _ b.1 in
    let d = and_parts (x.d == y.d) _ c.1 in
    let e = and_parts (x.e == y.e) _ d.1 in
    let h = and_parts (x.h == y.h) _ e.1 in
    let l = and_parts (x.l == y.l) _ h.1 in
    let sp = and_parts (x.sp == y.sp) _ l.1 in
    ap (λ (n : ℕ). record x { a = n }) (eqb-true x.a y.a a.0)
    ∙ ap (λ (f : Flags). record x { a = y.a; flags = f }) (same_flags x.flags y.flags flags.0)
    ∙ ap (λ (n : ℕ). record x { a = y.a; flags = y.flags; b = n }) (eqb-true x.b y.b b.0)
    ∙ ap (λ (n : ℕ). record x { a = y.a; flags = y.flags; b = y.b; c = n }) (eqb-true x.c y.c c.0)
    ∙ ap (λ (n : ℕ). record x { a = y.a; flags = y.flags; b = y.b; c = y.c; d = n }) (eqb-true x.d y.d d.0)
    ∙ ap (λ (n : ℕ). record y { e = n; h = x.h; l = x.l; sp = x.sp; pc = x.pc }) (eqb-true x.e y.e e.0)
    ∙ ap (λ (n : ℕ). record y { h = n; l = x.l; sp = x.sp; pc = x.pc }) (eqb-true x.h y.h h.0)
    ∙ ap (λ (n : ℕ). record y { l = n; sp = x.sp; pc = x.pc }) (eqb-true x.l y.l l.0)
    ∙ ap (λ (n : ℕ). record y { sp = n; pc = x.pc }) (eqb-true x.sp y.sp sp.0)
    ∙ ap (λ (n : ℕ). record y { pc = n }) (eqb-true x.pc y.pc sp.1)

pub same_states : (x y : ProcessorState) → are_same_states x y ≡ true → x ≡ y
same_states x y e =
    let ime = and_parts (beq x.ime y.ime) _ e in
    let ime_pending = and_parts (beq x.ime_pending y.ime_pending) _ ime.1 in
    let halted = and_parts (beq x.halted y.halted) _ ime_pending.1 in
    let stopped = and_parts (beq x.stopped y.stopped) _ halted.1 in
    let locked = and_parts (beq x.locked y.locked) _ stopped.1 in
    ap (λ (b : Bool). record x { ime = b }) (same_bool x.ime y.ime ime.0)
    ∙ ap (λ (b : Bool). record x { ime = y.ime; ime_pending = b }) (same_bool x.ime_pending y.ime_pending ime_pending.0)
    ∙ ap (λ (b : Bool). record x { ime = y.ime; ime_pending = y.ime_pending; halted = b }) (same_bool x.halted y.halted halted.0)
    ∙ ap (λ (b : Bool). record y { stopped = b; locked = x.locked; halt_bug = x.halt_bug }) (same_bool x.stopped y.stopped stopped.0)
    ∙ ap (λ (b : Bool). record y { locked = b; halt_bug = x.halt_bug }) (same_bool x.locked y.locked locked.0)
    ∙ ap (λ (b : Bool). record y { halt_bug = b }) (same_bool x.halt_bug y.halt_bug locked.1)

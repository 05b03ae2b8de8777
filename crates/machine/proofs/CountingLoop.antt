-- Laps of a loop that counts a register down, many at once, within a frame.
use Rattle.std.proofs.Common.{◌≡◌, ◌∙◌, ℕ, zero, suc, ◌+◌, ◌-◌, ◌*◌, ◌%◌, ◌<◌, ◌≤◌, Bool, true, false, refl, sym, ap, subst, arith}
use Rattle.std.specs.Prelude.{not, ◌==◌}
use Rattle.std.specs.Fn.{iterate}
use Rattle.std.proofs.lemmas.Bool.Decides.{nat_tests}
use Rattle.sm83_alu.specs.Arithmetic.{decrement_of}
use Rattle.sm83_alu.specs.declared.register_file.Registers.{Registers}
use Rattle.opcode_table.specs.declared.instruction.Condition.TheVariants.{NotZero}
use Rattle.opcode_table.specs.declared.instruction.Instr.{Instr}
use Rattle.opcode_table.specs.declared.instruction.Instr.TheVariants as instr
use Rattle.memory_map.specs.State.{BusState}
use Rattle.memory_map.specs.BusRules.{bus_rules}
use Rattle.memory_map.specs.Ticks.{tick}
use Rattle.memory_map.specs.Quiet.{IsCalm}
use Rattle.sm83_processor.specs.FastStep.{IsUsual}
use Rattle.sm83_processor.specs.declared.processor.Processor.{Processor}
use Rattle.machine.specs.Machine.{steps_until}
use Rattle.machine.specs.declared.polling_loop.Source.{Source}
use Rattle.machine.specs.declared.polling_loop.Source.TheVariants as source
use Rattle.machine.specs.declared.polling_loop.Jump.{Jump}
use Rattle.machine.specs.PollingLoop.{IsInstruction, beyond, source_value, jumped}
use Rattle.machine.specs.CountingLoop.{decrement_by, back_by_three, IsCount, with_source, counted_to}
use Rattle.machine.proofs.PollingLoop as polling
use Rattle.machine.proofs.PollingLoop.{with_pc}

-- DEC, with PC after it already
abbrev down : Source → Registers → Registers
down s r = let o = decrement_of (source_value s r) r.flags in with_source s o.value (record r { flags = o.flags })

-- what a lap changes
abbrev changed : Source → (n : ℕ) → (is_zero half_carry : Bool) → (pc : ℕ) → Registers → Registers
changed s n is_zero half_carry pc r = with_source s n (record r { pc = pc; flags = record r.flags { zero = is_zero; subtract = true; half_carry = half_carry } })

abbrev back : Jump
back = record { condition = NotZero; offset = 0xFD }

lap_changes : (s : Source) (r : Registers)
    → jumped back (down s (with_pc (beyond (decrement_by s) r.pc) r))
    ≡ changed s ((source_value s r + (256 - 1)) % 256) ((source_value s r + (256 - 1)) % 256 == 0) (source_value s r % 16 == 0) ((((r.pc + 1) % 65536 + 2) % 65536 + 65533) % 65536) r
lap_changes source.B r = refl
lap_changes source.C r = refl
lap_changes source.D r = refl
lap_changes source.E r = refl
lap_changes source.H r = refl
lap_changes source.L r = refl
lap_changes source.A r = refl

count_changes : (s : Source) (n : ℕ) (r : Registers) → counted_to s n r ≡ changed s n false ((n + 1) % 16 == 0) r.pc r
count_changes source.B n r = refl
count_changes source.C n r = refl
count_changes source.D n r = refl
count_changes source.E n r = refl
count_changes source.H n r = refl
count_changes source.L n r = refl
count_changes source.A n r = refl

-- one lap counts by one
lap_counts : (s : Source) (n : ℕ) (r : Registers) → source_value s r ≡ suc n → 0 < n → n < 255 → r.pc < 65536
    → jumped back (down s (with_pc (beyond (decrement_by s) r.pc) r)) ≡ counted_to s n r
lap_counts s n r value some few within =
    let x = source_value s r in
    let y = (x + (256 - 1)) % 256 in
    let number : y ≡ n = omega (arith, value) in
    let none : (y == 0) ≡ false = grind (arith, nat_tests, number) in
    let half : (x % 16 == 0) ≡ ((n + 1) % 16 == 0) = ap (λ (k : ℕ). k % 16 == 0) (let e : x ≡ n + 1 = omega (arith, value) in e) in
    let there : (((r.pc + 1) % 65536 + 2) % 65536 + 65533) % 65536 ≡ r.pc = omega arith in
    lap_changes s r
    ∙ ap (λ (k : ℕ). changed s k (y == 0) (x % 16 == 0) ((((r.pc + 1) % 65536 + 2) % 65536 + 65533) % 65536) r) number
    ∙ ap (λ (b : Bool). changed s n b (x % 16 == 0) ((((r.pc + 1) % 65536 + 2) % 65536 + 65533) % 65536) r) none
    ∙ ap (λ (b : Bool). changed s n false b ((((r.pc + 1) % 65536 + 2) % 65536 + 65533) % 65536) r) half
    ∙ ap (λ (pc : ℕ). changed s n false ((n + 1) % 16 == 0) pc r) there
    ∙ sym (count_changes s n r)

value_counted : (s : Source) (n : ℕ) (r : Registers) → source_value s (counted_to s n r) ≡ n
value_counted source.B n r = refl
value_counted source.C n r = refl
value_counted source.D n r = refl
value_counted source.E n r = refl
value_counted source.H n r = refl
value_counted source.L n r = refl
value_counted source.A n r = refl

pc_counted : (s : Source) (n : ℕ) (r : Registers) → (counted_to s n r).pc ≡ r.pc
pc_counted source.B n r = refl
pc_counted source.C n r = refl
pc_counted source.D n r = refl
pc_counted source.E n r = refl
pc_counted source.H n r = refl
pc_counted source.L n r = refl
pc_counted source.A n r = refl

counted_again : (s : Source) (m n : ℕ) (r : Registers) → counted_to s m (counted_to s n r) ≡ counted_to s m r
counted_again source.B m n r = refl
counted_again source.C m n r = refl
counted_again source.D m n r = refl
counted_again source.E m n r = refl
counted_again source.H m n r = refl
counted_again source.L m n r = refl
counted_again source.A m n r = refl

down_pc : (s : Source) (pc : ℕ) (r : Registers) → (down s (with_pc pc r)).pc ≡ pc
down_pc source.B pc r = refl
down_pc source.C pc r = refl
down_pc source.D pc r = refl
down_pc source.E pc r = refl
down_pc source.H pc r = refl
down_pc source.L pc r = refl
down_pc source.A pc r = refl

down_zero : (s : Source) (pc : ℕ) (r : Registers) → (down s (with_pc pc r)).flags.zero ≡ ((source_value s r + (256 - 1)) % 256 == 0)
down_zero source.B pc r = refl
down_zero source.C pc r = refl
down_zero source.D pc r = refl
down_zero source.E pc r = refl
down_zero source.H pc r = refl
down_zero source.L pc r = refl
down_zero source.A pc r = refl

module _ (passed calm : ℕ) (p : Processor BusState) (within : passed + calm ≤ 17556) (usual : IsUsual p.state) (known : IsCalm calm p.memory) where
  down_leads : (s : Source) (k : ℕ) (r : Registers) → k < calm → IsInstruction (decrement_by s) p.memory r.pc
      → polling.Leads passed calm p within usual known k r 1 (down s (with_pc (beyond (decrement_by s) r.pc) r))
  down_leads source.B k r below here = polling.step_leads passed calm p within usual known (decrement_by source.B) k 1 r _ below here refl refl
  down_leads source.C k r below here = polling.step_leads passed calm p within usual known (decrement_by source.C) k 1 r _ below here refl refl
  down_leads source.D k r below here = polling.step_leads passed calm p within usual known (decrement_by source.D) k 1 r _ below here refl refl
  down_leads source.E k r below here = polling.step_leads passed calm p within usual known (decrement_by source.E) k 1 r _ below here refl refl
  down_leads source.H k r below here = polling.step_leads passed calm p within usual known (decrement_by source.H) k 1 r _ below here refl refl
  down_leads source.L k r below here = polling.step_leads passed calm p within usual known (decrement_by source.L) k 1 r _ below here refl refl
  down_leads source.A k r below here = polling.step_leads passed calm p within usual known (decrement_by source.A) k 1 r _ below here refl refl

  lap_leads : (s : Source) (k n : ℕ) (r : Registers) → k + 4 ≤ calm → IsCount s p.memory r.pc → r.pc < 65536 → source_value s r ≡ suc n → 0 < n → n < 255
      → polling.Leads passed calm p within usual known k r 4 (counted_to s n r)
  lap_leads s k n r le is in_range value some few =
      let pc = beyond (decrement_by s) r.pc in
      let t = down s (with_pc pc r) in
      let number : (source_value s r + (256 - 1)) % 256 ≡ n = omega (arith, value) in
      let none : ((source_value s r + (256 - 1)) % 256 == 0) ≡ false = grind (arith, nat_tests, number) in
      let taken : not t.flags.zero ≡ true = ap not (down_zero s pc r ∙ none) in
      ap (polling.reached passed calm p within usual known (k + 4)) (sym (lap_counts s n r value some few in_range))
      ∙ polling.leads_on passed calm p within usual known k 1 3 r t (jumped back t)
      (down_leads s k r (omega (arith, le)) is.decrement)
      (polling.jump_leads passed calm p within usual known back (k + 1) t (omega (arith, le)) (subst (IsInstruction back_by_three p.memory) (sym (down_pc s pc r)) is.jump) taken)

  laps_lead : (i n : ℕ) (s : Source) (r : Registers) → 4 * suc i ≤ calm → IsCount s p.memory r.pc → r.pc < 65536 → source_value s r ≡ n + suc i → 0 < n → n + suc i < 256
      → polling.reached passed calm p within usual known (4 * suc i) (counted_to s n r) ≡ polling.reached passed calm p within usual known 0 r
  laps_lead zero n s r le is in_range value some few =
      let one : source_value s r ≡ suc n = omega (arith, value) in
      lap_leads s 0 n r (omega (arith, le)) is in_range one some (omega (arith, few))
  laps_lead (suc i) n s r le is in_range value some few =
      let k = 4 * suc i in
      let t = counted_to s (suc n) r in
      let more : 4 * suc (suc i) ≡ k + 4 = omega arith in
      let rest : source_value s r ≡ suc n + suc i = omega (arith, value) in
      let there = pc_counted s (suc n) r in
      ap (λ (m : ℕ). polling.reached passed calm p within usual known m (counted_to s n r)) more
      ∙ ap (polling.reached passed calm p within usual known (k + 4)) (sym (counted_again s n (suc n) r))
      ∙ lap_leads s k n t (omega (arith, le, more)) (subst (IsCount s p.memory) (sym there) is) (subst (λ (pc : ℕ). pc < 65536) (sym there) in_range) (value_counted s (suc n) r) some (omega (arith, few))
      ∙ laps_lead i (suc n) s r (omega (arith, le)) is in_range rest (omega arith) (omega (arith, few))

  pub counts_pass : (laps n cycles : ℕ) (s : Source) (b : BusState) → 0 < laps → cycles ≡ 4 * laps → cycles < calm → IsCount s p.memory p.registers.pc → p.registers.pc < 65536
      → source_value s p.registers ≡ n + laps → 0 < n → n + laps < 256 → b ≡ iterate tick cycles p.memory
      → steps_until bus_rules 17556 (passed + cycles) (record p { registers = counted_to s n p.registers; memory = b }) ≡ steps_until bus_rules 17556 passed p
  counts_pass zero n cycles s b pos count below is in_range value some few after = absurd (omega (arith, pos))
  counts_pass (suc i) n cycles s b pos count below is in_range value some few after =
      let start : passed + 0 ≡ passed = omega arith in
      ap (λ (c : BusState). steps_until bus_rules 17556 (passed + cycles) (record p { registers = counted_to s n p.registers; memory = c })) after
      ∙ ap (λ (k : ℕ). polling.reached passed calm p within usual known k (counted_to s n p.registers)) count
      ∙ laps_lead i n s p.registers (omega (arith, count, below)) is in_range value some few
      ∙ ap (λ (k : ℕ). steps_until bus_rules 17556 k p) start

-- ---- what is found

-- Laps of a loop that counts a pair of registers down, many at once, within a frame.
use Rattle.std.proofs.Common.{◌≡◌, ◌∙◌, ℕ, zero, suc, ◌+◌, ◌*◌, ◌/◌, ◌%◌, ◌<◌, ◌≤◌, Bool, true, false, refl, sym, ap, subst, arith}
use Rattle.std.specs.Prelude.{not, ◌==◌, bit_or}
use Rattle.std.specs.Fn.{iterate}
use Rattle.std.proofs.lemmas.Nat.{le_or_l, le_or_r}
use Rattle.std.proofs.lemmas.Bool.Decides.{nat_tests}
use Rattle.sm83_alu.specs.Arithmetic.{previous_word}
use Rattle.sm83_alu.specs.declared.register_file.Flags.{Flags}
use Rattle.sm83_alu.specs.declared.register_file.Registers.{Registers}
use Rattle.opcode_table.specs.declared.instruction.Condition.TheVariants.{NotZero}
use Rattle.opcode_table.specs.declared.instruction.Operation.TheVariants.{Or}
use Rattle.memory_map.specs.State.{BusState}
use Rattle.memory_map.specs.BusRules.{bus_rules}
use Rattle.memory_map.specs.Ticks.{tick}
use Rattle.memory_map.specs.Quiet.{IsCalm}
use Rattle.sm83_processor.specs.FastStep.{IsUsual}
use Rattle.sm83_processor.specs.declared.processor.Processor.{Processor}
use Rattle.machine.specs.Machine.{steps_until}
use Rattle.machine.specs.declared.polling_loop.Source.{Source}
use Rattle.machine.specs.declared.polling_loop.Source.TheVariants as source
use Rattle.machine.specs.declared.polling_loop.Look.TheVariants.{Register}
use Rattle.machine.specs.declared.polling_loop.Jump.{Jump}
use Rattle.machine.specs.declared.counting_loop.Pair.{Pair}
use Rattle.machine.specs.declared.counting_loop.Pair.TheVariants as pair
use Rattle.machine.specs.declared.counting_loop.WordCount.{WordCount}
use Rattle.machine.specs.PollingLoop.{IsInstruction, source_value, looked, jumped}
use Rattle.machine.specs.CountingLoop.{first_of, second_of, decrement_pair, load_a, or_a, back_by_five, IsWordCount, word_value, with_word, joined, word_counted_to}
use Rattle.machine.proofs.PollingLoop as polling
use Rattle.machine.proofs.PollingLoop.{with_pc}

abbrev after_one : ℕ → ℕ
after_one pc = (pc + 1) % 65536

abbrev back : Jump
back = record { condition = NotZero; offset = 0xFB }

-- the registers after DEC, after LD and after OR
abbrev one : Pair → Registers → Registers
one p r = with_word p (previous_word (word_value p (with_pc (after_one r.pc) r))) (with_pc (after_one r.pc) r)

abbrev loaded_by : Source → Registers → Registers
loaded_by s r = record r { pc = after_one r.pc; a = source_value s (with_pc (after_one r.pc) r) }

abbrev two : Bool → Pair → Registers → Registers
two h p r = loaded_by (first_of h p) (one p r)

abbrev three : Bool → Pair → Registers → Registers
three h p r = looked (Register Or (second_of h p)) (two h p r)

-- what a lap changes
abbrev changed : Bool → Pair → (n : ℕ) → (is_zero : Bool) → (pc : ℕ) → Registers → Registers
changed h p n is_zero pc r = record (with_word p n r) { pc = pc; a = joined h n; flags = record { zero = is_zero; subtract = false; half_carry = false; carry = false } }

abbrev behind : ℕ → ℕ
behind pc = ((after_one (after_one (after_one pc)) + 2) % 65536 + 65531) % 65536

lap_changes : (h : Bool) (p : Pair) (r : Registers)
    → jumped back (three h p r) ≡ changed h p (previous_word (word_value p r)) (joined h (previous_word (word_value p r)) == 0) (behind r.pc) r
lap_changes true pair.Bc r = refl
lap_changes true pair.De r = refl
lap_changes true pair.Hl r = refl
lap_changes false pair.Bc r = refl
lap_changes false pair.De r = refl
lap_changes false pair.Hl r = refl

count_keeps_pc : (p : Pair) (n a : ℕ) (f : Flags) (r : Registers) → record (with_word p n r) { a = a; flags = f } ≡ record (with_word p n r) { pc = r.pc; a = a; flags = f }
count_keeps_pc pair.Bc n a f r = refl
count_keeps_pc pair.De n a f r = refl
count_keeps_pc pair.Hl n a f r = refl

abbrev no_flags : Flags
no_flags = record { zero = false; subtract = false; half_carry = false; carry = false }

count_changes : (w : WordCount) (n : ℕ) (r : Registers) → word_counted_to w n r ≡ changed w.is_high_first w.pair n false r.pc r
count_changes w n r = count_keeps_pc w.pair n (joined w.is_high_first n) no_flags r

joined_some : (h : Bool) (n : ℕ) → 0 < n → (joined h n == 0) ≡ false
joined_some true n some =
    let l = le_or_l (n / 256) (n % 256) in
    let r = le_or_r (n / 256) (n % 256) in
    let more : 0 < bit_or (n / 256) (n % 256) = omega (arith, l, r) in
    grind (arith, nat_tests, more)
joined_some false n some =
    let l = le_or_l (n % 256) (n / 256) in
    let r = le_or_r (n % 256) (n / 256) in
    let more : 0 < bit_or (n % 256) (n / 256) = omega (arith, l, r) in
    grind (arith, nat_tests, more)

-- one lap counts by one
lap_counts : (w : WordCount) (n : ℕ) (r : Registers) → word_value w.pair r ≡ suc n → 0 < n → n < 65535 → r.pc < 65536
    → jumped back (three w.is_high_first w.pair r) ≡ word_counted_to w n r
lap_counts w n r value some few within =
    let h = w.is_high_first in
    let p = w.pair in
    let m = previous_word (word_value p r) in
    let number : m ≡ n = omega (arith, value) in
    let there : behind r.pc ≡ r.pc = omega arith in
    lap_changes h p r
    ∙ ap (λ (k : ℕ). changed h p k (joined h k == 0) (behind r.pc) r) number
    ∙ ap (λ (b : Bool). changed h p n b (behind r.pc) r) (joined_some h n some)
    ∙ ap (λ (pc : ℕ). changed h p n false pc r) there
    ∙ sym (count_changes w n r)

value_of : (p : Pair) (n : ℕ) (r : Registers) → word_value p (with_word p n r) ≡ n
value_of pair.Bc n r = omega arith
value_of pair.De n r = omega arith
value_of pair.Hl n r = omega arith

value_kept : (h : Bool) (p : Pair) (n a : ℕ) (r : Registers) → word_value p (record r { a = a; flags = (changed h p n false 0 r).flags }) ≡ word_value p r
value_kept h pair.Bc n a r = refl
value_kept h pair.De n a r = refl
value_kept h pair.Hl n a r = refl

value_counted : (w : WordCount) (n : ℕ) (r : Registers) → word_value w.pair (word_counted_to w n r) ≡ n
value_counted w n r = value_kept w.is_high_first w.pair n (joined w.is_high_first n) (with_word w.pair n r) ∙ value_of w.pair n r

pc_of : (p : Pair) (n : ℕ) (r : Registers) → (with_word p n r).pc ≡ r.pc
pc_of pair.Bc n r = refl
pc_of pair.De n r = refl
pc_of pair.Hl n r = refl

pc_counted : (w : WordCount) (n : ℕ) (r : Registers) → (word_counted_to w n r).pc ≡ r.pc
pc_counted w n r = pc_of w.pair n r

again_of : (h : Bool) (p : Pair) (m n : ℕ) (r : Registers) → changed h p m false r.pc (changed h p n false r.pc r) ≡ changed h p m false r.pc r
again_of h pair.Bc m n r = refl
again_of h pair.De m n r = refl
again_of h pair.Hl m n r = refl

counted_again : (w : WordCount) (m n : ℕ) (r : Registers) → word_counted_to w m (word_counted_to w n r) ≡ word_counted_to w m r
counted_again w m n r =
    let h = w.is_high_first in
    let p = w.pair in
    let t = word_counted_to w n r in
    count_changes w m t
    ∙ ap (λ (pc : ℕ). changed h p m false pc t) (pc_counted w n r)
    ∙ ap (changed h p m false r.pc) (count_changes w n r)
    ∙ again_of h p m n r ∙ sym (count_changes w m r)

module _ (passed calm : ℕ) (p : Processor BusState) (within : passed + calm ≤ 17556) (usual : IsUsual p.state) (known : IsCalm calm p.memory) where
  abbrev Leads : ℕ → Registers → ℕ → Registers → Type 0
  Leads k r n t = polling.Leads passed calm p within usual known k r n t

  down_leads : (q : Pair) (k : ℕ) (r : Registers) → k < calm → IsInstruction (decrement_pair q) p.memory r.pc → Leads k r 2 (one q r)
  down_leads pair.Bc k r below here = polling.step_leads passed calm p within usual known (decrement_pair pair.Bc) k 2 r (one pair.Bc r) below here refl refl
  down_leads pair.De k r below here = polling.step_leads passed calm p within usual known (decrement_pair pair.De) k 2 r (one pair.De r) below here refl refl
  down_leads pair.Hl k r below here = polling.step_leads passed calm p within usual known (decrement_pair pair.Hl) k 2 r (one pair.Hl r) below here refl refl

  load_leads : (s : Source) (k : ℕ) (r : Registers) → k < calm → IsInstruction (load_a s) p.memory r.pc → Leads k r 1 (loaded_by s r)
  load_leads source.B k r below here = polling.step_leads passed calm p within usual known (load_a source.B) k 1 r (loaded_by source.B r) below here refl refl
  load_leads source.C k r below here = polling.step_leads passed calm p within usual known (load_a source.C) k 1 r (loaded_by source.C r) below here refl refl
  load_leads source.D k r below here = polling.step_leads passed calm p within usual known (load_a source.D) k 1 r (loaded_by source.D r) below here refl refl
  load_leads source.E k r below here = polling.step_leads passed calm p within usual known (load_a source.E) k 1 r (loaded_by source.E r) below here refl refl
  load_leads source.H k r below here = polling.step_leads passed calm p within usual known (load_a source.H) k 1 r (loaded_by source.H r) below here refl refl
  load_leads source.L k r below here = polling.step_leads passed calm p within usual known (load_a source.L) k 1 r (loaded_by source.L r) below here refl refl
  load_leads source.A k r below here = polling.step_leads passed calm p within usual known (load_a source.A) k 1 r (loaded_by source.A r) below here refl refl

  lap_leads : (w : WordCount) (k n : ℕ) (r : Registers) → k + 7 ≤ calm → IsWordCount w p.memory r.pc → r.pc < 65536 → word_value w.pair r ≡ suc n → 0 < n → n < 65535
      → Leads k r 7 (word_counted_to w n r)
  lap_leads w k n r le is in_range value some few =
      let h = w.is_high_first in
      let q = w.pair in
      let x = one q r in
      let y = two h q r in
      let z = three h q r in
      let end = jumped back z in
      let there : x.pc ≡ after_one r.pc = pc_of q (previous_word (word_value q (with_pc (after_one r.pc) r))) (with_pc (after_one r.pc) r) in
      let counts = lap_counts w n r value some few in_range in
      let taken : not z.flags.zero ≡ true = ap (λ (t : Registers). not t.flags.zero) counts in
      ap (polling.reached passed calm p within usual known (k + 7)) (sym counts)
      ∙ polling.leads_on passed calm p within usual known k 2 5 r x end
      (down_leads q k r (omega (arith, le)) is.decrement)
      (polling.leads_on passed calm p within usual known (k + 2) 1 4 x y end
      (load_leads (first_of h q) (k + 2) x (omega (arith, le)) (subst (IsInstruction (load_a (first_of h q)) p.memory) (sym there) is.load))
      (polling.leads_on passed calm p within usual known (k + 2 + 1) 1 3 y z end
      (polling.register_leads passed calm p within usual known Or (second_of h q) (k + 2 + 1) y (omega (arith, le)) (subst (IsInstruction (or_a (second_of h q)) p.memory) (sym (ap after_one there)) is.join))
      (polling.jump_leads passed calm p within usual known back (k + 2 + 1 + 1) z (omega (arith, le))
      (subst (IsInstruction back_by_five p.memory) (sym (ap (λ (pc : ℕ). after_one (after_one pc)) there)) is.jump) taken)))

  laps_lead : (i n : ℕ) (w : WordCount) (r : Registers) → 7 * suc i ≤ calm → IsWordCount w p.memory r.pc → r.pc < 65536 → word_value w.pair r ≡ n + suc i → 0 < n → n + suc i < 65536
      → polling.reached passed calm p within usual known (7 * suc i) (word_counted_to w n r) ≡ polling.reached passed calm p within usual known 0 r
  laps_lead zero n w r le is in_range value some few =
      let first : word_value w.pair r ≡ suc n = omega (arith, value) in
      lap_leads w 0 n r (omega (arith, le)) is in_range first some (omega (arith, few))
  laps_lead (suc i) n w r le is in_range value some few =
      let k = 7 * suc i in
      let t = word_counted_to w (suc n) r in
      let more : 7 * suc (suc i) ≡ k + 7 = omega arith in
      let rest : word_value w.pair r ≡ suc n + suc i = omega (arith, value) in
      let there = pc_counted w (suc n) r in
      ap (λ (m : ℕ). polling.reached passed calm p within usual known m (word_counted_to w n r)) more
      ∙ ap (polling.reached passed calm p within usual known (k + 7)) (sym (counted_again w n (suc n) r))
      ∙ lap_leads w k n t (omega (arith, le, more)) (subst (IsWordCount w p.memory) (sym there) is) (subst (λ (pc : ℕ). pc < 65536) (sym there) in_range) (value_counted w (suc n) r) some (omega (arith, few))
      ∙ laps_lead i (suc n) w r (omega (arith, le)) is in_range rest (omega arith) (omega (arith, few))

  pub words_pass : (laps n cycles : ℕ) (w : WordCount) (b : BusState) → 0 < laps → cycles ≡ 7 * laps → cycles < calm → IsWordCount w p.memory p.registers.pc → p.registers.pc < 65536
      → word_value w.pair p.registers ≡ n + laps → 0 < n → n + laps < 65536 → b ≡ iterate tick cycles p.memory
      → steps_until bus_rules 17556 (passed + cycles) (record p { registers = word_counted_to w n p.registers; memory = b }) ≡ steps_until bus_rules 17556 passed p
  words_pass zero n cycles w b pos count below is in_range value some few after = absurd (omega (arith, pos))
  words_pass (suc i) n cycles w b pos count below is in_range value some few after =
      let start : passed + 0 ≡ passed = omega arith in
      ap (λ (c : BusState). steps_until bus_rules 17556 (passed + cycles) (record p { registers = word_counted_to w n p.registers; memory = c })) after
      ∙ ap (λ (k : ℕ). polling.reached passed calm p within usual known k (word_counted_to w n p.registers)) count
      ∙ laps_lead i n w p.registers (omega (arith, count, below)) is in_range value some few
      ∙ ap (λ (k : ℕ). steps_until bus_rules 17556 k p) start

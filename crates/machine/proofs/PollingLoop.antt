-- Laps of a loop that asks a byte, many at once, within a frame.
use Rattle.std.proofs.Common.{◌≡◌, ◌∙◌, ℕ, zero, suc, ◌+◌, ◌-◌, ◌*◌, ◌/◌, ◌%◌, ◌<◌, ◌≤◌, Bool, true, cond, Option, Some, None, refl, sym, ap, subst, arith}
use Rattle.std.specs.Prelude.{IfSome}
use Rattle.std.specs.Fn.{iterate}
use Rattle.std.proofs.lemmas.Nat.{div-add-mod'}
use Rattle.repeated_steps.proofs.Iterates.{iterate-add}
use Rattle.sm83_alu.specs.declared.register_file.Registers.{Registers}
use Rattle.opcode_table.specs.Table.{instruction_of}
use Rattle.opcode_table.specs.Timing.{length_of, cycles_of}
use Rattle.opcode_table.specs.declared.instruction.Instr.{Instr}
use Rattle.opcode_table.specs.declared.instruction.Operation.{Operation}
use Rattle.opcode_table.specs.declared.instruction.Operation.TheVariants as operation
use Rattle.memory_map.specs.State.{BusState}
use Rattle.memory_map.specs.Bus.{pending_interrupts, read_at}
use Rattle.memory_map.specs.BusRules.{bus_rules}
use Rattle.memory_map.specs.Ticks.{tick}
use Rattle.memory_map.specs.Quiet.{AreQuietOn, IsCalm}
use Rattle.memory_map.specs.Lasting.{LastsFor}
use Rattle.memory_map.proofs.QuietCycles.{fewer_are_quiet, calm_after}
use Rattle.sm83_processor.specs.RegisterOperations.{next_address, operated}
use Rattle.sm83_processor.specs.Execution.{executed, jumped_relative}
use Rattle.sm83_processor.specs.Opcodes.{after_fetch, instruction_at, executed_after_fetch, cycles_with}
use Rattle.sm83_processor.specs.FastStep.{IsFast, IsUsual}
use Rattle.sm83_processor.specs.declared.processor.Processor.{Processor}
use Rattle.sm83_processor.proofs.FastSteps.{fast_after, fast_cycles}
use Rattle.machine.specs.Machine.{Ahead, steps_until}
use Rattle.machine.specs.PollingLoop.{load_of, address_of, look_of, jump_of, beyond, IsInstruction, HasRest, IsPoll, loaded, source_value, looked_by, looked, looked_again, asked, jumped, lap, is_taken, cycles_of_look, cycles_again, cycles_of_lap}
use Rattle.machine.specs.declared.polling_loop.Load.{Load}
use Rattle.machine.specs.declared.polling_loop.Load.TheVariants.{High, At}
use Rattle.machine.specs.declared.polling_loop.Source.{Source}
use Rattle.machine.specs.declared.polling_loop.Source.TheVariants as source
use Rattle.machine.specs.declared.polling_loop.Look.{Look}
use Rattle.machine.specs.declared.polling_loop.Look.TheVariants.{Byte, Register, Bit}
use Rattle.machine.specs.declared.polling_loop.Jump.{Jump}
use Rattle.machine.specs.declared.polling_loop.Poll.{Poll}
use Rattle.machine.proofs.FastFrames.{uninterrupted}
use Rattle.machine.proofs.Waiting.{stepped_on}

-- an instruction is still there after quiet M-cycles
pub instruction_kept : (i : Instr) (n pc : ℕ) (b : BusState) → AreQuietOn n b → IsInstruction i b pc → IsInstruction i (iterate tick n b) pc
instruction_kept i n pc b quiet here =
    let c = iterate tick n b in
    let second = next_address pc in
    let third = next_address second in
    record {
      is = ap (λ (x : ℕ). instruction_of x (read_at c second) (read_at c third)) (here.first n b quiet)
          ∙ ap (λ (x : ℕ). instruction_of (read_at b pc) x (read_at c third)) (here.second n b quiet)
          ∙ ap (λ (x : ℕ). instruction_of (read_at b pc) (read_at b second) x) (here.third n b quiet)
          ∙ here.is;
      first = here.first;
      second = here.second;
      third = here.third;
    }

rest_kept : (second : Option Look) (j : Jump) (n pc : ℕ) (b : BusState) → AreQuietOn n b → HasRest second j b pc → HasRest second j (iterate tick n b) pc
rest_kept None j n pc b quiet has = instruction_kept (jump_of j) n pc b quiet has
rest_kept (Some l) j n pc b quiet has = (instruction_kept (look_of l) n pc b quiet has.0, instruction_kept (jump_of j) n (beyond (look_of l) pc) b quiet has.1)

pub poll_kept : (p : Poll) (n pc : ℕ) (b : BusState) → AreQuietOn n b → IsPoll p b pc → IsPoll p (iterate tick n b) pc
poll_kept p n pc b quiet poll = record {
  load = instruction_kept (load_of p.load) n pc b quiet poll.load;
  first = instruction_kept (look_of p.first) n (beyond (load_of p.load) pc) b quiet poll.first;
  rest = rest_kept p.rest.second p.rest.jump n (beyond (look_of p.first) (beyond (load_of p.load) pc)) b quiet poll.rest;
}

-- ---- an operation on A leaves PC

operated_pc : (o : Operation) (n : ℕ) (r : Registers) → (operated o n r).pc ≡ r.pc
operated_pc operation.Add n r = refl
operated_pc operation.AddCarry n r = refl
operated_pc operation.Subtract n r = refl
operated_pc operation.SubtractCarry n r = refl
operated_pc operation.And n r = refl
operated_pc operation.Xor n r = refl
operated_pc operation.Or n r = refl
operated_pc operation.Compare n r = refl

looked_by_pc : (l : Look) (r : Registers) → (looked_by l r).pc ≡ r.pc
looked_by_pc (Byte o n) r = operated_pc o n r
looked_by_pc (Register o s) r = operated_pc o (source_value s r) r
looked_by_pc (Bit n) r = refl

looked_pc : (l : Look) (r : Registers) → (looked l r).pc ≡ beyond (look_of l) r.pc
looked_pc l r = looked_by_pc l (record r { pc = beyond (look_of l) r.pc })

-- ---- steps from registers to registers, while it is calm

abbrev pub at_time : ℕ → Registers → Processor BusState → Processor BusState
at_time k r p = record p { registers = r; memory = iterate tick k p.memory }

abbrev pub with_pc : ℕ → Registers → Registers
with_pc pc r = record r { pc = pc }

module _ (passed calm : ℕ) (p : Processor BusState) (within : passed + calm ≤ 17556) (usual : IsUsual p.state) (known : IsCalm calm p.memory) where
  abbrev pub reached : ℕ → Registers → Ahead BusState
  reached k r = steps_until bus_rules 17556 (passed + k) (at_time k r p)

  abbrev pub Leads : ℕ → Registers → ℕ → Registers → Type 0
  Leads k r n t = reached (k + n) t ≡ reached k r

  pub leads_on : (k m n : ℕ) (r s t : Registers) → Leads k r m s → Leads (k + m) s n t → Leads k r (m + n) t
  leads_on k m n r s t first second =
      let same : k + (m + n) ≡ k + m + n = omega arith in
      ap (λ (j : ℕ). reached j t) same ∙ second ∙ first

  fast_at : (k : ℕ) (r : Registers) → k < calm → IsFast bus_rules (at_time k r p)
  fast_at k r below = record {
    usual = usual;
    uninterrupted = uninterrupted p.state.ime (pending_interrupts (iterate tick k p.memory)) ((calm_after calm k p.memory below known).none_pending (omega (arith, below)));
  }

  quiet_at : (k : ℕ) → k < calm → AreQuietOn k p.memory
  quiet_at k below = fewer_are_quiet (calm - 1) k p.memory (omega (arith, below)) known.quiet

  -- one instruction that changes registers alone
  pub step_leads : (i : Instr) (k cycles : ℕ) (r t : Registers) → k < calm → IsInstruction i p.memory r.pc → cycles ≡ cycles_with i r.flags
      → executed bus_rules i (at_time k (with_pc (beyond i r.pc) r) p) ≡ at_time k t p → Leads k r cycles t
  step_leads i k cycles r t below here count does =
      let q = at_time k r p in
      let there = instruction_kept i k r.pc p.memory (quiet_at k below) here in
      let opcode = read_at q.memory r.pc in
      let low = read_at q.memory (next_address r.pc) in
      let high = read_at q.memory (next_address (next_address r.pc)) in
      let fast = fast_at k r below in
      let same_pc : (next_address r.pc + (length_of i - 1)) % 65536 ≡ beyond i r.pc = omega arith in
      let after : at_time k t p ≡ executed_after_fetch bus_rules (instruction_at bus_rules opcode (after_fetch q)) (after_fetch q) =
      sym does ∙ ap (λ (pc : ℕ). executed bus_rules i (at_time k (with_pc pc r) p)) (sym same_pc)
      ∙ ap (λ (j : Instr). executed_after_fetch bus_rules j (after_fetch q)) (sym there.is) in
      let took : cycles ≡ cycles_with (instruction_at bus_rules opcode (after_fetch q)) r.flags = count ∙ ap (λ (j : Instr). cycles_with j r.flags) (sym there.is) in
      let memory : iterate tick (k + cycles) p.memory ≡ iterate tick cycles (iterate tick k p.memory) = iterate-add tick k cycles p.memory in
      let on : passed + (k + cycles) ≡ passed + k + cycles = omega arith in
      ap (λ (n : ℕ). steps_until bus_rules 17556 n (at_time (k + cycles) t p)) on
      ∙ stepped_on (passed + k) cycles q (at_time (k + cycles) t p) (omega (arith, below, within))
      (fast_after bus_rules opcode cycles q (at_time k t p) (iterate tick (k + cycles) p.memory) fast refl after took memory)
      (fast_cycles bus_rules opcode cycles q fast refl took)

  load_leads : (l : Load) (k v : ℕ) (r : Registers) → k < calm → IsInstruction (load_of l) p.memory r.pc → v ≡ read_at (iterate tick k p.memory) (address_of l)
      → Leads k r (cycles_of (load_of l)) (loaded l v r)
  load_leads (High b) k v r below here value =
      step_leads (load_of (High b)) k 3 r (loaded (High b) v r) below here refl
      (ap (λ (n : ℕ). at_time k (loaded (High b) n r) p) (sym value))
  load_leads (At w) k v r below here value =
      step_leads (load_of (At w)) k 4 r (loaded (At w) v r) below here refl
      (ap (λ (n : ℕ). at_time k (loaded (At w) n r) p) (sym value))

  pub register_leads : (o : Operation) (s : Source) (k : ℕ) (r : Registers) → k < calm → IsInstruction (look_of (Register o s)) p.memory r.pc → Leads k r 1 (looked (Register o s) r)
  register_leads o source.B k r below here = step_leads (look_of (Register o source.B)) k 1 r (looked (Register o source.B) r) below here refl refl
  register_leads o source.C k r below here = step_leads (look_of (Register o source.C)) k 1 r (looked (Register o source.C) r) below here refl refl
  register_leads o source.D k r below here = step_leads (look_of (Register o source.D)) k 1 r (looked (Register o source.D) r) below here refl refl
  register_leads o source.E k r below here = step_leads (look_of (Register o source.E)) k 1 r (looked (Register o source.E) r) below here refl refl
  register_leads o source.H k r below here = step_leads (look_of (Register o source.H)) k 1 r (looked (Register o source.H) r) below here refl refl
  register_leads o source.L k r below here = step_leads (look_of (Register o source.L)) k 1 r (looked (Register o source.L) r) below here refl refl
  register_leads o source.A k r below here = step_leads (look_of (Register o source.A)) k 1 r (looked (Register o source.A) r) below here refl refl

  look_leads : (l : Look) (k : ℕ) (r : Registers) → k < calm → IsInstruction (look_of l) p.memory r.pc → Leads k r (cycles_of_look l) (looked l r)
  look_leads (Byte o n) k r below here = step_leads (look_of (Byte o n)) k 2 r (looked (Byte o n) r) below here refl refl
  look_leads (Register o s) k r below here = register_leads o s k r below here
  look_leads (Bit n) k r below here = step_leads (look_of (Bit n)) k 2 r (looked (Bit n) r) below here refl refl

  pub jump_leads : (j : Jump) (k : ℕ) (r : Registers) → k < calm → IsInstruction (jump_of j) p.memory r.pc → is_taken j r ≡ true → Leads k r 3 (jumped j r)
  jump_leads j k r below here taken =
      let s = at_time k (with_pc (beyond (jump_of j) r.pc) r) p in
      step_leads (jump_of j) k 3 r (jumped j r) below here
      (sym (ap (λ (b : Bool). cond b 3 2) taken))
      (ap (λ (b : Bool). cond b (jumped_relative j.offset s) s) taken)

  rest_leads : (second : Option Look) (j : Jump) (k pc : ℕ) (r : Registers) → k + (cycles_again second + 3) ≤ calm → r.pc ≡ pc → HasRest second j p.memory pc
      → is_taken j (looked_again second r) ≡ true → Leads k r (cycles_again second + 3) (jumped j (looked_again second r))
  rest_leads None j k pc r le e has taken =
      jump_leads j k r (omega (arith, le)) (subst (IsInstruction (jump_of j) p.memory) (sym e) has) taken
  rest_leads (Some l) j k pc r le e has taken =
      leads_on k (cycles_of_look l) 3 r (looked l r) (jumped j (looked l r))
      (look_leads l k r (omega (arith, le)) (subst (IsInstruction (look_of l) p.memory) (sym e) has.0))
      (jump_leads j (k + cycles_of_look l) (looked l r) (omega (arith, le))
      (subst (IsInstruction (jump_of j) p.memory) (sym (looked_pc l r ∙ ap (beyond (look_of l)) e)) has.1) taken)

  lap_leads : (poll : Poll) (k v : ℕ) (r : Registers) → k + cycles_of_lap poll ≤ calm → IsPoll poll p.memory r.pc → v ≡ read_at (iterate tick k p.memory) (address_of poll.load)
      → is_taken poll.rest.jump (asked poll v r) ≡ true → Leads k r (cycles_of_lap poll) (lap poll v r)
  lap_leads poll k v r le is value taken =
      let l = cycles_of (load_of poll.load) in
      let more = cycles_again poll.rest.second + 3 in
      let one = loaded poll.load v r in
      let two = looked poll.first one in
      let end = lap poll v r in
      let m = cycles_of_look poll.first in
      leads_on k l (m + more) r one end
      (load_leads poll.load k v r (omega (arith, le)) is.load value)
      (leads_on (k + l) m more one two end
      (look_leads poll.first (k + l) one (omega (arith, le)) is.first)
      (rest_leads poll.rest.second poll.rest.jump (k + l + m) (beyond (look_of poll.first) one.pc) two (omega (arith, le)) (looked_pc poll.first one) is.rest taken))

  -- n laps more, of the same byte, after which the registers are the same
  laps_lead : (n lasts v : ℕ) (poll : Poll) (r t : Registers) → suc n * cycles_of_lap poll ≤ calm → n * cycles_of_lap poll ≤ lasts → LastsFor lasts (address_of poll.load) p.memory
      → IsPoll poll p.memory r.pc → v ≡ read_at p.memory (address_of poll.load) → t ≡ lap poll v r → is_taken poll.rest.jump t ≡ true → t.pc ≡ r.pc → (0 < n → lap poll v t ≡ t)
      → reached (suc n * cycles_of_lap poll) t ≡ reached 0 r
  laps_lead zero lasts v poll r t le few last is value e taken back same =
      let c = cycles_of_lap poll in
      let once : suc zero * c ≡ 0 + c = omega arith in
      ap (λ (k : ℕ). reached k t) once ∙ ap (reached (0 + c)) e
      ∙ lap_leads poll 0 v r (omega (arith, le)) is value (ap (λ (x : Registers). is_taken poll.rest.jump x) (sym e) ∙ taken)
  laps_lead (suc n) lasts v poll r t le few last is value e taken back same =
      let c = cycles_of_lap poll in
      let k = suc n * c in
      let more : suc (suc n) * c ≡ k + c = omega arith in
      let there : v ≡ read_at (iterate tick k p.memory) (address_of poll.load) = value ∙ sym (last k few (quiet_at k (omega (arith, le, more)))) in
      let again = same (omega arith) in
      ap (λ (m : ℕ). reached m t) more ∙ ap (reached (k + c)) (sym again)
      ∙ lap_leads poll k v t (omega (arith, le, more)) (subst (IsPoll poll p.memory) (sym back) is) there (ap (λ (x : Registers). is_taken poll.rest.jump x) again ∙ taken)
      ∙ laps_lead n lasts v poll r t (omega (arith, le, more)) (omega (arith, few, more)) last is value e taken back (λ some. again)

  pub laps_pass : (lasts cycles more v : ℕ) (poll : Poll) (t : Registers) (b : BusState) → cycles ≡ cycles_of_lap poll → cycles + more < calm → more ≤ lasts → LastsFor lasts (address_of poll.load) p.memory
      → IsPoll poll p.memory p.registers.pc → v ≡ read_at p.memory (address_of poll.load) → t ≡ lap poll v p.registers → is_taken poll.rest.jump t ≡ true → t.pc ≡ p.registers.pc
      → more % cycles ≡ 0 → (0 < more → lap poll v t ≡ t) → b ≡ iterate tick (cycles + more) p.memory
      → steps_until bus_rules 17556 (passed + (cycles + more)) (record p { registers = t; memory = b }) ≡ steps_until bus_rules 17556 passed p
  laps_pass lasts cycles more v poll t b count below few last is value e taken back whole same after =
      let n = more / cycles in
      let all : n * cycles ≡ more = omega (arith, div-add-mod' more cycles, whole) in
      let every : suc n * cycles ≡ cycles + more = omega (arith, all) in
      let some : 0 < n → 0 < more = λ pos. omega (arith, all, pos, below) in
      let to : n * cycles_of_lap poll ≡ more = subst (λ (c : ℕ). n * c ≡ more) count all in
      let to_all : suc n * cycles_of_lap poll ≡ cycles + more = subst (λ (c : ℕ). suc n * c ≡ cycles + more) count every in
      let start : passed + 0 ≡ passed = omega arith in
      ap (λ (c : BusState). steps_until bus_rules 17556 (passed + (cycles + more)) (record p { registers = t; memory = c })) after
      ∙ ap (λ (k : ℕ). reached k t) (sym to_all)
      ∙ laps_lead n lasts v poll p.registers t (omega (arith, to_all, below)) (omega (arith, to, few)) last is value e taken back (λ pos. same (some pos))
      ∙ ap (λ (k : ℕ). steps_until bus_rules 17556 k p) start

-- ---- what holds after laps

pub fast_after_laps : (m calm : ℕ) (p : Processor BusState) (t : Registers) (b : BusState) → m < calm → IsCalm calm p.memory → IsFast bus_rules p → b ≡ iterate tick m p.memory
    → IsFast bus_rules (record p { registers = t; memory = b })
fast_after_laps m calm p t b below known fast after =
    let later = subst (IsCalm (calm - m)) (sym after) (calm_after calm m p.memory below known) in
    record { usual = fast.usual; uninterrupted = uninterrupted p.state.ime (pending_interrupts b) (later.none_pending (omega (arith, below))) }

-- ---- what is found

pub look_there : (l : Option Look) (i : Instr) (b : BusState) (pc : ℕ) → IfSome l (λ l. look_of l ≡ i) → IsInstruction i b pc → IfSome l (λ l. IsInstruction (look_of l) b pc)
look_there None i b pc e here = tt
look_there (Some l) i b pc e here = subst (λ (j : Instr). IsInstruction j b pc) (sym e) here

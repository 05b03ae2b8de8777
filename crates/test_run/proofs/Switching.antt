-- No input changes which cartridge it is.
use Rattle.std.proofs.Common.{◌≡◌, ◌∙◌, ℕ, zero, suc, Bool, true, false, List, length, refl, sym, subst, ap}
use Rattle.std.specs.Prelude.{nat_lt, if◌then◌else◌}
use Rattle.std.proofs.lemmas.List.{length-replicate}
use Rattle.bank_controllers.specs.CartridgeState.{CartridgeState, IsSameCartridge, cartridge_at_power_on}
use Rattle.bank_controllers.proofs.Same.{same_itself, same_then}
use Rattle.cartridge.specs.Header.{has_rumble, ram_length_of}
use Rattle.sm83_processor.proofs.KeptBySteps.{by_step}
use Rattle.sm83_processor.specs.Steps.{step_of}
use Rattle.memory_map.specs.BusRules.{bus_rules}
use Rattle.machine.specs.Machine.{MachineState, start, cycles_per_frame}
use Rattle.machine.specs.Sent.{sent_in_step}
use Rattle.machine.specs.Watched.{FrameState, Seen, after_step, begun_with, broken_off, ended, is_breakpoint, machine_after, seen_in, seen_until, sent_before}
use Rattle.machine.proofs.KeptByInputs.{bus_keeps}
use Rattle.snapshot.specs.Legal.{IsMachineOf}
use Rattle.snapshot.specs.Table.{kind_of_image}

-- ---- a frame

abbrev banks_in : FrameState → CartridgeState
banks_in f = f.processor.memory.banks

either_same : (b : CartridgeState) (t : Bool) (x y : Seen) → IsSameCartridge b (banks_in x.end) → IsSameCartridge b (banks_in y.end) → IsSameCartridge b (banks_in (if t then x else y).end)
either_same b true x y first second = first
either_same b false x y first second = second

step_same : (f : FrameState) → IsSameCartridge (banks_in f) (banks_in (after_step f))
step_same f = by_step bus_rules (λ old new. IsSameCartridge old.banks new.banks) bus_keeps f.processor

seen_same : (k : ℕ) (f : FrameState) → IsSameCartridge (banks_in f) (banks_in (seen_until k f).end)
unfolding seen_until
seen_same zero f = same_itself (banks_in f)
seen_same (suc k) f =
    let breaks = is_breakpoint (step_of bus_rules f.processor).stepped.kind in
    let rest = either_same (banks_in f) breaks (broken_off (after_step f)) (seen_until k (after_step f)) (step_same f) (same_then _ _ _ (step_same f) (seen_same k (after_step f))) in
    either_same (banks_in f) (nat_lt f.passed cycles_per_frame)
    (sent_before (sent_in_step f.processor) (if breaks then broken_off (after_step f) else seen_until k (after_step f))) (ended f) rest (same_itself (banks_in f))

pub frame_same : (buttons : ℕ) (machine m : MachineState) (f : FrameState) → f ≡ (seen_in (begun_with buttons machine)).end → m ≡ machine_after f → IsSameCartridge machine.processor.memory.banks m.processor.memory.banks
frame_same buttons machine m f seen is =
    subst (λ (n : MachineState). IsSameCartridge machine.processor.memory.banks n.processor.memory.banks) (sym (is ∙ ap machine_after seen)) (seen_same cycles_per_frame (begun_with buttons machine))

-- ---- the power switch

start_rom : (rom : List ℕ) → (start rom).processor.memory.banks.rom ≡ rom
unfolding cartridge_at_power_on
start_rom rom = refl

start_kind : (rom : List ℕ) → (start rom).processor.memory.banks.state.kind ≡ kind_of_image rom
unfolding cartridge_at_power_on
start_kind rom = refl

start_rumble : (rom : List ℕ) → (start rom).processor.memory.banks.rumble ≡ has_rumble rom
unfolding cartridge_at_power_on
start_rumble rom = refl

start_ram : (rom : List ℕ) → length (start rom).processor.memory.banks.ram ≡ ram_length_of rom
unfolding cartridge_at_power_on
start_ram rom = length-replicate (ram_length_of rom) 0

same_back : (a b : CartridgeState) → IsSameCartridge a b → IsSameCartridge b a
same_back a b same = record { rom = sym same.rom; ram_length = sym same.ram_length; rumble = sym same.rumble; kind = sym same.kind }

-- a machine of this image has the cartridge of one that has that of the start
pub switched_same : (rom : List ℕ) (machine m : MachineState) → IsSameCartridge machine.processor.memory.banks (start rom).processor.memory.banks → IsMachineOf rom m
    → IsSameCartridge machine.processor.memory.banks m.processor.memory.banks
switched_same rom machine m same of =
    same_then _ _ _ same (record {
      rom = of.rom ∙ sym (start_rom rom);
      ram_length = of.ram_length ∙ sym (start_ram rom);
      rumble = of.rumble ∙ sym (start_rumble rom);
      kind = of.kind ∙ sym (start_kind rom);
    })

-- the cartridge of the start, of a machine that kept it
pub still_same : (first now start : CartridgeState) → IsSameCartridge first start → IsSameCartridge first now → IsSameCartridge now start
still_same first now start same kept = same_then now first start (same_back first now kept) same

pub start_same : (rom : List ℕ) (m : MachineState) → m ≡ start rom → IsSameCartridge m.processor.memory.banks (start rom).processor.memory.banks
start_same rom m is = subst (λ (n : MachineState). IsSameCartridge n.processor.memory.banks (start rom).processor.memory.banks) (sym is) (same_itself (start rom).processor.memory.banks)

-- The steps of decoding: what is known of the machine at power-on, of the machine that is made, and of a refusal.
use Rattle.std.proofs.Common.{◌≡◌, ℕ, ◌<◌, Bool, true, false, List, length, replicate, get_or, Some, refl, sym, ap, subst, ◌∙◌}
use Rattle.std.specs.Prelude.{slice_range}
use Rattle.std.proofs.lemmas.List.{length-replicate}
use Rattle.std.proofs.lemmas.List.Elements.{All-contains}
use Rattle.cartridge.specs.Header.{controller_of, has_rumble, ram_length_of}
use Rattle.cartridge.specs.declared.controller.Controller.{Controller}
use Rattle.bank_controllers.specs.CartridgeState.{CartridgeState, IsLegalRam, cartridge_at_power_on}
use Rattle.bank_controllers.proofs.Legal.{ram_at_power_on}
use Rattle.machine.specs.declared.machine_without_memory.MachineWithoutMemory.{MachineWithoutMemory}
use Rattle.machine.specs.Machine.{MachineState, start}
use Rattle.machine.specs.MachineStores.{restored, AreLegalFor}
use Rattle.snapshot.specs.declared.field.SnapshotField.{SnapshotField}
use Rattle.snapshot.specs.declared.error.SnapError.{SnapError}
use Rattle.snapshot.specs.declared.error.SnapError.TheVariants.{SnapLength, Field, Memory}
use Rattle.snapshot.specs.Encoding.{encoded, snapshot_length}
use Rattle.snapshot.specs.Table.{bytes, is_legal, ram_rule, kind_of_image, table_of}
use Rattle.snapshot.specs.Reading.{registers_in, with_stores, machine_in}
use Rattle.snapshot.specs.Legal.{IsMachineOf, IsOfImage, IsLegalSnapshot, IsRefusal}
use Rattle.snapshot.proofs.Legality.{AreLegalFields, ram_in, registers_legal}
use Rattle.snapshot.proofs.Machines.{fields_of, in_place, ram_long, ram_legal, machine_legal, encoded_legal}
use Rattle.snapshot.proofs.Offsets.{kind_is}

zeros_long : (image : List ℕ) → (let zeros : List ℕ = replicate (ram_length_of image) 0 in length zeros) ≡ ram_length_of image
zeros_long image = length-replicate (ram_length_of image) 0

pub start_registers : (image bytes : List ℕ) → ((i : ℕ) → get_or bytes i 0 < 256) → IsLegalSnapshot image bytes → AreLegalFor (start image).processor.memory.banks (registers_in (kind_of_image image) bytes)
unfolding cartridge_at_power_on
start_registers image bytes fit legal = registers_legal (start image).processor.memory.banks (ram_length_of image) bytes fit (fields_of image bytes legal)

pub start_length : (image bytes : List ℕ) → IsLegalSnapshot image bytes → length bytes ≡ snapshot_length (length (start image).processor.memory.banks.ram)
unfolding cartridge_at_power_on
start_length image bytes legal = legal.length ∙ ap snapshot_length (sym (zeros_long image))

ram_rule_holds : (image encoded : List ℕ) (kind : Controller) → controller_of image ≡ Some kind → IsLegalSnapshot image encoded → is_legal (bytes 22607 (ram_length_of image) (ram_rule kind)) encoded ≡ true
ram_rule_holds image encoded kind e legal =
    subst (λ (k : Controller). is_legal (bytes 22607 (ram_length_of image) (ram_rule k)) encoded ≡ true) (kind_is image kind e) (ram_in (kind_of_image image) (has_rumble image) (ram_length_of image) encoded (fields_of image encoded legal))

pub start_ram :
    (image encoded : List ℕ) (kind : Controller) → controller_of image ≡ Some kind → IsLegalSnapshot image encoded
    → (length (slice_range encoded 22607 (length encoded)) ≡ length (start image).processor.memory.banks.ram) × IsLegalRam kind (slice_range encoded 22607 (length encoded))
unfolding cartridge_at_power_on
start_ram image encoded kind e legal = (
  ram_long (replicate (ram_length_of image) 0) encoded (ram_length_of image) (zeros_long image) legal.length,
  ram_legal kind (replicate (ram_length_of image) 0) encoded (ram_length_of image) (ram_at_power_on image kind e) (zeros_long image) legal.length (ram_rule_holds image encoded kind e legal),
)

pub made_is :
    (image encoded : List ℕ) (kind : Controller) (r : MachineWithoutMemory) (first second third : MachineState)
    → first ≡ start image → r ≡ registers_in kind encoded → controller_of image ≡ Some kind
    → second ≡ restored r first → third ≡ with_stores encoded second → third ≡ machine_in image encoded
unfolding machine_in
made_is image encoded kind r first second third e1 er ek e2 e3 =
    let same : r ≡ registers_in (kind_of_image image) encoded = er ∙ ap (λ (k : Controller). registers_in k encoded) (sym (kind_is image kind ek)) in
    e3 ∙ ap (with_stores encoded) (e2 ∙ ap (restored r) e1 ∙ ap (λ (r : MachineWithoutMemory). restored r (start image)) same)

pub made_legal :
    (image encoded : List ℕ) (kind : Controller) → ((i : ℕ) → get_or encoded i 0 < 256) → IsLegalSnapshot image encoded → controller_of image ≡ Some kind
    → IsMachineOf image (machine_in image encoded)
made_legal image encoded kind fit legal e =
    let ram : IsLegalRam (kind_of_image image) (replicate (ram_length_of image) 0) =
    subst (λ (k : Controller). IsLegalRam k (replicate (ram_length_of image) 0)) (sym (kind_is image kind e)) (ram_at_power_on image kind e) in
    machine_legal image encoded (replicate (ram_length_of image) 0) fit legal ram (zeros_long image)

differ : (b : Bool) → b ≡ true → b ≡ false → ⊥
differ b t f = cc

-- a legal snapshot is refused only out of memory
pub refused_legal : (image encoded : List ℕ) (e : SnapError) → IsRefusal image encoded e → IsLegalSnapshot image encoded → e ≡ Memory
refused_legal image encoded (SnapLength n) h legal = absurd (h.1 legal.length)
refused_legal image encoded (Field offset) h legal =
    let first = h.1 in
    absurd (differ (is_legal first.field encoded) (All-contains (λ (f : SnapshotField). is_legal f encoded ≡ true) (table_of image) first.field legal.fields first.listed) first.illegal)
refused_legal image encoded Memory h legal = refl

pub refused_bytes : (image bytes : List ℕ) (e : SnapError) → IsRefusal image bytes e → (m : MachineState) → IsMachineOf image m → encoded m ≡ bytes → e ≡ Memory
refused_bytes image bytes e h m of same = refused_legal image bytes e h (subst (λ (t : List ℕ). IsLegalSnapshot image t) same (encoded_legal image m of))

-- ---- in a machine that is there

pub placed_registers : (image bytes : List ℕ) (kind : Controller) (m : MachineState) → IsOfImage image m → ((i : ℕ) → get_or bytes i 0 < 256) → IsLegalSnapshot image bytes → controller_of image ≡ Some kind
    → AreLegalFor m.processor.memory.banks (registers_in kind bytes)
placed_registers image bytes kind m of fit legal e =
    let c : CartridgeState = m.processor.memory.banks in
    let n : ℕ = ram_length_of image in
    let by_rumble : AreLegalFields (kind_of_image image) c.rumble n bytes =
    subst (λ (b : Bool). AreLegalFields (kind_of_image image) b n bytes) (sym of.rumble) (fields_of image bytes legal) in
    let fields : AreLegalFields c.state.kind c.rumble n bytes = subst (λ (k : Controller). AreLegalFields k c.rumble n bytes) (sym of.kind) by_rumble in
    let same : c.state.kind ≡ kind = of.kind ∙ kind_is image kind e in
    subst (λ (k : Controller). AreLegalFor c (registers_in k bytes)) same (registers_legal c n bytes fit fields)

pub placed_ram :
    (image encoded : List ℕ) (kind : Controller) (m : MachineState) → IsOfImage image m → controller_of image ≡ Some kind → IsLegalSnapshot image encoded
    → (length (slice_range encoded 22607 (length encoded)) ≡ length m.processor.memory.banks.ram) × IsLegalRam kind (slice_range encoded 22607 (length encoded))
placed_ram image encoded kind m of e legal = (
  ram_long (replicate (ram_length_of image) 0) encoded (ram_length_of image) (zeros_long image) legal.length ∙ zeros_long image ∙ sym of.ram_length,
  ram_legal kind (replicate (ram_length_of image) 0) encoded (ram_length_of image) (ram_at_power_on image kind e) (zeros_long image) legal.length (ram_rule_holds image encoded kind e legal),
)

pub placed_is :
    (image encoded : List ℕ) (kind : Controller) (r : MachineWithoutMemory) (first second third : MachineState) → IsOfImage image first
    → r ≡ registers_in kind encoded → controller_of image ≡ Some kind → second ≡ restored r first → third ≡ with_stores encoded second → third ≡ machine_in image encoded
placed_is image encoded kind r first second third of er ek e2 e3 =
    let same : r ≡ registers_in (kind_of_image image) encoded = er ∙ ap (λ (k : Controller). registers_in k encoded) (sym (kind_is image kind ek)) in
    e3 ∙ ap (with_stores encoded) (e2 ∙ ap (λ (r : MachineWithoutMemory). restored r first) same) ∙ in_place image encoded first of

-- what names a length or a field is not legal
pub named_illegal : (image encoded : List ℕ) (e : SnapError) → IsRefusal image encoded e → (e ≡ Memory → ⊥) → IsLegalSnapshot image encoded → ⊥
named_illegal image encoded e refusal named legal = named (refused_legal image encoded e refusal legal)

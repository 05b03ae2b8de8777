-- A machine and its snapshot: each gives the other.
use Rattle.std.proofs.Common.{◌≡◌, ℕ, ◌+◌, ◌-◌, ◌*◌, ◌%◌, ◌<◌, Bool, true, nat_lt, List, [], ◌∷◌, ◌++◌, length, take, drop, replicate, get_or, get_or-take, get_or-drop, refl, sym, ap, subst, ◌∙◌, inl, inr, lit≤, arith}
use Rattle.std.specs.Prelude.{slice_range, ◌==◌}
use Rattle.std.specs.List.{All, list_all}
use Rattle.std.proofs.lemmas.Bool.{cases_lt, eqb-true, ltb-true, lt-ltb, and_parts}
use Rattle.std.proofs.lemmas.List.{get_or_past, take_all, length-take}
use Rattle.std.proofs.lemmas.List.Elements.{All-nil, All-cons, All-head, All-tail}
use Rattle.cartridge.specs.Header.{has_rumble, ram_length_of}
use Rattle.cartridge.specs.declared.controller.Controller.{Controller}
use Rattle.cartridge.specs.declared.controller.Controller.TheVariants.{NoMbc, Mbc1, Mbc2, Mbc3, Mbc3Clock, Mbc5}
use Rattle.bank_controllers.specs.CartridgeState.{CartridgeState, IsLegalRam, cartridge_at_power_on}
use Rattle.memory_map.specs.Bus.{is_set, digit}
use Rattle.memory_map.specs.State.{BusState}
use Rattle.machine.specs.declared.machine_without_memory.MachineWithoutMemory.{MachineWithoutMemory}
use Rattle.machine.specs.Machine.{MachineState}
use Rattle.machine.specs.MachineStores.{without_memory, restored, AreLegalFor}
use Rattle.snapshot.specs.Encoding.{fixed_fields, unused, picture_bytes, stores_bytes, encoded, snapshot_length}
use Rattle.snapshot.specs.Table.{bytes, is_legal, ram_rule, kind_of_image, table_of}
use Rattle.snapshot.specs.Reading.{registers_in, rows_in, machine_in, with_stores}
use Rattle.machine.specs.Legal.{IsLegalMachine}
use Rattle.snapshot.specs.Legal.{IsMachineOf, IsOfImage, IsLegalSnapshot}
use Rattle.snapshot.proofs.Bytes.{bit_back, digit_small, numbers_at}
use Rattle.snapshot.proofs.Parts.{AreParts, parts_of, parts_length, parts_join, part_length}
use Rattle.snapshot.proofs.Pictures.{picture_length, picture_again, rows_back, rows_length, rows_are_rows}
use Rattle.snapshot.proofs.FixedFields.{registers_back, registers_again}
use Rattle.snapshot.proofs.Legality.{AreLegalFields, registers_legal, fields_are, unused_in, ram_in, encoded_is_legal}

-- ---- a machine by its parts

assemble : MachineWithoutMemory → (vram wram oam hram sound : List ℕ) → List (List ℕ) → (ram rom : List ℕ) → Bool → MachineState
assemble r vram wram oam hram sound rows ram rom rumble = record {
  processor = record {
    registers = r.registers;
    state = r.state;
    memory = record {
      timer = record { timer = r.bus.timer; requested = is_set r.bus.interrupt_flag 4 };
      serial = record { serial = r.bus.serial; requested = is_set r.bus.interrupt_flag 8 };
      picture = record {
        picture = record { state = r.bus.picture; vram = vram; oam = oam; rows = rows };
        vblank = is_set r.bus.interrupt_flag 1;
        stat = is_set r.bus.interrupt_flag 2;
      };
      banks = record { rom = rom; ram = ram; rumble = rumble; state = r.bus.banks };
      wram = wram;
      hram = hram;
      sound = sound;
      control = record {
        ie = r.bus.ie;
        joypad = is_set r.bus.interrupt_flag 16;
        buttons = r.bus.buttons;
        p1_select = r.bus.p1_select;
        dma = r.bus.dma;
        dma_copied = r.bus.dma_copied;
      };
    };
  };
  overrun = r.overrun;
}

machine_in_is :
    (image bytes : List ℕ)
    → machine_in image bytes
    ≡ assemble (registers_in (kind_of_image image) bytes) (slice_range bytes 128 8320) (slice_range bytes 8320 16512) (slice_range bytes 16512 16672) (slice_range bytes 16672 16799) (slice_range bytes 16799 16847) (rows_in (slice_range bytes 16847 22607)) (slice_range bytes 22607 (length bytes)) image (has_rumble image)
unfolding machine_in cartridge_at_power_on assemble
machine_in_is image bytes = refl

-- so does any other machine, whatever its stores and registers were
in_place_is :
    (r : MachineWithoutMemory) (bytes : List ℕ) (m : MachineState)
    → with_stores bytes (restored r m)
    ≡ assemble r (slice_range bytes 128 8320) (slice_range bytes 8320 16512) (slice_range bytes 16512 16672) (slice_range bytes 16672 16799) (slice_range bytes 16799 16847) (rows_in (slice_range bytes 16847 22607)) (slice_range bytes 22607 (length bytes)) m.processor.memory.banks.rom m.processor.memory.banks.rumble
unfolding assemble
in_place_is r bytes m = refl

-- the five requests of IF
pub five_back :
    (a b c d e : Bool) → let n = digit a + 2 * digit b + 4 * digit c + 8 * digit d + 16 * digit e in
    (is_set n 1 ≡ a) × (is_set n 2 ≡ b) × (is_set n 4 ≡ c) × (is_set n 8 ≡ d) × (is_set n 16 ≡ e)
five_back a b c d e =
    let n : ℕ = digit a + 2 * digit b + 4 * digit c + 8 * digit d + 16 * digit e in
    let ha : digit a < 2 = digit_small a in
    let hb : digit b < 2 = digit_small b in
    let hc : digit c < 2 = digit_small c in
    let hd : digit d < 2 = digit_small d in
    let he : digit e < 2 = digit_small e in
    (bit_back a n 1 (omega arith), bit_back b n 2 (omega arith), bit_back c n 4 (omega arith), bit_back d n 8 (omega arith), bit_back e n 16 (omega arith))

five_again : (n : ℕ) → n < 32 → digit (is_set n 1) + 2 * digit (is_set n 2) + 4 * digit (is_set n 4) + 8 * digit (is_set n 8) + 16 * digit (is_set n 16) ≡ n
five_again n h =
    let same = numbers_at (λ n. digit (is_set (n % 32) 1) + 2 * digit (is_set (n % 32) 2) + 4 * digit (is_set (n % 32) 4) + 8 * digit (is_set (n % 32) 8) + 16 * digit (is_set (n % 32) 16)) (λ n. n % 32) refl n (omega arith) in
    let e : n % 32 ≡ n = omega arith in
    rw e at same

assembled_again :
    (m : MachineState)
    → assemble (without_memory m) m.processor.memory.picture.picture.vram m.processor.memory.wram m.processor.memory.picture.picture.oam m.processor.memory.hram m.processor.memory.sound m.processor.memory.picture.picture.rows m.processor.memory.banks.ram m.processor.memory.banks.rom m.processor.memory.banks.rumble
    ≡ m
unfolding assemble
assembled_again m =
    let b : BusState = m.processor.memory in
    let five = five_back b.picture.vblank b.picture.stat b.timer.requested b.serial.requested b.control.joypad in
    rw (five.0, five.1, five.2, five.3, five.4) refl

registers_of_assembled :
    (r : MachineWithoutMemory) (vram wram oam hram sound : List ℕ) (rows : List (List ℕ)) (ram rom : List ℕ) (rumble : Bool)
    → r.bus.interrupt_flag < 32
    → without_memory (assemble r vram wram oam hram sound rows ram rom rumble) ≡ r
unfolding assemble
registers_of_assembled r vram wram oam hram sound rows ram rom rumble h = rw (five_again r.bus.interrupt_flag h) refl

assembled_alike :
    (r r' : MachineWithoutMemory) (vram vram' wram wram' oam oam' hram hram' sound sound' : List ℕ) (rows rows' : List (List ℕ)) (ram ram' rom rom' : List ℕ) (rumble rumble' : Bool)
    → r ≡ r' → vram ≡ vram' → wram ≡ wram' → oam ≡ oam' → hram ≡ hram' → sound ≡ sound' → rows ≡ rows' → ram ≡ ram' → rom ≡ rom' → rumble ≡ rumble'
    → assemble r vram wram oam hram sound rows ram rom rumble ≡ assemble r' vram' wram' oam' hram' sound' rows' ram' rom' rumble'
assembled_alike r r' vram vram' wram wram' oam oam' hram hram' sound sound' rows rows' ram ram' rom rom' rumble rumble' e0 e1 e2 e3 e4 e5 e6 e7 e8 e9 = cc

-- made of any machine of the image
pub in_place : (image bytes : List ℕ) (m : MachineState) → IsOfImage image m → with_stores bytes (restored (registers_in (kind_of_image image) bytes) m) ≡ machine_in image bytes
in_place image bytes m of =
    in_place_is (registers_in (kind_of_image image) bytes) bytes m
    ∙ assembled_alike _ _ _ _ _ _ _ _ _ _ _ _ _ _ _ _ _ _ _ _ refl refl refl refl refl refl refl refl of.rom of.rumble
    ∙ sym (machine_in_is image bytes)

-- ---- the snapshot of a machine

unused_length : length unused ≡ 61
unfolding unused
unused_length = refl

encoded_parts :
    (m : MachineState) → IsLegalMachine m
    → AreParts (encoded m) (fixed_fields (without_memory m)) unused m.processor.memory.picture.picture.vram m.processor.memory.wram m.processor.memory.picture.picture.oam m.processor.memory.hram m.processor.memory.sound (picture_bytes m.processor.memory.picture.picture.rows) m.processor.memory.banks.ram
unfolding encoded
encoded_parts m legal =
    parts_of (fixed_fields (without_memory m)) unused m.processor.memory.picture.picture.vram m.processor.memory.wram m.processor.memory.picture.picture.oam m.processor.memory.hram m.processor.memory.sound (picture_bytes m.processor.memory.picture.picture.rows) m.processor.memory.banks.ram refl unused_length legal.stores.vram legal.stores.wram legal.stores.oam legal.stores.hram legal.stores.sound (picture_length m.processor.memory.picture.picture.rows)

pub encoded_long : (m : MachineState) → IsLegalMachine m → length (encoded m) ≡ snapshot_length (length m.processor.memory.banks.ram)
unfolding encoded
encoded_long m legal =
    parts_length (fixed_fields (without_memory m)) unused m.processor.memory.picture.picture.vram m.processor.memory.wram m.processor.memory.picture.picture.oam m.processor.memory.hram m.processor.memory.sound (picture_bytes m.processor.memory.picture.picture.rows) m.processor.memory.banks.ram refl unused_length legal.stores.vram legal.stores.wram legal.stores.oam legal.stores.hram legal.stores.sound (picture_length m.processor.memory.picture.picture.rows)

registers_of_bytes : (kind : Controller) (m : MachineState) → kind ≡ m.processor.memory.banks.state.kind → registers_in kind (encoded m) ≡ without_memory m
unfolding encoded
registers_of_bytes kind m same = registers_back kind (without_memory m) (stores_bytes m.processor.memory) same

-- the machine that a machine's snapshot stands for is that machine
pub machine_back : (image : List ℕ) (m : MachineState) → IsMachineOf image m → machine_in image (encoded m) ≡ m
machine_back image m of =
    let legal = of.legal in
    let p = encoded_parts m legal in
    let long = encoded_long m legal in
    let end : slice_range (encoded m) 22607 (length (encoded m)) ≡ m.processor.memory.banks.ram =
    ap (λ (n : ℕ). take (n - 22607) (drop 22607 (encoded m))) long
    ∙ (let e : 22607 + length m.processor.memory.banks.ram - 22607 ≡ length m.processor.memory.banks.ram = omega arith in ap (λ (n : ℕ). take n (drop 22607 (encoded m))) e)
    ∙ ap (take (length m.processor.memory.banks.ram)) p.ram
    ∙ take_all (length m.processor.memory.banks.ram) m.processor.memory.banks.ram (omega arith) in
    let rows : rows_in (slice_range (encoded m) 16847 22607) ≡ m.processor.memory.picture.picture.rows =
    ap rows_in p.picture ∙ rows_back m.processor.memory.picture.picture.rows legal.stores.rows legal.stores.row in
    machine_in_is image (encoded m)
    ∙ assembled_alike _ _ _ _ _ _ _ _ _ _ _ _ _ _ _ _ _ _ _ _ (registers_of_bytes (kind_of_image image) m (sym of.kind)) p.vram p.wram p.oam p.hram p.sound rows end (sym of.rom) (sym of.rumble)
    ∙ assembled_again m

zeros_all : list_all (λ b. b == 0) unused ≡ true
unfolding unused
zeros_all = refl

halves_of : (xs : List ℕ) → All (λ v. v < 16) xs → list_all (λ b. nat_lt b 16) xs ≡ true
halves_of [] h = refl
halves_of (x ∷ xs) h = rw (lt-ltb x 16 (All-head (λ v. v < 16) x xs h), halves_of xs (All-tail (λ v. v < 16) x xs h)) refl

halves : (xs : List ℕ) → list_all (λ b. nat_lt b 16) xs ≡ true → All (λ v. v < 16) xs
halves [] e = All-nil (λ v. v < 16)
halves (x ∷ xs) e = let p = and_parts _ _ e in All-cons (λ v. v < 16) x xs (ltb-true x 16 p.0) (halves xs p.1)

ram_fits :
    (kind : Controller) (ram : List ℕ) (n : ℕ) (encoded : List ℕ)
    → IsLegalRam kind ram → slice_range encoded 22607 (22607 + n) ≡ ram → is_legal (bytes 22607 n (ram_rule kind)) encoded ≡ true
ram_fits NoMbc ram n encoded legal same = refl
ram_fits Mbc1 ram n encoded legal same = refl
ram_fits Mbc2 ram n encoded legal same = ap (list_all (λ b. nat_lt b 16)) same ∙ halves_of ram legal.1
ram_fits Mbc3 ram n encoded legal same = refl
ram_fits Mbc3Clock ram n encoded legal same = refl
ram_fits Mbc5 ram n encoded legal same = refl

table_fields : (image : List ℕ) (m : MachineState) → IsMachineOf image m → All (λ field. is_legal field (encoded m) ≡ true) (table_of image)
unfolding encoded table_of
table_fields image m of =
    let legal = of.legal in
    let b : BusState = m.processor.memory in
    let p = encoded_parts m legal in
    let n : ℕ = ram_length_of image in
    let count : 22607 + n - 22607 ≡ length b.banks.ram = omega (arith, of.ram_length) in
    let end : slice_range (encoded m) 22607 (22607 + n) ≡ b.banks.ram =
    ap (λ (k : ℕ). take k (drop 22607 (encoded m))) count ∙ ap (take (length b.banks.ram)) p.ram ∙ take_all (length b.banks.ram) b.banks.ram (omega arith) in
    let zeros : list_all (λ b. b == 0) (slice_range (encoded m) 67 128) ≡ true = ap (list_all (λ b. b == 0)) p.unused ∙ zeros_all in
    let own : AreLegalFields b.banks.state.kind b.banks.rumble n (encoded m) =
    encoded_is_legal b.banks n (without_memory m) (stores_bytes b) legal.registers zeros (ram_fits b.banks.state.kind b.banks.ram n (encoded m) legal.stores.ram end) in
    let kind : AreLegalFields (kind_of_image image) b.banks.rumble n (encoded m) = subst (λ (k : Controller). AreLegalFields k b.banks.rumble n (encoded m)) of.kind own in
    subst (λ (r : Bool). AreLegalFields (kind_of_image image) r n (encoded m)) of.rumble kind

pub encoded_legal : (image : List ℕ) (m : MachineState) → IsMachineOf image m → IsLegalSnapshot image (encoded m)
encoded_legal image m of = record {
  length = encoded_long m of.legal ∙ ap snapshot_length of.ram_length;
  fields = table_fields image m of;
}

-- two machines of one image with one snapshot are equal
pub one_machine : (image : List ℕ) (m n : MachineState) → IsMachineOf image m → IsMachineOf image n → encoded m ≡ encoded n → m ≡ n
one_machine image m n first second same = sym (machine_back image m first) ∙ ap (machine_in image) same ∙ machine_back image n second

-- ---- the machine of a snapshot

encoded_of_assembled :
    (r : MachineWithoutMemory) (vram wram oam hram sound : List ℕ) (rows : List (List ℕ)) (ram rom : List ℕ) (rumble : Bool)
    → encoded (assemble r vram wram oam hram sound rows ram rom rumble)
    ≡ fixed_fields (without_memory (assemble r vram wram oam hram sound rows ram rom rumble)) ++ (unused ++ (vram ++ (wram ++ (oam ++ (hram ++ (sound ++ (picture_bytes rows ++ ram)))))))
unfolding encoded assemble
encoded_of_assembled r vram wram oam hram sound rows ram rom rumble = refl

zeros_are : (xs : List ℕ) → list_all (λ b. b == 0) xs ≡ true → xs ≡ replicate (length xs) 0
zeros_are [] e = refl
zeros_are (x ∷ xs) e =
    let p = and_parts _ _ e in
    let x0 : x ≡ 0 = eqb-true x 0 p.0 in
    let rest : xs ≡ replicate (length xs) 0 = zeros_are xs p.1 in
    rw x0 (ap (λ (ys : List ℕ). 0 ∷ ys) rest)

unused_are : (xs : List ℕ) → length xs ≡ 61 → list_all (λ b. b == 0) xs ≡ true → unused ≡ xs
unfolding unused
unused_are xs long e = sym (zeros_are xs e ∙ ap (λ (n : ℕ). replicate n 0) long)

pub fields_of : (image bytes : List ℕ) → IsLegalSnapshot image bytes → AreLegalFields (kind_of_image image) (has_rumble image) (ram_length_of image) bytes
unfolding table_of
fields_of image bytes h = h.fields

-- a cartridge of which only its kind and motor count
pub cart : (image bytes : List ℕ) → CartridgeState
cart image bytes = record { rom = image; ram = []; rumble = has_rumble image; state = (registers_in (kind_of_image image) bytes).bus.banks }

pub registers_are_legal : (image bytes : List ℕ) → ((i : ℕ) → get_or bytes i 0 < 256) → IsLegalSnapshot image bytes → AreLegalFor (cart image bytes) (registers_in (kind_of_image image) bytes)
unfolding cart
registers_are_legal image bytes fit h = registers_legal (record { rom = image; ram = []; rumble = has_rumble image; state = (registers_in (kind_of_image image) bytes).bus.banks }) (ram_length_of image) bytes fit (fields_of image bytes h)

flag_below : (image bytes : List ℕ) → ((i : ℕ) → get_or bytes i 0 < 256) → IsLegalSnapshot image bytes → (registers_in (kind_of_image image) bytes).bus.interrupt_flag < 32
flag_below image bytes fit h = (registers_are_legal image bytes fit h).bus.interrupt_flag

fit_part : (bytes : List ℕ) (a n : ℕ) → ((i : ℕ) → get_or bytes i 0 < 256) → (i : ℕ) → get_or (take n (drop a bytes)) i 0 < 256
fit_part bytes a n fit i =
    elim (cases_lt i n) [
      | inl lt ↦ rw (get_or-take n (drop a bytes) i 0 lt, get_or-drop a bytes i 0) (fit (a + i))
      | inr le ↦ rw (get_or_past (take n (drop a bytes)) i 0 (omega (arith, length-take n (drop a bytes)))) (omega arith)
    ]

encoded_join :
    (f f' u u' v w o h s p p' r : List ℕ) → f ≡ f' → u ≡ u' → p ≡ p'
    → f ++ (u ++ (v ++ (w ++ (o ++ (h ++ (s ++ (p ++ r))))))) ≡ f' ++ (u' ++ (v ++ (w ++ (o ++ (h ++ (s ++ (p' ++ r)))))))
encoded_join f f' u u' v w o h s p p' r e0 e1 e2 = cc

-- the snapshot of the machine that a legal snapshot stands for is that snapshot
pub encoded_again : (image bytes : List ℕ) → ((i : ℕ) → get_or bytes i 0 < 256) → IsLegalSnapshot image bytes → encoded (machine_in image bytes) ≡ bytes
encoded_again image bytes fit h =
    let kind : Controller = kind_of_image image in
    let fields = fields_of image bytes h in
    let long : length bytes ≡ 22607 + ram_length_of image = h.length in
    let r : MachineWithoutMemory = registers_in kind bytes in
    let own = registers_of_assembled r (slice_range bytes 128 8320) (slice_range bytes 8320 16512) (slice_range bytes 16512 16672) (slice_range bytes 16672 16799) (slice_range bytes 16799 16847) (rows_in (slice_range bytes 16847 22607)) (slice_range bytes 22607 (length bytes)) image (has_rumble image) (flag_below image bytes fit h) in
    let front : fixed_fields r ≡ take 67 bytes = registers_again kind bytes (fields_are kind (has_rumble image) (ram_length_of image) bytes (omega (arith, long)) fit fields) in
    let unused_long : length (slice_range bytes 67 128) ≡ 61 = part_length bytes 67 128 (lit≤ tt) (omega (arith, long)) in
    let picture_long : length (slice_range bytes 16847 22607) ≡ 5760 = part_length bytes 16847 22607 (lit≤ tt) (omega (arith, long)) in
    let unused_same : unused ≡ slice_range bytes 67 128 = unused_are (slice_range bytes 67 128) unused_long (unused_in kind (has_rumble image) (ram_length_of image) bytes fields) in
    let picture : picture_bytes (rows_in (slice_range bytes 16847 22607)) ≡ slice_range bytes 16847 22607 = picture_again (slice_range bytes 16847 22607) picture_long (fit_part bytes 16847 5760 fit) in
    ap encoded (machine_in_is image bytes)
    ∙ encoded_of_assembled r (slice_range bytes 128 8320) (slice_range bytes 8320 16512) (slice_range bytes 16512 16672) (slice_range bytes 16672 16799) (slice_range bytes 16799 16847) (rows_in (slice_range bytes 16847 22607)) (slice_range bytes 22607 (length bytes)) image (has_rumble image)
    ∙ encoded_join _ _ _ _ (slice_range bytes 128 8320) (slice_range bytes 8320 16512) (slice_range bytes 16512 16672) (slice_range bytes 16672 16799) (slice_range bytes 16799 16847) _ _ (slice_range bytes 22607 (length bytes)) (ap fixed_fields own ∙ front) unused_same picture
    ∙ parts_join bytes

-- ---- and that machine is legal

pub ram_long : (zeros encoded : List ℕ) (n : ℕ) → length zeros ≡ n → length encoded ≡ 22607 + n → length (slice_range encoded 22607 (length encoded)) ≡ length zeros
ram_long zeros encoded n all long = part_length encoded 22607 (length encoded) (omega arith) (omega arith) ∙ omega arith

ram_same : (encoded : List ℕ) (n : ℕ) → length encoded ≡ 22607 + n → slice_range encoded 22607 (length encoded) ≡ slice_range encoded 22607 (22607 + n)
ram_same encoded n long = ap (λ (k : ℕ). take (k - 22607) (drop 22607 encoded)) long

pub ram_legal :
    (kind : Controller) (zeros encoded : List ℕ) (n : ℕ)
    → IsLegalRam kind zeros → length zeros ≡ n → length encoded ≡ 22607 + n → is_legal (bytes 22607 n (ram_rule kind)) encoded ≡ true
    → IsLegalRam kind (slice_range encoded 22607 (length encoded))
ram_legal NoMbc zeros encoded n legal all long e = rw (ram_long zeros encoded n all long) legal
ram_legal Mbc1 zeros encoded n legal all long e = rw (ram_long zeros encoded n all long) legal
ram_legal Mbc2 zeros encoded n legal all long e =
    (ram_long zeros encoded n all long ∙ legal.0, subst (λ (xs : List ℕ). All (λ v. v < 16) xs) (sym (ram_same encoded n long)) (halves (slice_range encoded 22607 (22607 + n)) e))
ram_legal Mbc3 zeros encoded n legal all long e = rw (ram_long zeros encoded n all long) legal
ram_legal Mbc3Clock zeros encoded n legal all long e = rw (ram_long zeros encoded n all long) legal
ram_legal Mbc5 zeros encoded n legal all long e = rw (ram_long zeros encoded n all long) legal

assembled_legal :
    (image bytes : List ℕ) (zeros : List ℕ)
    → ((i : ℕ) → get_or bytes i 0 < 256) → IsLegalSnapshot image bytes → IsLegalRam (kind_of_image image) zeros → length zeros ≡ ram_length_of image
    → IsMachineOf image (assemble (registers_in (kind_of_image image) bytes) (slice_range bytes 128 8320) (slice_range bytes 8320 16512) (slice_range bytes 16512 16672) (slice_range bytes 16672 16799) (slice_range bytes 16799 16847) (rows_in (slice_range bytes 16847 22607)) (slice_range bytes 22607 (length bytes)) image (has_rumble image))
unfolding assemble
assembled_legal image bytes zeros fit h legal all =
    let kind : Controller = kind_of_image image in
    let r : MachineWithoutMemory = registers_in kind bytes in
    let long : length bytes ≡ 22607 + ram_length_of image = h.length in
    let ram : List ℕ = slice_range bytes 22607 (length bytes) in
    let cartridge : CartridgeState = record { rom = image; ram = ram; rumble = has_rumble image; state = r.bus.banks } in
    let registers : AreLegalFor cartridge r = registers_legal cartridge (ram_length_of image) bytes fit (fields_of image bytes h) in
    let own = registers_of_assembled r (slice_range bytes 128 8320) (slice_range bytes 8320 16512) (slice_range bytes 16512 16672) (slice_range bytes 16672 16799) (slice_range bytes 16799 16847) (rows_in (slice_range bytes 16847 22607)) ram image (has_rumble image) registers.bus.interrupt_flag in
    let ram_all : IsLegalRam kind ram = ram_legal kind zeros bytes (ram_length_of image) legal all long (ram_in kind (has_rumble image) (ram_length_of image) bytes (fields_of image bytes h)) in
    record {
      legal = record {
        registers = subst (λ (s : MachineWithoutMemory). AreLegalFor cartridge s) (sym own) registers;
        stores = record {
          vram = part_length bytes 128 8320 (lit≤ tt) (omega (arith, long));
          wram = part_length bytes 8320 16512 (lit≤ tt) (omega (arith, long));
          oam = part_length bytes 16512 16672 (lit≤ tt) (omega (arith, long));
          hram = part_length bytes 16672 16799 (lit≤ tt) (omega (arith, long));
          sound = part_length bytes 16799 16847 (lit≤ tt) (omega (arith, long));
          rows = rows_length (slice_range bytes 16847 22607);
          row = rows_are_rows (slice_range bytes 16847 22607) (fit_part bytes 16847 5760 fit);
          ram = ram_all;
        };
      };
      rom = refl;
      kind = refl;
      rumble = refl;
      ram_length = ram_long zeros bytes (ram_length_of image) all long ∙ all;
    }

pub machine_legal :
    (image bytes : List ℕ) (zeros : List ℕ)
    → ((i : ℕ) → get_or bytes i 0 < 256) → IsLegalSnapshot image bytes → IsLegalRam (kind_of_image image) zeros → length zeros ≡ ram_length_of image
    → IsMachineOf image (machine_in image bytes)
machine_legal image bytes zeros fit h legal all =
    subst (λ (m : MachineState). IsMachineOf image m) (sym (machine_in_is image bytes)) (assembled_legal image bytes zeros fit h legal all)

-- 160 M-cycles copy the source page.
use Rattle.std.proofs.Common.{◌≡◌, ℕ, zero, suc, ◌+◌, ◌-◌, ◌<◌, ◌≤◌, true, false, length, cond, refl, sym, ap, subst, ◌∙◌, arith, inl, inr, set, length-set, get_or, ltb}
use Rattle.std.specs.Prelude.{◌⊎◌, slice_index, ◌||◌, if◌then◌else◌}
use Rattle.std.proofs.lemmas.Bool.{lt-ltb, le-ltb, cases_lt}
use Rattle.std.proofs.lemmas.List.{get_or-set_same, get_or-set_other}
use Rattle.repeated_steps.proofs.Iterates.{iterate-suc}
use Rattle.picture_unit.specs.Picture as picture
use Rattle.bank_controllers.specs.CartridgeState as banks
use Rattle.picture_unit.specs.Stores.{is_oam_closed}
use Rattle.memory_map.specs.declared.place.Place.TheVariants.{Oam}
use Rattle.memory_map.specs.Map.{place}
use Rattle.memory_map.specs.State.{BusState}
use Rattle.memory_map.specs.Bus.{peeked, value_at, is_closed, read_at, written, register_written}
use Rattle.memory_map.specs.Ticks.{tick_timer, tick_serial, tick_picture, tick, copied_byte, dma_source, copies}
use Rattle.memory_map.specs.CopyLaws.{source_page, copying_for, OamHoldsTheSourcePage}
use Rattle.memory_map.proofs.Together.{low_place, dma_source_low}

-- an M-cycle of the picture unit changes neither store

vram-drawn : (s : picture.PictureUnit) → (picture.drawn s).vram ≡ s.vram
unfolding picture.drawn picture.line_drawn
vram-drawn s = elim (picture.draws s.state) as (λ t. (cond t (picture.line_drawn s) s).vram ≡ s.vram) [ true ↦ refl | false ↦ refl ]

oam-drawn : (s : picture.PictureUnit) → (picture.drawn s).oam ≡ s.oam
unfolding picture.drawn picture.line_drawn
oam-drawn s = elim (picture.draws s.state) as (λ t. (cond t (picture.line_drawn s) s).oam ≡ s.oam) [ true ↦ refl | false ↦ refl ]

vram-tick : (d : picture.PictureAndRequests) → (picture.tick d).picture.vram ≡ d.picture.vram
unfolding picture.tick picture.evaluated picture.moved
vram-tick d =
    elim (picture.is_on d.picture.state) as (λ t. (cond t (picture.evaluated (picture.moved d)) d).picture.vram ≡ d.picture.vram) [ true ↦ vram-drawn _ | false ↦ refl ]

oam-tick : (d : picture.PictureAndRequests) → (picture.tick d).picture.oam ≡ d.picture.oam
unfolding picture.tick picture.evaluated picture.moved
oam-tick d =
    elim (picture.is_on d.picture.state) as (λ t. (cond t (picture.evaluated (picture.moved d)) d).picture.oam ≡ d.picture.oam) [ true ↦ oam-drawn _ | false ↦ refl ]

-- n bytes are copied since the bus was b
record HasCopied (n xx : ℕ) (b c : BusState) : Type 0 where
  dma : c.control.dma ≡ xx
  count : c.control.dma_copied ≡ n
  banks : c.banks ≡ b.banks
  wram : c.wram ≡ b.wram
  vram : c.picture.picture.vram ≡ b.picture.picture.vram
  size : length c.picture.picture.oam ≡ 160
  bytes : (i : ℕ) → i < n → slice_index c.picture.picture.oam i ≡ peeked b (source_page xx + i)
  rest : (i : ℕ) → n ≤ i → slice_index c.picture.picture.oam i ≡ slice_index b.picture.picture.oam i

-- a source page is in the cartridge, VRAM or WRAM, which no M-cycle changes
source_stays : (n xx : ℕ) (b c : BusState) (a : ℕ) → HasCopied n xx b c → a < 0xE000 → peeked (tick_serial (tick_timer c)) a ≡ peeked b a
unfolding peeked
source_stays n xx b c a h low =
    low_place (λ p. value_at (tick_serial (tick_timer c)) p ≡ value_at b p) a low
    (λ i. ap (λ k. banks.read_at k i) h.banks) (λ i. ap (λ l. slice_index l i) h.vram) (λ i. ap (λ l. slice_index l i) h.wram)

source_is : (n xx : ℕ) (b c : BusState) → HasCopied n xx b c → dma_source c.control ≡ source_page xx + n
source_is n xx b c h = rw (h.dma, h.count) refl

byte_copied : (n xx : ℕ) (b c : BusState) → xx < 256 → n < 160 → HasCopied n xx b c → peeked (tick_serial (tick_timer c)) (dma_source c.control) ≡ peeked b (source_page xx + n)
byte_copied n xx b c small lt h =
    let low : dma_source c.control < 0xE000 = dma_source_low c.control (omega (arith, h.dma)) (omega (arith, h.count)) in
    source_stays n xx b c (dma_source c.control) h low ∙ ap (peeked b) (source_is n xx b c h)

below_or_last : (i n : ℕ) → i < suc n → (i < n) ⊎ (i ≡ n)
below_or_last i n lt = elim (cases_lt i n) [ inl below ↦ inl below | inr above ↦ inr (omega arith) ]

one_more : (n xx : ℕ) (b c : BusState) → xx < 256 → n < 160 → HasCopied n xx b c → HasCopied (suc n) xx b (tick c)
one_more n xx b c small lt h =
    let e = tick_serial (tick_timer c) in
    let runs : tick c ≡ tick_picture (copied_byte e) = ap (λ t. tick_picture (cond t (copied_byte e) e)) (lt-ltb c.control.dma_copied 160 (omega (arith, h.count))) in
    let old = c.picture.picture.oam in
    let at = c.control.dma_copied in
    let value = peeked e (dma_source c.control) in
    let within : at < length old = omega (arith, h.count, h.size) in
    let oam : (tick_picture (copied_byte e)).picture.picture.oam ≡ set old at value = oam-tick (copied_byte e).picture in
    subst (HasCopied (suc n) xx b) (sym runs) (record {
      dma = h.dma;
      count = omega (arith, h.count);
      banks = h.banks;
      wram = h.wram;
      vram = vram-tick (copied_byte e).picture ∙ h.vram;
      size = ap length oam ∙ length-set old at value ∙ h.size;
      bytes = λ i below. elim (below_or_last i n below) [
        | inl before ↦ ap (λ l. slice_index l i) oam ∙ get_or-set_other old at i value 0 (λ same. omega (arith, same, before, h.count)) ∙ h.bytes i before
        | inr last ↦
            let here : i ≡ at = omega (arith, last, h.count) in
            ap (λ l. slice_index l i) oam ∙ ap (λ (k : ℕ). get_or (set old at value) k 0) here ∙ get_or-set_same old at value 0 within
            ∙ byte_copied n xx b c small lt h ∙ ap (λ (k : ℕ). peeked b (source_page xx + k)) (sym last)
      ];
      rest = λ i above. ap (λ l. slice_index l i) oam ∙ get_or-set_other old at i value 0 (λ same. omega (arith, same, above, h.count)) ∙ h.rest i (omega arith);
    })

begins : (xx : ℕ) (b : BusState) → length b.picture.picture.oam ≡ 160 → HasCopied 0 xx b (written 0xFF46 xx b)
unfolding written register_written
begins xx b size = record {
  dma = refl;
  count = refl;
  banks = refl;
  wram = refl;
  vram = refl;
  size = size;
  bytes = λ i below. absurd (omega arith);
  rest = λ i above. refl;
}

copied_so_far : (n xx : ℕ) (b : BusState) → xx < 256 → length b.picture.picture.oam ≡ 160 → n ≤ 160 → HasCopied n xx b (copying_for n xx b)
unfolding copying_for
copied_so_far zero xx b small size le = begins xx b size
copied_so_far (suc n) xx b small size le =
    subst (HasCopied (suc n) xx b) (sym (iterate-suc tick n (written 0xFF46 xx b))) (one_more n xx b _ small (omega arith) (copied_so_far n xx b small size (omega arith)))

at_oam : (a : ℕ) → 0xFE00 ≤ a → a < 0xFEA0 → place a ≡ Oam (a - 0xFE00)
at_oam a low high =
    let rom : ltb a 0x8000 ≡ false = le-ltb a 0x8000 (omega arith) in
    let vram : ltb a 0xA000 ≡ false = le-ltb a 0xA000 (omega arith) in
    let ram : ltb a 0xC000 ≡ false = le-ltb a 0xC000 (omega arith) in
    let wram : ltb a 0xE000 ≡ false = le-ltb a 0xE000 (omega arith) in
    let echo : ltb a 0xFE00 ≡ false = le-ltb a 0xFE00 low in
    let oam : ltb a 0xFEA0 ≡ true = lt-ltb a 0xFEA0 high in
    rw (rom, vram, ram, wram, echo, oam) refl

closed_oam : (a : ℕ) (c : BusState) → c.control.dma_copied < 160 → 0xFE00 ≤ a → a < 0xFEA0 → read_at c a ≡ 0xFF
unfolding read_at
closed_oam a c copying low high =
    let runs : ltb c.control.dma_copied 160 ≡ true = lt-ltb c.control.dma_copied 160 copying in
    ap (λ p. if is_closed c p then 0xFF else value_at c p) (at_oam a low high)
    ∙ ap (λ t. if t || is_oam_closed c.picture.picture.state then 0xFF else value_at c (Oam (a - 0xFE00))) runs

over_at : (n : ℕ) (c : BusState) → n ≡ 160 → c.control.dma_copied ≡ n → copies c ≡ false
over_at n c last count = le-ltb c.control.dma_copied 160 (omega (arith, last, count))

pub oam_holds_the_page : OamHoldsTheSourcePage
oam_holds_the_page xx b small size = record {
  copied = λ n i le below. (copied_so_far n xx b small size le).bytes i below;
  not_yet = λ n i le above. (copied_so_far n xx b small size le).rest i above;
  closed = λ n a lt low high. closed_oam a (copying_for n xx b) (subst (λ (k : ℕ). k < 160) (sym (copied_so_far n xx b small size (omega arith)).count) lt) low high;
  over = over_at 160 (copying_for 160 xx b) refl (copied_so_far 160 xx b small size (omega arith)).count;
}

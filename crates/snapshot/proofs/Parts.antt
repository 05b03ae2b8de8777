-- A snapshot as its nine parts, and the parts of bytes.
use Rattle.std.proofs.Common.{◌≡◌, ℕ, ◌+◌, ◌-◌, ◌≤◌, List, ◌++◌, length, take, drop, sym, ap, ◌∙◌, length-append, length-take, length-drop, lit≤, arith}
use Rattle.std.specs.Prelude.{slice_range}
use Rattle.std.proofs.lemmas.List.{take_at, drop_at, take-append-drop}
use Rattle.std.proofs.lemmas.List.Folds.{drop_split}
use Rattle.std.proofs.lemmas.Slice.{between_to_end}
use Rattle.std.proofs.Math.Seq.{drop-drop}

-- what a snapshot holds in each place
pub record AreParts (encoded f u v w o h s p r : List ℕ) : Type 0 where
  pub fixed : take 67 encoded ≡ f
  pub unused : slice_range encoded 67 128 ≡ u
  pub vram : slice_range encoded 128 8320 ≡ v
  pub wram : slice_range encoded 8320 16512 ≡ w
  pub oam : slice_range encoded 16512 16672 ≡ o
  pub hram : slice_range encoded 16672 16799 ≡ h
  pub sound : slice_range encoded 16799 16847 ≡ s
  pub picture : slice_range encoded 16847 22607 ≡ p
  pub ram : drop 22607 encoded ≡ r

-- after a part of length k comes the rest
next : (encoded : List ℕ) (n k : ℕ) (part rest : List ℕ) → drop n encoded ≡ part ++ rest → length part ≡ k → drop (n + k) encoded ≡ rest
next encoded n k part rest here long = sym (drop-drop k n encoded) ∙ ap (drop k) here ∙ drop_at part rest k long

part_is : (encoded : List ℕ) (n k : ℕ) (part rest : List ℕ) → drop n encoded ≡ part ++ rest → length part ≡ k → take k (drop n encoded) ≡ part
part_is encoded n k part rest here long = ap (take k) here ∙ take_at part rest k long

pub parts_of :
    (fixed unused vram wram oam hram sound picture ram : List ℕ)
    → length fixed ≡ 67
    → length unused ≡ 61
    → length vram ≡ 8192
    → length wram ≡ 8192
    → length oam ≡ 160
    → length hram ≡ 127
    → length sound ≡ 48
    → length picture ≡ 5760
    → AreParts (fixed ++ (unused ++ (vram ++ (wram ++ (oam ++ (hram ++ (sound ++ (picture ++ ram)))))))) fixed unused vram wram oam hram sound picture ram
parts_of fixed unused vram wram oam hram sound picture ram hf hu hv hw ho hh hs hp =
    let t8 : List ℕ = ram in
    let t7 : List ℕ = picture ++ t8 in
    let t6 : List ℕ = sound ++ t7 in
    let t5 : List ℕ = hram ++ t6 in
    let t4 : List ℕ = oam ++ t5 in
    let t3 : List ℕ = wram ++ t4 in
    let t2 : List ℕ = vram ++ t3 in
    let t1 : List ℕ = unused ++ t2 in
    let encoded : List ℕ = fixed ++ t1 in
    let d1 : drop 67 encoded ≡ t1 = drop_at fixed t1 67 hf in
    let d2 : drop 128 encoded ≡ t2 = next encoded 67 61 unused t2 d1 hu in
    let d3 : drop 8320 encoded ≡ t3 = next encoded 128 8192 vram t3 d2 hv in
    let d4 : drop 16512 encoded ≡ t4 = next encoded 8320 8192 wram t4 d3 hw in
    let d5 : drop 16672 encoded ≡ t5 = next encoded 16512 160 oam t5 d4 ho in
    let d6 : drop 16799 encoded ≡ t6 = next encoded 16672 127 hram t6 d5 hh in
    let d7 : drop 16847 encoded ≡ t7 = next encoded 16799 48 sound t7 d6 hs in
    let d8 : drop 22607 encoded ≡ t8 = next encoded 16847 5760 picture t8 d7 hp in
    record {
      fixed = take_at fixed t1 67 hf;
      unused = part_is encoded 67 61 unused t2 d1 hu;
      vram = part_is encoded 128 8192 vram t3 d2 hv;
      wram = part_is encoded 8320 8192 wram t4 d3 hw;
      oam = part_is encoded 16512 160 oam t5 d4 ho;
      hram = part_is encoded 16672 127 hram t6 d5 hh;
      sound = part_is encoded 16799 48 sound t7 d6 hs;
      picture = part_is encoded 16847 5760 picture t8 d7 hp;
      ram = d8;
    }

pub parts_length :
    (fixed unused vram wram oam hram sound picture ram : List ℕ)
    → length fixed ≡ 67
    → length unused ≡ 61
    → length vram ≡ 8192
    → length wram ≡ 8192
    → length oam ≡ 160
    → length hram ≡ 127
    → length sound ≡ 48
    → length picture ≡ 5760
    → length (fixed ++ (unused ++ (vram ++ (wram ++ (oam ++ (hram ++ (sound ++ (picture ++ ram)))))))) ≡ 22607 + length ram
parts_length fixed unused vram wram oam hram sound picture ram hf hu hv hw ho hh hs hp = simp length-append (omega arith)

-- bytes are their parts one after another
pub parts_join :
    (bytes : List ℕ)
    → take 67 bytes ++ (slice_range bytes 67 128 ++ (slice_range bytes 128 8320 ++ (slice_range bytes 8320 16512 ++ (slice_range bytes 16512 16672 ++ (slice_range bytes 16672 16799 ++ (slice_range bytes 16799 16847 ++ (slice_range bytes 16847 22607 ++ slice_range bytes 22607 (length bytes))))))))
    ≡ bytes
parts_join bytes =
    let e8 : slice_range bytes 22607 (length bytes) ≡ drop 22607 bytes = between_to_end bytes 22607 (length bytes) (omega arith) in
    let e7 = ap (λ (t : List ℕ). slice_range bytes 16847 22607 ++ t) e8 ∙ sym (drop_split bytes 16847 22607 (lit≤ tt)) in
    let e6 = ap (λ (t : List ℕ). slice_range bytes 16799 16847 ++ t) e7 ∙ sym (drop_split bytes 16799 16847 (lit≤ tt)) in
    let e5 = ap (λ (t : List ℕ). slice_range bytes 16672 16799 ++ t) e6 ∙ sym (drop_split bytes 16672 16799 (lit≤ tt)) in
    let e4 = ap (λ (t : List ℕ). slice_range bytes 16512 16672 ++ t) e5 ∙ sym (drop_split bytes 16512 16672 (lit≤ tt)) in
    let e3 = ap (λ (t : List ℕ). slice_range bytes 8320 16512 ++ t) e4 ∙ sym (drop_split bytes 8320 16512 (lit≤ tt)) in
    let e2 = ap (λ (t : List ℕ). slice_range bytes 128 8320 ++ t) e3 ∙ sym (drop_split bytes 128 8320 (lit≤ tt)) in
    let e1 = ap (λ (t : List ℕ). slice_range bytes 67 128 ++ t) e2 ∙ sym (drop_split bytes 67 128 (lit≤ tt)) in
    ap (λ (t : List ℕ). take 67 bytes ++ t) e1 ∙ take-append-drop 67 bytes

-- the length of a part of bytes that reach so far
pub part_length : (bytes : List ℕ) (n m : ℕ) → n ≤ m → m ≤ length bytes → length (slice_range bytes n m) ≡ m - n
part_length bytes n m low high = omega (arith, length-take {A = ℕ} (m - n) (drop n bytes), length-drop {A = ℕ} n bytes)

use Rattle.std.proofs.Common.{◌≡◌, ◌<◌, ℕ, List, [], ◌++◌, length, get_or, ◌∙◌, ap, subst, arith}
use Rattle.picture_unit.specs.Picture.{PictureUnit}
use Rattle.bank_controllers.specs.CartridgeState.{IsLegalRam}
use Rattle.snapshot.specs.Encoding.{picture_bytes}
use Rattle.machine.specs.Legal.{IsRow}
use Rattle.snapshot.proofs.Pictures.{rows_each}
use Rattle.snapshot.proofs.to_bytes.write_stores.Goals as goal

pub returns-clause-legal : goal.returns-clause-legal
returns-clause-legal c = record {
  vram = subst (λ (xs : List ℕ). length xs ≡ 8192) c.region.ensures.bytes c.region.ensures.fit;
  wram = subst (λ (xs : List ℕ). length xs ≡ 8192) c.region-2.ensures.bytes c.region-2.ensures.fit;
  oam = subst (λ (xs : List ℕ). length xs ≡ 160) c.region-3.ensures.bytes c.region-3.ensures.fit;
  hram = subst (λ (xs : List ℕ). length xs ≡ 127) c.region-4.ensures.bytes c.region-4.ensures.fit;
  sound = subst (λ (xs : List ℕ). length xs ≡ 48) c.region-5.ensures.bytes c.region-5.ensures.fit;
  rows = c.requires.rows;
  row =
      rows_each c.args.machine.now.processor.memory.picture.picture.rows c.requires.rows (
      subst (λ (s : PictureUnit). (y : ℕ) → y < 144 → IsRow (get_or s.rows y [])) c.picture.ensures c.write_picture.ensures.rows
      );
  ram = subst (λ (xs : List ℕ). IsLegalRam c.args.machine.now.processor.memory.banks.state.kind xs) c.region-6.ensures.bytes c.region-6.ensures.fit.1;
}

pub copy_from_slice-requires-6 : goal.copy_from_slice-requires-6
copy_from_slice-requires-6 c =
    omega (
      arith,
      c.requires.room,
      c.split_at_mut-unused.ensures.back_len,
      c.split_at_mut-vram.ensures.back_len,
      c.split_at_mut-wram.ensures.back_len,
      c.split_at_mut-oam.ensures.back_len,
      c.split_at_mut-hram.ensures.back_len,
      c.split_at_mut-sound.ensures.back_len,
      c.split_at_mut-picture.ensures.back_len,
      c.region-6.ensures.fit.0,
    )

pub returns-clause-encoded : goal.returns-clause-encoded
returns-clause-encoded c =
    let vram = c.copy_from_slice.ensures.after ∙ c.region.ensures.bytes in
    let wram = c.copy_from_slice-2.ensures.after ∙ c.region-2.ensures.bytes in
    let oam = c.copy_from_slice-3.ensures.after ∙ c.region-3.ensures.bytes in
    let hram = c.copy_from_slice-4.ensures.after ∙ c.region-4.ensures.bytes in
    let sound = c.copy_from_slice-5.ensures.after ∙ c.region-5.ensures.bytes in
    let rows = c.write_picture.ensures.bytes ∙ ap (λ (s : PictureUnit). picture_bytes s.rows) c.picture.ensures in
    let ram = c.copy_from_slice-6.ensures.after ∙ c.region-6.ensures.bytes in
    λ i. c.clear.ensures i ++ (vram i ++ (wram i ++ (oam i ++ (hram i ++ (sound i ++ (rows i ++ ram i))))))

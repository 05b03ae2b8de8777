use Rattle.std.proofs.Common.{refl, drop, ◌≡◌, ◌+◌, ◌-◌, ◌*◌, ◌++◌, [], length, get_or, ◌∙◌, arith, rules, List, ℕ}
use Rattle.std.specs.Int.{w16, w32, to_le_bytes}
use borrow.Rule.Slice.PartMut.{put_mid}
use lib.ListN.{replicate}
use Rattle.input_entries.proofs.CodeLengths.{code_put}
use Rattle.recording.specs.Format.{list_magic}
use Rattle.recording.proofs.format.list_sector.Goals as goal

pub loop-i-preserved : goal.loop-i-preserved
loop-i-preserved c =
    let es = c.args.entries.now in
    let i = c.loop-i.i in
    let six : length (get_or es i (record { code = [] })).code ≡ 6 = search rules in
    let head : List ℕ = list_magic ++ to_le_bytes w32 c.args.number ++ to_le_bytes w16 (length es) in
    let put = code_put head es 10 502 i (16 + 6 * i - (10 + 6 * i)) c.loop-i.sector c.copy_from_slice-in-loop-i.new.self refl (omega arith) (omega arith) c.loop-i-test.true six c.copy_from_slice-in-loop-i.ensures.after c.loop-i.invariant.bytes c.loop-i.invariant.size in
    record { bytes = put.0; size = put.1 }

pub loop-i-init : goal.loop-i-init
loop-i-init c = record {
  bytes = λ i. put_mid 8 2 (put_mid 4 4 (c.copy_from_slice.ensures.after i ++ drop 4 (replicate 512 0)) ((c.copy_from_slice-2.ensures.after ∙ c.to_le_bytes.ensures) i)) ((c.copy_from_slice-3.ensures.after ∙ c.to_le_bytes-2.ensures) i);
  size = refl;
}

use Rattle.std.proofs.Common.{◌≡◌, ◌==◌, ◌+◌, ◌-◌, ◌*◌, ◌++◌, [], ◌∷◌, length, get_or, take, drop, refl, sym, ◌∙◌, arith, rules, List, ℕ, true, false}
use Rattle.std.proofs.lemmas.Bool.Decides.{nat_tests}
use Rattle.std.proofs.lemmas.List.{take_all}
use Rattle.std.specs.Int.{w16, to_le_bytes}
use Rattle.std.specs.List.{flat_map}
use borrow.Rule.Slice.PartMut.{put_mid}
use lib.ListN.{replicate}
use Rattle.input_entries.proofs.CodeLengths.{code_put}
use Rattle.input_entries.specs.declared.StoredEntry.{StoredEntry}
use Rattle.log_format.specs.Log.{log_magic, log_sector}
use Rattle.log_format.specs.declared.root.Version.TheVariants.{Two}
use Rattle.log_format.proofs.format.log_sector.Goals as goal

blank : (index : ℕ) (es : List StoredEntry) → (length es == 0) ≡ true → replicate 512 0 ≡ log_sector index es
blank index [] none = refl
blank index (e ∷ es) none = absurd (grind (arith, nat_tests))

ended : (index i : ℕ) (es : List StoredEntry) → (length es == 0) ≡ false → i ≡ length es
    → log_magic Two ++ to_le_bytes w16 index ++ to_le_bytes w16 (length es) ++ flat_map (λ (x : StoredEntry). x.code) (take i es) ++ replicate (504 - 6 * i) 0 ≡ log_sector index es
ended index i [] some end = cc
ended index i (e ∷ es) some end =
    let all : take i (e ∷ es) ≡ e ∷ es = take_all i (e ∷ es) (omega arith) in
    λ j. log_magic Two ++ to_le_bytes w16 index ++ to_le_bytes w16 (length (e ∷ es)) ++ flat_map (λ (x : StoredEntry). x.code) (all j) ++ replicate (504 - 6 * end j) 0

pub returns-then-is_empty : goal.returns-then-is_empty
returns-then-is_empty c = blank c.args.index c.args.entries.now (sym c.is_empty.ensures ∙ c.if-is_empty.true)

pub loop-i-init : goal.loop-i-init
loop-i-init c = record {
  bytes = λ i. put_mid 6 2 (put_mid 4 2 (c.copy_from_slice.ensures.after i ++ drop 4 (replicate 512 0)) ((c.copy_from_slice-2.ensures.after ∙ c.to_le_bytes.ensures) i)) ((c.copy_from_slice-3.ensures.after ∙ c.to_le_bytes-2.ensures) i);
  size = refl;
}

pub loop-i-preserved : goal.loop-i-preserved
loop-i-preserved c =
    let es = c.args.entries.now in
    let i = c.loop-i.i in
    let six : length (get_or es i (record { code = [] })).code ≡ 6 = search rules in
    let head : List ℕ = log_magic Two ++ to_le_bytes w16 c.args.index ++ to_le_bytes w16 (length es) in
    let put = code_put head es 8 504 i (14 + 6 * i - (8 + 6 * i)) c.loop-i.sector c.copy_from_slice-in-loop-i.new.self refl (omega arith) (omega arith) c.loop-i-test.true six c.copy_from_slice-in-loop-i.ensures.after c.loop-i.invariant.bytes c.loop-i.invariant.size in
    record { bytes = put.0; size = put.1 }

pub returns : goal.returns
returns c =
    c.loop-i.invariant.bytes ∙ ended c.args.index c.loop-i.i c.args.entries.now (sym c.is_empty.ensures ∙ c.if-is_empty.false) (omega (arith, c.loop-i.auto, c.loop-i-test.false))

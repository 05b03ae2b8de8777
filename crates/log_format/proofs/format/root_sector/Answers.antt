use Rattle.std.proofs.Common.{◌≡◌, ◌++◌, ◌+◌, ◌-◌, length, arith, rules, ap, ◌∙◌, sym, refl, [], ◌∷◌, length-append, List, ℕ}
use Rattle.std.specs.Int.{w64, to_le_bytes}
use lib.ListN.{replicate}
use Rattle.log_format.specs.Content.{root_bytes}
use Rattle.log_format.proofs.Roots.{is_two}
use Rattle.log_format.proofs.format.root_sector.Goals as goal

pub returns : goal.returns
returns c =
    let r = c.args.root.now in
    let id : length r.id ≡ 32 = search rules in
    let m : List ℕ = 71 ∷ 66 ∷ 75 ∷ 80 ∷ 82 ∷ 79 ∷ 79 ∷ 84 ∷ [] in
    let m12 : List ℕ = m ++ 2 ∷ 0 ∷ 0 ∷ 0 ∷ [] in
    let m20 : List ℕ = m12 ++ to_le_bytes w64 r.generation in
    let m52 : List ℕ = m20 ++ r.id in
    let m60 : List ℕ = m52 ++ to_le_bytes w64 r.base in
    let l52 : length m52 ≡ 52 = omega (arith, length-append m20 r.id, id) in
    let l60 : length m60 ≡ 60 = omega (arith, length-append m52 (to_le_bytes w64 r.base), l52) in
    let p1 : c.put.new.sector ≡ m ++ replicate 504 0 = c.put.ensures [] refl refl in
    let p2 : c.put-2.new.sector ≡ m12 ++ replicate 500 0 = c.put-2.ensures m refl p1 in
    let p3 : c.put-3.new.sector ≡ m20 ++ replicate 492 0 = c.put-3.ensures m12 refl p2 ∙ ap (λ (g : List ℕ). m12 ++ g ++ replicate (512 - (12 + length g)) 0) c.to_le_bytes.ensures in
    let p4 : c.put-4.new.sector ≡ m52 ++ replicate (512 - (20 + length r.id)) 0 = c.put-4.ensures m20 refl p3 in
    let p5 : c.put-5.new.sector ≡ m60 ++ replicate 452 0 = c.put-5.ensures m52 l52 (p4 ∙ ap (λ n. m52 ++ replicate (512 - (20 + n)) 0) id) ∙ ap (λ (g : List ℕ). m52 ++ g ++ replicate (512 - (52 + length g)) 0) c.to_le_bytes-2.ensures in
    c.put-6.ensures m60 l60 p5 ∙ ap (λ (g : List ℕ). m60 ++ g ++ replicate (512 - (60 + length g)) 0) c.to_le_bytes-3.ensures
    ∙ ap root_bytes (sym (is_two r c.requires))

use Rattle.std.proofs.Common.{◌≡◌, ◌≤◌, ◌<◌, ◌∙◌, length, map, take, true, false, refl, subst, arith}
use Rattle.std.specs.List.{filter, range_with_len}
use Rattle.picture_lines.specs.Pixel.{covers_line, object_at}
use Rattle.picture_lines.specs.declared.object_entry.Object.{Object}
use Rattle.picture_lines.proofs.Objects.{selected-push, selected-full, selected-pass, chosen_found}
use Rattle.picture_lines.proofs.registers.LineRegisters.choice.Goals as goal
use Rattle.picture_lines.proofs.registers.LineRegisters.choice.Goals.{then-covers_line+then-not-is_full, else-covers_line, else-covers_line-via-then-covers_line+else-not-is_full, else-covers_line-via-else-covers_line}

pub loop-index-preserved : goal.loop-index-preserved
loop-index-preserved c =
    let line = c.args.self.now in
    let found = object_at c.args.oam.now in
    let i = c.loop-index.index in
    record {
      later = omega (arith, c.min-end.ensures, c.same_cover_until.ensures.later, c.loop-index.invariant.later);
      right = λ s low below tall.
          let covers = covers_line s in
          let same : covers (found i) ≡ covers_line line (found i) =
          subst (λ (o : Object). covers o ≡ covers_line line o) c.object_at-object.ensures (c.same_cover_until.ensures.same s low (omega (arith, c.min-end.ensures, below)) tall) in
          let before : c.loop-index.objects.items ≡ take 10 (filter covers (map found (range_with_len 0 i))) =
          c.loop-index.invariant.right s low (omega (arith, c.min-end.ensures, below)) tall in
          elim c.if-covers_line.branch [
            | then-covers_line+then-not-is_full w ↦
                let here : covers_line line (found i) ≡ true = cc in
                let room : length c.loop-index.objects.items < 10 = grind arith in
                let more = selected-push covers found 10 i c.loop-index.objects.items before (same ∙ here) room in
                cc
            | else-covers_line w ↦
                elim w.else-covers_line.branch [
                  | else-covers_line-via-then-covers_line+else-not-is_full w' ↦
                      let here : covers_line line (found i) ≡ true = cc in
                      let full : 10 ≤ length c.loop-index.objects.items = grind arith in
                      let kept = selected-full covers found 10 i c.loop-index.objects.items before (same ∙ here) full in
                      cc
                  | else-covers_line-via-else-covers_line w' ↦
                      let here : covers_line line (found i) ≡ false = cc in
                      let kept = selected-pass covers found 10 i c.loop-index.objects.items before (same ∙ here) in
                      cc
                ]
          ];
    }

pub returns-clause-right : goal.returns-clause-right
returns-clause-right c = record {
  right = λ s low below tall. chosen_found s c.args.oam.now c.loop-index.objects.items c.loop-index.index (omega arith)
      (c.loop-index.invariant.right s (omega (arith, low)) below (tall ∙ c.has_bit.ensures));
}

pub returns-clause-objects : goal.returns-clause-objects
returns-clause-objects c =
    chosen_found c.args.self.now c.args.oam.now c.loop-index.objects.items c.loop-index.index (omega arith)
    (c.loop-index.invariant.right c.args.self.now (omega arith) c.loop-index.invariant.later refl)

use Rattle.std.proofs.Common.{◌≡◌, ◌≤◌, ◌<◌, length, true, false, List, subst, sym, arith}
use Rattle.picture_lines.specs.Pixel.{covers_line, object_at, objects_of}
use Rattle.picture_lines.proofs.Objects.{selected-push, selected-full, selected-pass, selected_objects-covered, selected_objects-found}
use Rattle.picture_lines.specs.Bits.{has_bit}
use Rattle.picture_lines.specs.declared.object_entry.Object.{Object}
use Rattle.std.specs.List.{AllPass}
use Rattle.picture_lines.proofs.registers.LineRegisters.selected_objects.Goals as goal
use Rattle.picture_lines.proofs.registers.LineRegisters.selected_objects.Goals.{then-covers_line+then-not-is_full, else-covers_line, else-covers_line-via-then-covers_line+else-not-is_full, else-covers_line-via-else-covers_line}

pub loop-index-preserved : goal.loop-index-preserved
loop-index-preserved c =
    let covers = covers_line c.args.self.now in
    let found = object_at c.args.oam.now in
    elim c.if-covers_line.branch [
      | then-covers_line+then-not-is_full w ↦
          let passes : covers (found c.loop-index.index) ≡ true = cc in
          let room : length c.loop-index.selected.items < 10 = grind arith in
          let more = selected-push covers found 10 c.loop-index.index c.loop-index.selected.items c.loop-index.invariant passes room in
          cc
      | else-covers_line w ↦
          elim w.else-covers_line.branch [
            | else-covers_line-via-then-covers_line+else-not-is_full w' ↦
                let passes : covers (found c.loop-index.index) ≡ true = cc in
                let full : 10 ≤ length c.loop-index.selected.items = grind arith in
                let same = selected-full covers found 10 c.loop-index.index c.loop-index.selected.items c.loop-index.invariant passes full in
                cc
            | else-covers_line-via-else-covers_line w' ↦
                let fails : covers (found c.loop-index.index) ≡ false = cc in
                let same = selected-pass covers found 10 c.loop-index.index c.loop-index.selected.items c.loop-index.invariant fails in
                cc
          ]
    ]

pub returns-after-loop-index-clause-value : goal.returns-after-loop-index-clause-value
returns-after-loop-index-clause-value c =
    let on : has_bit c.args.self.now.lcdc 1 ≡ true = cc in
    selected_objects-found c.args.self.now c.args.oam.now c.loop-index.selected.items c.loop-index.index on (omega arith) c.loop-index.invariant

pub returns-after-loop-index-clause-covered : goal.returns-after-loop-index-clause-covered
returns-after-loop-index-clause-covered c =
    let on : has_bit c.args.self.now.lcdc 1 ≡ true = cc in
    let P : List Object → Type 0 = AllPass (covers_line c.args.self.now) in
    subst P (sym (selected_objects-found c.args.self.now c.args.oam.now c.loop-index.selected.items c.loop-index.index on (omega arith) c.loop-index.invariant))
    (selected_objects-covered c.args.self.now (objects_of c.args.oam.now))

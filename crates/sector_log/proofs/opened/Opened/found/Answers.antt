use Rattle.std.proofs.Common.{rules, ◌≡◌, ◌+◌, ◌-◌, ◌^◌, ◌≤◌, ◌<◌, ℕ, true, false, Bool, if◌then◌else◌, nat_lt, Option, ap, sym, ◌∙◌, arith}
use Rattle.std.proofs.lemmas.Bool.Decides.{nat_tests}
use Rattle.log_format.specs.Content.{header_of}
use Rattle.log_format.specs.Found.{found_with}
use Rattle.log_format.specs.Inputs.{counted}
use Rattle.sector_log.specs.OpenedAccessors.{seen}
use Rattle.log_format.specs.declared.content.Found.TheVariants.{Intact, Damaged}
use Rattle.log_format.specs.declared.content.Part.TheVariants.{Length, Count}
use Rattle.log_format.specs.declared.root.Root.{Root}
use Rattle.sector_log.proofs.Findings.{found_with_is}
use Rattle.sector_log.proofs.opened.Opened.found.Goals as goal

pub returns-then-self-clause-seen : goal.returns-then-self-clause-seen
unfolding seen
returns-then-self-clause-seen g c =
    ap (λ (n : ℕ). Damaged (header_of c.in-Some.root) (Length n)) c.sectors_needed-need.ensures
    ∙ (λ i. found_with (sym c.in-Some.is i) (sym c.if-self.true i) c.args.self.now.log.items)

pub returns-then-self-clause-reads : goal.returns-then-self-clause-reads
unfolding seen
returns-then-self-clause-reads g c = λ honest. returns-then-self-clause-seen g c ∙ found_with_is (g.D.SectorDevice.disk c.args.self.now.device) c.args.self.now.root c.args.self.now.too_small c.args.self.now.log.items (c.args.self.now.found honest)

pub returns-then-counted-root-clause-seen : goal.returns-then-counted-root-clause-seen
unfolding seen
returns-then-counted-root-clause-seen g c =
    let self = c.args.self.now in
    let root = c.in-Some.root in
    let is : c.counted.result ≡ counted 0 self.log.items = c.counted.ensures ∙ ap (counted 0) c.deref.ensures.value in
    let many : 2 ^ 64 - 1 < root.base + counted 0 self.log.items = omega (arith, is, c.if-counted-root.true) in
    let holds : nat_lt (2 ^ 64 - 1) (root.base + counted 0 self.log.items) ≡ true = grind (arith, nat_tests) in
    sym (ap (λ (t : Bool). if t then Damaged (header_of root) Count else Intact (header_of root)) holds)
    ∙ (λ i. found_with (sym c.in-Some.is i) (sym c.if-self.false i) self.log.items)

pub returns-then-counted-root-clause-reads : goal.returns-then-counted-root-clause-reads
unfolding seen
returns-then-counted-root-clause-reads g c = λ honest. returns-then-counted-root-clause-seen g c ∙ found_with_is (g.D.SectorDevice.disk c.args.self.now.device) c.args.self.now.root c.args.self.now.too_small c.args.self.now.log.items (c.args.self.now.found honest)

pub returns-clause-seen : goal.returns-clause-seen
unfolding seen
returns-clause-seen g c =
    let self = c.args.self.now in
    let root = c.in-Some.root in
    let is : c.counted.result ≡ counted 0 self.log.items = c.counted.ensures ∙ ap (counted 0) c.deref.ensures.value in
    let base : root.base ≤ 2 ^ 64 - 1 = search rules in
    let few : root.base + counted 0 self.log.items ≤ 2 ^ 64 - 1 = omega (arith, is, c.if-counted-root.false, base) in
    let fails : nat_lt (2 ^ 64 - 1) (root.base + counted 0 self.log.items) ≡ false = grind (arith, nat_tests) in
    sym (ap (λ (t : Bool). if t then Damaged (header_of root) Count else Intact (header_of root)) fails)
    ∙ (λ i. found_with (sym c.in-Some.is i) (sym c.if-self.false i) self.log.items)

pub returns-clause-reads : goal.returns-clause-reads
unfolding seen
returns-clause-reads g c = λ honest. returns-clause-seen g c ∙ found_with_is (g.D.SectorDevice.disk c.args.self.now.device) c.args.self.now.root c.args.self.now.too_small c.args.self.now.log.items (c.args.self.now.found honest)

pub returns-in_default-clause-seen : goal.returns-in_default-clause-seen
unfolding seen
returns-in_default-clause-seen g c = ap (λ (r : Option Root). found_with r c.args.self.now.too_small c.args.self.now.log.items) (sym c.in_default.is)

pub returns-in_default-clause-reads : goal.returns-in_default-clause-reads
unfolding seen
returns-in_default-clause-reads g c = λ honest. returns-in_default-clause-seen g c ∙ found_with_is (g.D.SectorDevice.disk c.args.self.now.device) c.args.self.now.root c.args.self.now.too_small c.args.self.now.log.items (c.args.self.now.found honest)

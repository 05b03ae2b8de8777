use Rattle.std.proofs.Common.{◌+◌, ◌∙◌, ℕ, List, length, inl, inr, refl, subst}
use Rattle.session.specs.Accessors.{machine_of, pending_of, acknowledged_of, is_broken}
use Rattle.session.specs.Calls.{input_answer, IsRestoreAnswer}
use Rattle.embedding.proofs.StateAnswers.{behind_header, state_is, none_answer, told_answer, on_ok, on_err, never_ok, of_err}
use Rattle.embedding.proofs.game.Game.restore.Goals as goal

-- ---- a state of this ROM

pub returns-in-Same-clause-answer : goal.returns-in-Same-clause-answer
returns-in-Same-clause-answer c =
    let old = c.args.self.now.session in
    let taken = input_answer (is_broken old) (length (pending_of old)) (acknowledged_of old + length (pending_of old)) in
    inl ((c.in-Same.ensures.own refl).1, subst (λ (snapshot : List ℕ). IsRestoreAnswer c.args.self.now.cartridge snapshot taken c.restore.result) (behind_header c.args.bytes.now) c.restore.ensures.answer)

pub returns-in-Same-clause-kept : goal.returns-in-Same-clause-kept
returns-in-Same-clause-kept c =
    let is = c.restore.ensures in
    record { device = is.device; saved = is.saved; rom = is.kept.2; broken = is.kept.1; log = is.log.0; generation = is.log.1 }

pub returns-in-Same-clause-machine : goal.returns-in-Same-clause-machine
returns-in-Same-clause-machine c =
    on_ok c.restore.result c.restore.ensures.machine
    (λ is. state_is c.args.self.now.cartridge c.args.bytes.now (machine_of c.restore.new.self) (c.in-Same.ensures.own refl).1 is.0.rom (is.1 ∙ behind_header c.args.bytes.now))

-- ---- of another one

pub returns-in-Other-clause-answer : goal.returns-in-Other-clause-answer
returns-in-Other-clause-answer c =
    let old = c.args.self.now.session in
    inr (inl (
      c.in-Other.ensures.other refl,
      told_answer c.restore-in-Other.result c.told_of_other.result c.told_of_other.ensures.damaged c.told_of_other.ensures.same c.args.self.now.cartridge (is_broken old) (length (pending_of old))
          (acknowledged_of old + length (pending_of old)) c.restore-in-Other.ensures.answer,
    ))

pub returns-in-Other-clause-kept : goal.returns-in-Other-clause-kept
returns-in-Other-clause-kept c =
    let is = c.restore-in-Other.ensures in
    record { device = is.device; saved = is.saved; rom = is.kept.2; broken = is.kept.1; log = is.log.0; generation = is.log.1 }

pub returns-in-Other-clause-machine : goal.returns-in-Other-clause-machine
returns-in-Other-clause-machine c =
    let old = c.args.self.now.session in
    never_ok _ c.told_of_other.result
    (told_answer c.restore-in-Other.result c.told_of_other.result c.told_of_other.ensures.damaged c.told_of_other.ensures.same c.args.self.now.cartridge (is_broken old) (length (pending_of old))
    (acknowledged_of old + length (pending_of old)) c.restore-in-Other.ensures.answer)

pub returns-in-Other-clause-pending : goal.returns-in-Other-clause-pending
returns-in-Other-clause-pending c =
    let old = c.args.self.now.session in
    never_ok _ c.told_of_other.result
    (told_answer c.restore-in-Other.result c.told_of_other.result c.told_of_other.ensures.damaged c.told_of_other.ensures.same c.args.self.now.cartridge (is_broken old) (length (pending_of old))
    (acknowledged_of old + length (pending_of old)) c.restore-in-Other.ensures.answer)

pub returns-in-Other-clause-refused : goal.returns-in-Other-clause-refused
returns-in-Other-clause-refused c =
    on_err c.told_of_other.result
    (of_err c.restore-in-Other.result (none_answer c.args.self.now.cartridge _ c.restore-in-Other.result c.restore-in-Other.ensures.answer) c.restore-in-Other.ensures.refused)

-- ---- of none

pub returns-in-Nothing-clause-answer : goal.returns-in-Nothing-clause-answer
returns-in-Nothing-clause-answer c =
    inr (inr (
      c.in-Nothing.ensures.none refl,
      none_answer c.args.self.now.cartridge _ c.restore-in-Nothing.result c.restore-in-Nothing.ensures.answer,
    ))

pub returns-in-Nothing-clause-kept : goal.returns-in-Nothing-clause-kept
returns-in-Nothing-clause-kept c =
    let is = c.restore-in-Nothing.ensures in
    record { device = is.device; saved = is.saved; rom = is.kept.2; broken = is.kept.1; log = is.log.0; generation = is.log.1 }

pub returns-in-Nothing-clause-machine : goal.returns-in-Nothing-clause-machine
returns-in-Nothing-clause-machine c =
    never_ok _ c.restore-in-Nothing.result (none_answer c.args.self.now.cartridge _ c.restore-in-Nothing.result c.restore-in-Nothing.ensures.answer)

use Rattle.std.proofs.Common.{◌∙◌, ℕ, List, OnErr, OnOk, ap, subst, sym}
use Rattle.std.specs.Io.KnownBytes.{Appends}
use Rattle.exact_text.specs.Written.{AppendsProperPrefix}
use Rattle.debugging.specs.declared.order.Order.{Order}
use Rattle.debugging.specs.Answers.{answer_to}
use Rattle.debugging.proofs.MetConditions.{continue_told}
use Rattle.debugging.proofs.Parts.{run_told}
use Rattle.debugging.proofs.answering.obey.Goals as goal

pub returns-in-Frames-clause-run : goal.returns-in-Frames-clause-run
returns-in-Frames-clause-run g c = run_told c.write_whole-written.result c.args.run c.in-Frames.is c.frames-run.ensures

pub returns-in-Seconds-clause-run : goal.returns-in-Seconds-clause-run
returns-in-Seconds-clause-run g c = run_told c.write_whole-written-in-Seconds.result c.args.run c.in-Seconds.is c.seconds-run.ensures

pub returns-in-Set-clause-run : goal.returns-in-Set-clause-run
returns-in-Set-clause-run g c = run_told c.write_whole-written-in-Set.result c.args.run c.in-Set.is c.set-run.ensures

pub returns-in-SetRegister-clause-run : goal.returns-in-SetRegister-clause-run
returns-in-SetRegister-clause-run g c = run_told c.write_whole-written-in-SetRegister.result c.args.run c.in-SetRegister.is c.set_register-run.ensures

pub returns-in-Look-clause-run : goal.returns-in-Look-clause-run
returns-in-Look-clause-run g c = run_told c.write_look-written.result c.args.run c.in-Look.is c.drawn_for-run.ensures

pub returns-in-Continue-clause-ok : goal.returns-in-Continue-clause-ok
returns-in-Continue-clause-ok g c =
    subst (λ (text : List ℕ). OnOk c.met.result.written (Appends (g.W.Output.contents c.args.out.now) (g.W.Output.contents c.met.new.out) text))
    (continue_told c.in-Continue.steps c.as_slice-in-Continue.result.now c.in-Continue.conditions.items c.args.run c.run_until-in-Continue.result.run c.run_until-in-Continue.result.is_there
    c.run_until-in-Continue.result.number c.as_slice-in-Continue.ensures.value c.run_until-in-Continue.ensures.run c.run_until-in-Continue.ensures.there c.run_until-in-Continue.ensures.number
    ∙ ap (λ (order : Order). answer_to order c.args.run) (sym c.in-Continue.is))
    c.met.ensures.ok

pub returns-in-Continue-clause-err : goal.returns-in-Continue-clause-err
returns-in-Continue-clause-err g c =
    subst (λ (text : List ℕ). OnErr c.met.result.written (AppendsProperPrefix (g.W.Output.contents c.args.out.now) (g.W.Output.contents c.met.new.out) text))
    (continue_told c.in-Continue.steps c.as_slice-in-Continue.result.now c.in-Continue.conditions.items c.args.run c.run_until-in-Continue.result.run c.run_until-in-Continue.result.is_there
    c.run_until-in-Continue.result.number c.as_slice-in-Continue.ensures.value c.run_until-in-Continue.ensures.run c.run_until-in-Continue.ensures.there c.run_until-in-Continue.ensures.number
    ∙ ap (λ (order : Order). answer_to order c.args.run) (sym c.in-Continue.is))
    c.met.ensures.err

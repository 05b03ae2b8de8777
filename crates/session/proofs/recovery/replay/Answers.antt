use Rattle.std.proofs.Common.{◌≡◌, ◌+◌, ℕ, List, [], drop, length, get_or, ap, sym, ◌∙◌, arith}
use Rattle.std.proofs.lemmas.List.{drop_all}
use Rattle.machine.specs.Machine.{MachineState, after}
use Rattle.input_entries.specs.Inputs.{inputs, inputs_in}
use Rattle.log_format.specs.Inputs.{wrong_from}
use Rattle.input_entries.specs.declared.StoredEntry.{StoredEntry}
use Rattle.session.specs.Inputs.{logged, inputs_of}
use Rattle.session.proofs.StandsLaws.{after_append, after_none}
use Rattle.session.proofs.Replaying.{next_entry}
use Rattle.session.proofs.recovery.replay.Goals as goal

pub replay_entry-requires : goal.replay_entry-requires
replay_entry-requires c = (next_entry c.args.log.now c.loop-entry.entry-index c.loop-entry.count (record { code = [] }) c.loop-entry-test.true c.loop-entry.invariant.none).is_one

pub loop-entry-preserved : goal.loop-entry-preserved
loop-entry-preserved c =
    let i = c.loop-entry.entry-index in
    let log = c.args.log.now in
    let next = next_entry log i c.loop-entry.count (record { code = [] }) c.loop-entry-test.true c.loop-entry.invariant.none in
    let more = c.replay_entry.ensures.count in
    let added = c.from-count.ensures in
    let rest = logged (drop (i + 1) log) in
    let total : c.loop-entry.count + c.from-count.result ≡ c.loop-entry.count + length (inputs_in (get_or log i (record { code = [] }))) = omega (arith, more, added) in
    record {
      machine_is = ap (λ (m : MachineState). after m rest) c.replay_entry.ensures.machine
          ∙ after_append c.loop-entry.machine (inputs_of (inputs_in (get_or log i (record { code = [] })))) rest
          ∙ ap (after c.loop-entry.machine) (sym next.logged_is)
          ∙ c.loop-entry.invariant.machine_is;
      count_is = omega (arith, total, next.count_is, c.loop-entry.invariant.count_is);
      none = ap (λ (n : ℕ). wrong_from (i + 1) n (drop (i + 1) log)) total ∙ next.none;
      few = omega (arith, total, next.few);
    }

pub returns : goal.returns
returns c =
    let none = drop_all c.loop-entry.entry-index c.args.log.now c.loop-entry-test.false in
    record {
      machine = sym (after_none c.loop-entry.machine) ∙ ap (λ (l : List StoredEntry). after c.loop-entry.machine (logged l)) (sym none) ∙ c.loop-entry.invariant.machine_is;
      count = omega (arith, c.loop-entry.invariant.count_is, ap (λ (l : List StoredEntry). length (inputs l)) none);
    }

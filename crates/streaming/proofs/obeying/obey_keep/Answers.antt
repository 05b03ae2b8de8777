use Rattle.std.proofs.Common.{◌∙◌, length, refl, sym, ap, subst, arith}
use Rattle.std.specs.Prelude.{codes, slice_set}
use Rattle.machine.specs.Legal.{IsLegalMachine}
use Rattle.snapshot.specs.Encoding.{encoded, snapshot_length}
use Rattle.snapshot.specs.Legal.{IsOfImage}
use Rattle.machine_lines.specs.KeptStates.{kept_under}
use Rattle.machine_lines.specs.Slots.{state_under}
use Rattle.machine_lines.specs.Texts.{count_line}
use Rattle.machine_lines.proofs.SlotLaws.{machine_of, one_kept}
use Rattle.playing.proofs.Making.{makes_line, stops_at_line}
use Rattle.streaming.specs.Answers.{answer}
use Rattle.streaming.proofs.KeptMachines.{none_of_length}
use Rattle.streaming.proofs.obeying.obey_keep.Goals as goal

pub returns-in-Ok-write_count-clause-obeyed : goal.returns-in-Ok-write_count-clause-obeyed
returns-in-Ok-write_count-clause-obeyed g c = λ done.
    let was = c.args.game.now in
    rw c.draw_late.ensures
    (makes_line g.G.Playable was (g.W.Output.contents c.args.out.now) (g.W.Output.contents c.write_count.new.out) (answer (count_line (codes "kept") c.args.slot)) (omega arith) c.in-Ok-write_count.ensures.ok)

pub returns-in-Err-write_count-clause-stopped : goal.returns-in-Err-write_count-clause-stopped
returns-in-Err-write_count-clause-stopped g c =
    let was = c.args.game.now in
    rw c.draw_late.ensures
    (rw c.unwritten.ensures.is
    (stops_at_line g.G.Playable was (g.W.Output.contents c.args.out.now) (g.W.Output.contents c.write_count.new.out) (answer (count_line (codes "kept") c.args.slot)) c.unwritten.ensures.told c.in-Err-write_count.ensures.failed c.in-Err-write_count.ensures.err))

pub returns-in-Ok-write_count-clause-kept : goal.returns-in-Ok-write_count-clause-kept
returns-in-Ok-write_count-clause-kept g c machines kept done =
    let game = g.G.Playable in
    let was = c.args.game.now in
    let rom = game.rom was in
    let same = c.machine-machine.ensures.machine ∙ ap game.machine c.draw_late.ensures in
    let of : IsOfImage rom (game.machine was) = subst (λ s. IsOfImage (game.rom s) (game.machine s)) c.draw_late.ensures c.machine-machine.ensures.of in
    let legal : IsLegalMachine (game.machine was) = subst IsLegalMachine same c.in-Ok.ensures.legal in
    one_kept rom c.args.kept.now c.keep.new.self machines c.args.slot (game.machine was) (machine_of rom (game.machine was) of legal) c.keep.ensures.size c.requires
    (c.in-Ok.ensures.kept ∙ ap (λ m. slice_set c.args.kept.now c.args.slot (encoded m)) same) kept

pub returns-in-Err-clause-nothing : goal.returns-in-Err-clause-nothing
returns-in-Err-clause-nothing g c machines kept done =
    let game = g.G.Playable in
    let was = c.args.game.now in
    let rom = game.rom was in
    let same = c.machine-machine.ensures.machine ∙ ap game.machine c.draw_late.ensures in
    let of : IsOfImage rom (game.machine was) = subst (λ s. IsOfImage (game.rom s) (game.machine s)) c.draw_late.ensures c.machine-machine.ensures.of in
    let room = ap (λ m. snapshot_length (length m.processor.memory.banks.ram)) same ∙ ap snapshot_length of.ram_length in
    (refl, none_of_length rom (state_under c.args.kept.now c.args.slot) (kept_under c.args.slot machines) (kept c.args.slot c.requires) (λ e. c.in-Err.ensures.refused.1 (e ∙ sym room)))

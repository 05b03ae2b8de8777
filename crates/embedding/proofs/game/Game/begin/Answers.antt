use Rattle.std.proofs.Common.{◌∙◌, ℕ, List, [], ap, subst}
use Rattle.machine.specs.Machine.{start}
use Rattle.session.specs.Accessors.{device_of}
use Rattle.session.specs.Stands.{IsAtRest, Position}
use Rattle.embedding.specs.HostDevices.{host_disk}
use Rattle.embedding.proofs.Counting.{handed_same, same_count}
use Rattle.embedding.proofs.game.Game.begin.Goals as goal

pub returns-in-Ok-new_game-clause-machine : goal.returns-in-Ok-new_game-clause-machine
returns-in-Ok-new_game-clause-machine c =
    let image = c.in-Ok.ensures.image in
    let machine = c.in-Ok-new_game.ensures.machine in
    (machine.0 ∙ ap start image, machine.1 ∙ image)

pub returns-in-Ok-new_game-clause-rests : goal.returns-in-Ok-new_game-clause-rests
returns-in-Ok-new_game-clause-rests c =
    subst (λ (rom : List ℕ). IsAtRest rom (host_disk (device_of c.in-Ok-new_game.session)) 0 [] (start rom)) c.in-Ok.ensures.image (c.in-Ok-new_game.ensures.rests tt)

pub returns-in-Ok-new_game-clause-first : goal.returns-in-Ok-new_game-clause-first
returns-in-Ok-new_game-clause-first c =
    let answered = c.in-Ok-new_game.ensures.answered in
    handed_same c.in-Ok-new.device (device_of c.in-Ok-new_game.session) answered.follows answered.handed ∙ c.in-Ok-new.ensures.handed

pub returns-in-Ok-new_game-clause-sectors : goal.returns-in-Ok-new_game-clause-sectors
returns-in-Ok-new_game-clause-sectors c =
    same_count c.in-Ok-new.device (device_of c.in-Ok-new_game.session) c.in-Ok-new_game.ensures.answered.count ∙ c.in-Ok-new.ensures.count

pub returns-in-Ok-new_game-clause-saved : goal.returns-in-Ok-new_game-clause-saved
returns-in-Ok-new_game-clause-saved c =
    let at : List ℕ → Position = λ rom. record { count = 0; machine = start rom } in
    c.in-Ok-new_game.ensures.saved ∙ ap at c.in-Ok.ensures.image

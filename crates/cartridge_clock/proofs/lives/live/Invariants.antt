use Rattle.std.proofs.Common.{◌≡◌, take}
use Rattle.cartridge_clock.specs.Lives.{worlds}
use Rattle.cartridge_clock.proofs.lives.live.Given as goal

abbrev pub invariant-loop-event : goal.invariant-loop-event
invariant-loop-event l = l.world ≡ worlds l.initial.world (take l.event-index l.events)

use Rattle.std.proofs.Common.{◌≡◌}
use Rattle.picture_unit.specs.Picture.{PictureAndRequests, ticks}
use Rattle.picture_unit.proofs.picture.Picture.pass_by_definition.Given as goal

abbrev pub invariant-loop-cycle : goal.invariant-loop-cycle
invariant-loop-cycle l =
    let now : PictureAndRequests = record { picture = l.self; vblank = l.requests.vblank; stat = l.requests.stat } in
    now ≡ ticks l._cycle l.fn.self

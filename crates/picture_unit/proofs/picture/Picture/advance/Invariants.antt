use Rattle.std.proofs.Common.{◌≡◌, true}
use Rattle.std.specs.Fn.{iterate}
use Rattle.picture_unit.specs.Picture.{PictureAndRequests, is_on, tick}
use Rattle.picture_unit.proofs.picture.Picture.advance.Given as goal

abbrev pub invariant-loop-left : goal.invariant-loop-left
invariant-loop-left l =
    let now : PictureAndRequests = record { picture = l.self; vblank = l.requests.vblank; stat = l.requests.stat } in
    let start : PictureAndRequests = record { picture = l.fn.self; vblank = l.fn.requests.vblank; stat = l.fn.requests.stat } in
    record { on : is_on l.self.state ≡ true; same_end : iterate tick l.left now ≡ iterate tick l.fn.cycles start }

abbrev pub decreases-loop-left : goal.decreases-loop-left
decreases-loop-left l = l.left

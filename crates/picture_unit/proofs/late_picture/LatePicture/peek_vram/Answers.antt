use Rattle.std.proofs.Common.{◌-◌, false, ℕ, List, ap, sym, ◌∙◌}
use Rattle.picture_unit.specs.Picture.{PictureUnit}
use Rattle.picture_unit.specs.Laws.{frame_cycle}
use Rattle.picture_unit.specs.LatePicture.{moment}
use Rattle.picture_unit.specs.Stores.{byte_read}
use Rattle.picture_unit.proofs.LatePictures.{vram_kept}
use Rattle.picture_unit.proofs.late_picture.LatePicture.peek_vram.Goals as goal

pub returns : goal.returns
returns c =
    let s = c.self.inside.picture in
    c.peek_vram.ensures ∙ ap (λ (bytes : List ℕ). byte_read false bytes c.args.offset) (sym (vram_kept (moment c.self.inside.frame_cycle s - frame_cycle s.state) s) ∙ ap (λ (u : PictureUnit). u.vram) c.self.view_is)

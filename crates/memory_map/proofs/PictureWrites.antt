-- A write to a register of the picture unit adds its request to those that are pending.
use Rattle.std.proofs.Common.{◌≡◌, ℕ, Bool, true, false, refl, sym, ap, ◌∙◌}
use Rattle.std.specs.Prelude.{◌||◌, ◌&&◌, not, ◌==◌, if◌then◌else◌}
use Rattle.std.proofs.Math.Bool.{or-false, or_assoc}
use Rattle.picture_unit.specs.Picture.{PictureUnit, PictureAndRequests, unrequested, evaluated, stat_signal}
use Rattle.picture_unit.specs.Registers.{register_written, lcdc_written, stat_written, lyc_written, register_stored}

-- requests that were pending before
abbrev pub pending : Bool → Bool → PictureAndRequests → PictureAndRequests
pending v l d = record d { vblank = v || d.vblank; stat = l || d.stat }

abbrev with_stat : Bool → PictureAndRequests → PictureAndRequests
with_stat q d = record d { stat = q }

evaluated-pending : (v l : Bool) (d : PictureAndRequests) → evaluated (pending v l d) ≡ pending v l (evaluated d)
unfolding evaluated
evaluated-pending v l d =
    let rises = stat_signal d.picture.state && not d.picture.state.signal in
    ap (λ (q : Bool). with_stat q (evaluated (pending v l d))) (or_assoc l d.stat rises)

abbrev choice : (a n : ℕ) → Bool → Bool → Bool → PictureAndRequests → PictureAndRequests
choice a n is_lcdc is_stat is_lyc d =
    if is_lcdc then evaluated (record d { picture = lcdc_written n d.picture })
    else if is_stat then evaluated (record d { picture = stat_written n d.picture })
    else if is_lyc then evaluated (record d { picture = lyc_written n d.picture })
    else record d { picture = record d.picture { state = register_stored a n d.picture.state } }

choice-pending : (a n : ℕ) (v l p q r : Bool) (d : PictureAndRequests) → choice a n p q r (pending v l d) ≡ pending v l (choice a n p q r d)
choice-pending a n v l true q r d = evaluated-pending v l (record d { picture = lcdc_written n d.picture })
choice-pending a n v l false true r d = evaluated-pending v l (record d { picture = stat_written n d.picture })
choice-pending a n v l false false true d = evaluated-pending v l (record d { picture = lyc_written n d.picture })
choice-pending a n v l false false false d = refl

choice-vblank : (a n : ℕ) (p q r : Bool) (d : PictureAndRequests) → (choice a n p q r d).vblank ≡ d.vblank
unfolding evaluated
choice-vblank a n true q r d = refl
choice-vblank a n false true r d = refl
choice-vblank a n false false true d = refl
choice-vblank a n false false false d = refl

abbrev with_parts : PictureUnit → Bool → Bool → PictureAndRequests
with_parts s v l = record { picture = s; vblank = v; stat = l }

pub register_written-pending : (a n : ℕ) (d : PictureAndRequests) (s : PictureUnit) (q : Bool)
    → s ≡ (register_written a n (unrequested d.picture)).picture → q ≡ (register_written a n (unrequested d.picture)).stat
    → record { picture = s; vblank = d.vblank; stat = d.stat || q } ≡ register_written a n d
unfolding register_written unrequested
register_written-pending a n d s q e f =
    let run = register_written a n (unrequested d.picture) in
    let none : run.vblank ≡ false = choice-vblank a n (a == 0xFF40) (a == 0xFF41) (a == 0xFF45) (unrequested d.picture) in
    let before : with_parts d.picture (d.vblank || false) (d.stat || false) ≡ d =
    ap (λ (v : Bool). with_parts d.picture v (d.stat || false)) (or-false d.vblank) ∙ ap (λ (l : Bool). with_parts d.picture d.vblank l) (or-false d.stat) in
    ap (λ (u : PictureUnit). with_parts u d.vblank (d.stat || q)) e ∙ ap (λ (l : Bool). with_parts run.picture d.vblank (d.stat || l)) f
    ∙ ap (λ (v : Bool). with_parts run.picture v (d.stat || run.stat)) (sym (or-false d.vblank) ∙ ap (λ (v : Bool). d.vblank || v) (sym none))
    ∙ sym (choice-pending a n d.vblank d.stat (a == 0xFF40) (a == 0xFF41) (a == 0xFF45) (unrequested d.picture))
    ∙ ap (register_written a n) before

use Rattle.std.proofs.Common.{false, refl, sym, ◌∙◌}
use Rattle.picture_unit.specs.Picture.{unrequested}
use Rattle.picture_unit.proofs.Quiet.{never_due, is_due_at}
use Rattle.picture_unit.proofs.late_picture.LatePicture.due.Goals as goal

pub returns-then-is_on : goal.returns-then-is_on
unfolding unrequested
returns-then-is_on c =
    is_due_at c.args.self.now.state c.from.result (record { picture = c.args.self.now; vblank = false; stat = false }) refl (sym c.registers_now-state.ensures.on ∙ sym c.is_on.ensures ∙ c.if-is_on.true) c.registers_now-state.ensures.legal_now.m_cycle
    (c.from.ensures ∙ c.next_entry.ensures.entry ∙ c.registers_now-state.ensures.entry)

pub returns-else-is_on : goal.returns-else-is_on
unfolding unrequested
returns-else-is_on c =
    never_due (record { picture = c.args.self.now; vblank = false; stat = false }) (sym c.registers_now-state.ensures.on ∙ sym c.is_on.ensures ∙ c.if-is_on.false)

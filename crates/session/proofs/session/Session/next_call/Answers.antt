use Rattle.std.proofs.Common.{◌∙◌, ◌≤◌, List, ℕ, length, subst, sym}
use Rattle.input_entries.specs.declared.StoredEntry.{StoredEntry}
use Rattle.log_format.specs.Content.{need}
use Rattle.sector_log.specs.Accessors.{device_of}
use Rattle.session.specs.Resting.{Rests}
use Rattle.session.specs.Accessors.{rom_of, saved_of}
use Rattle.session.proofs.HandedOut.{rests_still}
use Rattle.session.proofs.session.Session.next_call.Goals as goal

pub invariant_of-self : goal.invariant_of-self
invariant_of-self g c =
    let self = c.args.self.now in
    let now = g.D.SectorDevice.disk (device_of c.next_call.new.self) in
    let handed = c.next_call.ensures.disk in
    record {
      few = self.few;
      reserved = self.reserved;
      counted = self.counted;
      room = self.room;
      short = self.short;
      large = subst (λ (s : List (List ℕ)). need (length self.encoded.items) ≤ length s) (sym handed.sectors) self.large;
      id = c.next_call.ensures.generation.1 ∙ self.id;
      own = self.own;
      leads = self.leads;
      rests = λ whole honest.
          subst (λ (log : List StoredEntry). Rests (rom_of self) now log (saved_of self)) (sym c.next_call.ensures.entries)
          (rests_still handed (self.rests (sym c.next_call.ensures.broken ∙ whole) (handed.honest.0 honest)));
    }

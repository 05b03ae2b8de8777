use Rattle.std.proofs.Common.{rules, Ok, Err, ◌≡◌, ◌≤◌, ◌<◌, ◌+◌, ◌-◌, ◌^◌, [], ℕ, false, true, refl, inl, inr, ⊎_elim, sym, ap, ◌∙◌, subst, arith, length, drop}
use Rattle.std.proofs.lemmas.Bool.Decides.{nat_tests}
use Rattle.log_format.specs.Content.{need, generation_in, last_generation}
use Rattle.sector_log.specs.Accessors.{device_of as device_of_store, is_broken as is_broken_store, entries_of, generation_of, id_of}
use Rattle.session.specs.Accessors.{rom_of, saved_of}
use Rattle.session.specs.Calls.{IsSaveCause, fits_log}
use Rattle.session.specs.Resting.{Rests}
use Rattle.session.specs.declared.error.SessionError.{SessionError}
use Rattle.session.specs.declared.error.SessionError.TheVariants.{Device}
use Rattle.session.proofs.AtRest.{at_rest_with, device_rests, leads_nowhere, rests_saved}
use Rattle.session.proofs.Beginnings.{machine_of_rom}
use Rattle.session.proofs.Saving.{rests_after, saved_after, within_after, nothing_within, nothing_rests, nothing_stands, no_fit, none_left, buffer_length}
use Rattle.session.proofs.StandsLaws.{after_none}
use Rattle.session.proofs.session.Session.save.Goals as goal

pub returns-then-is_broken-clause-stood : goal.returns-then-is_broken-clause-stood
returns-then-is_broken-clause-stood g c = device_rests c.args.self.now

pub returns-then-is_empty-clause-stood : goal.returns-then-is_empty-clause-stood
returns-then-is_empty-clause-stood g c = device_rests c.args.self.now

pub returns-in-Ok-clause-stood : goal.returns-in-Ok-clause-stood
returns-in-Ok-clause-stood g c = device_rests c.args.self.now

pub returns-in-Err-clause-stood : goal.returns-in-Err-clause-stood
returns-in-Err-clause-stood g c = device_rests c.args.self.now

pub returns-then-is_empty-clause-nothing : goal.returns-then-is_empty-clause-nothing
returns-then-is_empty-clause-nothing g c = λ whole empty.
    let self = c.args.self.now in
    let size : c.len.result ≡ length self.pending.items = search rules in
    let count_is : self.acknowledged + c.len.result ≡ self.acknowledged = omega (arith, size, ap length empty) in
    (record { device = refl; machine = refl; pending = refl; acknowledged = refl; saved = refl; broken = refl; log = refl; generation = refl }, ap Ok count_is)

pub returns-then-is_empty-clause-images : goal.returns-then-is_empty-clause-images
returns-then-is_empty-clause-images g c = λ whole honest.
    let self = c.args.self.now in
    let size : c.len.result ≡ length self.pending.items = search rules in
    let none : length self.pending.items ≡ 0 = grind (arith, nat_tests) in
    nothing_within (g.D.SectorDevice.disk (device_of_store self.store)) (entries_of self.store) (saved_of self) self.pending.items self.machine (self.rests whole honest) self.leads self.counted
    (none_left self.pending.items none)
    (g.met.D.SectorDevice.only_now (device_of_store self.store))

pub returns-then-is_empty-clause-rests : goal.returns-then-is_empty-clause-rests
returns-then-is_empty-clause-rests g c = λ honest.
    let self = c.args.self.now in
    let size : c.len.result ≡ length self.pending.items = search rules in
    let none : length self.pending.items ≡ 0 = grind (arith, nat_tests) in
    nothing_rests (g.D.SectorDevice.disk (device_of_store self.store)) (entries_of self.store) (saved_of self) self.pending.items self.machine (self.rests (sym c.is_broken.ensures ∙ c.if-is_broken.false) honest) self.leads self.counted
    c.len.result (none_left self.pending.items none) size

pub returns-then-is_empty-clause-position : goal.returns-then-is_empty-clause-position
returns-then-is_empty-clause-position g c =
    let self = c.args.self.now in
    let size : c.len.result ≡ length self.pending.items = search rules in
    let none : length self.pending.items ≡ 0 = grind (arith, nat_tests) in
    nothing_stands (saved_of self) self.pending.items self.machine self.leads c.len.result (none_left self.pending.items none) size

pub invariant_of-self-in-Ok-clause-room : goal.invariant_of-self-in-Ok-clause-room
invariant_of-self-in-Ok-clause-room g c =
    let self = c.args.self.now in
    let long : length c.write_pending.new.buffer ≡ self.encoded.len = omega arith in
    let kept : self.encoded.len ≡ length self.encoded.items = search rules in
    buffer_length c.write_pending.new.buffer (drop (length c.write_pending.new.buffer) self.encoded.items) self.encoded.len long ∙ kept ∙ self.room

pub invariant_of-self-in-Ok-clause-short : goal.invariant_of-self-in-Ok-clause-short
invariant_of-self-in-Ok-clause-short g c =
    let self = c.args.self.now in
    let long : length c.write_pending.new.buffer ≡ self.encoded.len = omega arith in
    let kept : self.encoded.len ≡ length self.encoded.items = search rules in
    subst (λ (n : ℕ). n < 2 ^ 32) (sym (buffer_length c.write_pending.new.buffer (drop (length c.write_pending.new.buffer) self.encoded.items) self.encoded.len long ∙ kept)) self.short

pub invariant_of-self-in-Ok-clause-large : goal.invariant_of-self-in-Ok-clause-large
invariant_of-self-in-Ok-clause-large g c =
    let self = c.args.self.now in
    let long : length c.write_pending.new.buffer ≡ self.encoded.len = omega arith in
    let kept : self.encoded.len ≡ length self.encoded.items = search rules in
    let same = buffer_length c.write_pending.new.buffer (drop (length c.write_pending.new.buffer) self.encoded.items) self.encoded.len long ∙ kept in
    subst (λ (n : ℕ). need n ≤ length (g.D.SectorDevice.disk (device_of_store c.write_pending.new.store)).sectors) (sym same)
    (subst (λ (n : ℕ). need (length self.encoded.items) ≤ n) (sym c.in-Ok.ensures.answered.count) self.large)

pub invariant_of-self-in-Ok-clause-rests : goal.invariant_of-self-in-Ok-clause-rests
invariant_of-self-in-Ok-clause-rests g c = λ whole_now honest_now.
    let self = c.args.self.now in
    let size : c.len.result ≡ length self.pending.items = search rules in
    let honest = c.in-Ok.ensures.answered.honest.0 honest_now in
    rests_saved c.of.ensures
    (rests_after (g.D.SectorDevice.disk (device_of_store self.store)) (entries_of self.store) (saved_of self) self.pending.items self.machine (self.rests (sym c.is_broken.ensures ∙ c.if-is_broken.false) honest) self.leads self.counted
    (fits_log (entries_of self.store)) (no_fit (entries_of self.store) self.pending.items) (g.D.SectorDevice.disk (device_of_store c.write_pending.new.store)) (id_of self.store) c.deref.result.now (self.acknowledged + c.len.result) c.deref.ensures.value (ap (λ (n : ℕ). self.acknowledged + n) size) self.id
    (entries_of c.write_pending.new.store) (λ e. machine_of_rom self.machine.processor.memory.banks.rom self.machine refl self.own (c.in-Ok.ensures.legal e)) (c.in-Ok.ensures.written honest))

pub invariant_of-self-in-Ok-clause-leads : goal.invariant_of-self-in-Ok-clause-leads
invariant_of-self-in-Ok-clause-leads g c = leads_nowhere c.of.result.value c.args.self.now.machine c.clear.new.self.items c.of.ensures c.clear.ensures.items

pub returns-in-Ok-clause-position : goal.returns-in-Ok-clause-position
returns-in-Ok-clause-position g c = λ i. record { count = c.args.self.now.acknowledged + c.len.result; machine = c.of.ensures i }

pub invariant_of-self-in-Err-1 : goal.invariant_of-self-in-Err-1
invariant_of-self-in-Err-1 g c =
    let self = c.args.self.now in
    let long : length c.write_pending.new.buffer ≡ self.encoded.len = omega arith in
    let kept : self.encoded.len ≡ length self.encoded.items = search rules in
    let same = buffer_length c.write_pending.new.buffer (drop (length c.write_pending.new.buffer) self.encoded.items) self.encoded.len long ∙ kept in
    record {
      few = self.few;
      reserved = self.reserved;
      counted = self.counted;
      room = same ∙ self.room;
      short = subst (λ (n : ℕ). n < 2 ^ 32) (sym same) self.short;
      large = subst (λ (n : ℕ). need n ≤ length (g.D.SectorDevice.disk (device_of_store c.write_pending.new.store)).sectors) (sym same)
          (subst (λ (n : ℕ). need (length self.encoded.items) ≤ n) (sym c.write_pending.ensures.answered.count) self.large);
      id = c.write_pending.ensures.id ∙ self.id;
      own = self.own;
      leads = self.leads;
      rests = λ whole_now honest_now.
          let whole : is_broken_store self.store ≡ false = sym c.is_broken.ensures ∙ c.if-is_broken.false in
          let honest = c.write_pending.ensures.answered.honest.0 honest_now in
          ⊎_elim
          (λ (device : c.in-Err.why ≡ Device). let broke : is_broken_store c.write_pending.new.store ≡ true = c.in-Err.ensures.broken.1 (ap Err device) in absurd (cc))
          (λ stays. subst (λ s. Rests (rom_of self) (g.D.SectorDevice.disk (device_of_store s)) (entries_of s) (saved_of self)) (sym stays) (self.rests whole honest))
          c.in-Err.ensures.unchanged;
    }

pub returns-in-Ok-clause-rests : goal.returns-in-Ok-clause-rests
returns-in-Ok-clause-rests g c = λ honest.
    let self = c.args.self.now in
    let size : c.len.result ≡ length self.pending.items = search rules in
    let all : ℕ = self.acknowledged + c.len.result in
    let now = g.D.SectorDevice.disk (device_of_store c.write_pending.new.store) in
    let after = rests_after (g.D.SectorDevice.disk (device_of_store self.store)) (entries_of self.store) (saved_of self) self.pending.items self.machine (self.rests (sym c.is_broken.ensures ∙ c.if-is_broken.false) honest) self.leads self.counted
    (fits_log (entries_of self.store)) (no_fit (entries_of self.store) self.pending.items) now (id_of self.store) c.deref.result.now all c.deref.ensures.value (ap (λ (n : ℕ). self.acknowledged + n) size) self.id
    (entries_of c.write_pending.new.store) (λ e. machine_of_rom self.machine.processor.memory.banks.rom self.machine refl self.own (c.in-Ok.ensures.legal e)) (c.in-Ok.ensures.written honest) in
    at_rest_with (rom_of self) now (record { count = all; machine = self.machine }) [] self.machine after.stood (after_none self.machine)

pub returns-in-Ok-clause-saved : goal.returns-in-Ok-clause-saved
returns-in-Ok-clause-saved g c = λ honest some.
    let self = c.args.self.now in
    let size : c.len.result ≡ length self.pending.items = search rules in
    saved_after (g.D.SectorDevice.disk (device_of_store self.store)) (entries_of self.store) (saved_of self) self.pending.items self.machine (self.rests (sym c.is_broken.ensures ∙ c.if-is_broken.false) honest) self.leads self.counted
    (fits_log (entries_of self.store)) (no_fit (entries_of self.store) self.pending.items) (g.D.SectorDevice.disk (device_of_store c.write_pending.new.store)) (id_of self.store) c.deref.result.now (self.acknowledged + c.len.result) c.deref.ensures.value (ap (λ (n : ℕ). self.acknowledged + n) size) self.id
    (entries_of c.write_pending.new.store) (c.in-Ok.ensures.written honest)

pub returns-in-Ok-clause-images : goal.returns-in-Ok-clause-images
returns-in-Ok-clause-images g c = λ whole honest.
    let self = c.args.self.now in
    let size : c.len.result ≡ length self.pending.items = search rules in
    within_after (g.D.SectorDevice.disk (device_of_store self.store)) (entries_of self.store) (saved_of self) self.pending.items self.machine (self.rests whole honest) self.leads self.counted
    (fits_log (entries_of self.store)) (no_fit (entries_of self.store) self.pending.items) (g.D.SectorDevice.disk (device_of_store c.write_pending.new.store)) (id_of self.store) c.deref.result.now (self.acknowledged + c.len.result) c.deref.ensures.value (ap (λ (n : ℕ). self.acknowledged + n) size) self.id
    (λ e. machine_of_rom self.machine.processor.memory.banks.rom self.machine refl self.own (c.in-Ok.ensures.legal e)) (c.in-Ok.ensures.images honest)

pub returns-in-Err-clause-images : goal.returns-in-Err-clause-images
returns-in-Err-clause-images g c = λ whole honest.
    let self = c.args.self.now in
    let size : c.len.result ≡ length self.pending.items = search rules in
    within_after (g.D.SectorDevice.disk (device_of_store self.store)) (entries_of self.store) (saved_of self) self.pending.items self.machine (self.rests whole honest) self.leads self.counted
    (fits_log (entries_of self.store)) (no_fit (entries_of self.store) self.pending.items) (g.D.SectorDevice.disk (device_of_store c.write_pending.new.store)) (id_of self.store) c.deref.result.now (self.acknowledged + c.len.result) c.deref.ensures.value (ap (λ (n : ℕ). self.acknowledged + n) size) self.id
    (λ e. machine_of_rom self.machine.processor.memory.banks.rom self.machine refl self.own (c.in-Err.ensures.legal e)) (c.in-Err.ensures.images honest)

pub returns-in-Err-clause-unchanged : goal.returns-in-Err-clause-unchanged
returns-in-Err-clause-unchanged g c =
    ⊎_elim inl (λ same. inr (record { device = ap device_of_store same; machine = refl; pending = refl; acknowledged = refl; saved = refl; broken = ap is_broken_store same; log = ap entries_of same; generation = ap generation_of same })) c.in-Err.ensures.unchanged

pub returns-in-Err-clause-worn : goal.returns-in-Err-clause-worn
returns-in-Err-clause-worn g c = λ worn honest_now.
    let self = c.args.self.now in
    let whole : is_broken_store self.store ≡ false = sym c.is_broken.ensures ∙ c.if-is_broken.false in
    ⊎_elim
    (λ (device : c.in-Err.why ≡ Device). absurd (cc))
    (λ same.
    let honest = c.write_pending.ensures.answered.honest.0 honest_now in
    let cause = subst (λ (why : SessionError). IsSaveCause why false (fits_log (entries_of self.store) c.deref.result.now) (generation_of self.store)) worn c.in-Err.ensures.cause in
    let there = self.store.stored whole honest in
    subst (λ s. generation_in (g.D.SectorDevice.disk (device_of_store s)).sectors ≡ 2 ^ 64 - 1) (sym same) (ap last_generation there.chosen_is ∙ cause.2))
    c.in-Err.ensures.unchanged

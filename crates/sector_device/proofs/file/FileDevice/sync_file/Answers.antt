use Rattle.std.proofs.Common.{◌≡◌, length, sym, ap, ◌∙◌, refl}
use Rattle.sector_device.specs.declared.recorded.Recorded.TheVariants.{Sync}
use Rattle.sector_device.proofs.Files.{same_found, replays_more, recordable_more}
use Rattle.sector_device.proofs.file.FileDevice.sync_file.Goals as goal

pub invariant_of-self : goal.invariant_of-self
invariant_of-self c =
    let self = c.args.self.now in
    let h = self.history in
    let h' = c.note_sync.new.self in
    let call = Sync c.is_kept-done.result in
    let more = c.note_sync.ensures in
    let found : h'.found ≡ h.found = same_found h h' call more in
    record {
      replays = replays_more h h' call more self.sectors.items self.sectors.items self.replays refl;
      same_count = self.same_count ∙ sym (ap length found);
      few = rw found self.few;
      fits = rw found self.fits;
      found_sized = rw found self.found_sized;
      faults_fit = self.faults_fit;
      recordable = recordable_more h h' call more self.recordable refl;
    }

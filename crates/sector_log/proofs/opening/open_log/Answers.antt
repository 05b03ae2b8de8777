use Rattle.std.proofs.Common.{refl, sym, ap, ◌∙◌}
use Rattle.log_format.specs.Content.{chosen, last_generation, content}
use Rattle.log_format.specs.Found.{blob_in, seen_in}
use Rattle.sector_log.specs.OpenedAccessors.{seen}
use Rattle.sector_log.proofs.Findings.{seen_is, sound_with}
use Rattle.sector_device.proofs.Looking.{looks_then, settled_looked, has_looked}
use Rattle.sector_log.proofs.Looking.{found_looked}
use Rattle.sector_log.proofs.opening.open_log.Goals as goal

pub invariant_of-result-clause-found : goal.invariant_of-result-clause-found
invariant_of-result-clause-found g c = λ honest_now.
    let honest = c.read_chosen_log.ensures.called.honest.0 (c.read_chosen_blob.ensures.called.honest.0 honest_now) in
    let looked = c.read_chosen_log.ensures.looked honest in
    found_looked c.in-Ok-read_chosen_log.found.root c.in-Ok-read_chosen_log.found.too_small c.read_chosen_log.new.log.items (c.in-Ok-read_chosen_log.ensures.found honest) (c.read_chosen_blob.ensures.looked looked.honest)

pub invariant_of-result-clause-blob_is : goal.invariant_of-result-clause-blob_is
invariant_of-result-clause-blob_is g c = λ honest_now.
    let honest = c.read_chosen_log.ensures.called.honest.0 (c.read_chosen_blob.ensures.called.honest.0 honest_now) in
    let looked = c.read_chosen_log.ensures.looked honest in
    let first = c.in-Ok-read_chosen_log.ensures.found honest in
    ap (λ s. blob_in c.args.most (content s)) (c.read_chosen_blob.ensures.looked looked.honest).sectors ∙ c.in-Ok-read_chosen_blob.ensures.blob looked.honest first.chosen_is

pub returns-clause-looked : goal.returns-clause-looked
returns-clause-looked g c = λ honest.
    has_looked (g.met.D.SectorDevice.only_now c.args.device) (looks_then c.read_chosen_log.ensures.looked c.read_chosen_blob.ensures.looked honest)

pub returns-in_default-read_chosen_log-clause-looked : goal.returns-in_default-read_chosen_log-clause-looked
returns-in_default-read_chosen_log-clause-looked g c = λ honest. has_looked (g.met.D.SectorDevice.only_now c.args.device) (c.read_chosen_log.ensures.looked honest)

pub returns-in_default-read_chosen_blob-clause-looked : goal.returns-in_default-read_chosen_blob-clause-looked
returns-in_default-read_chosen_blob-clause-looked g c = λ honest.
    has_looked (g.met.D.SectorDevice.only_now c.args.device) (looks_then c.read_chosen_log.ensures.looked c.read_chosen_blob.ensures.looked honest)

pub returns-clause-opened : goal.returns-clause-opened
unfolding seen
returns-clause-opened g c = record {
  settled = λ honest.
      settled_looked (c.in-Ok-read_chosen_log.ensures.found honest).settled (c.read_chosen_blob.ensures.looked (c.read_chosen_log.ensures.looked honest).honest);
  generation_is = λ honest.
      let looked = c.read_chosen_log.ensures.looked honest in
      ap last_generation (sym (c.in-Ok-read_chosen_log.ensures.found honest).chosen_is ∙ ap chosen looked.sectors);
  seen_is = λ honest.
      let looked = c.read_chosen_log.ensures.looked honest in
      let last = c.read_chosen_blob.ensures.looked looked.honest in
      let first = c.in-Ok-read_chosen_log.ensures.found honest in
      let blob = c.read_chosen_blob.new.blob.items in
      seen_is (g.D.SectorDevice.disk c.read_chosen_blob.new.device) c.in-Ok-read_chosen_log.found.root c.in-Ok-read_chosen_log.found.too_small c.read_chosen_log.new.log.items c.args.most c.in-Ok-read_chosen_blob.blob_read blob
      (found_looked c.in-Ok-read_chosen_log.found.root c.in-Ok-read_chosen_log.found.too_small c.read_chosen_log.new.log.items first last)
      (ap (λ s. blob_in c.args.most (content s)) last.sectors ∙ c.in-Ok-read_chosen_blob.ensures.blob looked.honest first.chosen_is)
      ∙ ap (λ s. seen_in c.args.most (content s)) (last.sectors ∙ looked.sectors);
  most_is = refl;
  sound = sound_with c.in-Ok-read_chosen_log.found.root c.in-Ok-read_chosen_log.found.too_small c.read_chosen_log.new.log.items c.in-Ok-read_chosen_blob.blob_read c.read_chosen_blob.new.blob.items c.read_chosen_log.ensures.few;
}

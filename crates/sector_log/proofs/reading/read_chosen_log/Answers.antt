use Rattle.std.proofs.Common.{◌≡◌, ◌≤◌, ◌+◌, ◌-◌, ◌*◌, ◌/◌, ◌%◌, Some, None, length, take, drop, true, false, sym, ap, ◌∙◌, subst, arith}
use Rattle.sector_device.specs.DiskState.{Settled}
use Rattle.log_format.specs.Log.{log_from}
use Rattle.log_format.specs.Content.{chosen, area_length, area_start}
use Rattle.sector_log.specs.Reading.{IsFound}
use Rattle.sector_device.proofs.Looking.{looked_synced, looks_then, settled_looked}
use Rattle.sector_log.proofs.Looking.{nothing_chosen, found_short, found_log}
use Rattle.log_format.proofs.ContentLaw.{enough_sectors}
use Rattle.sector_log.proofs.reading.read_chosen_log.Goals as goal

pub returns-then-area-root-clause-found : goal.returns-then-area-root-clause-found
returns-then-area-root-clause-found g c = λ honest.
    let s1 = g.D.SectorDevice.disk c.sync_once.new.device in
    let s2 = g.D.SectorDevice.disk c.read_chosen.new.device in
    let sync = c.in_ok-sync_once.ensures.synced honest in
    let looked = c.read_chosen.ensures.looked sync.goes.honest in
    let settled : Settled s2 = settled_looked sync.settled looked in
    let many1 : 2 ≤ length s1.sectors = omega (arith, c.count-count.ensures, c.if-count-lt2.false) in
    let size : length s2.sectors ≡ length s1.sectors = ap length looked.sectors in
    let many : 2 ≤ length s2.sectors = omega (arith, many1, size) in
    let is : chosen s2.sectors ≡ Some c.in-Some.root = ap chosen looked.sectors ∙ enough_sectors s1.sectors many1 ∙ sym (c.in_ok-chosen.ensures.root sync.goes.honest) ∙ c.in-Some.is in
    let area : area_length s2.sectors ≡ c.area_length-area.result = ap (λ n. (n - 2) / 2) (size ∙ sym c.count-count.ensures) ∙ sym c.area_length-area.ensures in
    subst (λ l. IsFound s2 (Some c.in-Some.root) true l) (sym c.requires.empty) (found_short s2 c.in-Some.root settled many is (omega (arith, area, c.if-area-root.true)))

pub returns-in_err-read_log-clause-looked : goal.returns-in_err-read_log-clause-looked
returns-in_err-read_log-clause-looked g c =
    looks_then (looks_then (λ h. looked_synced (c.sync_once.ensures.synced h)) c.read_chosen.ensures.looked) c.read_log.ensures.looked

pub returns-clause-looked : goal.returns-clause-looked
returns-clause-looked g c =
    looks_then (looks_then (λ h. looked_synced (c.sync_once.ensures.synced h)) c.read_chosen.ensures.looked) c.read_log.ensures.looked

pub returns-clause-found : goal.returns-clause-found
returns-clause-found g c = λ honest.
    let s1 = g.D.SectorDevice.disk c.sync_once.new.device in
    let s3 = g.D.SectorDevice.disk c.read_log.new.device in
    let root = c.in-Some.root in
    let sync = c.in_ok-sync_once.ensures.synced honest in
    let looked = c.read_chosen.ensures.looked sync.goes.honest in
    let last = c.read_log.ensures.looked looked.honest in
    let settled : Settled s3 = settled_looked (settled_looked sync.settled looked) last in
    let many1 : 2 ≤ length s1.sectors = omega (arith, c.count-count.ensures, c.if-count-lt2.false) in
    let size : length s3.sectors ≡ length s1.sectors = ap length last.sectors ∙ ap length looked.sectors in
    let many : 2 ≤ length s3.sectors = omega (arith, many1, size) in
    let is : chosen s3.sectors ≡ Some root = ap chosen last.sectors ∙ ap chosen looked.sectors ∙ enough_sectors s1.sectors many1 ∙ sym (c.in_ok-chosen.ensures.root sync.goes.honest) ∙ c.in-Some.is in
    let area : area_length s3.sectors ≡ c.area_length-area.result = ap (λ n. (n - 2) / 2) (size ∙ sym c.count-count.ensures) ∙ sym c.area_length-area.ensures in
    let start = c.area_start-start.result in
    let at : start ≡ area_start root.generation s3.sectors = c.area_start-start.ensures.is ∙ (λ i. 2 + root.generation % 2 * sym area i) in
    let log : log_from root.version 0 (take 32 (drop start s3.sectors)) ≡ c.read_log.new.log.items = ap (λ l. log_from root.version 0 (take 32 (drop start l))) last.sectors ∙ c.in_ok-read_log.ensures.log looked.honest in
    found_log s3 root start c.read_log.new.log.items settled many is (omega (arith, area, c.if-area-root.false)) at log

pub returns-in_default-clause-found : goal.returns-in_default-clause-found
returns-in_default-clause-found g c = λ honest.
    let s1 = g.D.SectorDevice.disk c.sync_once.new.device in
    let s2 = g.D.SectorDevice.disk c.read_chosen.new.device in
    let sync = c.in_ok-sync_once.ensures.synced honest in
    let looked = c.read_chosen.ensures.looked sync.goes.honest in
    let many1 : 2 ≤ length s1.sectors = omega (arith, c.count-count.ensures, c.if-count-lt2.false) in
    let none : chosen s2.sectors ≡ None = ap chosen looked.sectors ∙ enough_sectors s1.sectors many1 ∙ sym (c.in_ok-chosen.ensures.root sync.goes.honest) ∙ c.in_default.is in
    subst (IsFound s2 None false) (sym c.requires.empty) (nothing_chosen s2 (settled_looked sync.settled looked) none)

pub returns-then-area-root-clause-looked : goal.returns-then-area-root-clause-looked
returns-then-area-root-clause-looked g c = looks_then (λ h. looked_synced (c.sync_once.ensures.synced h)) c.read_chosen.ensures.looked

pub returns-in_err-chosen-clause-looked : goal.returns-in_err-chosen-clause-looked
returns-in_err-chosen-clause-looked g c = looks_then (λ h. looked_synced (c.sync_once.ensures.synced h)) c.read_chosen.ensures.looked

pub returns-in_default-clause-looked : goal.returns-in_default-clause-looked
returns-in_default-clause-looked g c = looks_then (λ h. looked_synced (c.sync_once.ensures.synced h)) c.read_chosen.ensures.looked

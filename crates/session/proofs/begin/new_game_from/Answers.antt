use Rattle.std.proofs.Common.{◌≡◌, ◌≤◌, ◌<◌, ⊎_elim, inl, inr, ℕ, length, refl, sym, ap, ◌∙◌, subst, arith}
use Rattle.sha2.specs.Sha256.{sha256}
use Rattle.snapshot.specs.Encoding.{encoded, snapshot_length}
use Rattle.cartridge.specs.Header.{ram_length_of}
use Rattle.machine.specs.Machine.{MachineState}
use Rattle.sector_device.specs.Runs.{HoldsSince}
use Rattle.log_format.specs.Content.{need}
use Rattle.sector_log.specs.OpenedAccessors.{device_under, found_generation}
use Rattle.session.specs.Beginning.{IsBeginRefusal}
use Rattle.session.specs.Calls.{CanBeginGame, faults_after}
use Rattle.session.specs.Found.{IsNewGameCause}
use Rattle.sector_log.specs.Calls.{CanBegin}
use Rattle.session.specs.Accessors.{device_of, left_by}
use Rattle.session.proofs.Beginnings.{if_ok, if_err, since_now, own_of_machine, beginning_is_a_cause, begun_at_rest, game_images, looked_game, looking_is_a_cause, looking_is_not_worn, looking_wants_memory, same_faults}
use Rattle.session.proofs.Answering.{answered_error, answered_then}
use Rattle.session.proofs.Writes.{since_weaker}
use Rattle.session.proofs.begin.new_game_from.Goals as goal

pub returns-in_default-clause-images : goal.returns-in_default-clause-images
returns-in_default-clause-images g c = λ honest.
    since_weaker (since_now (g.D.SectorDevice.disk c.args.device) (g.met.D.SectorDevice.only_now c.args.device)) (λ image was. inl (record { before = image; stood = was; is = refl }))

pub returns-in-Err-clause-images : goal.returns-in-Err-clause-images
returns-in-Err-clause-images g c = λ honest.
    looked_game c.args.cartridge.now c.args.machine (g.D.SectorDevice.disk c.args.device) (g.D.SectorDevice.disk c.in-Err.refused.device) (c.in-Err.ensures.looked honest)

pub returns-in-Err-clause-answered : goal.returns-in-Err-clause-answered
returns-in-Err-clause-answered g c =
    answered_error c.in-Err.ensures.answered (λ n. same_faults c.in-Err.refused.why n ∙ ap (λ fault. faults_after fault n) (sym c.fault_of.ensures))

pub begin_with-requires-clause-rom : goal.begin_with-requires-clause-rom
begin_with-requires-clause-rom g c = c.requires.rom

pub begin_with-requires-clause-own : goal.begin_with-requires-clause-own
begin_with-requires-clause-own g c = own_of_machine c.args.cartridge.now c.args.machine c.requires

pub returns-clause-rests : goal.returns-clause-rests
returns-clause-rests g c =
    if_ok c.begin_with.result c.begin_with.ensures.new
    (λ s new honest. begun_at_rest c.args.cartridge.now (sha256 c.args.cartridge.now) (encoded c.args.machine) c.args.machine 0
    (g.D.SectorDevice.disk (device_under c.in-Ok-open_log.opened)) (g.D.SectorDevice.disk (device_of s)) c.requires (omega arith) refl refl (new (c.in-Ok-open_log.ensures.answered.honest.1 honest)))

pub returns-clause-images : goal.returns-clause-images
returns-clause-images g c = λ honest.
    game_images c.args.cartridge.now c.args.machine (g.D.SectorDevice.disk c.args.device) (g.D.SectorDevice.disk (device_under c.in-Ok-open_log.opened)) (g.D.SectorDevice.disk (left_by c.begin_with.result))
    (g.met.D.SectorDevice.reads_are_an_image c.args.device honest) (c.in-Ok-open_log.ensures.looked honest)
    (c.begin_with.ensures.images (c.in-Ok-open_log.ensures.answered.honest.1 honest))

pub returns-clause-answered : goal.returns-clause-answered
returns-clause-answered g c = answered_then c.begin_with.result c.in-Ok-open_log.ensures.answered c.begin_with.ensures.answered

pub returns-in_default-clause-refused : goal.returns-in_default-clause-refused
returns-in_default-clause-refused g c = record {
  can = tt;
  cause = tt;
  worn = λ worn honest. absurd (cc);
  memory = λ wanted. refl;
  failed = λ failed. absurd (cc);
  untouched = inr (λ honest. since_now (g.D.SectorDevice.disk c.args.device) (g.met.D.SectorDevice.only_now c.args.device));
}

pub returns-in-Err-clause-refused : goal.returns-in-Err-clause-refused
returns-in-Err-clause-refused g c = record {
  can = tt;
  cause = looking_is_a_cause (snapshot_length (ram_length_of c.args.cartridge.now)) (length (g.D.SectorDevice.disk c.args.device).sectors) c.in-Err.refused.why c.in-Err.ensures.cause c.fault_of.ensures;
  worn = λ worn honest. absurd (looking_is_not_worn c.in-Err.refused.why c.in-Err.ensures.cause (sym c.fault_of.ensures ∙ worn));
  memory = λ wanted. looking_wants_memory c.in-Err.refused.why c.in-Err.ensures.cause (sym c.fault_of.ensures ∙ wanted);
  failed = λ failed. inl (λ honest. c.in-Err.ensures.looked honest);
  untouched = inr (λ honest. (c.in-Err.ensures.looked honest).since);
}

pub returns-clause-refused : goal.returns-clause-refused
returns-clause-refused g c =
    let rom = c.args.cartridge.now in
    let blob_length : ℕ = snapshot_length (ram_length_of rom) in
    let disk = g.D.SectorDevice.disk c.args.device in
    let opened = c.in-Ok-open_log.opened in
    let result = c.begin_with.result in
    let sectors : ℕ = length (g.D.SectorDevice.disk (device_under opened)).sectors in
    let count_is : sectors ≡ length disk.sectors = c.in-Ok-open_log.ensures.answered.count in
    let generation_is = c.in-Ok-open_log.ensures.opened.generation_is in
    let fits : CanBegin blob_length sectors (found_generation opened) → CanBeginGame rom disk = λ can. record {
      enough = subst (λ (n : ℕ). need blob_length ≤ n) count_is can.enough;
      unworn = λ honest. subst (λ (n : ℕ). n < 18446744073709551615) (generation_is honest) can.unworn;
    } in
    record {
      can = if_ok result c.begin_with.ensures.can (λ s can. fits can);
      cause = if_err result c.begin_with.ensures.cause (λ refused cause. subst (λ (n : ℕ). IsNewGameCause blob_length n refused.why) count_is (beginning_is_a_cause blob_length sectors (found_generation opened) refused.why cause));
      worn = if_err result c.begin_with.ensures.cause (λ refused cause worn honest. sym (generation_is honest) ∙ (subst (λ why. IsBeginRefusal why blob_length sectors (found_generation opened)) worn cause).1);
      memory = if_err result c.begin_with.ensures.cause (λ refused cause wanted. absurd (subst (λ why. IsBeginRefusal why blob_length sectors (found_generation opened)) wanted cause));
      failed = if_err result c.begin_with.ensures.cause (λ refused cause failed. inr (fits (subst (λ why. IsBeginRefusal why blob_length sectors (found_generation opened)) failed cause)));
      untouched = if_err result c.begin_with.ensures.untouched
          (λ refused. ⊎_elim inl (λ same. inr (λ honest. subst (λ d. HoldsSince disk (g.D.SectorDevice.disk d) disk.image) (sym same) (c.in-Ok-open_log.ensures.looked honest).since)));
    }

pub returns-clause-machine : goal.returns-clause-machine
returns-clause-machine g c =
    if_ok c.begin_with.result c.begin_with.ensures.begun (λ s begun. (begun.3, ap (λ (m : MachineState). m.processor.memory.banks.rom) begun.3 ∙ c.requires.rom))

pub returns-clause-begun : goal.returns-clause-begun
returns-clause-begun g c = if_ok c.begin_with.result c.begin_with.ensures.begun (λ s begun. (begun.0, begun.1, begun.2))

pub returns-clause-saved : goal.returns-clause-saved
returns-clause-saved g c = c.begin_with.ensures.saved

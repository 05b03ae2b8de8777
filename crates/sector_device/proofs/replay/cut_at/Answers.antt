use Rattle.std.proofs.Common.{◌≡◌, length, take, ap, ◌∙◌, refl}
use Rattle.std.proofs.lemmas.List.{take_rest}
use Rattle.sector_device.proofs.Images.{recordable_split, reads_length, cut_is}
use Rattle.sector_device.proofs.replay.cut_at.Goals as goal

pub replay-at_sync-requires : goal.replay-at_sync-requires
replay-at_sync-requires c = (recordable_split (length c.args.at_start.items) c.calls_to_sync-synced.result c.args.calls.now c.requires).0

pub apply_chosen-requires : goal.apply_chosen-requires
apply_chosen-requires c =
    let n = c.calls_to_sync-synced.result in
    let calls = c.args.calls.now in
    let size : length c.replay-at_sync.result.items ≡ length c.args.at_start.items = ap length c.replay-at_sync.ensures ∙ reads_length c.args.at_start.items (take n calls) in
    rw (take_rest calls n, size) (recordable_split (length c.args.at_start.items) n calls c.requires).1

pub returns : goal.returns
returns c =
    let n = c.calls_to_sync-synced.result in
    let calls = c.args.calls.now in
    c.apply_chosen.ensures
    ∙ (rw (take_rest calls n, c.replay-at_sync.ensures) refl)
    ∙ cut_is c.args.at_start.items calls n c.args.kept.now c.calls_to_sync-synced.ensures

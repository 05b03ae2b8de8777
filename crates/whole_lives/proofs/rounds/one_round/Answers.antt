use Rattle.std.proofs.Common.{◌≡◌, List, ℕ, Bool, false, inl, inr, refl, sym, subst}
use Rattle.sector_device.specs.MemoryDevice.{memory}
use Rattle.whole_lives.specs.Lives.{Asking}
use Rattle.whole_lives.specs.Devices.{Memories, memories, EachStands, IsCut, IsCutIfThere, IsPlayed, KeepFuses, LeavesRound, Obeying, Refusing, RefusesPlay, with_fuses}
use Rattle.whole_lives.specs.declared.devices.Devices.{Devices}
use Rattle.whole_lives.specs.declared.rounds.Round.{Round}
use Rattle.whole_lives.proofs.Behind.{fused_leaves}
use Rattle.whole_lives.proofs.FuseLaws.{burnt, burnt_if_there}
use Rattle.whole_lives.proofs.rounds.one_round.Goals as goal

pub returns-in-Err-clause-refused : goal.returns-in-Err-clause-refused
returns-in-Err-clause-refused g c =
    let rom = c.args.cartridge.now in
    let round = c.args.round.now in
    let left = memories c.in-Err.refused.devices in
    let why = c.in-Err.refused.why in
    let refuses = g.P.Player.refuses in
    let lines_are : c.deref.result.now ≡ round.lines.items = cc in
    let report = c.in-Err.ensures.refused.0 in
    inl (
      report,
      subst (λ (m : Memories). RefusesPlay refuses rom m left round.lines.items report why) c.with_fuses-fused.ensures
          (subst (λ (text : List ℕ). RefusesPlay refuses rom (memories c.with_fuses-fused.result) left text report why) lines_are c.in-Err.ensures.refused.1),
      c.in-Err.ensures.fuse,
    )

pub returns-in-Err-clause-sound : goal.returns-in-Err-clause-sound
returns-in-Err-clause-sound g c = λ stand. c.in-Err.ensures.sound (subst (EachStands c.args.cartridge.now) (sym c.with_fuses-fused.ensures) stand)

-- what the round's calls leave
module _ (round : Round) (devices fused : Devices) (is : memories fused ≡ with_fuses round (memories devices)) (now : Memories) (asks : Asking) (rom given lines report : List ℕ) (whole : Bool) (lines_are : given ≡ lines) where
  leaves_unfused : LeavesRound asks rom (memories fused) now given report whole → LeavesRound asks rom (memories devices) now lines report whole
  leaves_unfused leaves =
      fused_leaves round asks rom (memories devices) now lines report whole
      (subst (λ (m : Memories). LeavesRound asks rom m now lines report whole) is (subst (λ (text : List ℕ). LeavesRound asks rom (memories fused) now text report whole) lines_are leaves))

-- a round's lines on devices with its fuses
played_as : (asks : Asking) (obeys : Obeying) (refuses : Refusing) (rom : List ℕ) (old first now : Memories) (given lines report : List ℕ) (whole : Bool) → old ≡ first → given ≡ lines → IsPlayed asks obeys refuses rom old now given report whole
    → IsPlayed asks obeys refuses rom first now lines report whole
played_as asks obeys refuses rom old first now given lines report whole is lines_are played =
    subst (λ (m : Memories). IsPlayed asks obeys refuses rom m now lines report whole) is (subst (λ (text : List ℕ). IsPlayed asks obeys refuses rom old now text report whole) lines_are played)

pub returns-in-Err-clause-stopped : goal.returns-in-Err-clause-stopped
returns-in-Err-clause-stopped g c =
    let round = c.args.round.now in
    let stopped = c.in-Err.ensures.stopped in
    let lines_are : c.deref.result.now ≡ round.lines.items = cc in (
      stopped.0,
      false,
      leaves_unfused round c.args.devices c.with_fuses-fused.result c.with_fuses-fused.ensures (memories c.in-Err.refused.devices) g.P.Player.asks c.args.cartridge.now c.deref.result.now round.lines.items stopped.0 false lines_are stopped.1,
    )

pub returns-in-Ok-cut-clause-cut : goal.returns-in-Ok-cut-clause-cut
returns-in-Ok-cut-clause-cut g c =
    let round = c.args.round.now in
    let played = c.in-Ok.ended.0 in
    let end = c.in-Ok.ended.1 in
    let lines_are : c.deref.result.now ≡ round.lines.items = cc in
    let save_kept : c.deref-2.result.now ≡ round.save_kept.items = cc in
    let recording_kept : c.deref-3.result.now ≡ round.recording_kept.items = cc in
    let old = memories c.args.devices in
    let fuses : KeepFuses (with_fuses round old) (memories played) = subst (λ (m : Memories). KeepFuses m (memories played)) c.with_fuses-fused.ensures c.in-Ok.ensures.fuses in
    record {
      played = memories played;
      is_played = played_as g.P.Player.asks g.P.Player.obeys g.P.Player.refuses c.args.cartridge.now (memories c.with_fuses-fused.result) (with_fuses round (memories c.args.devices)) (memories played) c.deref.result.now round.lines.items end.report.items end.whole c.with_fuses-fused.ensures lines_are c.in-Ok.ensures.played;
      save_calls = burnt round.save_calls old.save played.save fuses.save;
      recording_calls = burnt_if_there round.recording_calls old.recording played.recording fuses.recording;
      save = subst (λ (kept : List Bool). IsCut kept (memory played.save) (memory c.in-Ok-cut.left.save)) save_kept c.in-Ok-cut.ensures.save;
      recording = subst (λ (kept : List Bool). IsCutIfThere kept (memories played).recording (memories c.in-Ok-cut.left).recording) recording_kept c.in-Ok-cut.ensures.recording;
    }

pub returns-in-Err-cut-clause-refused : goal.returns-in-Err-cut-clause-refused
returns-in-Err-cut-clause-refused g c =
    let round = c.args.round.now in
    let played = c.in-Ok.ended.0 in
    let end = c.in-Ok.ended.1 in
    let lines_are : c.deref.result.now ≡ round.lines.items = cc in
    inr (record {
      why_is = refl;
      report = end.report.items;
      whole = end.whole;
      is_played = played_as g.P.Player.asks g.P.Player.obeys g.P.Player.refuses c.args.cartridge.now (memories c.with_fuses-fused.result) (with_fuses round (memories c.args.devices)) (memories played) c.deref.result.now round.lines.items end.report.items end.whole c.with_fuses-fused.ensures lines_are c.in-Ok.ensures.played;
    })

pub returns-in-Err-cut-clause-stopped : goal.returns-in-Err-cut-clause-stopped
returns-in-Err-cut-clause-stopped g c =
    let round = c.args.round.now in
    let played = c.in-Ok.ended.0 in
    let end = c.in-Ok.ended.1 in
    let lines_are : c.deref.result.now ≡ round.lines.items = cc in (
      end.report.items,
      end.whole,
      leaves_unfused round c.args.devices c.with_fuses-fused.result c.with_fuses-fused.ensures (memories played) g.P.Player.asks c.args.cartridge.now c.deref.result.now round.lines.items end.report.items end.whole lines_are c.in-Ok.ensures.played.leaves,
    )

use Rattle.std.proofs.Common.{◌≡◌, Some, true, List, ℕ, [], sym, subst, ◌∙◌, refl}
use Rattle.sector_device.specs.Memory.{memory_disk}
use Rattle.sector_device.specs.MemoryDevice.{memory}
use Rattle.recording.specs.Accessors.{device_of as device_of_recording}
use Rattle.session.specs.Accessors.{device_of, machine_of, acknowledged_of}
use Rattle.streaming.specs.declared.obeying.End.TheVariants.{Whole}
use Rattle.recorded_play.specs.Whole.{HasRecorded, IsRecordCause}
use Rattle.whole_lives.specs.Lines.{AskByLines}
use Rattle.whole_lives.specs.Devices.{LeavesRound}
use Rattle.whole_lives.specs.declared.error.LifeError.TheVariants.{Record}
use Rattle.whole_lives.proofs.CauseLaws.{play_sound, record_counted}
use Rattle.whole_lives.proofs.RecordedLaws.{ends_at, failed_recorded, refused_in, rested_at, whole_in}
use Rattle.whole_lives.proofs.lines.give_recorded.Goals as goal

pub returns-in-Ok-clause-gives : goal.returns-in-Ok-clause-gives
returns-in-Ok-clause-gives c =
    let rom = c.args.cartridge.now in
    let save = memory c.args.save in
    let recording = memory c.args.recording in
    let game = c.in-Ok.recorded in
    let now = memory (device_of game.session) in
    let now_recording = memory (device_of_recording game.recording) in
    let unread = c.record.new.input.reader.now in
    let report = c.record.new.out.writer.items in
    let lines_are : c.new-input.result.reader.now ≡ c.args.lines.now = cc in
    let none_is : c.new-report.result.writer.items ≡ [] = cc in
    let report_is : c.into_writer.result.items ≡ report = cc in
    let by : HasRecorded rom (memory_disk save) (memory_disk now) (memory_disk recording) (memory_disk now_recording) Whole (Some c.args.lines.now) (Some unread) (Some []) (Some report) =
    subst (λ (text : List ℕ). HasRecorded rom (memory_disk save) (memory_disk now) (memory_disk recording) (memory_disk now_recording) Whole (Some text) (Some unread) (Some []) (Some report)) lines_are
    (subst (λ (none : List ℕ). HasRecorded rom (memory_disk save) (memory_disk now) (memory_disk recording) (memory_disk now_recording) Whole (Some c.new-input.result.reader.now) (Some unread) (Some none) (Some report)) none_is
    c.in-Ok.ensures.recorded) in
    record {
      leaves =
          subst (λ (told : List ℕ). LeavesRound AskByLines rom (record { save = save; recording = Some recording }) (record { save = now; recording = Some now_recording }) c.args.lines.now told true) (sym report_is)
          (whole_in rom save recording now now_recording (c.in-Ok.ensures.agree tt tt) c.args.lines.now unread report by);
      said = record {
        unread = unread;
        all = subst (λ (told : List ℕ). HasRecorded rom (memory_disk save) (memory_disk now) (memory_disk recording) (memory_disk now_recording) Whole (Some c.args.lines.now) (Some unread) (Some []) (Some told)) (sym report_is) by;
      };
      counts = (c.in-Ok.ensures.save_answered.faults_ok, c.in-Ok.ensures.recording_answered.faults_ok);
      fuses = record {
        save = record { set = c.in-Ok.ensures.save_answered.fuse; follows = c.in-Ok.ensures.save_answered.follows };
        recording = record { set = c.in-Ok.ensures.recording_answered.fuse; follows = c.in-Ok.ensures.recording_answered.follows };
      };
      ends = λ agree. (
        _,
        ends_at rom save recording now now_recording (c.in-Ok.ensures.agree tt tt) c.args.lines.now unread report (acknowledged_of game.session) (machine_of game.session) by
            (rested_at rom now (acknowledged_of game.session) (machine_of game.session) (c.in-Ok.ensures.rests tt)),
        refl,
      );
    }

pub returns-in-Ok-clause-begun : goal.returns-in-Ok-clause-begun
returns-in-Ok-clause-begun c =
    let whole = c.in-Ok.ensures.whole in
    record { none = whole.0; whole = whole.1; rom_is = whole.3; readable = whole.2; rests = c.in-Ok.ensures.rests tt }

pub returns-in-Err-clause-stops : goal.returns-in-Err-clause-stops
returns-in-Err-clause-stops c =
    let rom = c.args.cartridge.now in
    let save = memory c.args.save in
    let recording = memory c.args.recording in
    let refused = c.in-Err.refused in
    let left = memory refused.save in
    let left_recording = memory refused.recording in
    let unread = c.record.new.input.reader.now in
    let report = c.record.new.out.writer.items in
    let lines_are : c.new-input.result.reader.now ≡ c.args.lines.now = cc in
    let none_is : c.new-report.result.writer.items ≡ [] = cc in
    let report_is : c.into_writer-in-Err.result.items ≡ report = cc in
    let by : IsRecordCause refused.why rom (memory_disk save) (memory_disk left) (memory_disk recording) (memory_disk left_recording) (Some c.args.lines.now) (Some unread) (Some []) (Some report) =
    subst (λ (text : List ℕ). IsRecordCause refused.why rom (memory_disk save) (memory_disk left) (memory_disk recording) (memory_disk left_recording) (Some text) (Some unread) (Some []) (Some report)) lines_are
    (subst (λ (none : List ℕ). IsRecordCause refused.why rom (memory_disk save) (memory_disk left) (memory_disk recording) (memory_disk left_recording) (Some c.new-input.result.reader.now) (Some unread) (Some none) (Some report)) none_is
    c.in-Err.ensures.refused) in
    let part = refused_in rom save recording left left_recording (c.in-Err.ensures.agree tt tt) c.args.lines.now refused.why unread report by in
    record {
      front = part.front;
      leaves = part.leaves;
      whole = λ failed. part.whole (failed_recorded refused.why failed) ∙ sym report_is;
      refused = record {
        cause = record {
          unread = unread;
          cause = subst (λ (told : List ℕ). IsRecordCause refused.why rom (memory_disk save) (memory_disk left) (memory_disk recording) (memory_disk left_recording) (Some c.args.lines.now) (Some unread) (Some []) (Some told)) (sym report_is) by;
        };
        counted = record_counted save left recording left_recording refused.why c.in-Err.ensures.save_answered.faults c.in-Err.ensures.recording_answered.faults;
      };
      fuses = record {
        save = record { set = c.in-Err.ensures.save_answered.fuse; follows = c.in-Err.ensures.save_answered.follows };
        recording = record { set = c.in-Err.ensures.recording_answered.fuse; follows = c.in-Err.ensures.recording_answered.follows };
      };
    }

pub returns-in-Err-clause-sound : goal.returns-in-Err-clause-sound
returns-in-Err-clause-sound c = λ stand.
    play_sound c.args.cartridge.now (record { save = memory c.args.save; recording = Some (memory c.args.recording) }) (record { save = memory c.in-Err.refused.save; recording = Some (memory c.in-Err.refused.recording) })
    c.args.lines.now _ (Record c.in-Err.refused.why) stand (returns-in-Err-clause-stops c).refused.cause

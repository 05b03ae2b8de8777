use Rattle.std.proofs.Common.{◌≡◌, Some, None, true, List, ℕ, [], sym, subst, ◌∙◌, refl}
use Rattle.sector_device.specs.Memory.{memory_disk}
use Rattle.sector_device.specs.MemoryDevice.{memory}
use Rattle.session.specs.Accessors.{device_of, machine_of, acknowledged_of}
use Rattle.streaming.specs.Streamed.{HasStreamed, HasStreamedAll, IsStreamCause}
use Rattle.streaming.specs.declared.obeying.End.TheVariants.{Whole}
use Rattle.whole_lives.specs.Lines.{AskByLines}
use Rattle.whole_lives.specs.Devices.{LeavesRound}
use Rattle.whole_lives.specs.declared.error.LifeError.TheVariants.{Stream}
use Rattle.whole_lives.proofs.CauseLaws.{play_sound, stream_counted}
use Rattle.whole_lives.proofs.AloneLaws.{ends_at, failed_alone, refused_in, whole_in}
use Rattle.whole_lives.proofs.lines.give_alone.Goals as goal

pub returns-in-Ok-clause-gives : goal.returns-in-Ok-clause-gives
returns-in-Ok-clause-gives c =
    let rom = c.args.cartridge.now in
    let save = memory c.args.save in
    let session = c.in-Ok.session in
    let now = memory (device_of session) in
    let unread = c.stream.new.input.reader.now in
    let report = c.stream.new.out.writer.items in
    let lines_are : c.new-input.result.reader.now ≡ c.args.lines.now = cc in
    let none_is : c.new-report.result.writer.items ≡ [] = cc in
    let report_is : c.into_writer.result.items ≡ report = cc in
    let by : HasStreamedAll rom (memory_disk save) (memory_disk now) (acknowledged_of session) (machine_of session) (Some c.args.lines.now) (Some unread) (Some []) (Some report) =
    subst (λ (text : List ℕ). HasStreamedAll rom (memory_disk save) (memory_disk now) (acknowledged_of session) (machine_of session) (Some text) (Some unread) (Some []) (Some report)) lines_are
    (subst (λ (none : List ℕ). HasStreamedAll rom (memory_disk save) (memory_disk now) (acknowledged_of session) (machine_of session) (Some c.new-input.result.reader.now) (Some unread) (Some none) (Some report)) none_is c.in-Ok.ensures.streamed) in
    record {
      leaves = subst (λ (told : List ℕ). LeavesRound AskByLines rom (record { save = save; recording = None }) (record { save = now; recording = None }) c.args.lines.now told true) (sym report_is) (whole_in rom save now c.args.lines.now unread report by.streamed);
      said = record { unread = unread; all = subst (λ (told : List ℕ). HasStreamed rom (memory_disk save) (memory_disk now) Whole (Some c.args.lines.now) (Some unread) (Some []) (Some told)) (sym report_is) by.streamed };
      counts = (c.in-Ok.ensures.answered.faults_ok, refl);
      fuses = record { save = record { set = c.in-Ok.ensures.answered.fuse; follows = c.in-Ok.ensures.answered.follows }; recording = tt };
      ends = λ agree. (_, ends_at rom save now c.args.lines.now (acknowledged_of session) (machine_of session) unread report by, refl);
    }

pub returns-in-Err-clause-stops : goal.returns-in-Err-clause-stops
returns-in-Err-clause-stops c =
    let rom = c.args.cartridge.now in
    let save = memory c.args.save in
    let refused = c.in-Err.refused in
    let left = memory refused.device in
    let unread = c.stream.new.input.reader.now in
    let report = c.stream.new.out.writer.items in
    let lines_are : c.new-input.result.reader.now ≡ c.args.lines.now = cc in
    let none_is : c.new-report.result.writer.items ≡ [] = cc in
    let report_is : c.into_writer-in-Err.result.items ≡ report = cc in
    let by : IsStreamCause refused.why rom (memory_disk save) (memory_disk left) (Some c.args.lines.now) (Some unread) (Some []) (Some report) =
    subst (λ (text : List ℕ). IsStreamCause refused.why rom (memory_disk save) (memory_disk left) (Some text) (Some unread) (Some []) (Some report)) lines_are
    (subst (λ (none : List ℕ). IsStreamCause refused.why rom (memory_disk save) (memory_disk left) (Some c.new-input.result.reader.now) (Some unread) (Some none) (Some report)) none_is c.in-Err.ensures.refused) in
    let part = refused_in rom save left c.args.lines.now refused.why unread report by in
    record {
      front = part.front;
      leaves = part.leaves;
      whole = λ failed. part.whole (failed_alone refused.why failed) ∙ sym report_is;
      refused = record { cause = record { unread = unread; cause = subst (λ (told : List ℕ). IsStreamCause refused.why rom (memory_disk save) (memory_disk left) (Some c.args.lines.now) (Some unread) (Some []) (Some told)) (sym report_is) by }; counted = stream_counted save left refused.why c.in-Err.ensures.answered.faults };
      fuses = record { save = record { set = c.in-Err.ensures.answered.fuse; follows = c.in-Err.ensures.answered.follows }; recording = tt };
    }

pub returns-in-Err-clause-sound : goal.returns-in-Err-clause-sound
returns-in-Err-clause-sound c = λ stand.
    play_sound c.args.cartridge.now (record { save = memory c.args.save; recording = None }) (record { save = memory c.in-Err.refused.device; recording = None }) c.args.lines.now _ (Stream c.in-Err.refused.why) stand
    (returns-in-Err-clause-stops c).refused.cause

-- How the program ends on a request that was refused.
use Rattle.std.proofs.Common.{◌≡◌, Bor, List, ℕ, Ok, Option, Some, refl, sym, subst, arith}
use Rattle.command_line.specs.declared.Request.{Request}
use Rattle.command_line.specs.declared.Request.TheVariants.{Info, List as Listing, Step, New, Play, Frame, Trace, Stream, NewRecording, Record, Recorded, Verify, Test, Show, Export, Import, Debug}
use Rattle.test_run.specs.declared.verdict.Verdict.TheVariants.{Failed, Undecided}
use Rattle.replaying.specs.declared.error.VerifyError.TheVariants.{Behind as RecordingBehind, Differ as MachinesDiffer}
use Rattle.gbkeep.specs.declared.words.Asked.TheVariants.{Command}
use Rattle.refusals.specs.declared.refusal.Refusal.{Refusal}
use Rattle.refusals.specs.declared.refusal.Refusal.TheVariants.{Cart, Memory, File, Output, Address, Word, Device, Script, Session, Line, Input, Snapshot, NoState, OtherState, Recording, Behind, Ahead, Differ, OtherRecording, RecordedGame, TestFailed, TestUndecided, NoBattery, BatteryLength, WrongLength, NoTime}
use Rattle.commands.specs.Text.{Text, IsUnread, IsUnwritten}
use Rattle.gbkeep.specs.Request.{GivesInputs, HasAddress, HasDevice, HasScript, IsCompared, IsGameRefused, IsRecordingRefused, IsTestDecided, IsWithoutBattery, IsOtherLength}
use Rattle.gbkeep.specs.Program.{Exchange, HasEnded, HasLine, IsDebugRefused, IsRecordRefused, IsRefused, IsRefusedReading, IsStreamRefused, IsTrueOf, line_of}
use Rattle.refusals.specs.Statuses.{status_of}

-- what never holds of a listing holds only of requests without an address
elsewhere : (P : Request → Type 0) → ((cart address : Bor (List ℕ)) (count : ℕ) → P (Listing cart address count) → ⊥) → (request : Request) → P request → HasAddress request
elsewhere P never (Info cart) p = tt
elsewhere P never (Listing cart address count) p = absurd (never cart address count p)
elsewhere P never (Step cart count) p = tt
elsewhere P never (New cart save sectors) p = tt
elsewhere P never (Play cart save script) p = tt
elsewhere P never (Frame cart save out) p = tt
elsewhere P never (Trace cart save count) p = tt
elsewhere P never (Stream cart save) p = tt
elsewhere P never (NewRecording cart recording sectors) p = tt
elsewhere P never (Record cart save recording) p = tt
elsewhere P never (Recorded cart recording) p = tt
elsewhere P never (Verify cart save recording) p = tt
elsewhere P never (Test cart frames script) p = tt
elsewhere P never (Show cart save) p = tt
elsewhere P never (Export cart save out) p = tt
elsewhere P never (Import cart battery save sectors) p = tt
elsewhere P never (Debug cart save) p = tt

-- its line, and what it tells as failed has failed
abbrev Told : Request → Refusal → Exchange → Type 0
Told request fault run = HasLine (Some (line_of fault)) run.errors.before run.errors.since × IsTrueOf (Ok (Command request)) fault run

refused_by : (request : Request) (fault : Refusal) (run : Exchange) → status_of fault ≡ 1 → HasAddress request → IsRefusedReading request fault run.input run.output → Told request fault run
    → HasEnded (Ok (Command request)) run 1
refused_by request fault run is address why told = record {
  done = λ zero. absurd (cc);
  refused = λ one. (fault, is, why, told.0, told.1);
  misuse = (λ two. absurd (cc), λ none. absurd (none address));
  misused = λ two. absurd (cc);
  bound = omega arith;
}

misused_by : (request : Request) (run : Exchange) → ¬ (HasAddress request) → IsUnread run.input → IsUnwritten run.output → HasLine (Some (line_of Address)) run.errors.before run.errors.since
    → HasEnded (Ok (Command request)) run 2
misused_by request run none unread unwritten line = record {
  done = λ zero. absurd (cc);
  refused = λ one. absurd (cc);
  misuse = (λ two. none, λ no. refl);
  misused = λ two. (unread, unwritten, line);
  bound = omega arith;
}

-- a request that reads no input
unread_by : (request : Request) (fault : Refusal) (run : Exchange) → IsUnread run.input → IsRefused request fault run.output.before run.output.since → IsRefusedReading request fault run.input run.output
    → Told request fault run → HasEnded (Ok (Command request)) run (status_of fault)
unread_by request (Cart fault) run unread is why told = refused_by request (Cart fault) run refl is.0 why told
unread_by request Memory run unread is why told = refused_by request Memory run refl is.0 why told
unread_by request File run unread is why told = refused_by request File run refl is.0 why told
unread_by request Output run unread is why told = refused_by request Output run refl is.0 why told
unread_by request Address run unread is why told = misused_by request run is.0 unread is.1 told.0
unread_by request Word run unread is why told = absurd is
unread_by request (Device fault) run unread is why told = refused_by request (Device fault) run refl (elsewhere (λ r. HasDevice r) (λ cart address count no. no) request is.0) why told
unread_by request (Script fault) run unread is why told = refused_by request (Script fault) run refl (elsewhere (λ r. HasScript r) (λ cart address count no. no) request is.0) why told
unread_by request (Session fault) run unread is why told = refused_by request (Session fault) run refl (elsewhere (λ r. IsGameRefused r fault run.output.before run.output.since) (λ cart address count no. no) request is) why told
unread_by request (Line number) run unread is why told = absurd is
unread_by request Input run unread is why told = absurd is
unread_by request NoState run unread is why told = absurd is
unread_by request (Snapshot fault) run unread is why told = absurd is
unread_by request WrongLength run unread is why told = absurd is
unread_by request NoTime run unread is why told = absurd is
unread_by request OtherState run unread is why told = absurd is
unread_by request (Recording fault) run unread is why told = refused_by request (Recording fault) run refl (elsewhere (λ r. IsRecordingRefused r fault run.output.before run.output.since) (λ cart address count no. no) request is) why told
unread_by request (Behind count) run unread is why told = refused_by request (Behind count) run refl (elsewhere (λ r. IsCompared r (RecordingBehind count) run.output.before run.output.since) (λ cart address count no. no) request is) why told
unread_by request (Ahead count) run unread is why told = absurd is
unread_by request Differ run unread is why told = refused_by request Differ run refl (elsewhere (λ r. IsCompared r MachinesDiffer run.output.before run.output.since) (λ cart address count no. no) request is) why told
unread_by request OtherRecording run unread is why told = absurd is
unread_by request RecordedGame run unread is why told = refused_by request RecordedGame run refl (elsewhere (λ r. GivesInputs r) (λ cart address count no. no) request is.0) why told
unread_by request TestFailed run unread is why told = refused_by request TestFailed run refl (elsewhere (λ r. IsTestDecided r Failed run.output.before run.output.since) (λ cart address count no. no) request is) why told
unread_by request TestUndecided run unread is why told = refused_by request TestUndecided run refl (elsewhere (λ r. IsTestDecided r Undecided run.output.before run.output.since) (λ cart address count no. no) request is) why told
unread_by request NoBattery run unread is why told = refused_by request NoBattery run refl (elsewhere (λ r. IsWithoutBattery r run.output.before run.output.since) (λ cart address count no. no) request is) why told
unread_by request (BatteryLength found needed) run unread is why told = refused_by request (BatteryLength found needed) run refl (elsewhere (λ r. IsOtherLength r found needed run.output.before run.output.since) (λ cart address count no. no) request is) why told

stream_status : (fault : Refusal) (input output : Text) → IsStreamRefused fault input output → status_of fault ≡ 1
stream_status (Cart fault) input output is = refl
stream_status Memory input output is = refl
stream_status File input output is = refl
stream_status Output input output is = absurd is
stream_status Address input output is = absurd is
stream_status Word input output is = absurd is
stream_status (Device fault) input output is = refl
stream_status (Script fault) input output is = absurd is
stream_status (Session fault) input output is = refl
stream_status (Line number) input output is = refl
stream_status Input input output is = refl
stream_status NoState input output is = refl
stream_status (Snapshot why) input output is = absurd is
stream_status WrongLength input output is = absurd is
stream_status NoTime input output is = absurd is
stream_status OtherState input output is = refl
stream_status (Recording fault) input output is = absurd is
stream_status (Behind count) input output is = absurd is
stream_status (Ahead count) input output is = absurd is
stream_status Differ input output is = absurd is
stream_status OtherRecording input output is = absurd is
stream_status RecordedGame input output is = refl
stream_status TestFailed input output is = absurd is
stream_status TestUndecided input output is = absurd is
stream_status NoBattery input output is = absurd is
stream_status (BatteryLength found needed) input output is = absurd is

record_status : (fault : Refusal) (input output : Text) → IsRecordRefused fault input output → status_of fault ≡ 1
record_status (Cart fault) input output is = refl
record_status Memory input output is = refl
record_status File input output is = refl
record_status Output input output is = absurd is
record_status Address input output is = absurd is
record_status Word input output is = absurd is
record_status (Device fault) input output is = refl
record_status (Script fault) input output is = absurd is
record_status (Session fault) input output is = refl
record_status (Line number) input output is = refl
record_status Input input output is = refl
record_status NoState input output is = absurd is
record_status (Snapshot why) input output is = absurd is
record_status WrongLength input output is = absurd is
record_status NoTime input output is = absurd is
record_status OtherState input output is = absurd is
record_status (Recording fault) input output is = refl
record_status (Behind count) input output is = refl
record_status (Ahead count) input output is = refl
record_status Differ input output is = refl
record_status OtherRecording input output is = refl
record_status RecordedGame input output is = absurd is
record_status TestFailed input output is = absurd is
record_status TestUndecided input output is = absurd is
record_status NoBattery input output is = absurd is
record_status (BatteryLength found needed) input output is = absurd is

debug_status : (save : Option (Bor (List ℕ))) (fault : Refusal) (input output : Text) → IsDebugRefused save fault input output → status_of fault ≡ 1
debug_status save (Cart fault) input output is = refl
debug_status save Memory input output is = refl
debug_status save File input output is = refl
debug_status save Output input output is = refl
debug_status save Address input output is = absurd is
debug_status save Word input output is = absurd is
debug_status save (Device fault) input output is = refl
debug_status save (Script fault) input output is = absurd is
debug_status save (Session fault) input output is = refl
debug_status save (Line number) input output is = absurd is
debug_status save Input input output is = refl
debug_status save NoState input output is = absurd is
debug_status save (Snapshot why) input output is = absurd is
debug_status save WrongLength input output is = absurd is
debug_status save NoTime input output is = absurd is
debug_status save OtherState input output is = absurd is
debug_status save (Recording fault) input output is = absurd is
debug_status save (Behind count) input output is = absurd is
debug_status save (Ahead count) input output is = absurd is
debug_status save Differ input output is = absurd is
debug_status save OtherRecording input output is = absurd is
debug_status save RecordedGame input output is = absurd is
debug_status save TestFailed input output is = absurd is
debug_status save TestUndecided input output is = absurd is
debug_status save NoBattery input output is = absurd is
debug_status save (BatteryLength found needed) input output is = absurd is

pub refused_ends : (request : Request) (fault : Refusal) (run : Exchange) → IsRefusedReading request fault run.input run.output → Told request fault run → HasEnded (Ok (Command request)) run (status_of fault)
refused_ends (Info cart) fault run why told = unread_by (Info cart) fault run why.0 why.1 why told
refused_ends (Listing cart address count) fault run why told = unread_by (Listing cart address count) fault run why.0 why.1 why told
refused_ends (Step cart count) fault run why told = unread_by (Step cart count) fault run why.0 why.1 why told
refused_ends (New cart save sectors) fault run why told = unread_by (New cart save sectors) fault run why.0 why.1 why told
refused_ends (Play cart save script) fault run why told = unread_by (Play cart save script) fault run why.0 why.1 why told
refused_ends (Frame cart save out) fault run why told = unread_by (Frame cart save out) fault run why.0 why.1 why told
refused_ends (Trace cart save count) fault run why told = unread_by (Trace cart save count) fault run why.0 why.1 why told
refused_ends (Stream cart save) fault run why told =
    let is = stream_status fault run.input run.output why in
    subst (λ (status : ℕ). HasEnded (Ok (Command (Stream cart save))) run status) (sym is) (refused_by (Stream cart save) fault run is tt why told)
refused_ends (NewRecording cart recording sectors) fault run why told = unread_by (NewRecording cart recording sectors) fault run why.0 why.1 why told
refused_ends (Record cart save recording) fault run why told =
    let is = record_status fault run.input run.output why in
    subst (λ (status : ℕ). HasEnded (Ok (Command (Record cart save recording))) run status) (sym is) (refused_by (Record cart save recording) fault run is tt why told)
refused_ends (Recorded cart recording) fault run why told = unread_by (Recorded cart recording) fault run why.0 why.1 why told
refused_ends (Verify cart save recording) fault run why told = unread_by (Verify cart save recording) fault run why.0 why.1 why told
refused_ends (Test cart frames script) fault run why told = unread_by (Test cart frames script) fault run why.0 why.1 why told
refused_ends (Show cart save) fault run why told = unread_by (Show cart save) fault run why.0 why.1 why told
refused_ends (Export cart save out) fault run why told = unread_by (Export cart save out) fault run why.0 why.1 why told
refused_ends (Import cart battery save sectors) fault run why told = unread_by (Import cart battery save sectors) fault run why.0 why.1 why told
refused_ends (Debug cart save) fault run why told =
    let is = debug_status save fault run.input run.output why in
    subst (λ (status : ℕ). HasEnded (Ok (Command (Debug cart save))) run status) (sym is) (refused_by (Debug cart save) fault run is tt why told)

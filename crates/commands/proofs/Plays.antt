-- A play that was not begun, and why one was refused.
use Rattle.std.proofs.Common.{◌≡◌, Bool, ◌+◌, inl, refl, sym, ap, subst, ℕ, List, length, Option, Result, Ok, Err, arith}
use Rattle.std.specs.Io.KnownBytes.{Appends}
use Rattle.exact_text.specs.Written.{AppendsProperPrefix}
use Rattle.machine.specs.Machine.{MachineState, after, picture_rows}
use Rattle.machine.specs.Machine.{Input}
use Rattle.std.specs.Prelude.{IfErr, OnErr, OnOk}
use Rattle.picture_unit.specs.Pgm.{picture_text}
use Rattle.sector_device.specs.DiskState.{DiskState}
use Rattle.sector_device.specs.Runs.{HoldsSince}
use Rattle.session.proofs.Beginnings.{since_now}
use Rattle.session.proofs.Writes.{since_weaker}
use Rattle.playing.specs.Played.{PlayImage, HasReached}
use Rattle.playing.specs.Report.{report_of}
use Rattle.script.specs.Inputs.{inputs_of_moves}
use Rattle.script.specs.Script.{moves_of}
use Rattle.script.specs.declared.moves.Move.{Move}
use Rattle.commands.specs.declared.error.CommandError.{CommandError}
use Rattle.commands.specs.declared.error.CommandError.TheVariants.{Output}
use Rattle.sector_device.specs.declared.refused.Refused.{Refused}
use Rattle.session.proofs.Answering.{answered_error, answered_otherwise, answered_value}
use Rattle.commands.specs.Play.{AnswersPlay, HasDrawn, HasDrawnPart, HasReported, IsLastMachine, IsPlayCause, IsUnplayable, moves_in, moves_read}
use Rattle.commands.specs.Refusals.{faults_after}
use Rattle.sector_device.specs.Refusal.{left_by}
use Rattle.commands.specs.Text.{Call, call_on}

-- no call of the device
pub nothing_played : (rom : List ℕ) (now : DiskState) (given : List Input) → ((image : List (List ℕ)) → now.since now.moment image → now.image image) → HoldsSince now now (PlayImage rom now given)
nothing_played rom now given only = since_weaker (since_now now only) (λ image stood. inl (record { before = image; stood = stood; is = refl }))

-- what holds of a cartridge and of moves holds of what they were read from
pub as_read : {cart rom : List ℕ} {moves : List Move} (script : List ℕ) (P : List ℕ → List Move → Type 0) → cart ≡ rom → moves_of script ≡ Ok moves → P cart moves → P rom (moves_in script)
as_read {cart} {rom} {moves} script P same read p = subst (λ (m : List Move). P rom m) (sym (ap moves_read read)) (subst (λ (r : List ℕ). P r moves) same p)

-- the report of a play that came to its end, and the machine behind it
pub reported : (cart rom script : List ℕ) (moves : List Move) (start : DiskState) (all : ℕ) (machine : MachineState) (old new : Option (List ℕ))
    → cart ≡ rom → moves_of script ≡ Ok moves
    → ((count : ℕ) × (all ≡ count + length (inputs_of_moves moves)) × Appends old new (report_of count moves))
    → (start.honest → HasReached cart start all machine (inputs_of_moves moves)) → HasReported rom script start old new
reported cart rom script moves start all machine old new same read said reached = record {
  count = said.0;
  report = subst (λ (m : List Move). Appends old new (report_of said.0 m)) (sym (ap moves_read read)) said.2;
  counted = λ honest.
      let there = subst (λ (r : List ℕ). HasReached r start all machine (inputs_of_moves moves)) same (reached honest) in
      let counts : said.0 ≡ there.from.count = omega (arith, said.1, there.count_is) in
      (there.from, there.stood, counts);
}

pub last_machine : (cart rom script : List ℕ) (moves : List Move) (start : DiskState) (all : ℕ) (machine : MachineState)
    → cart ≡ rom → moves_of script ≡ Ok moves
    → (start.honest → HasReached cart start all machine (inputs_of_moves moves)) → IsLastMachine rom script start machine
last_machine cart rom script moves start all machine same read reached = record {
  reached = λ honest.
      let there = subst (λ (r : List ℕ). HasReached r start all machine (inputs_of_moves moves)) same (reached honest) in
      let last = subst (λ (m : List Move). machine ≡ after there.from.machine (inputs_of_moves m)) (sym (ap moves_read read)) there.machine_is in
      (there.from, there.stood, last);
}

-- ---- a picture behind a play

-- it is the picture's output that failed
pub undrawn_failed : {D : Type 0} (r : Result D (Refused CommandError D)) (P : Type 0) → OnErr r P → IfErr r (λ refused. refused.why ≡ Output → P)
undrawn_failed (Ok d) P failed = tt
undrawn_failed (Err refused) P failed = λ is. failed

-- a play that is refused answers the same, whatever it would have left
pub refused_alike : {D T U : Type 0} {rom script : List ℕ} {device : D} {play : Call} {failed : Bool} {refused : Refused CommandError D} → AnswersPlay {T = T} rom script device play failed (Err refused)
    → AnswersPlay {T = U} rom script device play failed (Err refused)
refused_alike plays = record { played = tt; images = plays.images; cause = plays.cause; untouched = plays.untouched; output = plays.output; answered = answered_error plays.answered (λ n. refl) }

-- it makes no call, and the report has not failed
pub drawn : {D T : Type 0} (disk : D → DiskState) (device left : D) {session : T} (rom script : List ℕ) (old new : Option (List ℕ)) (failed : Bool) (r : Result D (Refused CommandError D))
    → left_by r ≡ left → IfErr r (λ refused. refused.why ≡ Output) → AnswersPlay {T = T} rom script device (call_on (disk device) (disk left) old new) failed (Ok session)
    → AnswersPlay rom script device (call_on (disk device) (disk (left_by r)) old new) failed r
drawn {D} disk device left rom script old new failed (Ok d) same why plays =
    subst (λ (d' : D). AnswersPlay {T = D} rom script device (call_on (disk device) (disk d') old new) failed (Ok d)) (sym same)
    (record { played = plays.played; images = plays.images; cause = tt; untouched = tt; output = tt; answered = answered_value plays.answered })
drawn {D} disk device left rom script old new failed (Err refused) same why plays =
    subst (λ (d : D). AnswersPlay {T = D} rom script device (call_on (disk device) (disk d) old new) failed (Err refused)) (sym same) (record {
      played = tt;
      images = plays.images;
      cause = subst (λ (w : CommandError). IsPlayCause rom script (call_on (disk device) (disk left) old new) w) (sym why) plays.played;
      untouched = λ unplayable. absurd (subst IsUnplayable why unplayable);
      output = λ is. absurd (cc);
      answered = answered_otherwise plays.answered (λ n. ap (λ (w : CommandError). faults_after w n) why);
    })

-- ---- the picture

pub picture_drawn : {D : Type 0} (r : Result D (Refused CommandError D)) {rom script : List ℕ} {old : DiskState} (before since : Option (List ℕ)) (machine : MachineState)
    → IsLastMachine rom script old machine → OnOk r (Appends before since (picture_text (picture_rows machine))) → OnOk r (HasDrawn rom script old before since)
picture_drawn (Ok device) before since machine last out = record { machine = machine; is_last = last; drawn = out }
picture_drawn (Err refused) before since machine last out = tt

pub part_drawn : {D : Type 0} (r : Result D (Refused CommandError D)) (rom script : List ℕ) (old : DiskState) (before since : Option (List ℕ)) (machine : MachineState)
    → IsLastMachine rom script old machine → IfErr r (λ refused. refused.why ≡ Output) → OnErr r (AppendsProperPrefix before since (picture_text (picture_rows machine)))
    → IfErr r (λ refused. HasDrawnPart rom script old before since refused.why)
part_drawn (Ok device) rom script old before since machine last why part = tt
part_drawn (Err refused) rom script old before since machine last why part = subst (HasDrawnPart rom script old before since) (sym why) (machine, last, part)

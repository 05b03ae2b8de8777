-- What the code has done in a frame, and in several of them.
use Rattle.std.specs.Prelude.{◌≡◌, ◌≤◌, ℕ, List, [], ◌++◌, Option, None, ⊤}
use Rattle.std.specs.Io.KnownBytes.{Appends}
use Rattle.exact_text.specs.Written.{AppendsProperPrefix}
use Rattle.bank_controllers.specs.CartridgeState.{IsSameCartridge}
use Rattle.script.specs.declared.moves.Move.{Move}
use Rattle.script.specs.declared.moves.Move.TheVariants.{Power as PowerMove}
use Rattle.machine.specs.Machine.{Input}
use Rattle.machine.specs.Machine.{MachineState, cycles_per_frame}
use Rattle.machine.specs.Watched.{Seen}
use Rattle.debugger.specs.Registers.{register_line}
use Rattle.test_run.specs.declared.frame.PlayedFrame.{PlayedFrame}
use Rattle.test_run.specs.declared.run.Ended.{Ended}
use Rattle.test_run.specs.declared.run.Went.{Went}
use Rattle.test_run.specs.declared.run.Went.TheVariants.{On, Over}
use Rattle.test_run.specs.declared.run.Progress.{Progress}
use Rattle.test_run.specs.declared.run.Stop.{Stop}
use Rattle.test_run.specs.declared.run.Stop.TheVariants.{Output, Memory}
use Rattle.test_run.specs.Ends.{end_seen}
use Rattle.test_run.specs.Told.{ToldState, told_all}
use Rattle.script.specs.Inputs.{inputs_of_move, inputs_of_moves}
use Rattle.test_run.specs.Tested.{Tested, sent_first, tested}
use Rattle.test_run.specs.Refusals.{FindsNoMemory}

-- a frame in which this is seen was played, and its bytes are written
pub record HasPlayed (seen : Seen) (old new : ToldState) (before since : Option (List ℕ)) (played : PlayedFrame) : Type 0 where
  pub frame : played.frame ≡ seen.end
  pub end : played.end ≡ end_seen seen
  pub over : played.end ≡ None → cycles_per_frame ≤ played.frame.passed
  pub told : new ≡ told_all old seen.sent
  pub written : Appends before since seen.sent

-- what is kept of a test that has ended there
pub record IsEnded (t : Tested) (done : ℕ) (e : Ended) : Type 0 where
  pub line : e.line.bytes ≡ register_line t.processor
  pub registers : e.registers ≡ t.processor.registers
  pub why : e.why ≡ t.why
  pub frames : done ≡ t.frames
  pub none : t.sent ≡ []

-- these bytes were sent, and it goes on with a machine as `rest` says, or it has ended
abbrev pub GoesOn : (whole : Tested) → (rest : MachineState → Tested) → (sent : List ℕ) → (done : ℕ) → Went → Type 0
GoesOn whole rest sent done (On machine) = whole ≡ sent_first sent (rest machine)
GoesOn whole rest sent done (Over ended) = (t : Tested) × (whole ≡ sent_first sent t) × IsEnded t done ended

-- of these inputs, those that are left are still to be given, if it goes on
pub record HasReached (limit : ℕ) (given left : List Input) (machine : MachineState) (old new : Progress) (before since : Option (List ℕ)) (went : Went) : Type 0 where
  pub sent : List ℕ
  pub written : Appends before since sent
  pub told : new.told ≡ told_all old.told sent
  pub most : new.done ≤ limit
  pub goes : (inputs : List Input) → GoesOn (tested limit old.done (given ++ inputs) machine) (λ m. tested limit new.done (left ++ inputs) m) sent new.done went

-- a write failed among what these inputs send
abbrev pub StopsIn : (limit : ℕ) → (given : List Input) → MachineState → Progress → (before since : Option (List ℕ)) → Type 0
StopsIn limit given machine old before since =
    (inputs : List Input) → AppendsProperPrefix before since (tested limit old.done (given ++ inputs) machine).sent

-- a machine with which it goes on has the cartridge of this one
abbrev pub IsKeptBy : MachineState → Went → Type 0
IsKeptBy machine (On m) = IsSameCartridge machine.processor.memory.banks m.processor.memory.banks
IsKeptBy machine (Over ended) = ⊤

-- a move that stops: a write failed among what its inputs send; or it is a power switch for which there is no memory, and nothing was written
abbrev pub IsMoveStop : (limit : ℕ) → Move → MachineState → Progress → (before since : Option (List ℕ)) → Stop → Type 0
IsMoveStop limit a_move machine old before since Output = StopsIn limit (inputs_of_move a_move) machine old before since
IsMoveStop limit a_move machine old before since Memory = (a_move ≡ PowerMove) × (since ≡ before)

abbrev pub IsMovesStop : (limit : ℕ) → List Move → MachineState → Progress → (before since : Option (List ℕ)) → Stop → Type 0
IsMovesStop limit moves machine old before since Output = StopsIn limit (inputs_of_moves moves) machine old before since
IsMovesStop limit moves machine old before since Memory = FindsNoMemory limit old.done moves machine before since

-- a whole test that stops: only a proper prefix of this text is written, or there is no memory for a power switch
abbrev pub IsTestStop : (limit done : ℕ) → List Move → MachineState → (text : List ℕ) → (before since : Option (List ℕ)) → Stop → Type 0
IsTestStop limit done moves machine text before since Output = AppendsProperPrefix before since text
IsTestStop limit done moves machine text before since Memory = FindsNoMemory limit done moves machine before since

-- a test has ended, and the bytes that it sent are written
pub record HasEnded (whole : Tested) (old new : Progress) (before since : Option (List ℕ)) (ended : Ended) : Type 0 where
  pub written : Appends before since whole.sent
  pub told : new.told ≡ told_all old.told whole.sent
  pub line : ended.line.bytes ≡ register_line whole.processor
  pub registers : ended.registers ≡ whole.processor.registers
  pub why : ended.why ≡ whole.why
  pub frames : new.done ≡ whole.frames

-- The numbers that refusals have in C.
use Rattle.std.specs.Prelude.{◌≡◌, ℕ, List, ◌⊎◌, Result, Ok, Err}
use Rattle.session.specs.declared.error.SessionError.{SessionError}
use Rattle.sector_device.specs.declared.device.SectorDevice.{Ghosts}
use Rattle.session.specs.declared.session.Session.{Session}
use Rattle.embedding.specs.declared.host_device.HostDevice.{HostDevice}
use Rattle.embedding.specs.Games.{IsBatteryCause, IsBeginCause, IsCartCause, IsImportCause, IsPowerAnswer, IsSaveCause, IsTakeUpCause}
use Rattle.embedding.specs.Orders.{IsNewCause, IsRestoreCause}
use Rattle.embedding.specs.States.{IsStateAnswer}
use Rattle.refusals.specs.Codes.{code_of, done, session_code}
use Rattle.refusals.specs.declared.refusal.Refusal.{Refusal}

-- want of memory
abbrev pub no_memory : ℕ
no_memory = 1

-- bytes that are no text of SAVE.time
abbrev pub no_time : ℕ
no_time = 22

-- room for another number of bytes
abbrev pub wrong_length : ℕ
wrong_length = 18

-- of what a session answers to an input
abbrev pub answer_code : Result Unit SessionError → ℕ
answer_code (Ok finished) = done
answer_code (Err why) = session_code why

-- ---- kinds of calls

abbrev pub no_call : ℕ
no_call = 0

abbrev pub a_write : ℕ
a_write = 1

abbrev pub a_sync : ℕ
a_sync = 2

-- ---- which refusals there are

-- done, or the code of a reason that holds
pub record HasCode (code : ℕ) (Cause : Refusal → Type 0) : Type 0 where
  pub why : Refusal
  pub cause : Cause why
  pub is : code ≡ code_of why

abbrev pub IsMadeCode : (rom : List ℕ) → ℕ → Type 0
IsMadeCode rom code = (code ≡ done) ⊎ HasCode code (IsNewCause rom)

abbrev pub IsRestoredCode : (rom bytes : List ℕ) → ℕ → Type 0
IsRestoredCode rom bytes code = (code ≡ done) ⊎ HasCode code (IsRestoreCause rom bytes)

abbrev pub IsNeededCode : (rom : List ℕ) → ℕ → Type 0
IsNeededCode rom code = (code ≡ done) ⊎ HasCode code (IsCartCause rom)

abbrev pub IsBegunCode : (rom : List ℕ) → (sectors : ℕ) → ℕ → Type 0
IsBegunCode rom sectors code = (code ≡ done) ⊎ HasCode code (IsBeginCause rom sectors)

abbrev pub IsImportedCode : (rom battery : List ℕ) → (sectors : ℕ) → ℕ → Type 0
IsImportedCode rom battery sectors code = (code ≡ done) ⊎ HasCode code (IsImportCause rom battery sectors)

abbrev pub IsTakenUpCode : (rom image : List ℕ) → ℕ → Type 0
IsTakenUpCode rom image code = (code ≡ done) ⊎ HasCode code (IsTakeUpCause rom image)

-- the same of a save
pub record HasSaveCode (code : ℕ) (Cause : SessionError → Type 0) : Type 0 where
  pub why : SessionError
  pub cause : Cause why
  pub is : code ≡ session_code why

abbrev pub IsSaveCode : {disk : Ghosts HostDevice} → (old new : Session HostDevice disk) → ℕ → Type 0
IsSaveCode old new code = (code ≡ done) ⊎ HasSaveCode code (IsSaveCause old new)

abbrev pub IsBatteryCode : (rom : List ℕ) → ℕ → Type 0
IsBatteryCode rom code = (code ≡ done) ⊎ HasCode code (IsBatteryCause rom)

-- the code of such an answer of a session
pub record HasAnswerCode (code : ℕ) (Answer : Result Unit SessionError → Type 0) : Type 0 where
  pub answer : Result Unit SessionError
  pub given : Answer answer
  pub is : code ≡ answer_code answer

-- of that to the power switch, or to a state, where it would answer an input so
abbrev pub IsPowerCode : (taken : Result Unit SessionError) → ℕ → Type 0
IsPowerCode taken code = HasAnswerCode code (IsPowerAnswer taken)

abbrev pub IsStateCode : (rom bytes : List ℕ) → (taken : Result Unit SessionError) → ℕ → Type 0
IsStateCode rom bytes taken code = HasAnswerCode code (IsStateAnswer rom bytes taken)

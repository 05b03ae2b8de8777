-- What is answered to bytes that are given as a state.
use Rattle.std.specs.Prelude.{◌≡◌, ◌≢◌, ◌<◌, ◌⊎◌, ℕ, List, length, take, Result, Ok, Err}
use Rattle.snapshot.specs.Legal.{IsFault}
use Rattle.snapshot.specs.declared.error.SnapError.{SnapError}
use Rattle.snapshot.specs.declared.error.SnapError.TheVariants.{SnapLength}
use Rattle.state_header.specs.States.{header_length, header_of, mark, snapshot_in, IsOfAnotherRom}
use Rattle.session.specs.Calls.{IsRestoreAnswer}
use Rattle.session.specs.declared.error.Damage.TheVariants.{Snapshot}
use Rattle.session.specs.declared.error.SessionError.{SessionError}
use Rattle.session.specs.declared.error.SessionError.TheVariants.{OtherCartridge, Damaged}

-- of no ROM at all: too few bytes for a header, or without the mark
abbrev pub IsNoState : List ℕ → Type 0
IsNoState bytes = (length bytes < header_length) ⊎ (take 8 bytes ≢ mark)

-- the header names this ROM, and the snapshot behind it has this fault
pub record IsStateFault (rom bytes : List ℕ) (fault : SnapError) : Type 0 where
  pub header : take header_length bytes ≡ header_of rom
  pub behind : IsFault rom (snapshot_in bytes) fault

-- ---- a session's answer

-- why an input is not taken, and else this
abbrev pub refusal_or : Result Unit SessionError → SessionError → SessionError
refusal_or (Err why) other = why
refusal_or (Ok done) other = other

-- Where it would answer an input so: behind this ROM's header as to the snapshot; else why no input is taken, and else that the state is of
-- another ROM, or that it is none, which is told as a snapshot of no bytes.
abbrev pub IsStateAnswer : (rom bytes : List ℕ) → (taken answer : Result Unit SessionError) → Type 0
IsStateAnswer rom bytes taken answer =
    ((take header_length bytes ≡ header_of rom) × IsRestoreAnswer rom (snapshot_in bytes) taken answer)
    ⊎ ((IsOfAnotherRom rom bytes × (answer ≡ Err (refusal_or taken OtherCartridge)))
    ⊎ (IsNoState bytes × (answer ≡ Err (refusal_or taken (Damaged (Snapshot (SnapLength 0)))))))

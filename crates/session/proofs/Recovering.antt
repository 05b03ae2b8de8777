-- The steps of recovery.
use Rattle.std.proofs.Common.{◌≡◌, ℕ, List, length, None, subst}
use Rattle.machine.specs.Machine.{MachineState}
use Rattle.snapshot.specs.Encoding.{encoded}
use Rattle.snapshot.specs.Legal.{IsMachineOf, IsLegalSnapshot}
use Rattle.snapshot.proofs.Machines.{encoded_legal}
use Rattle.input_entries.specs.Inputs.{inputs}
use Rattle.log_format.specs.Inputs.{counted, first_wrong}
use Rattle.input_entries.specs.declared.StoredEntry.{StoredEntry}
use Rattle.log_format.proofs.FoundLaws.{counts_inputs}
use Rattle.log_format.proofs.Wrong.{none_wrong}
use Rattle.session.specs.Recovery.{IsLogCause, IsRebuildCause}
use Rattle.session.specs.declared.error.Damage.TheVariants.{Count, Snapshot, Entry}
use Rattle.session.specs.declared.error.SessionError.{SessionError}
use Rattle.session.specs.declared.error.SessionError.TheVariants.{Memory, Device, NoSession, TooSmall, OtherCartridge, Damaged, GenerationsUsedUp, Broken, SaveFirst, CountFull, Output}

-- a log of inputs counts as many as it stands for
pub counted_all : (log : List StoredEntry) → first_wrong log ≡ None → counted 0 log ≡ length (inputs log)
counted_all log none = counts_inputs log ((none_wrong log).0 none)

pub legal_of : (rom bytes : List ℕ) (m : MachineState) → IsMachineOf rom m → encoded m ≡ bytes → IsLegalSnapshot rom bytes
legal_of rom bytes m of same = subst (λ (t : List ℕ). IsLegalSnapshot rom t) same (encoded_legal rom m of)

-- a refusal of the log behind a legal snapshot
pub log_cause : (rom bytes : List ℕ) (log : List StoredEntry) (generation : ℕ) (why : SessionError) → IsLegalSnapshot rom bytes → IsLogCause log generation why → IsRebuildCause rom bytes log generation why
log_cause rom bytes log generation Memory legal cause = absurd cause
log_cause rom bytes log generation Device legal cause = absurd cause
log_cause rom bytes log generation NoSession legal cause = absurd cause
log_cause rom bytes log generation (TooSmall n) legal cause = absurd cause
log_cause rom bytes log generation OtherCartridge legal cause = absurd cause
log_cause rom bytes log generation (Damaged Count) legal cause = absurd cause
log_cause rom bytes log generation (Damaged (Snapshot e)) legal cause = absurd cause
log_cause rom bytes log generation (Damaged (Entry k)) legal cause = (legal, cause)
log_cause rom bytes log generation GenerationsUsedUp legal cause = (legal, cause.0, cause.1)
log_cause rom bytes log generation Broken legal cause = absurd cause
log_cause rom bytes log generation SaveFirst legal cause = absurd cause
log_cause rom bytes log generation CountFull legal cause = absurd cause
log_cause rom bytes log generation Output legal cause = absurd cause

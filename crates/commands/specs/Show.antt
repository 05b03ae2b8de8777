-- What `show_lines` writes, and when it refuses.
use Rattle.std.specs.Prelude.{◌≡◌, ◌≢◌, ℕ, List, ◌++◌, codes, decimal, length, Option, Some}
use Rattle.std.specs.Io.KnownBytes.{Appends, Keeps}
use Rattle.hex.specs.Hex.{encode_lower}
use Rattle.sha2.specs.Sha256.{sha256}
use Rattle.exact_text.specs.Written.{AppendsProperPrefix}
use Rattle.cartridge.specs.Accepted.{IsAccepted, refusal_of}
use Rattle.machine.specs.Machine.{MachineState}
use Rattle.snapshot.specs.Encoding.{encoded}
use Rattle.snapshot.specs.Legal.{IsMachineOf}
use Rattle.input_entries.specs.Inputs.{inputs}
use Rattle.sector_device.specs.DiskState.{DiskState}
use Rattle.sector_device.specs.declared.device.SectorDevice.{Ghosts}
use Rattle.log_format.specs.Content.{content, generation_in}
use Rattle.log_format.specs.Found.{log_of}
use Rattle.session.specs.Found.{IsLookCause}
use Rattle.session.specs.Stands.{stands}
use Rattle.session.specs.LookAccessors.{count_of_look, logged_of_look, generation_of_look, machine_of_look}
use Rattle.session.specs.declared.error.SessionError.TheVariants.{Output as ReportFailed}
use Rattle.session.specs.declared.look.Look.{Look}
use Rattle.commands.specs.declared.error.CommandError.{CommandError}
use Rattle.commands.specs.declared.error.CommandError.TheVariants.{Cart, Session, Output}

-- ---- what is seen

-- a machine; how many inputs brought it there, how many of them are in the log, and the generation of that log
pub record Seen : Type 0 where
  pub count : ℕ
  pub logged : ℕ
  pub generation : ℕ
  pub machine : MachineState

-- the sectors stand for this machine after so many inputs, and their log is of this generation and holds so many
pub record IsIn (rom : List ℕ) (sectors : List (List ℕ)) (seen : Seen) : Type 0 where
  pub stood : stands rom (content sectors) ≡ Some (record { count = seen.count; machine = seen.machine })
  pub logged_are : seen.logged ≡ length (inputs (log_of (content sectors)))
  pub generation_is : seen.generation ≡ generation_in sectors

abbrev pub seen_by : {D : Type 0} {disk : Ghosts D} → Look D disk → Seen
seen_by look = record {
  count = count_of_look look;
  logged = logged_of_look look;
  generation = generation_of_look look;
  machine = machine_of_look look;
}

-- ---- its text

abbrev pub inputs_line : ℕ → List ℕ
inputs_line count = codes "inputs " ++ (decimal count ++ codes "\n")

abbrev pub logged_line : ℕ → List ℕ
logged_line count = codes "logged " ++ (decimal count ++ codes "\n")

abbrev pub generation_line : ℕ → List ℕ
generation_line generation = codes "generation " ++ (decimal generation ++ codes "\n")

abbrev pub sectors_line : ℕ → List ℕ
sectors_line count = codes "sectors " ++ (decimal count ++ codes "\n")

-- a digest in lower-case hexadecimal digits
abbrev pub rom_line : List ℕ → List ℕ
rom_line digest = codes "rom " ++ (encode_lower digest ++ codes "\n")

abbrev pub state_line : List ℕ → List ℕ
state_line digest = codes "state " ++ (encode_lower digest ++ codes "\n")

-- of a game of this ROM on a device of so many sectors: the numbers, the digest of the ROM, and that of the machine's snapshot
unfoldable pub shown_text : (rom : List ℕ) → (sectors : ℕ) → Seen → List ℕ
shown_text rom sectors seen =
    inputs_line seen.count ++ (logged_line seen.logged ++ (generation_line seen.generation ++ (sectors_line sectors
    ++ (rom_line (sha256 rom) ++ state_line (sha256 (encoded seen.machine))))))

-- ---- what a call answers

-- The text of what was seen went out, of a machine of this ROM. If the device is honest, it is what its sectors hold.
pub record HasShown (rom : List ℕ) (old : DiskState) (before since : Option (List ℕ)) : Type 0 where
  pub seen : Seen
  pub of : IsMachineOf rom seen.machine
  pub held : old.honest → IsIn rom old.sectors seen
  pub written : Appends before since (shown_text rom (length old.sectors) seen)

-- so it was seen, and only a proper prefix of its text went out
pub record IsUnwritten (rom : List ℕ) (old : DiskState) (before since : Option (List ℕ)) : Type 0 where
  pub seen : Seen
  pub of : IsMachineOf rom seen.machine
  pub held : old.honest → IsIn rom old.sectors seen
  pub written : AppendsProperPrefix before since (shown_text rom (length old.sectors) seen)

-- Why it is not shown: the first rule of a cartridge that the image breaks; why the game is not looked at, and nothing went out;
-- a write that failed.
abbrev pub IsShowCause : (rom : List ℕ) → DiskState → (before since : Option (List ℕ)) → CommandError → Type 0
IsShowCause rom old before since (Cart fault) = (refusal_of rom ≡ Some fault) × Keeps before since
IsShowCause rom old before since (Session why) =
    IsAccepted rom × Keeps before since × (old.honest → IsLookCause rom (content old.sectors) why) × (why ≢ ReportFailed)
IsShowCause rom old before since Output = IsAccepted rom × IsUnwritten rom old before since
IsShowCause rom old before since why = ⊥

-- What was seen with a cartridge was seen with its ROM.
use Rattle.std.proofs.Common.{◌≡◌, ℕ, List, length, Option, Some, subst}
use Rattle.std.specs.Io.KnownBytes.{Appends}
use Rattle.exact_text.specs.Written.{AppendsProperPrefix}
use Rattle.snapshot.specs.Legal.{IsMachineOf}
use Rattle.input_entries.specs.Inputs.{inputs}
use Rattle.sector_device.specs.DiskState.{DiskState}
use Rattle.log_format.specs.Content.{content, generation_in}
use Rattle.log_format.specs.Found.{log_of}
use Rattle.session.specs.Stands.{stands}
use Rattle.session.specs.declared.error.SessionError.{SessionError}
use Rattle.session.specs.declared.error.SessionError.TheVariants.{Memory}
use Rattle.commands.specs.Show.{Seen, IsIn, HasShown, IsUnwritten, shown_text}
use Rattle.commands.specs.declared.error.CommandError.TheVariants.{Session}

-- of an honest device
abbrev StandsFor : (rom : List ℕ) → DiskState → Seen → Type 0
StandsFor rom old seen = old.honest → stands rom (content old.sectors) ≡ Some (record { count = seen.count; machine = seen.machine })

abbrev HasLog : DiskState → Seen → Type 0
HasLog old seen = old.honest → (seen.logged ≡ length (inputs (log_of (content old.sectors)))) × (seen.generation ≡ generation_in old.sectors)

module _ (rom image : List ℕ) (old : DiskState) (sectors : ℕ) (seen : Seen) (before since : Option (List ℕ)) (image_is : image ≡ rom) (sectors_is : sectors ≡ length old.sectors) (of : IsMachineOf image seen.machine) (stood : StandsFor image old seen) (log : HasLog old seen) where
  held : old.honest → IsIn image old.sectors seen
  held honest = record { stood = stood honest; logged_are = (log honest).0; generation_is = (log honest).1 }

  pub has_shown : Appends before since (shown_text image sectors seen) → HasShown rom old before since
  has_shown written = subst (λ (r : List ℕ). HasShown r old before since) image_is (record {
    seen = seen;
    of = of;
    held = held;
    written = subst (λ (n : ℕ). Appends before since (shown_text image n seen)) sectors_is written;
  })

  pub is_unwritten : AppendsProperPrefix before since (shown_text image sectors seen) → IsUnwritten rom old before since
  is_unwritten written = subst (λ (r : List ℕ). IsUnwritten r old before since) image_is (record {
    seen = seen;
    of = of;
    held = held;
    written = subst (λ (n : ℕ). AppendsProperPrefix before since (shown_text image n seen)) sectors_is written;
  })

pub memory_of : (why : SessionError) → Session why ≡ Session Memory → why ≡ Memory
memory_of why is = cc

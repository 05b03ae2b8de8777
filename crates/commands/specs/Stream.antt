-- What `stream_play` leaves, and when it refuses.
use Rattle.std.specs.Prelude.{◌≡◌, ℕ, List, Some}
use Rattle.cartridge.specs.Accepted.{IsAccepted, refusal_of}
use Rattle.streaming.specs.Streamed.{IsStreamCause}
use Rattle.commands.specs.declared.error.CommandError.{CommandError}
use Rattle.commands.specs.declared.error.CommandError.TheVariants.{Cart, Stream}
use Rattle.commands.specs.Text.{Call, Text, IsUnread, IsUnwritten}

-- why a stream was refused: the first rule of a cartridge that the image breaks, and then nothing was read or written, or the stream's
-- own cause
abbrev pub IsStreamPlayCause : (rom : List ℕ) → (input : Text) → Call → CommandError → Type 0
IsStreamPlayCause rom input stream (Cart fault) = (refusal_of rom ≡ Some fault) × IsUnread input × IsUnwritten stream.output
IsStreamPlayCause rom input stream (Stream fault) =
    IsAccepted rom × IsStreamCause fault rom stream.old stream.now input.before input.since stream.output.before stream.output.since
IsStreamPlayCause rom input stream why = ⊥

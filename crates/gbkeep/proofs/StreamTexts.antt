-- What a stream wrote, and why one was refused.
use Rattle.std.proofs.Common.{List, ℕ, Option, inr}
use Rattle.cartridge.specs.Accepted.{IsAccepted}
use Rattle.sector_device.specs.FileDevice.{file_disk}
use Rattle.sector_device.specs.declared.file.FileDevice.{FileDevice}
use Rattle.streaming.specs.Streamed.{HasStreamed}
use Rattle.streaming.specs.declared.error.StreamError.TheVariants.{Session, Line, Input, Snapshot, OtherCartridge, Memory}
use Rattle.commands.specs.declared.error.CommandError.{CommandError}
use Rattle.commands.specs.declared.error.CommandError.TheVariants.{Cart, Script, Session as NoGame, Stream, Recording, Verify, Debug, Memory as NoMemory, Output}
use Rattle.streaming.specs.declared.obeying.End.{End}
use Rattle.gbkeep.specs.Program.{IsStreamRefused, refusal_of_command}
use Rattle.gbkeep.specs.Request.{IsStreamedTo}
use Rattle.commands.specs.Text.{call_on}
use Rattle.commands.specs.Stream.{IsStreamPlayCause}

module _ (rom : List ℕ) (file left : FileDevice) (before_in since_in old new : Option (List ℕ)) where
  pub streamed_to : (end : End) → IsAccepted rom → HasStreamed rom (file_disk file) (file_disk left) end before_in since_in old new
      → IsStreamedTo end (record { before = before_in; since = since_in }) (record { before = old; since = new })
  streamed_to end accepted streamed = (rom, accepted, (file, left, streamed))

  pub stream_refused : (why : CommandError)
      → IsStreamPlayCause rom (record { before = before_in; since = since_in }) (call_on (file_disk file) (file_disk left) old new) why
      → IsStreamRefused (refusal_of_command why) (record { before = before_in; since = since_in }) (record { before = old; since = new })
  stream_refused (Cart fault) cause = (cause.1, cause.2, (rom, cause.0))
  stream_refused (Stream (Session fault)) cause = (rom, (file, left, cause))
  stream_refused (Stream (Line number)) cause = streamed_to _ cause.0 cause.1
  stream_refused (Stream Input) cause = streamed_to _ cause.0 cause.1
  stream_refused (Stream Snapshot) cause = streamed_to _ cause.0 cause.1
  stream_refused (Stream OtherCartridge) cause = streamed_to _ cause.0 cause.1
  stream_refused (Stream Memory) cause = inr (streamed_to _ cause.0 cause.1)
  stream_refused (Script fault) cause = absurd cause
  stream_refused (NoGame fault) cause = absurd cause
  stream_refused (Recording fault) cause = absurd cause
  stream_refused (Verify fault) cause = absurd cause
  stream_refused (Debug fault) cause = absurd cause
  stream_refused NoMemory cause = absurd cause
  stream_refused Output cause = absurd cause

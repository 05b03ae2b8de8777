-- What a debugger answered, and why one was refused.
use Rattle.std.proofs.Common.{List, ℕ, None, Some, Bor, inl, inr}
use Rattle.cartridge.specs.Accepted.{IsAccepted}
use Rattle.sector_device.specs.FileDevice.{file_disk}
use Rattle.sector_device.specs.declared.file.FileDevice.{FileDevice}
use Rattle.debugging.specs.declared.error.DebugError.TheVariants.{Input, Output, Memory as Lacked}
use Rattle.commands.specs.declared.error.CommandError.{CommandError}
use Rattle.commands.specs.declared.error.CommandError.TheVariants.{Cart, Script, Session, Stream, Recording, Verify, Debug, Memory, Output as Unwritten}
use Rattle.commands.specs.Debug.{HasDebugged, IsDebugGameCause, IsDebugRomCause}
use Rattle.commands.specs.Text.{Text}
use Rattle.gbkeep.specs.Request.{IsDebugged, exchange_of}
use Rattle.gbkeep.specs.Program.{IsDebugRefused, refusal_of_command}

pub debug_rom_refused : (rom : List ℕ) (input output : Text) (why : CommandError) → IsDebugRomCause rom (exchange_of input output) why
    → IsDebugRefused None (refusal_of_command why) input output
debug_rom_refused rom input output (Cart fault) cause = (cause.1.0, cause.1.1, (rom, cause.0))
debug_rom_refused rom input output (Script fault) cause = absurd cause
debug_rom_refused rom input output (Session fault) cause = absurd cause
debug_rom_refused rom input output (Stream fault) cause = absurd cause
debug_rom_refused rom input output (Recording fault) cause = absurd cause
debug_rom_refused rom input output (Verify fault) cause = absurd cause
debug_rom_refused rom input output (Debug Input) cause = (rom, cause.0, cause.1)
debug_rom_refused rom input output (Debug Output) cause = (rom, cause.0, cause.1)
debug_rom_refused rom input output (Debug Lacked) cause = inr (rom, cause.0, cause.1)
debug_rom_refused rom input output Memory cause = inl cause.1
debug_rom_refused rom input output Unwritten cause = absurd cause

module _ (save : Bor (List ℕ)) (rom : List ℕ) (file left : FileDevice) (input output : Text) where
  pub game_debugged : IsAccepted rom → HasDebugged rom (file_disk file) (file_disk left) (exchange_of input output) → IsDebugged (Some save) input output
  game_debugged accepted it = (rom, accepted, (file, left, it))

  pub debug_game_refused : (why : CommandError) → IsDebugGameCause rom (file_disk file) (file_disk left) (exchange_of input output) why
      → IsDebugRefused (Some save) (refusal_of_command why) input output
  debug_game_refused (Cart fault) cause = (cause.1.0, cause.1.1, (rom, cause.0))
  debug_game_refused (Script fault) cause = absurd cause
  debug_game_refused (Session fault) cause = (rom, (file, left, cause))
  debug_game_refused (Stream fault) cause = absurd cause
  debug_game_refused (Recording fault) cause = absurd cause
  debug_game_refused (Verify fault) cause = absurd cause
  debug_game_refused (Debug Input) cause = (rom, (file, left, cause))
  debug_game_refused (Debug Output) cause = (rom, (file, left, cause))
  debug_game_refused (Debug Lacked) cause = inr (rom, (file, left, cause))
  debug_game_refused Memory cause = inl cause.1
  debug_game_refused Unwritten cause = absurd cause

use Rattle.std.proofs.Common.{◌≡◌, Ok, length}
use Rattle.input_lines.specs.Reading.{left_of}
use Rattle.snapshot.specs.Encoding.{snapshot_length}
use Rattle.snapshot.specs.Legal.{IsOfImage}
use Rattle.debugging.specs.Quiet.{HasRom}
use Rattle.debugging.specs.Run.{processor_of}
use Rattle.debugging.proofs.Exchanges.{HasObeyed}
use Rattle.debugging.proofs.Kept.{ram_length}
use Rattle.debugging.proofs.obeying.LineDebugger.obey.Given as goal

abbrev pub invariant-loop-number : goal.invariant-loop-number
invariant-loop-number g l = record {
  so_far : HasObeyed l.cartridge l.kept l.fn.self l.run l.number (g.R.LineInput.remaining l.fn.input) (left_of l.unread.items (g.R.LineInput.remaining l.input)) (g.W.Output.contents l.fn.out) (g.W.Output.contents l.out);
  ended : l.ended ≡ Ok tt;
  rom : HasRom l.rom (processor_of l.run).memory;
  of : IsOfImage l.cartridge l.run.debugger.machine;
  room : length l.snapshot.items ≡ snapshot_length (ram_length l.run);
}

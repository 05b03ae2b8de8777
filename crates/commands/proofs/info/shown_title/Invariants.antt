use Rattle.std.proofs.Common.{◌≡◌, length, map, take}
use Rattle.commands.specs.Info.{shown}
use Rattle.commands.proofs.info.shown_title.Given as goal

abbrev pub invariant-loop-byte : goal.invariant-loop-byte
invariant-loop-byte l = record {
  text : l.text.bytes ≡ map shown (take l.byte-index l.title);
  length : length l.text.bytes ≡ l.byte-index;
}

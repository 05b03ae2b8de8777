use Rattle.std.proofs.Common.{◌≡◌, Bool, true, false, refl}
use Rattle.std.specs.Prelude.{not}
use Rattle.debugging.proofs.AccessTables.{registers_read, registers_written}
use Rattle.debugging.proofs.passing.is_in_registers.Goals as goal

fails : (b : Bool) → not b ≡ true → b ≡ false
fails true e = cc
fails false e = refl

pub returns-clause-stores : goal.returns-clause-stores
returns-clause-stores c = λ other.
    registers_written c.args.processor.now c.requires.fast c.args.opcode c.read-second.result c.if-opcode-ne-PREFIX.false c.requires.here c.read-second.ensures (fails _ other)

pub returns-clause-loads : goal.returns-clause-loads
returns-clause-loads c = λ other.
    registers_read c.args.processor.now c.requires.fast c.args.opcode c.read-second.result c.if-opcode-ne-PREFIX.false c.requires.here c.read-second.ensures (fails _ other)

use Rattle.std.proofs.Common.{◌++◌}
use Rattle.sha2.specs.Sha256.{sha256}
use Rattle.snapshot.specs.Encoding.{encoded}
use Rattle.session.specs.LookAccessors.{machine_of_look, count_of_look, logged_of_look, generation_of_look}
use Rattle.commands.specs.Show.{inputs_line, logged_line, generation_line, sectors_line, rom_line, state_line, shown_text}
use Rattle.commands.proofs.Lines.{five_texts}
use Rattle.commands.proofs.show.shown_text.Goals as goal

pub returns : goal.returns
unfolding shown_text
returns g c =
    rw c.push_str-2.ensures.bytes (rw c.as_str-2.ensures.value (rw c.digests_text-digests.ensures (rw c.push_str.ensures.bytes (rw c.as_str.ensures.value (rw c.numbers_text-numbers.ensures (rw c.new-text.ensures
    (rw c.count.ensures (rw c.logged.ensures (rw c.generation.ensures (rw c.count-sectors.ensures (rw c.device.ensures.device (rw c.digest.ensures (rw c.digest-2.ensures (rw c.snapshot.ensures
    (five_texts (inputs_line (count_of_look c.args.look.now)) (logged_line (logged_of_look c.args.look.now)) (generation_line (generation_of_look c.args.look.now)) (sectors_line _)
    (rom_line (sha256 c.args.cartridge.now) ++ state_line (sha256 (encoded (machine_of_look c.args.look.now)))))))))))))))))))

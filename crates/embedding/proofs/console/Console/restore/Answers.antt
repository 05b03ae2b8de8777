use Rattle.std.proofs.Common.{◌∙◌, ℕ, List, ap, refl, subst}
use Rattle.cartridge.specs.Header.{has_rumble, ram_length_of}
use Rattle.snapshot.specs.Legal.{IsFault}
use Rattle.snapshot.specs.Table.{kind_of_image}
use Rattle.embedding.proofs.StateAnswers.{behind_header, state_is}
use Rattle.embedding.proofs.console.Console.restore.Goals as goal

pub decode_into-requires : goal.decode_into-requires
decode_into-requires c =
    let self = c.args.self.now in
    record {
      rom = self.rom;
      kind = self.own.kind ∙ ap kind_of_image self.rom;
      rumble = self.own.rumble ∙ ap has_rumble self.rom;
      ram_length = self.own.ram_length ∙ ap ram_length_of self.rom;
    }

pub returns-in-Ok-clause-state : goal.returns-in-Ok-clause-state
returns-in-Ok-clause-state c =
    state_is c.args.self.now.cartridge c.args.bytes.now c.decode_into.new.machine (c.in-Same.ensures.own refl).1 c.in-Ok.ensures.ok.0.rom
    (c.in-Ok.ensures.ok.1 ∙ behind_header c.args.bytes.now)

pub returns-in-Err-clause-cause : goal.returns-in-Err-clause-cause
returns-in-Err-clause-cause c = record { header = (c.in-Same.ensures.own refl).1; behind = subst (λ (snapshot : List ℕ). IsFault c.args.self.now.cartridge snapshot c.in-Err.why) (behind_header c.args.bytes.now) c.in-Err.ensures.err }

pub returns-in-Nothing-clause-cause : goal.returns-in-Nothing-clause-cause
returns-in-Nothing-clause-cause c = c.in-Nothing.ensures.none refl

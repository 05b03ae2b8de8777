use Rattle.std.proofs.Common.{ℕ, subst, sym}
use Rattle.cartridge.specs.Accepted.{IsAccepted}
use Rattle.sector_device.specs.FileDevice.{file_disk}
use Rattle.command_line.specs.declared.Request.TheVariants.{Verify}
use Rattle.commands.specs.Verify.{HasAgreed, IsLineCause}
use Rattle.gbkeep.specs.Program.{IsRefused}
use Rattle.refusals.specs.declared.refusal.Refusal.{Refusal}
use Rattle.gbkeep.proofs.CommandTexts.{verify_refused}
use Rattle.gbkeep.proofs.FileTexts.{err_at, ok_at}
use Rattle.gbkeep.proofs.recordings.verify.Goals as goal

pub returns-in-Ok-clause-served : goal.returns-in-Ok-clause-served
returns-in-Ok-clause-served g c =
    let answer = c.verify_line-compared.result.answer in
    let said = c.verify_line-compared.ensures in
    let rom = c.in_ok-rom.rom.items in (
      rom,
      (
        ok_at answer c.in-Ok._count (λ count. IsAccepted rom) c.in-Ok.is said.accepted,
        (
          c.in-Ok._count,
          (
            c.in_ok-pair.pair.save,
            c.in_ok-pair.pair.recording,
            ok_at answer c.in-Ok._count (λ (count : ℕ). HasAgreed rom (file_disk c.in_ok-pair.pair.save) (file_disk c.in_ok-pair.pair.recording) count (g.O.Output.contents c.args.out.now) (g.O.Output.contents c.verify_line-compared.new.out))
                c.in-Ok.is said.agreed,
          ),
        ),
      ),
    )

pub returns-clause-served : goal.returns-clause-served
returns-clause-served g c =
    let rom = c.in_ok-rom.rom.items in
    subst (λ (fault : Refusal). IsRefused (Verify c.args.cart c.args.save c.args.recording) fault (g.O.Output.contents c.args.out.now) (g.O.Output.contents c.verify_line-compared.new.out)) (sym c.refusal_of.ensures)
    (verify_refused c.args.cart c.args.save c.args.recording rom c.in_ok-pair.pair.save c.in_ok-pair.pair.recording _ _ c.in-Err.why
    (err_at c.verify_line-compared.result.answer c.in-Err.why (IsLineCause rom (file_disk c.in_ok-pair.pair.save) (file_disk c.in_ok-pair.pair.recording) (g.O.Output.contents c.args.out.now) (g.O.Output.contents c.verify_line-compared.new.out))
    c.in-Err.is c.verify_line-compared.ensures.cause))

-- A new game and a new recording stand together.
use Rattle.std.proofs.Common.{◌≡◌, ◌∙◌, ℕ, List, [], Some, sym, subst, arith}
use Rattle.sha2.specs.Sha256.{sha256}
use Rattle.machine.specs.Machine.{start}
use Rattle.sector_device.specs.DiskState.{DiskState, Settled}
use Rattle.recording.specs.Recorded.{recorded}
use Rattle.session.specs.Stands.{Position}
use Rattle.session.proofs.Looks.{stood_at_rest}
use Rattle.session.proofs.StandsLaws.{after_none}
use Rattle.replaying.specs.Agreeing.{Agrees, IsRecorded}
use Rattle.gbkeep.specs.NewFiles.{IsNewGame, IsNewRecording}

agree : (rom : List ℕ) (save recording : DiskState) → IsNewGame rom save → IsNewRecording rom recording → Agrees rom save.sectors recording.sectors
agree rom save recording game tape = λ at stood.
    let begun : Position = record { count = 0; machine = start rom } in
    let both : Some at ≡ Some begun = sym stood ∙ stood_at_rest rom save 0 (start rom) game in
    let at_is : at ≡ begun = cc in
    subst (λ (p : Position). IsRecorded rom recording.sectors p) (sym at_is)
    (record { entries = []; holds = tape.empty; enough = omega arith; machine_is = sym (after_none (start rom)) })

pub stand_together : (rom : List ℕ) (save recording : DiskState) → IsNewGame rom save → IsNewRecording rom recording
    → (s r : List (List ℕ)) → save.image s → recording.image r → Agrees rom s r
stand_together rom save recording game tape s r stands_s stands_r =
    subst (λ (image : List (List ℕ)). Agrees rom image r) (sym (game.settled s stands_s))
    (subst (λ (image : List (List ℕ)). Agrees rom save.sectors image) (sym (tape.settled r stands_r)) (agree rom save recording game tape))

-- what is created by a digest is of its ROM
pub new_of_digest : (rom id : List ℕ) (now : DiskState) → id ≡ sha256 rom → Settled now → recorded id now.sectors ≡ Some [] → IsNewRecording rom now
new_of_digest rom id now is settled empty =
    record { settled = settled; empty = subst (λ (i : List ℕ). recorded i now.sectors ≡ Some []) is empty }

-- Whether a game is begun on a device, whatever machine it begins with.
use Rattle.std.specs.Prelude.{◌≡◌, ◌⊎◌, ◌-◌, ◌^◌, List, ℕ, length, Result, IfOk, IfErr}
use Rattle.cartridge.specs.Header.{ram_length_of}
use Rattle.snapshot.specs.Encoding.{snapshot_length}
use Rattle.sector_device.specs.Looking.{HasLooked}
use Rattle.sector_device.specs.Runs.{HoldsSince}
use Rattle.sector_device.specs.declared.device.SectorDevice.{Ghosts}
use Rattle.log_format.specs.Content.{generation_in}
use Rattle.session.specs.Calls.{CanBeginGame}
use Rattle.session.specs.Found.{IsNewGameCause}
use Rattle.session.specs.declared.error.SessionError.{SessionError}
use Rattle.sector_device.specs.declared.refused.Refused.{Refused}
use Rattle.session.specs.declared.error.SessionError.TheVariants.{Memory, Device, GenerationsUsedUp}
use Rattle.session.specs.declared.session.Session.{Session}

module _ {D : Type 0} {disk : Ghosts D} where
  pub record AnswersNewGame (rom : List ℕ) (device : D) (result : Result (Session D disk) (Refused SessionError D)) : Type 0 where
    -- when it is refused
    pub can : IfOk result (λ s. CanBeginGame rom (disk.disk device))
    pub cause : IfErr result (λ refused. IsNewGameCause (snapshot_length (ram_length_of rom)) (length (disk.disk device).sectors) refused.why)
    pub worn : IfErr result (λ refused. refused.why ≡ GenerationsUsedUp → (disk.disk device).honest → generation_in (disk.disk device).sectors ≡ 2 ^ 64 - 1)
    -- before all other causes, or once none of them holds
    pub memory : IfErr result (λ refused. refused.why ≡ Memory → refused.device ≡ device)
    pub failed : IfErr result (λ refused. refused.why ≡ Device → ((disk.disk device).honest → HasLooked (disk.disk device) (disk.disk refused.device)) ⊎ CanBeginGame rom (disk.disk device))
    -- and what then is left
    pub untouched : IfErr result (λ refused. (refused.why ≡ Device) ⊎ ((disk.disk device).honest → HoldsSince (disk.disk device) (disk.disk refused.device) (disk.disk device).image))

-- What public clauses see of a `Look`.
use Rattle.std.specs.Prelude.{ℕ, List, Result, Ok, Err}
use Rattle.sector_device.specs.declared.device.SectorDevice.{Ghosts}
use Rattle.sector_log.specs.OpenedAccessors.{device_under, found_generation}
use Rattle.machine.specs.Machine.{MachineState}
use Rattle.session.specs.declared.error.SessionError.{SessionError}
use Rattle.sector_device.specs.declared.refused.Refused.{Refused}
use Rattle.session.specs.declared.look.Look.{Look}

module _ {D : Type 0} {disk : Ghosts D} where
  -- its device
  abbrev pub device_of_look : Look D disk → D
  device_of_look l = device_under l.opened

  -- its machine
  abbrev pub machine_of_look : Look D disk → MachineState
  machine_of_look l = l.machine

  -- the ROM of its cartridge
  abbrev pub rom_of_look : Look D disk → List ℕ
  rom_of_look l = l.machine.processor.memory.banks.rom

  -- how many inputs brought the machine there
  abbrev pub count_of_look : Look D disk → ℕ
  count_of_look l = l.count

  -- how many of them are in the log
  abbrev pub logged_of_look : Look D disk → ℕ
  logged_of_look l = l.logged

  abbrev pub generation_of_look : Look D disk → ℕ
  generation_of_look l = found_generation l.opened

  -- the device that `look_at` leaves
  abbrev pub left_by_look : Result (Look D disk) (Refused SessionError D) → D
  left_by_look (Ok look) = device_of_look look
  left_by_look (Err refused) = refused.device

-- What the code keeps of A000-BFFF: one window for all its addresses, until the registers change. `proofs/Windows.antt` proves that it
-- gives the places of `Places.antt`.
use Rattle.std.specs.Prelude.{ℕ, ◌+◌, ◌*◌, ◌/◌, ◌%◌, ◌==◌, nat_lt, if◌then◌else◌}
use Rattle.cartridge.specs.declared.controller.Controller.{Controller}
use Rattle.cartridge.specs.declared.controller.Controller.TheVariants.{NoMbc, Mbc1, Mbc2, Mbc3, Mbc3Clock, Mbc5}
use Rattle.bank_controllers.specs.declared.clock.ClockRegister.TheVariants.{Seconds, Minutes, Hours, DayLow, DayHigh}
use Rattle.bank_controllers.specs.declared.state.BanksState.{BanksState}
use Rattle.bank_controllers.specs.declared.window.Window.{Window}
use Rattle.bank_controllers.specs.declared.window.Window.TheVariants.{RamBank, HalfBytes, Clock, Shut}
use Rattle.bank_controllers.specs.Places.{Place, Ram, HalfByte, Register, Nowhere, is_ram_enabled}

-- bank n of 8 KiB, of this many bytes of RAM, where there is a bank at all
abbrev pub ram_bank_shown : ℕ → ℕ → Window
ram_bank_shown ram n = if nat_lt ram 8192 then Shut else RamBank (8192 * (n % (ram / 8192)))

abbrev pub mbc3_shown : ℕ → ℕ → Window
mbc3_shown ram select = if nat_lt select 8 then ram_bank_shown ram select else Shut

abbrev pub clock_shown : ℕ → Window
clock_shown select =
    if select == 8 then Clock Seconds else
    (if select == 9 then Clock Minutes else
    (if select == 10 then Clock Hours else
    (if select == 11 then Clock DayLow else
    (if select == 12 then Clock DayHigh else Shut))))

-- of enabled RAM
abbrev pub open_window : Controller → ℕ → BanksState → Window
open_window NoMbc ram s = ram_bank_shown ram 0
open_window Mbc1 ram s = ram_bank_shown ram (if s.mode then s.ram_bank else 0)
open_window Mbc2 ram s = HalfBytes
open_window Mbc3 ram s = mbc3_shown ram s.ram_bank
open_window Mbc3Clock ram s = if nat_lt s.ram_bank 8 then ram_bank_shown ram s.ram_bank else clock_shown s.ram_bank
open_window Mbc5 ram s = ram_bank_shown ram s.ram_bank

unfoldable pub window_of : ℕ → BanksState → Window
window_of ram s = if is_ram_enabled s.kind s then open_window s.kind ram s else Shut

-- the place at this distance from A000
abbrev pub place_in : Window → ℕ → Place
place_in (RamBank start) offset = Ram (start + offset)
place_in HalfBytes offset = HalfByte (offset % 512)
place_in (Clock register) offset = Register register
place_in Shut offset = Nowhere

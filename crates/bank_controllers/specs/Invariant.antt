-- What the code keeps beside a cartridge's value: where the banks that it shows begin.
use Rattle.std.specs.Prelude.{◌≡◌, ℕ, length}
use Rattle.bank_controllers.specs.declared.window.Window.{Window}
use Rattle.bank_controllers.specs.Places.{low_start, high_start}
use Rattle.bank_controllers.specs.Window.{window_of}
use Rattle.bank_controllers.specs.CartridgeState.{CartridgeState, IsLegalCartridge}

pub record IsConsistent (value : CartridgeState) (low high : ℕ) (window : Window) : Type 0 where
  pub legal : IsLegalCartridge value
  pub at_low : low ≡ low_start (length value.rom) value.state
  pub at_high : high ≡ high_start (length value.rom) value.state
  pub at_window : window ≡ window_of (length value.ram) value.state

-- What a handle of C owns.
use Rattle.std.specs.Prelude.{Bool, true, false}
use base.Fml.{Fml, ftrue}
use base.Stored.{Coded}
use denote.RawPtr.{Ptr}
use Rattle.std.specs.Box.Ownership.{box_owns}
use Rattle.std.specs.Global.{Global}
use Rattle.std_heap.specs.contracts.GlobalAllocator.TheImpl.{ghosts}
use Rattle.embedding.specs.contracts.console.Console as console
use Rattle.embedding.specs.contracts.game.Game as game

-- one that is held: a box of this console at this address; one that is not: nothing
abbrev pub owns_console : Global → Ptr → Bool → console.the_row.Denot → Fml
owns_console alloc p true x = box_owns (ghosts.dealloc_token alloc) console.the_row p x
owns_console alloc p false x = ftrue

abbrev pub console_coded : Coded console.the_row.Denot
console_coded = console.the_row.coded

-- the same of a game
abbrev pub owns_game : Global → Ptr → Bool → game.the_row.Denot → Fml
owns_game alloc p true x = box_owns (ghosts.dealloc_token alloc) game.the_row p x
owns_game alloc p false x = ftrue

abbrev pub game_coded : Coded game.the_row.Denot
game_coded = game.the_row.coded

-- What a look at the register DMA shows.
use Rattle.std.proofs.Common.{◌≡◌, refl}
use Rattle.memory_map.specs.Bus.{peeked, register_value}
use Rattle.memory_map.specs.State.{BusState}

pub dma_peeked : (b : BusState) → peeked b 0xFF46 ≡ b.control.dma
unfolding peeked register_value
dma_peeked b = refl

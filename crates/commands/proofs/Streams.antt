-- A stream of the image that was read as a cartridge.
use Rattle.std.proofs.Common.{◌≡◌, List, ℕ, Option, subst}
use Rattle.sector_device.specs.DiskState.{DiskState}
use Rattle.machine.specs.Machine.{MachineState}
use Rattle.streaming.specs.Streamed.{HasStreamed, HasStreamedAll, IsStreamCause}
use Rattle.streaming.specs.declared.error.StreamError.{StreamError}
use Rattle.streaming.specs.declared.obeying.End.TheVariants.{Whole}

pub streamed_as : (rom image : List ℕ) (before now : DiskState) (count : ℕ) (machine : MachineState) (before_in since_in old new : Option (List ℕ)) → image ≡ rom
    → HasStreamedAll image before now count machine before_in since_in old new → HasStreamed rom before now Whole before_in since_in old new
streamed_as rom image before now count machine before_in since_in old new is all =
    subst (λ (r : List ℕ). HasStreamed r before now Whole before_in since_in old new) is all.streamed

pub cause_as : (rom image : List ℕ) (before now : DiskState) (before_in since_in old new : Option (List ℕ)) (why : StreamError) → image ≡ rom
    → IsStreamCause why image before now before_in since_in old new → IsStreamCause why rom before now before_in since_in old new
cause_as rom image before now before_in since_in old new why is cause = subst (λ (r : List ℕ). IsStreamCause why r before now before_in since_in old new) is cause

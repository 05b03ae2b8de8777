-- Why a command over a file was refused, and what is begun in one, of the program.
use Rattle.std.proofs.Common.{◌≡◌, ◌⊎◌, ◌∙◌, ◌<◌, Bor, List, ℕ, [], Option, Some, Result, Ok, Err, inl, inr, refl, ap, sym, subst, length, replicate, arith}
use Rattle.std.proofs.lemmas.List.{get_or-replicate, length-replicate}
use Rattle.std.specs.Prelude.{IfErr, IfOk, unwrap_or}
use Rattle.std.specs.Result.{IsErrAnd}
use Rattle.machine.specs.Machine.{MachineState}
use Rattle.cartridge.specs.Accepted.{refusal_of}
use Rattle.cartridge.specs.Header.{ram_length_of}
use Rattle.snapshot.specs.Encoding.{snapshot_length}
use Rattle.log_format.specs.Content.{need}
use Rattle.sector_device.specs.DiskState.{DiskState, sector_at}
use Rattle.sector_device.specs.FileDevice.{file_disk}
use Rattle.sector_device.specs.declared.file.FileDevice.{FileDevice}
use Rattle.sector_device.specs.declared.device.DeviceFault.TheVariants.{Device as FailedDevice}
use Rattle.session.specs.Stands.{IsAtRest}
use Rattle.session.specs.Found.{IsNewGameCause}
use Rattle.recording.specs.Calls.{IsBlank, IsCreateCause}
use Rattle.recording.specs.declared.fault.RecordingFault.{RecordingFault}
use Rattle.recording.specs.declared.fault.RecordingFault.TheVariants.{Memory, Device, TooSmall, NotBlank, NoRecording, OtherCartridge, Full, Broken}
use Rattle.gbkeep.specs.NewFiles.{IsNewRecording}
use Rattle.cartridge.specs.declared.error.CartError.{CartError}
use Rattle.session.specs.declared.error.SessionError.{SessionError}
use Rattle.session.specs.declared.error.SessionError.TheVariants.{TooSmall as TooSmallFor}
use Rattle.battery_files.specs.Importing.{start_with}
use Rattle.command_line.specs.declared.Request.{Request}
use Rattle.command_line.specs.declared.Request.TheVariants.{Import}
use Rattle.playing.proofs.Stops.{handed_on}
use Rattle.playing.proofs.Telling.{keeps_same}
use Rattle.gbkeep.specs.Request.{HasAddress, HasBegun, HasDevice, IsEnough, IsGameBegun, IsImported, IsMemoryRefused, IsNewRecordingCause, IsRecordingBegun, OfAFile, sectors_for}
use Rattle.gbkeep.specs.Program.{IsRefused, IsServed}
use Rattle.refusals.specs.declared.refusal.Refusal.{Refusal}
use Rattle.refusals.specs.declared.refusal.Refusal.TheVariants.{Cart as ACart, Device as ADevice, File as AFile, Memory as AMemory}

-- ---- what a call refused before anything was written, passed on

module _ (request : Request) (text : Option (List ℕ)) (address : HasAddress request) (r : Result Unit Refusal) where
  passed_on : (told fault : Refusal) → IsErrAnd r (λ f. f ≡ told) → told ≡ fault → IsRefused request fault text text → IsServed request r text text
  passed_on told fault on is refused = subst (λ (s : Result Unit Refusal). IsServed request s text text) (sym (handed_on r on ∙ ap Err is)) refused

  -- the bytes of a file
  pub unread_served : (told : Refusal) → IsMemoryRefused request text text → IsErrAnd r (λ f. f ≡ told) → (told ≡ AFile) ⊎ (told ≡ AMemory) → IsServed request r text text
  unread_served told memory on (inl is) = passed_on told AFile on is (address, keeps_same text)
  unread_served told memory on (inr is) = passed_on told AMemory on is (address, memory)

  -- a ROM
  pub no_cartridge_served : (rom : List ℕ) (why : CartError) → IsErrAnd r (λ f. f ≡ ACart why) → Some why ≡ refusal_of rom → IsServed request r text text
  no_cartridge_served rom why on is =
      subst (λ (s : Result Unit Refusal). IsServed request s text text) (sym (handed_on r on)) (address, keeps_same text, (rom, sym is))

  -- a file that is to be made
  pub unmade_served : (told : Refusal) → HasDevice request → IsMemoryRefused request text text → IsErrAnd r (λ f. f ≡ told) → (told ≡ AMemory) ⊎ (told ≡ ADevice FailedDevice)
      → IsServed request r text text
  unmade_served told device memory on (inl is) = passed_on told AMemory on is (address, memory)
  unmade_served told device memory on (inr is) = passed_on told (ADevice FailedDevice) on is (device, keeps_same text)

-- ---- what is begun in a file that was made of so many zero sectors

made_count : (n sectors : ℕ) (made left : FileDevice) → (file_disk made).sectors ≡ replicate n (replicate 512 0) → n ≡ sectors
    → length (file_disk left).sectors ≡ length (file_disk made).sectors → length (file_disk left).sectors ≡ sectors
made_count n sectors made left zero is count = count ∙ ap (λ (s : List (List ℕ)). length s) zero ∙ length-replicate n (replicate 512 0) ∙ is

pub game_begun : (rom : List ℕ) (n sectors : ℕ) (machine : MachineState) (made left : FileDevice) → (file_disk made).sectors ≡ replicate n (replicate 512 0) → n ≡ sectors
    → length (file_disk left).sectors ≡ length (file_disk made).sectors → IsAtRest rom (file_disk left) 0 [] machine → OfAFile (IsGameBegun rom sectors machine)
game_begun rom n sectors machine made left zero is count rests = (left, (made_count n sectors made left zero is count, rests))

-- why none is begun where `least` sectors are needed and `n` are asked for
module _ (rom : List ℕ) (sectors : Option ℕ) (least n : ℕ) (needed : least ≡ need (snapshot_length (ram_length_of rom))) (asked : n ≡ unwrap_or sectors least) where
  as_many : n ≡ sectors_for rom sectors
  as_many = asked ∙ ap (λ (m : ℕ). unwrap_or sectors m) needed

  pub too_few : n < least → IsNewGameCause (snapshot_length (ram_length_of rom)) (sectors_for rom sectors) (TooSmallFor least)
  too_few less = let fewer : sectors_for rom sectors < need (snapshot_length (ram_length_of rom)) = omega (arith, as_many, needed, less) in (needed, fewer)

  pub game_unbegun : (made : FileDevice) (why : SessionError) → (file_disk made).sectors ≡ replicate n (replicate 512 0)
      → IsNewGameCause (snapshot_length (ram_length_of rom)) (length (file_disk made).sectors) why → IsNewGameCause (snapshot_length (ram_length_of rom)) (sectors_for rom sectors) why
  game_unbegun made why zero cause = subst (λ (count : ℕ). IsNewGameCause (snapshot_length (ram_length_of rom)) count why) (made_count n _ made made zero as_many refl) cause

-- with the RAM and the clocks of a battery file
pub import_begun : (cart battery save : Bor (List ℕ)) (sectors : Option ℕ) (rom kept : List ℕ) (n : ℕ) (made left : FileDevice) → IsEnough rom (sectors_for rom sectors)
    → (file_disk made).sectors ≡ replicate n (replicate 512 0) → n ≡ sectors_for rom sectors → IsImported rom kept (file_disk made) (file_disk left)
    → HasBegun (Import cart battery save sectors) rom
import_begun cart battery save sectors rom kept n made left enough zero is it =
    (enough, it.battery, (kept, it.taken, game_begun rom n (sectors_for rom sectors) (start_with rom kept) made left zero is it.count it.rests))

pub recording_begun : (rom : List ℕ) (n sectors : ℕ) (made left : FileDevice) → (file_disk made).sectors ≡ replicate n (replicate 512 0) → n ≡ sectors
    → length (file_disk left).sectors ≡ length (file_disk made).sectors → IsNewRecording rom (file_disk left) → OfAFile (IsRecordingBegun rom sectors)
recording_begun rom n sectors made left zero is count new = (left, (made_count n sectors made left zero is count, new))

-- the sectors that were made are blank
all_blank : (image : List (List ℕ)) (n : ℕ) → image ≡ replicate n (replicate 512 0) → IsBlank image
all_blank image n is k below =
    let count : length image ≡ n = ap (λ (s : List (List ℕ)). length s) is ∙ length-replicate n (replicate 512 0) in
    let within : k < n = omega (arith, count, below) in
    ap (λ (s : List (List ℕ)). sector_at s k) is ∙ get_or-replicate n k (replicate 512 0) [] within

-- why no recording is begun on them
pub not_begun : (sectors n : ℕ) (made : DiskState) → made.honest → made.sectors ≡ replicate n (replicate 512 0) → n ≡ sectors → (why : RecordingFault)
    → IsCreateCause why made → IsNewRecordingCause sectors why
not_begun sectors n made honest zero is Memory cause = tt
not_begun sectors n made honest zero is TooSmall cause =
    let count : length made.sectors ≡ n = ap (λ (s : List (List ℕ)). length s) zero ∙ length-replicate n (replicate 512 0) in
    omega (arith, count, is, cause)
not_begun sectors n made honest zero is Device cause =
    let count : length made.sectors ≡ n = ap (λ (s : List (List ℕ)). length s) zero ∙ length-replicate n (replicate 512 0) in
    omega (arith, count, is, cause)
not_begun sectors n made honest zero is NotBlank cause = absurd (cause.1 honest (all_blank made.sectors n zero))
not_begun sectors n made honest zero is NoRecording cause = absurd cause
not_begun sectors n made honest zero is OtherCartridge cause = absurd cause
not_begun sectors n made honest zero is Full cause = absurd cause
not_begun sectors n made honest zero is Broken cause = absurd cause

-- ---- what a clause says of an answer that is known

pub ok_at : {T E : Type 0} (r : Result T E) (x : T) (P : T → Type 0) → r ≡ Ok x → IfOk r P → P x
ok_at (Ok y) x P is p = let same : y ≡ x = cc in subst P same p
ok_at (Err e) x P is p = absurd (cc)

pub err_at : {T E : Type 0} (r : Result T E) (e : E) (P : E → Type 0) → r ≡ Err e → IfErr r P → P e
err_at (Ok y) e P is p = absurd (cc)
err_at (Err f) e P is p = let same : f ≡ e = cc in subst P same p

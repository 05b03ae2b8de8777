-- What each public call of a log promises at Ok, a record for each call. `old` and `now` are what its device stands at before the
-- call and after it. What holds at an error too stands in the clauses of the call.
use Rattle.std.specs.Prelude.{◌≡◌, ◌+◌, ℕ, List, [], length, true, false, Some}
use Rattle.sector_device.specs.DiskState.{DiskState, Settled}
use Rattle.sector_device.specs.declared.device.SectorDevice.{Ghosts}
use Rattle.sector_log.specs.Calls.{HasBegun, CanBegin, IsAppended}
use Rattle.log_format.specs.Content.{content, generation_in, chosen, version_of}
use Rattle.log_format.specs.Found.{IsSound, seen_in, log_of}
use Rattle.log_format.specs.Appends.{fits, grown}
use Rattle.sector_log.specs.Accessors.{is_broken, entries_of, generation_of, id_of}
use Rattle.sector_log.specs.OpenedAccessors.{found_generation, longest_blob, seen}
use Rattle.input_entries.specs.declared.Entry.{Entry}
use Rattle.sector_log.specs.declared.opened.Opened.{Opened}
use Rattle.log_format.specs.declared.root.Version.TheVariants.{Two}
use Rattle.sector_log.specs.declared.store.Store.{Store}

module _ {D : Type 0} {disk : Ghosts D} where
  -- `open_log`, which keeps blobs of up to `most` bytes
  pub record HasOpened (old now : DiskState) (most : ℕ) (opened : Opened D disk) : Type 0 where
    -- a power cut leaves what reads give, and nothing else
    pub settled : old.honest → Settled now
    -- the generation is that of the root that reads give
    pub generation_is : old.honest → found_generation opened ≡ generation_in old.sectors
    -- what was found is the content that reads give
    pub seen_is : old.honest → seen opened ≡ seen_in most (content old.sectors)
    -- longer blobs are not kept
    pub most_is : longest_blob opened ≡ most
    -- on any device, honest or not, the log is not too long, and a count that was found does not overflow
    pub sound : IsSound (seen opened)

  -- `begin`, of what was opened
  pub record HasBegunStore (old now : DiskState) (opened : Opened D disk) (id : List ℕ) (base : ℕ) (blob : List ℕ) (store : Store D disk) : Type 0 where
    -- the device was large enough, and the generations were not used up
    pub could : CanBegin (length blob) (length old.sectors) (found_generation opened)
    -- one image is left, with this content in the next generation
    pub begun : old.honest → HasBegun old now id base blob
    -- it is written in the second version
    pub version_is : old.honest → version_of (chosen now.sectors) ≡ Some Two
    -- the store has the next generation
    pub generation_is : generation_of store ≡ found_generation opened + 1
    -- and this id
    pub id_is : id_of store ≡ id
    -- inputs can be appended to it
    pub unbroken : is_broken store ≡ false
    -- and none is there yet
    pub empty : entries_of store ≡ []

  -- `append`
  pub record HasAppended (old now : DiskState) (before after : Store D disk) (more : List Entry) : Type 0 where
    -- no call of the device had failed
    pub was_unbroken : is_broken before ≡ false
    -- the inputs fit the log
    pub did_fit : fits (entries_of before) more ≡ true
    -- one image is left, with all of them after the log
    pub appended : old.honest → IsAppended old now more
    -- the entries are those of before with the inputs after them
    pub entries_are : entries_of after ≡ grown (entries_of before) more
    -- they are what reads give
    pub reads : old.honest → log_of (content now.sectors) ≡ entries_of after

  -- `replace`
  pub record HasReplaced (old now : DiskState) (before after : Store D disk) (base : ℕ) (blob : List ℕ) : Type 0 where
    -- no call of the device had failed
    pub was_unbroken : is_broken before ≡ false
    -- the device was large enough, and the generations were not used up
    pub could : CanBegin (length blob) (length old.sectors) (generation_of before)
    -- one image is left, with this content in the next generation
    pub begun : old.honest → HasBegun old now (id_of before) base blob
    -- it is written in the second version
    pub version_is : old.honest → version_of (chosen now.sectors) ≡ Some Two
    -- the store has the next generation
    pub generation_is : generation_of after ≡ generation_of before + 1
    -- and no input is there yet
    pub empty : entries_of after ≡ []

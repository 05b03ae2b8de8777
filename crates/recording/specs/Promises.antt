-- What each public call of a recording promises at Ok, a record for each call. `old` and `now` are what its device stands at before
-- the call and after it. What holds at an error too stands in the clauses of the call.
use Rattle.std.specs.Prelude.{◌≡◌, ◌+◌, ◌-◌, ℕ, List, [], length, true, false, Some}
use Rattle.sector_device.specs.DiskState.{DiskState, Settled}
use Rattle.sector_device.specs.declared.device.SectorDevice.{Ghosts}
use Rattle.input_entries.specs.Inputs.{inputs}
use Rattle.input_entries.specs.declared.Entry.{Entry}
use Rattle.recording.specs.Calls.{IsBlank, IsAppended}
use Rattle.recording.specs.Growing.{fits}
use Rattle.recording.specs.Recorded.{recorded, entries}
use Rattle.recording.specs.Sizes.{list_sectors_in}
use Rattle.recording.specs.Accessors.{is_broken, full_of, tail_of, count_of}
use Rattle.recording.specs.declared.recording.Recording.{Recording}

module _ {D : Type 0} {disk : Ghosts D} where
  -- `create`
  pub record HasCreated (old now : DiskState) (id : List ℕ) (recording : Recording D disk) : Type 0 where
    -- the device was blank
    pub was_blank : old.honest → IsBlank old.sectors
    -- a power cut leaves what reads give, and nothing else
    pub settled : old.honest → Settled now
    -- an empty recording of this ROM
    pub empty : old.honest → recorded id now.sectors ≡ Some []
    -- inputs can be appended to it
    pub unbroken : is_broken recording ≡ false
    -- and none is there yet
    pub full_is : full_of recording ≡ 0
    pub tail_is : tail_of recording ≡ []
    pub count_is : count_of recording ≡ 0

  -- `open`
  pub record HasOpened (old now : DiskState) (id : List ℕ) (recording : Recording D disk) : Type 0 where
    -- a power cut leaves what reads give, and nothing else
    pub settled : old.honest → Settled now
    -- it is a recording of this ROM
    pub recorded_is : old.honest → recorded id old.sectors ≡ Some (inputs (entries old.sectors))
    -- and these are its inputs, counted
    pub count_is : old.honest → count_of recording ≡ length (inputs (entries old.sectors))
    -- inputs can be appended to it
    pub unbroken : is_broken recording ≡ false

  -- `append`
  pub record HasAppended (old now : DiskState) (before after : Recording D disk) (more : List Entry) : Type 0 where
    -- no call of the device had failed
    pub was_unbroken : is_broken before ≡ false
    -- the inputs fit the device
    pub did_fit : fits (tail_of before) (list_sectors_in (length old.sectors) - full_of before) more ≡ true
    -- one image is left, with all of them after what was recorded
    pub appended : old.honest → IsAppended old now more
    -- they are counted
    pub count_is : count_of after ≡ count_of before + length more

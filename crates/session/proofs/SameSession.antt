-- A session whose machine was replaced by an equal one is the same session.
use Rattle.std.proofs.Common.{◌≡◌, ◌≤◌, ◌<◌, ◌+◌, ◌^◌, ℕ, length, Vec, Global, sym, ap, subst}
use Rattle.std.proofs.Props.{props}
use Rattle.std.specs.Prelude.{vec_capacity}
use Rattle.sha2.specs.Sha256.{sha256}
use Rattle.machine.specs.Machine.{MachineState}
use Rattle.std.specs.declared.snapshot.Snapshot.{Snapshot}
use Rattle.snapshot.specs.Encoding.{snapshot_length}
use Rattle.sector_device.specs.declared.device.SectorDevice.{Ghosts}
use Rattle.log_format.specs.Content.{need}
use Rattle.sector_log.specs.Accessors.{device_of as device_of_store, is_broken as is_broken_store, id_of, entries_of}
use Rattle.input_entries.specs.declared.Entry.{Entry}
use Rattle.sector_log.specs.declared.store.Store.{Store}
use Rattle.session.specs.Calls.{most_unsaved}
use Rattle.session.specs.Resting.{IsOfItsRom, LeadsTo, RestsUnlessBroken}
use Rattle.session.specs.declared.session.Session.{Session}

module _ {D : Type 0} {disk : Ghosts D} where
  pub record Facts (store : Store D disk) (machine : MachineState) (pending : Vec Entry Global) (encoded : Vec ℕ Global) (acknowledged : ℕ) (saved : Snapshot MachineState) : Type 0 where
    pub few : length pending.items ≤ most_unsaved
    pub reserved : most_unsaved ≤ vec_capacity pending
    pub counted : acknowledged + length pending.items < 2 ^ 64
    pub room : length encoded.items ≡ snapshot_length (length machine.processor.memory.banks.ram)
    pub short : length encoded.items < 2 ^ 32
    pub large : need (length encoded.items) ≤ length (disk.disk (device_of_store store)).sectors
    pub id : id_of store ≡ sha256 machine.processor.memory.banks.rom
    pub own : IsOfItsRom machine
    pub leads : LeadsTo saved.value pending.items machine
    pub rests : RestsUnlessBroken machine.processor.memory.banks.rom (disk.disk (device_of_store store)) (entries_of store) (record { count = acknowledged; machine = saved.value }) (is_broken_store store)

  facts_prop : (store : Store D disk) (machine : MachineState) (pending : Vec Entry Global) (encoded : Vec ℕ Global) (acknowledged : ℕ) (saved : Snapshot MachineState) → IsProp (Facts store machine pending encoded acknowledged saved)
  facts_prop store machine pending encoded acknowledged saved = hlevel props

  abbrev with_facts : (store : Store D disk) (machine : MachineState) (pending : Vec Entry Global) (encoded : Vec ℕ Global) (acknowledged : ℕ) (saved : Snapshot MachineState) → Facts store machine pending encoded acknowledged saved → Session D disk
  with_facts store machine pending encoded acknowledged saved f = record {
    store = store;
    machine = machine;
    pending = pending;
    encoded = encoded;
    acknowledged = acknowledged;
    saved = saved;
    few = f.few;
    reserved = f.reserved;
    counted = f.counted;
    room = f.room;
    short = f.short;
    large = f.large;
    id = f.id;
    own = f.own;
    leads = f.leads;
    rests = f.rests;
  }

  abbrev facts_of : (s : Session D disk) → Facts s.store s.machine s.pending s.encoded s.acknowledged s.saved
  facts_of s = record {
    few = s.few;
    reserved = s.reserved;
    counted = s.counted;
    room = s.room;
    short = s.short;
    large = s.large;
    id = s.id;
    own = s.own;
    leads = s.leads;
    rests = s.rests;
  }

  pub same_session : (s : Session D disk) (m : MachineState) → m ≡ s.machine → (f : Facts s.store m s.pending s.encoded s.acknowledged s.saved) → with_facts s.store m s.pending s.encoded s.acknowledged s.saved f ≡ s
  same_session s m same =
      subst (λ (n : MachineState). (f : Facts s.store n s.pending s.encoded s.acknowledged s.saved) → with_facts s.store n s.pending s.encoded s.acknowledged s.saved f ≡ s) (sym same)
      (λ f. ap (with_facts s.store s.machine s.pending s.encoded s.acknowledged s.saved) (facts_prop s.store s.machine s.pending s.encoded s.acknowledged s.saved f (facts_of s)))

-- A run of calls of an honest device, and lists of which each member is an old or a new one.
use Rattle.std.specs.Prelude.{◌≡◌, ◌⊎◌, ◌<◌, ◌≤◌, List, ℕ, length}
use Rattle.sector_device.specs.DiskState.{DiskState, Throughout, Remembers, sector_at}

-- since `start` each image at any moment has P, and each image now has Q
pub record HoldsThroughout (start now : DiskState) (P Q : List (List ℕ) → Type 0) : Type 0 where
  pub honest : now.honest
  pub throughout : Throughout start now P
  pub images : (c : List (List ℕ)) → now.image c → Q c
  pub entails : (c : List (List ℕ)) → Q c → P c
  pub past : Remembers start now

-- each image at a moment since `start` has P: at the start, in the middle of a call, and now. `moments` says the same of the
-- images that are new since `start`, so that runs can be joined.
pub record HoldsSince (start now : DiskState) (P : List (List ℕ) → Type 0) : Type 0 where
  pub each : (c : List (List ℕ)) → now.since start.moment c → P c
  pub moments : Throughout start now P
  pub past : Remembers start now

-- each sector is that of one image or that of the other
pub record Mixed (old new image : List (List ℕ)) : Type 0 where
  pub size : length image ≡ length old
  pub each : (k : ℕ) → (sector_at image k ≡ sector_at old k) ⊎ (sector_at image k ≡ sector_at new k)

-- the sectors below n are written, and those from n on are as they were
pub record WrittenUpTo (old new : List (List ℕ)) (n : ℕ) (image : List (List ℕ)) : Type 0 where
  pub size : length image ≡ length old
  pub done : (k : ℕ) → k < n → sector_at image k ≡ sector_at new k
  pub left : (k : ℕ) → n ≤ k → sector_at image k ≡ sector_at old k

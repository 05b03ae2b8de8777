-- The widths of a root's numbers.
use Rattle.std.specs.Prelude.{◌≡◌, ◌^◌, ◌<◌, length}
use Rattle.log_format.specs.declared.root.Root.{Root}

-- its numbers have their widths
pub record Fits (root : Root) : Type 0 where
  pub generation : root.generation < 2 ^ 64
  pub id : length root.id ≡ 32
  pub base : root.base < 2 ^ 64
  pub blob_length : root.blob_length < 2 ^ 32

-- The table comes by offset.
use Rattle.std.proofs.Common.{◌≡◌, ℕ, zero, suc, ◌<◌, ◌≤◌, Bool, true, nat_le, List, [], ◌∷◌, length, get_or, Option, Some, refl, ap, lit≤, arith}
use Rattle.std.specs.Option.{unwrap_or}
use Rattle.std.specs.List.{Contains}
use Rattle.std.proofs.lemmas.List.Elements.{All-contains, All-from_recursion}
use Rattle.cartridge.specs.Controllers.{ram_lengths}
use Rattle.cartridge.specs.Header.{controller_of, has_rumble, ram_length_of}
use Rattle.cartridge.specs.declared.controller.Controller.TheVariants.{NoMbc}
use Rattle.std.specs.Prelude.{◌&&◌}
use Rattle.std.proofs.lemmas.Bool.{leb-true, and_parts}
use Rattle.cartridge.specs.declared.controller.Controller.{Controller}
use Rattle.snapshot.specs.declared.field.SnapshotField.{SnapshotField}
use Rattle.snapshot.specs.Table.{table, kind_of_image, table_of}
use Rattle.snapshot.specs.Ascending.{IsAscending}

abbrev ascends : ℕ → List SnapshotField → Bool
ascends least [] = true
ascends least (f ∷ fs) = nat_le least f.offset && ascends f.offset fs

least_of : (least : ℕ) (fs : List SnapshotField) → ascends least fs ≡ true → (j : ℕ) (d : SnapshotField) → j < length fs → least ≤ (get_or fs j d).offset
least_of least [] e j d lt = absurd (omega arith)
least_of least (f ∷ fs) e zero d lt = let p = and_parts _ _ e in leb-true least f.offset p.0
least_of least (f ∷ fs) e (suc j) d lt =
    let p = and_parts _ _ e in
    let first : least ≤ f.offset = leb-true least f.offset p.0 in
    let rest : f.offset ≤ (get_or fs j d).offset = least_of f.offset fs p.1 j d (omega arith) in
    omega arith

order_of :
    (least : ℕ) (fs : List SnapshotField) → ascends least fs ≡ true
    → (i j : ℕ) (d : SnapshotField) → i ≤ j → j < length fs → (get_or fs i d).offset ≤ (get_or fs j d).offset
order_of least [] e i j d le lt = absurd (omega arith)
order_of least (f ∷ fs) e zero zero d le lt = omega arith
order_of least (f ∷ fs) e zero (suc j) d le lt = let p = and_parts (nat_le least f.offset) (ascends f.offset fs) e in least_of f.offset fs p.1 j d (omega arith)
order_of least (f ∷ fs) e (suc i) zero d le lt = absurd (omega arith)
order_of least (f ∷ fs) e (suc i) (suc j) d le lt = let p = and_parts (nat_le least f.offset) (ascends f.offset fs) e in order_of f.offset fs p.1 i j d (omega arith) (omega arith)

pub table_ascends : (kind : Controller) (rumble : Bool) (ram : ℕ) → IsAscending (table kind rumble ram)
unfolding table
table_ascends kind rumble ram = record { order = order_of 0 (table kind rumble ram) refl }

-- the table of an image by what its getters give
pub table_is :
    (image : List ℕ) (kind : Controller) (rumble : Bool) (ram : ℕ)
    → controller_of image ≡ Some kind → rumble ≡ has_rumble image → ram ≡ ram_length_of image → table_of image ≡ table kind rumble ram
unfolding table_of
table_is image kind rumble ram e f g =
    let own : kind_of_image image ≡ kind = ap (λ (o : Option Controller). unwrap_or o NoMbc) e in
    rw (own, f, g) refl

pub kind_is : (image : List ℕ) (kind : Controller) → controller_of image ≡ Some kind → kind_of_image image ≡ kind
kind_is image kind e = ap (λ (o : Option Controller). unwrap_or o NoMbc) e

pub ram_small : (n : ℕ) → Contains ram_lengths n → n ≤ 131072
ram_small n h =
    All-contains (λ (n : ℕ). n ≤ 131072) ram_lengths n (All-from_recursion (λ (n : ℕ). n ≤ 131072) ram_lengths (lit≤ tt, (lit≤ tt, (lit≤ tt, (lit≤ tt, (lit≤ tt, (lit≤ tt, tt))))))) h

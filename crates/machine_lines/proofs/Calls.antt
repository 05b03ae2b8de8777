-- Calls that may fail.
use Rattle.std.specs.Prelude.{Result, Ok, Err, OnErr, OnOk}

pub on_ok : {T E : Type 0} (r : Result T E) {P Q : Type 0} → (P → Q) → OnOk r P → OnOk r Q
on_ok (Ok x) to p = to p
on_ok (Err e) to p = tt

pub on_err : {T E : Type 0} (r : Result T E) {P Q : Type 0} → (P → Q) → OnErr r P → OnErr r Q
on_err (Ok x) to p = tt
on_err (Err e) to p = to p

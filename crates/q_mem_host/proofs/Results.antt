-- What holds of a result at `Ok` or at `Err`.
use Rattle.std.proofs.Common.{Result, Ok, Err}
use Rattle.std.specs.Result.{OnOk, OnErr}

pub on_ok : {T E : Type 0} (r : Result T E) {P Q : Type 0} → (P → Q) → OnOk r P → OnOk r Q
on_ok (Ok x) f h = f h
on_ok (Err e) f h = tt

pub on_err : {T E : Type 0} (r : Result T E) {P Q : Type 0} → (P → Q) → OnErr r P → OnErr r Q
on_err (Ok x) f h = tt
on_err (Err e) f h = f h

-- what holds anyhow
pub on_any_err : {T E : Type 0} (r : Result T E) {P : Type 0} → P → OnErr r P
on_any_err (Ok x) h = tt
on_any_err (Err e) h = h

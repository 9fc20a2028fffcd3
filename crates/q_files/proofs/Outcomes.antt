-- What holds of both outcomes of a call, and of a refusal that is passed on.
use Rattle.std.specs.Prelude.{Err, Ok, OnErr, OnOk, Result}

pub either : {T E : Type 0} {P Q R : Type 0} (r : Result T E) → (P → R) → (Q → R) → OnOk r P → OnErr r Q → R
either (Ok v) f g p q = f p
either (Err e) f g p q = g q

pub always_err : {T E : Type 0} {P : Type 0} (r : Result T E) → P → OnErr r P
always_err (Ok v) p = tt
always_err (Err e) p = p

pub always_ok : {T E : Type 0} {P : Type 0} (r : Result T E) → P → OnOk r P
always_ok (Ok v) p = p
always_ok (Err e) p = tt

use Rattle.std.proofs.Common.{Result, Ok, Err, IfOk, OnOk}

-- A fact that holds at Ok gives another there.
pub on_ok : {T E P Q : Type 0} (r : Result T E) → (P → Q) → OnOk r P → OnOk r Q
on_ok (Ok x) f h = f h
on_ok (Err e) f h = tt

-- What holds of a value at Ok gives another fact of it.
pub if_ok : {T E : Type 0} (P Q : T → Type 0) (r : Result T E) → ((x : T) → P x → Q x) → IfOk r P → IfOk r Q
if_ok P Q (Ok x) f h = f x h
if_ok P Q (Err e) f h = tt

pub if_ok_both : {T E Q : Type 0} (P R : T → Type 0) (r : Result T E) → ((x : T) → P x → Q → R x) → IfOk r P → OnOk r Q → IfOk r R
if_ok_both P R (Ok x) f h k = f x h k
if_ok_both P R (Err e) f h k = tt

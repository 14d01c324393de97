use Rattle.std.proofs.Common.{Option, Some, None}
use Rattle.std.specs.Option.{MatchOption, IfSome, IfNone}

-- what holds of either variant holds of that which is there
pub some_of : {T : Type 0} (r : Option T) (P : Type 0) (Q : T → Type 0) → MatchOption r P Q → IfSome r Q
some_of None P Q h = tt
some_of (Some x) P Q h = h

pub none_of : {T : Type 0} (r : Option T) (P : Type 0) (Q : T → Type 0) → MatchOption r P Q → IfNone r P
none_of None P Q h = h
none_of (Some x) P Q h = tt

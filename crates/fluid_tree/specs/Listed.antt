-- A result with its vector as a list, for private clauses.
use Rattle.std.specs.Prelude.{List, Vec, Result, Ok, Err}
use Rattle.std.specs.declared.alloc.Global.{Global}

abbrev pub listed : {A E : Type 0} → Result (Vec A Global) E → Result (List A) E
listed (Ok v) = Ok v.items
listed (Err e) = Err e

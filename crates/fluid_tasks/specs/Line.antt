-- The free items of a queue in the order in which they are given, and how many more are out.
use Rattle.std.specs.Prelude.{ℕ, ◌+◌, ◌*◌, ◌-◌, ◌≤◌, nat_lt, if◌then◌else◌, List, [], ◌∷◌, ◌++◌, Vec, vec_len, vec_capacity, refl}
use Rattle.std.specs.declared.alloc.Global.{Global}
use Rattle.std.specs.Coded.{Coded, code_by, coded×, coded_ℕ, coded_list}

pub record ALine : Type 0 where
  pub free : List ℕ
  -- how many more are out
  pub out : ℕ

abbrev pub line_code : Coded ALine
line_code = code_by (List ℕ × ℕ) (coded× (coded_list coded_ℕ) coded_ℕ) (λ l. (l.free, l.out)) (λ parts. record { free = parts.0; out = parts.1 }) (λ _. refl)

-- there is room for twice as many items as there are, free or out
pub record HasRoom (items : Vec ℕ Global) (start out : ℕ) : Type 0 where
  pub place : start ≤ vec_len items
  pub room : 2 * (vec_len items - start + out) ≤ vec_capacity items

abbrev pub no_line : ALine
no_line = record { free = []; out = 0 }

abbrev pub with_free : ALine → ℕ → ALine
with_free l item = record l { free = l.free ++ item ∷ [] }

abbrev pub given_of : List ℕ → ALine → ALine
given_of [] l = l
given_of (item ∷ free) l = record { free = free; out = l.out + 1 }

abbrev pub given : ALine → ALine
given l = given_of l.free l

abbrev pub given_back : ALine → ℕ → ALine
given_back l item = if nat_lt 0 l.out then record { free = l.free ++ item ∷ []; out = l.out - 1 } else l

abbrev pub without : ALine → ALine
without l = record l { out = l.out - 1 }

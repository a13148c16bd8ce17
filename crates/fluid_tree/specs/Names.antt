-- Which names an entry of a tree may have.
use Rattle.std.specs.Prelude.{◌≡◌, String, ℕ, ◌||◌, ◌==◌, List, [], ◌∷◌, Bool, Option, Some, None, if◌then◌else◌, codes}
use Rattle.std.specs.declared.alloc.Global.{Global}
use Rattle.std.specs.BTreeSet.{BTreeSet, contains_text}
use Rattle.std.specs.List.{list_any}
use Rattle.std.specs.Str.{bytes_eq}

-- it is empty, is `.` or `..`, or has a `/` or a zero byte
abbrev pub is_bad : List ℕ → Bool
is_bad name = bytes_eq name [] || bytes_eq name (codes ".") || bytes_eq name (codes "..") || list_any (λ x. x == 47 || x == 0) name

-- behind these names it is refused: it is bad by itself, or stood before
abbrev pub is_refused : List (List ℕ) → List ℕ → Bool
is_refused before name = is_bad name || list_any (λ one. bytes_eq one name) before

-- the first of the names that is refused, where `before` stand before them
unfoldable pub first_refused : List (List ℕ) → List (List ℕ) → Option (List ℕ)
first_refused before [] = None
first_refused before (name ∷ names) = if is_refused before name then Some name else first_refused (name ∷ before) names

-- the set has these names
abbrev pub Knows : BTreeSet (String Global) → List (List ℕ) → Type 0
Knows seen before = (name : List ℕ) → contains_text seen name ≡ list_any (λ one. bytes_eq one name) before

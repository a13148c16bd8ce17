-- Git's objects: the bytes of a blob and of a tree, and the id, which is their SHA-1 (FIPS 180-4).
use Rattle.std.specs.Prelude.{ℕ, List, [], ◌∷◌, ◌++◌, length, map, flat_map, fold, Bool, true, false, Option, Some, None, Result, Ok, Err, codes, decimal}
use Rattle.std.specs.Ordering.{nat_cmp, match_ordering}
use Rattle.std.specs.Cmp.Lexicographic.{slice_cmp}
use Rattle.sha1.specs.Sha1.{sha1}
use Rattle.fluid_tree.specs.Names.{first_refused}
use Rattle.fluid_tree.specs.declared.object.Object.{Object}
use Rattle.fluid_tree.specs.declared.object.Object.TheVariants.{Blob, Tree}
use Rattle.fluid_tree.specs.declared.object.ObjectEntry.{ObjectEntry}
use Rattle.fluid_tree.specs.declared.fault.TreeFault.{TreeFault}
use Rattle.fluid_tree.specs.declared.fault.TreeFault.TheVariants.{BadName}

abbrev pub mode : Bool → List ℕ
mode false = codes "100644"
mode true = codes "40000"

-- an entry in a tree's body: the mode, a blank, the name, a zero byte, 20 bytes of id
unfoldable pub entry_bytes : ObjectEntry → List ℕ
entry_bytes e = mode e.tree ++ (codes " " ++ (e.name ++ (0 ∷ e.id)))

-- ---- the order of entries: byte order of names, a tree's name being compared as if a `/` stood behind it

abbrev pub sort_key : Bool → List ℕ → List ℕ
sort_key false name = name
sort_key true name = name ++ codes "/"

-- the entry put at its place
abbrev pub placed : ObjectEntry → List ObjectEntry → List ObjectEntry
placed e [] = e ∷ []
placed e (f ∷ fs) = match_ordering (slice_cmp nat_cmp (sort_key e.tree e.name) (sort_key f.tree f.name)) (e ∷ f ∷ fs) (e ∷ fs) (f ∷ placed e fs)

abbrev pub in_order : List ObjectEntry → List ObjectEntry
in_order = fold (λ sorted e. placed e sorted) []

-- ---- the bytes: the word, a blank, the decimal length of the body, a zero byte, the body

unfoldable pub with_header : List ℕ → List ℕ → List ℕ
with_header word body = word ++ (codes " " ++ (decimal (length body) ++ (0 ∷ body)))

unfoldable pub tree_bytes : List ObjectEntry → List ℕ
tree_bytes entries = with_header (codes "tree") (flat_map entry_bytes (in_order entries))

unfoldable pub object_bytes : Object → List ℕ
object_bytes (Blob content) = with_header (codes "blob") content
object_bytes (Tree entries) = tree_bytes entries

abbrev pub is_tree_object : Object → Bool
is_tree_object (Blob content) = false
is_tree_object (Tree entries) = true

abbrev pub object_id : Object → List ℕ
object_id o = sha1 (object_bytes o)

-- the bytes, unless an entry's name is refused
abbrev pub unless_refused : {A : Type 0} → Option (List ℕ) → A → Result A TreeFault
unless_refused None a = Ok a
unless_refused (Some name) a = Err (BadName name)

unfoldable pub bytes_answer : Object → Result (List ℕ) TreeFault
bytes_answer (Blob content) = Ok (object_bytes (Blob content))
bytes_answer (Tree entries) = unless_refused (first_refused [] (map (λ e. e.name) entries)) (object_bytes (Tree entries))

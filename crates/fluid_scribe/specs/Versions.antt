-- Trees of a version, for private clauses.
use Rattle.std.specs.Prelude.{◌≡◌, ℕ, List, Ok}
use Rattle.fluid_types.specs.Quorum.{Quorum}
use Rattle.fluid_types.specs.Blobs.{blobs_of}
use Rattle.fluid_tree.specs.Summary.{Summary}
use Rattle.fluid_tree.specs.Identity.{id_answer}
use Rattle.fluid_tree.specs.Object.{bytes_answer}
use Rattle.fluid_tree.specs.declared.object.Object.{Object}
use Rattle.fluid_rules.specs.Scribe.{protocol}

-- the tree has the four blobs of a quorum
abbrev pub IsState : Summary → Type 0
IsState t = (q : Quorum) × (t ≡ protocol (blobs_of q))

-- the tree has an id
abbrev pub HasId : Summary → Type 0
HasId t = (id : List ℕ) × (id_answer t ≡ Ok id)

-- the object has bytes
abbrev pub HasBytes : Object → Type 0
HasBytes object = (bytes : List ℕ) × (bytes_answer object ≡ Ok bytes)

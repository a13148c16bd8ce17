-- The submissions of a container.
use Rattle.std.specs.Prelude.{ℕ, pos, List, [], ◌∷◌, ◌++◌, Option, Some, None, codes, decimal}
use Rattle.hex.specs.Hex.{encode_lower}
use Rattle.fluid_json.specs.Tree.{Tree, text, list, trees, object, members}
use Rattle.fluid_types.specs.declared.entries.Offered.{Offered}
use Rattle.fluid_types.specs.declared.entries.Submission.{Submission}

-- a submission with this client number, at this reference
abbrev pub numbered : ℕ → ℕ → Offered → Tree → Submission
numbered number reference kind contents =
    record { client_number = number; reference = pos reference; kind = kind; contents = contents; metadata = None }

-- the handle of the last acknowledged summary, and nothing where there is none
abbrev pub head_text : Option (List ℕ) → List ℕ
head_text None = []
head_text (Some handle) = encode_lower handle

abbrev pub parents_of : Option (List ℕ) → List Tree
parents_of None = []
parents_of (Some handle) = text (encode_lower handle) ∷ []

-- the contents of a summarize for the tree with this id, at this number: {"handle":APP,"head":HEAD,"message":"summary at N","parents":[HEAD]}
abbrev pub summarize_tree : List ℕ → Option (List ℕ) → ℕ → Tree
summarize_tree app head number =
    object (members (
    (codes "handle", text (encode_lower app))
    ∷ (codes "head", text (head_text head))
    ∷ (codes "message", text (codes "summary at " ++ decimal number))
    ∷ (codes "parents", list (trees (parents_of head)))
    ∷ []))

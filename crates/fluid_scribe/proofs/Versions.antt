-- The id of a version.
use Rattle.std.proofs.Common.{◌≡◌, ℕ, List, [], ◌∷◌, Result, Ok, codes, refl, sym, ◌∙◌, ap}
use Rattle.sha1.specs.Sha1.{sha1}
use Rattle.fluid_types.specs.Quorum.{Quorum}
use Rattle.fluid_types.specs.Blobs.{blobs_of}
use Rattle.fluid_tree.specs.Names.{first_refused}
use Rattle.fluid_tree.specs.Summary.{Summary}
use Rattle.fluid_tree.specs.Identity.{id_within, entries_within, id_answer}
use Rattle.fluid_tree.specs.Object.{object_bytes, bytes_answer}
use Rattle.fluid_tree.specs.declared.fault.TreeFault.{TreeFault}
use Rattle.fluid_tree.specs.declared.object.Object.TheVariants.{Tree}
use Rattle.fluid_tree.specs.declared.object.ObjectEntry.{ObjectEntry}
use Rattle.fluid_quorum.specs.Node.{node_of}
use Rattle.fluid_rules.specs.Scribe.{protocol, protocol_id, tree_entry, version}
use Rattle.fluid_scribe.specs.Versions.{IsState, HasId, HasBytes}

-- the id of the tree of the four blobs
pub state_id : (q : Quorum) (state : Summary) → state ≡ protocol (blobs_of q) → id_answer state ≡ Ok (protocol_id (blobs_of q))
unfolding blobs_of protocol_id id_within entries_within first_refused object_bytes
state_id q state is = rw is refl

abbrev two : List ℕ → List ℕ → List ObjectEntry
two app state = tree_entry (codes ".app") app ∷ tree_entry (codes ".protocol") state ∷ []

pub has_id : (t : Summary) → IsState t → HasId t
has_id t state = (protocol_id (blobs_of state.0), state_id state.0 t state.1)

pub same_id : (t : Summary) (id other : List ℕ) → id_answer t ≡ Ok id → id_answer t ≡ Ok other → id ≡ other
same_id t id other is it = let both : ◌≡◌ {A = Result (List ℕ) TreeFault} (Ok id) (Ok other) = sym is ∙ it in cc

its_bytes : (app state : List ℕ) → bytes_answer (Tree (two app state)) ≡ Ok (object_bytes (Tree (two app state)))
unfolding bytes_answer first_refused
its_bytes app state = refl

pub has_bytes : (app state : List ℕ) (entries : List ObjectEntry) → entries ≡ two app state → HasBytes (Tree entries)
has_bytes app state entries are = (object_bytes (Tree (two app state)), ap (λ es. bytes_answer (Tree es)) are ∙ its_bytes app state)

same_bytes : (one other : List ℕ) → ◌≡◌ {A = Result (List ℕ) TreeFault} (Ok one) (Ok other) → one ≡ other
same_bytes one other h = cc

pub version_is : (app state : List ℕ) (q : Quorum) (entries : List ObjectEntry) (bytes : List ℕ) → state ≡ protocol_id (blobs_of q) → entries ≡ two app state →
    bytes_answer (Tree entries) ≡ Ok bytes → sha1 bytes ≡ version app (blobs_of q)
unfolding version
version_is app state q entries bytes is are h =
    ap sha1 (same_bytes bytes (object_bytes (Tree (two app state))) (sym h ∙ ap (λ es. bytes_answer (Tree es)) are ∙ its_bytes app state))
    ∙ ap (λ s. sha1 (object_bytes (Tree (two app s)))) is

pub node_is : (q : Quorum) → node_of q ≡ protocol (blobs_of q)
unfolding node_of
node_is q = refl

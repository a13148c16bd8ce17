-- The worked examples of the quorum, computed. What a text spells is known by the law that a printed value is read back.
use Rattle.std.proofs.Common.{◌≡◌, ℕ, ◌≤◌, List, [], ◌∷◌, Ok, pos, codes, refl, ap, ◌∙◌, map, arith}
use Rattle.std.specs.Fmt.{digits}
use Rattle.json.specs.Print.{escape_byte}
use Rattle.fluid_json.specs.Printed as json
use Rattle.fluid_json.specs.Spelled.{answer}
use Rattle.fluid_json.specs.Tree.{Tree, null, whole, text, object, members as pairs, list, trees, IsCanonical, depth}
use Rattle.fluid_json.proofs.ReadBack.{answers_itself}
use Rattle.fluid_types.specs.Contents.{body}
use Rattle.fluid_types.specs.Names.{is_name}
use Rattle.fluid_types.specs.Texts.{name_of}
use Rattle.fluid_types.specs.Quorum.{member_of, left_by, proposal_of, standing, members, proposals, pending, values, quorum_of}
use Rattle.fluid_types.specs.Blobs.{blob_text, member_tree, value_tree}
use Rattle.fluid_types.specs.QuorumExamples.{proposed, AfterThirteen, AfterFourteen, AcceptedByItself, TwoOfOneKey, AreNoProposals, ProposedAsText, WhoIsIn, BlobTexts, MembersText}
use Rattle.fluid_types.proofs.Tables.{get-latest, entries-latest}

spells : (s : List ℕ) (t : Tree) → s ≡ json.printed t → IsCanonical t → depth t ≤ 100 → answer s ≡ Ok t
spells s t is canonical shallow = ap answer is ∙ answers_itself 101 t canonical (omega (arith, shallow)) (omega (arith, shallow))

pub after_thirteen : AfterThirteen
unfolding body name_of proposal_of proposals pending values quorum_of
after_thirteen = record { pending = refl; value = get-latest _ _ }

pub after_fourteen : AfterFourteen
unfolding body name_of proposal_of proposals pending values quorum_of
after_fourteen = record { value = get-latest _ _; pending = refl }

pub accepted_by_itself : AcceptedByItself
unfolding body name_of proposal_of proposals pending values quorum_of
accepted_by_itself = get-latest _ _

pub two_of_one_key : TwoOfOneKey
unfolding body name_of proposal_of proposals pending values quorum_of
two_of_one_key = get-latest _ _

pub are_no_proposals : AreNoProposals
unfolding body name_of proposal_of proposals pending values quorum_of
are_no_proposals = record { five = refl; key_is_no_text = refl; no_value = refl; no_key = refl; reject = refl; propose = refl }

proposed_code : answer (codes "{\"key\":\"code\",\"value\":\"v2\"}") ≡ Ok (proposed (codes "code") (codes "v2"))
unfolding escape_byte
proposed_code = spells _ (proposed (codes "code") (codes "v2")) refl ((refl, tt), (tt, (tt, (tt, tt)))) (omega arith)

pub proposed_as_text : ProposedAsText
unfolding body name_of proposal_of proposals pending values quorum_of
proposed_as_text = rw proposed_code refl

pub blob_texts : BlobTexts
unfolding body name_of member_of proposal_of standing members proposals pending values quorum_of blob_text escape_byte digits
blob_texts = record {
  attributes = refl;
  members = ap (λ es. json.printed (list (trees (map member_tree (map (λ e. e.1) es))))) (entries-latest []);
  proposals = refl;
  values = ap (λ es. json.printed (list (trees (map value_tree es)))) (entries-latest _);
}

-- ---- joins and leaves

abbrev join_data : List ℕ → Tree → Tree
join_data id detail = object (pairs ((codes "clientId", text id) ∷ (codes "detail", detail) ∷ []))

first_join : answer (codes "{\"clientId\":\"A\",\"detail\":1}") ≡ Ok (join_data (codes "A") (whole (pos 1)))
unfolding escape_byte digits
first_join = spells _ (join_data (codes "A") (whole (pos 1))) refl ((refl, tt), (tt, (tt, (omega arith, tt)))) (omega arith)

second_join : answer (codes "{\"clientId\":\"B\",\"detail\":null}") ≡ Ok (join_data (codes "B") null)
unfolding escape_byte
second_join = spells _ (join_data (codes "B") null) refl ((refl, tt), (tt, (tt, (tt, tt)))) (omega arith)

third_join : answer (codes "{\"clientId\":\"A\",\"detail\":2}") ≡ Ok (join_data (codes "A") (whole (pos 2)))
unfolding escape_byte digits
third_join = spells _ (join_data (codes "A") (whole (pos 2))) refl ((refl, tt), (tt, (tt, (omega arith, tt)))) (omega arith)

first_leave : answer (codes "\"A\"") ≡ Ok (text (codes "A"))
unfolding escape_byte
first_leave = spells _ (text (codes "A")) refl tt (omega arith)

second_leave : answer (codes "\"B\"") ≡ Ok (text (codes "B"))
unfolding escape_byte
second_leave = spells _ (text (codes "B")) refl tt (omega arith)

pub who_is_in : WhoIsIn
unfolding is_name name_of member_of left_by standing members quorum_of
who_is_in = record {
  both = ap (map (λ e. e.0)) (entries-latest _) ∙ rw (first_join, second_join) refl;
  one = ap (map (λ e. e.0)) (entries-latest _) ∙ rw (first_join, second_join, first_leave) refl;
  again = ap (λ es. map (λ m. m.number) (map (λ e. e.1) es)) (entries-latest _) ∙ rw (first_join, second_join, first_leave, third_join) refl;
  left = ap (map (λ e. e.0)) (entries-latest _) ∙ rw (first_join, second_join, first_leave, third_join, second_leave) refl;
  latest = ap (λ es. map (λ m. m.number) (map (λ e. e.1) es)) (entries-latest _) ∙ rw (first_join, third_join) refl;
}

pub members_text : MembersText
unfolding is_name name_of member_of left_by standing members quorum_of blob_text escape_byte digits
members_text = ap (λ es. json.printed (list (trees (map member_tree (map (λ e. e.1) es))))) (entries-latest _) ∙ rw (first_join, second_join, first_leave, third_join) refl

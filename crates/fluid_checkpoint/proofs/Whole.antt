-- The text of a state, part by part.
use Rattle.std.proofs.Common.{◌≡◌, ℕ, List, ◌++◌, IsUtf8, refl, append_assoc}
use Rattle.std.specs.Prelude.{codes}
use Rattle.std.proofs.lemmas.Str.{is_utf8-from_IsUtf8}
use Rattle.json.specs.Print.{escape_byte}
use Rattle.fluid_json.specs.Printed.{printed}
use Rattle.fluid_types.specs.Blobs.{blob_text}
use Rattle.fluid_types.specs.Quorum.{Quorum}
use Rattle.fluid_types.specs.declared.quorum.QuorumBlob.{QuorumBlob}
use Rattle.fluid_types.specs.declared.quorum.QuorumBlob.TheVariants as blob
use Rattle.fluid_types.specs.Blobs.{blobs_of}
use Rattle.fluid_quorum.specs.Node.{node_of}
use Rattle.fluid_quorum.specs.Reading.{text_in}
use Rattle.fluid_checkpoint.specs.declared.state.State.{State}
use Rattle.fluid_checkpoint.specs.Text.{base_tree, state_members, state_printed}
use Rattle.fluid_checkpoint.specs.Written.{content, first_part, middle_part, last_part}

pub whole : (s : State) → state_printed s ≡ first_part s ++ (middle_part s ++ last_part s)
unfolding state_printed state_members escape_byte first_part middle_part last_part
whole s = simp append_assoc refl

-- the text of a blob
pub found : (q : Quorum) (b : QuorumBlob) → IsUtf8 (blob_text q b) → content (node_of q) b ≡ blob_text q b
unfolding text_in node_of blobs_of
found q blob.Attributes utf8 = rw (is_utf8-from_IsUtf8 (blob_text q blob.Attributes) utf8) refl
found q blob.Members utf8 = rw (is_utf8-from_IsUtf8 (blob_text q blob.Members) utf8) refl
found q blob.Proposals utf8 = rw (is_utf8-from_IsUtf8 (blob_text q blob.Proposals) utf8) refl
found q blob.Values utf8 = rw (is_utf8-from_IsUtf8 (blob_text q blob.Values) utf8) refl

-- the text of the base is made of those of its blobs
pub based : (q : Quorum) → printed (base_tree q) ≡
    codes "{\"attributes\":" ++ (blob_text q blob.Attributes ++ (codes ",\"quorumMembers\":" ++ (blob_text q blob.Members
    ++ (codes ",\"quorumProposals\":" ++ (blob_text q blob.Proposals ++ (codes ",\"quorumValues\":" ++ (blob_text q blob.Values ++ codes "}")))))))
unfolding blob_text escape_byte
based q = simp append_assoc refl

-- ---- parts put one behind another

pub four : (o p q r s a x b y c z d w : List ℕ) → p ≡ o ++ (a ++ x) → q ≡ p ++ (b ++ y) → r ≡ q ++ (c ++ z) → s ≡ r ++ (d ++ w) →
    s ≡ o ++ (a ++ (x ++ (b ++ (y ++ (c ++ (z ++ (d ++ w)))))))
four o p q r s a x b y c z d w p_is q_is r_is s_is = rw (s_is, r_is, q_is, p_is) (simp append_assoc refl)

pub four_and_end : (o p q r s t a x b y c z d w e : List ℕ) → p ≡ o ++ (a ++ x) → q ≡ p ++ (b ++ y) → r ≡ q ++ (c ++ z) → s ≡ r ++ (d ++ w) → t ≡ s ++ e →
    t ≡ o ++ (a ++ (x ++ (b ++ (y ++ (c ++ (z ++ (d ++ (w ++ e))))))))
four_and_end o p q r s t a x b y c z d w e p_is q_is r_is s_is t_is = rw (t_is, s_is, r_is, q_is, p_is) (simp append_assoc refl)

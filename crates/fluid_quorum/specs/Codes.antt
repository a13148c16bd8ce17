-- The records of a quorum as tuples of their parts.
use Rattle.std.specs.Prelude.{ℕ, List, refl}
use Rattle.std.specs.Coded.{Coded, code_by, coded×, coded_ℕ, coded_list}
use Rattle.std.specs.FinMap.{code}
use Rattle.fluid_json.specs.Tree.{Tree}
use Rattle.fluid_json.specs.Code.{tree_code}
use Rattle.fluid_types.specs.declared.quorum.Member.{Member}
use Rattle.fluid_types.specs.declared.quorum.Proposal.{Proposal}
use Rattle.fluid_types.specs.declared.quorum.Accepted.{Accepted}
use Rattle.fluid_types.specs.Quorum.{Table, Quorum}

abbrev pub text_code : Coded (List ℕ)
text_code = coded_list coded_ℕ

abbrev pub member_code : Coded Member
member_code =
    code_by (List ℕ × (Tree × ℕ)) (coded× text_code (coded× tree_code coded_ℕ)) (λ m. (m.id, (m.detail, m.number)))
    (λ parts. record { id = parts.0; detail = parts.1.0; number = parts.1.1 }) (λ _. refl)

abbrev pub proposal_code : Coded Proposal
proposal_code =
    code_by (ℕ × (List ℕ × Tree)) (coded× coded_ℕ (coded× text_code tree_code)) (λ p. (p.number, (p.key, p.value)))
    (λ parts. record { number = parts.0; key = parts.1.0; value = parts.1.1 }) (λ _. refl)

abbrev pub accepted_code : Coded Accepted
accepted_code =
    code_by (ℕ × (ℕ × Tree)) (coded× coded_ℕ (coded× coded_ℕ tree_code)) (λ a. (a.number, (a.approval, a.value)))
    (λ parts. record { number = parts.0; approval = parts.1.0; value = parts.1.1 }) (λ _. refl)

abbrev pub Parts : Type 0
Parts = ℕ × (ℕ × (Table Member × (List Proposal × Table Accepted)))

abbrev pub quorum_code : Coded Quorum
quorum_code =
    code_by Parts (coded× coded_ℕ (coded× coded_ℕ (coded× (code text_code member_code) (coded× (coded_list proposal_code) (code text_code accepted_code)))))
    (λ q. (q.number, (q.minimum, (q.members, (q.pending, q.values)))))
    (λ parts. record { number = parts.0; minimum = parts.1.0; members = parts.1.1.0; pending = parts.1.1.1.0; values = parts.1.1.1.1 }) (λ _. refl)

-- The number that the attributes of a quorum say.
use Rattle.std.proofs.Common.{◌≡◌, ℕ, ◌==◌, Bool, true, false, cond, List, Result, Ok, Err, option_map, codes, refl, sym, ap, ◌∙◌}
use Rattle.std.proofs.lemmas.Bool.{eqb-true}
use Rattle.fluid_tree.specs.Summary.{Summary}
use Rattle.fluid_types.specs.Quorum.{Quorum}
use Rattle.fluid_quorum.specs.Reading as quorum
use Rattle.fluid_quorum.specs.Laws.{AreAttributes}
use Rattle.fluid_loader.specs.Version.{under, of_number}

abbrev attributes_fault : List ℕ
attributes_fault = under (codes ".protocol") (codes "attributes")

abbrev answer_by : Bool → Result (Unit {0}) (List ℕ)
answer_by b = cond b (Ok tt) (Err attributes_fault)

pub number_is : AreAttributes → (number : ℕ) (node : Summary) (q : Quorum) → quorum.answer node ≡ Ok q → of_number number (quorum.number_in node) ≡ Ok tt → q.number ≡ number
number_is law number node q is h = by_test (q.number == number) refl (ap (λ a. of_number number (option_map (λ p. p.1) a)) (sym (law node q is)) ∙ h)
  where
    by_test : (b : Bool) → (q.number == number) ≡ b → answer_by b ≡ Ok tt → q.number ≡ number
    by_test true e k = eqb-true q.number number e
    by_test false e k = cc

pub number_right : AreAttributes → (number : ℕ) (node : Summary) (q : Quorum) → quorum.answer node ≡ Ok q → (q.number == number) ≡ true → of_number number (quorum.number_in node) ≡ Ok tt
number_right law number node q is same = ap (λ a. of_number number (option_map (λ p. p.1) a)) (law node q is) ∙ ap answer_by same

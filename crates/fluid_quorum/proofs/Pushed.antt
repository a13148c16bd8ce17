-- The quorum behind one more message of an order.
use Rattle.std.proofs.Common.{◌≡◌, ℕ, List, [], ◌∷◌, ◌++◌, map, Option, Some, None, refl, ap, ◌∙◌}
use Rattle.std.specs.Prelude.{unwrap_or}
use Rattle.std.specs.List.{last_or}
use Rattle.std.proofs.lemmas.List.{map-append}
use Rattle.fluid_types.specs.declared.messages.Message.{Message}
use Rattle.fluid_types.specs.Quorum.{at_last, quorum_of}
use Rattle.fluid_quorum.specs.After.{after}
use Rattle.fluid_quorum.specs.Laws.{GoesOn}
use Rattle.fluid_quorum.proofs.Standing.{members-push}
use Rattle.fluid_quorum.proofs.Approvals.{pending-push, values-push}

last-push : {A : Type 0} (o : Option A) (xs : List A) (x : A) → last_or o (xs ++ x ∷ []) ≡ Some x
last-push o [] x = refl
last-push o (y ∷ xs) x = last-push (Some y) xs x

at_last-push : (f : Message → ℕ) (ms : List Message) (m : Message) → at_last f (ms ++ m ∷ []) ≡ f m
at_last-push f ms m = ap (λ o. unwrap_or o 0) (ap (last_or None) (map-append f ms (m ∷ [])) ∙ last-push None (map f ms) (f m))

pub goes_on : GoesOn
unfolding quorum_of after
goes_on ms m order =
    rw (at_last-push (λ n. n.number) ms m, at_last-push (λ n. n.minimum) ms m, members-push m ms, pending-push m ms, values-push m ms order) refl

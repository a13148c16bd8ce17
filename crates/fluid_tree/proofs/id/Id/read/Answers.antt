use Rattle.std.proofs.Common.{◌≡◌, List, ℕ, Some, None, Result, Ok, Err, ap, sym, refl, ◌∙◌}
use Rattle.std.specs.Result.{MatchResult, result_ok}
use Rattle.hex.specs.declared.error.FromHexError.{FromHexError}
use Rattle.fluid_tree.specs.Ids.{id_read}
use Rattle.fluid_tree.proofs.id.Id.read.Goals as goal

decoded : (r : Result (List ℕ) FromHexError) (answer : Result (Unit {0}) FromHexError) (out : List ℕ)
    → MatchResult r (λ bytes. (answer ≡ Ok tt) × (out ≡ bytes)) (λ e. answer ≡ Err e) → answer ≡ Ok tt → Some out ≡ result_ok r
decoded (Ok bytes) answer out h is = ap Some h.1
decoded (Err e) answer out h is = cc

refused : (r : Result (List ℕ) FromHexError) (answer : Result (Unit {0}) FromHexError) (out : List ℕ) (e : FromHexError)
    → MatchResult r (λ bytes. (answer ≡ Ok tt) × (out ≡ bytes)) (λ f. answer ≡ Err f) → answer ≡ Err e → None ≡ result_ok r
refused (Ok bytes) answer out e h is = let no = h.0 in cc
refused (Err f) answer out e h is = refl

pub returns-then-not-is_lower : goal.returns-then-not-is_lower
unfolding id_read
returns-then-not-is_lower c = rw (sym c.is_lower.ensures ∙ c.if-not-is_lower.true) refl

pub returns-in-Ok : goal.returns-in-Ok
unfolding id_read
returns-in-Ok c = rw (sym c.is_lower.ensures ∙ c.if-not-is_lower.false) (decoded _ c.decode_to_slice.result _ c.decode_to_slice.ensures.value c.in-Ok.is)

pub returns-in-Err : goal.returns-in-Err
unfolding id_read
returns-in-Err c = rw (sym c.is_lower.ensures ∙ c.if-not-is_lower.false) (refused _ c.decode_to_slice.result _ _ c.decode_to_slice.ensures.value c.in-Err.is)

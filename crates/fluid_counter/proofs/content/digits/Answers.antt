use Rattle.std.proofs.Common.{◌≡◌, sym, ap, ◌∙◌, ◌+◌, ◌-◌, true, false, nat_eq, List, ℕ, ◌++◌, codes, length, take, drop, Option, Some, None, option_map, MatchOption, Bor}
use Rattle.std.specs.Cmp.Lexicographic.{pointwise}
use Rattle.std.specs.Fmt.{signed_decimal}
use Rattle.fluid_counter.proofs.Decimals.{begins, rest, ends, cut}
use Rattle.fluid_counter.proofs.content.digits.Goals as goal

stripped : (result : Option (Bor (List ℕ))) (text digits : List ℕ) → text ≡ digits ++ codes "\"}"
    → MatchOption result (pointwise nat_eq (drop (length text - 2) text) (codes "\"}") ≡ false)
    (λ x. (pointwise nat_eq (drop (length text - 2) text) (codes "\"}") ≡ true) × (x.now ≡ take (length text - 2) text) × (length x.now + 2 ≡ length text))
    → option_map (λ between. between.now) result ≡ Some digits
stripped None text digits is h =
    let no = sym (ends digits) ∙ ap (λ l. pointwise nat_eq (drop (length l - 2) l) (codes "\"}")) (sym is) ∙ h in
    cc
stripped (Some x) text digits is h = ap Some (h.1 ∙ ap (λ l. take (length l - 2) l) is ∙ cut digits)

pub returns-in_err-rest : goal.returns-in_err-rest
returns-in_err-rest c total is =
    let e = rw is at c.in_err-rest.ensures.cases in
    let no = sym (begins total) ∙ e in
    cc

pub returns : goal.returns
returns c total is =
    stripped c.strip_suffix.result c.in_ok-rest.rest.now (signed_decimal total) (c.in_ok-rest.ensures.cases.1 ∙ ap (drop 10) is ∙ rest total) c.strip_suffix.ensures.cases

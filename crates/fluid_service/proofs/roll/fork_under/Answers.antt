use Rattle.std.proofs.Common.{ℕ, List, Some, None, Ok, Err, sym, ap, subst, ◌∙◌, bytes_eq}
use Rattle.std.specs.String.{string_bytes}
use Rattle.fluid_service.specs.Visiting.{Visiting, FindsVisit}
use Rattle.fluid_service.proofs.Enrolling.{found_at, none_at, set_same}
use Rattle.fluid_service.proofs.roll.fork_under.Goals as goal

pub returns-in_default-clause-found : goal.returns-in_default-clause-found
returns-in_default-clause-found g c =
    rw (← c.as_str.ensures.bytes)
    (subst (λ o. FindsVisit o (Ok None)) (sym (none_at string_bytes c.as_str.result.now c.args.rows.now.entries c.requires c.in_default.ensures.value)) tt)

pub returns-in-Ok-clause-same : goal.returns-in-Ok-clause-same
returns-in-Ok-clause-same g c =
    let w : List ℕ × Visiting = (c.in-Some.row.now.0, c.fork.new.self) in
    let h = c.get_mut.follows.holds w in
    let is = sym c.in-Some.ensures.value ∙ ap (λ (v : Visiting). Some (c.in-Some.row.now.0, v)) (sym c.fork.ensures.same) in
    (h.0 ∙ set_same string_bytes (λ k. bytes_eq c.as_str.result.now (string_bytes k)) c.args.rows.now.entries w is, h.6)

pub returns-in-Ok-clause-found : goal.returns-in-Ok-clause-found
returns-in-Ok-clause-found g c =
    rw (← c.as_str.ensures.bytes)
    (subst (λ o. FindsVisit o (Ok (Some c.in-Ok.visit))) (sym (found_at string_bytes c.as_str.result.now c.args.rows.now.entries c.in-Some.row.now c.requires c.in-Some.ensures.value)) c.in-Ok.ensures.second)

pub returns-in-Err-clause-same : goal.returns-in-Err-clause-same
returns-in-Err-clause-same g c =
    let w : List ℕ × Visiting = (c.in-Some.row.now.0, c.fork.new.self) in
    let h = c.get_mut.follows.holds w in
    let is = sym c.in-Some.ensures.value ∙ ap (λ (v : Visiting). Some (c.in-Some.row.now.0, v)) (sym c.fork.ensures.same) in
    (h.0 ∙ set_same string_bytes (λ k. bytes_eq c.as_str.result.now (string_bytes k)) c.args.rows.now.entries w is, h.6)

pub returns-in-Err-clause-found : goal.returns-in-Err-clause-found
returns-in-Err-clause-found g c =
    rw (← c.as_str.ensures.bytes)
    (subst (λ o. FindsVisit o (Err c.in-Err.refused)) (sym (found_at string_bytes c.as_str.result.now c.args.rows.now.entries c.in-Some.row.now c.requires c.in-Some.ensures.value)) tt)

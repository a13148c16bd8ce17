use Rattle.std.proofs.Common.{rules, ◌≡◌, [], T, fold, ap, ap₂, sym, subst, ◌∙◌}
use Rattle.std.proofs.lemmas.List.{nil_from_length}
use Rattle.fluid_table.specs.Keyed.{pairs_of}
use Rattle.fluid_quorum.specs.Places.{table_at}
use Rattle.fluid_quorum.proofs.Placed.{with_pair, all_in_order, none_at}
use Rattle.fluid_quorum.proofs.reading.of_values.Goals as goal

pub loop-value-init : goal.loop-value-init
loop-value-init c =
    let all : c.into_iter-value-iterator.result.rest.items ≡ c.args.values.items = search rules in
    record {
      can_next = tt;
      is_finite = tt;
      len = search rules;
      order = c.new-places.ensures.ordered;
      values = ap₂ (λ t vs. fold with_pair t (pairs_of (λ v. v.key) (λ v. v.accepted) vs)) (none_at c.new-places.result c.new-places.ensures.empty) all;
    }

pub returns-clause-values : goal.returns-clause-values
returns-clause-values c =
    let none : c.loop-value.value-iterator.rest.items ≡ [] = nil_from_length _ (sym c.loop-value.invariant.len ∙ c.in-None.ensures.steps.0) in
    ap (λ vs. fold with_pair (table_at c.loop-value.places) (pairs_of (λ v. v.key) (λ v. v.accepted) vs)) (sym none)
    ∙ c.loop-value.invariant.values
    ∙ all_in_order (pairs_of (λ v. v.key) (λ v. v.accepted) c.args.values.items) (subst T (sym c.requires) tt)

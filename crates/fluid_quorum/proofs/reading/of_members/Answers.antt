use Rattle.std.proofs.Common.{rules, ◌≡◌, [], T, fold, ap, ap₂, sym, subst, ◌∙◌}
use Rattle.std.proofs.lemmas.List.{nil_from_length}
use Rattle.fluid_table.specs.Keyed.{pairs_of}
use Rattle.fluid_quorum.specs.Places.{table_at}
use Rattle.fluid_quorum.proofs.Placed.{with_pair, all_in_order, none_at}
use Rattle.fluid_quorum.proofs.reading.of_members.Goals as goal

pub loop-member-init : goal.loop-member-init
loop-member-init c =
    let all : c.into_iter-member-iterator.result.rest.items ≡ c.args.members.items = search rules in
    record {
      can_next = tt;
      is_finite = tt;
      len = search rules;
      order = c.new-places.ensures.ordered;
      members = ap₂ (λ t vs. fold with_pair t (pairs_of (λ m. m.id) (λ m. m) vs)) (none_at c.new-places.result c.new-places.ensures.empty) all;
    }

pub returns-clause-members : goal.returns-clause-members
returns-clause-members c =
    let none : c.loop-member.member-iterator.rest.items ≡ [] = nil_from_length _ (sym c.loop-member.invariant.len ∙ c.in-None.ensures.steps.0) in
    ap (λ vs. fold with_pair (table_at c.loop-member.places) (pairs_of (λ m. m.id) (λ m. m) vs)) (sym none)
    ∙ c.loop-member.invariant.members
    ∙ all_in_order (pairs_of (λ m. m.id) (λ m. m) c.args.members.items) (subst T (sym c.requires) tt)

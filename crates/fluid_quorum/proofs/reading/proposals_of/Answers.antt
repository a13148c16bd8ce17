use Rattle.std.proofs.Common.{rules, ◌≡◌, true, Some, map, subst, sym}
use Rattle.std.specs.Ordering.{nat_cmp}
use Rattle.std.specs.FinMap.{is_sorted}
use Rattle.fluid_json.specs.Tree.{trees}
use Rattle.fluid_quorum.specs.Reading.{proposal_form, each}
use Rattle.fluid_quorum.specs.Lists.{AreRising, AreUpTo}
use Rattle.fluid_quorum.proofs.Forms.{kept}
use Rattle.fluid_quorum.proofs.reading.proposals_of.Goals as goal

pub returns-then-are_rising-clause-kept : goal.returns-then-are_rising-clause-kept
returns-then-are_rising-clause-kept c =
    let read : each (proposal_form c.args.last) (trees c.into_vec.result.items) ≡ Some c.in-Some-2.proposals.items = search rules in
    let sorted : is_sorted nat_cmp (map (λ p. (p.number, p)) c.in-Some-2.proposals.items) ≡ true = search rules in
    let same : c.from_vec.result.items ≡ c.in-Some-2.proposals.items = search rules in
    subst (λ ps. AreRising ps × AreUpTo c.args.last ps) (sym same) (kept c.args.last (trees c.into_vec.result.items) c.in-Some-2.proposals.items read sorted)

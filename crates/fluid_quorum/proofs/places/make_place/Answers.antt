use Rattle.std.proofs.Common.{◌≡◌, None, string_bytes, subst, sym, ◌∙◌}
use Rattle.std.specs.BTreeMap.{get_by_text}
use Rattle.fluid_quorum.proofs.Placed.{none_of, placed, kept}
use Rattle.fluid_quorum.proofs.places.make_place.Goals as goal

pub returns-clause-same : goal.returns-clause-same
returns-clause-same g c =
    let none : get_by_text c.args.places.now (string_bytes c.in_ok-name.name) ≡ None =
    subst (λ k. get_by_text c.args.places.now k ≡ None) (sym c.in_ok-name.ensures.ok) (none_of _ (sym c.contains_key.ensures ∙ c.if-contains_key.false)) in
    placed c.args.places.now c.insert.new.self c.requires c.insert.ensures.ordered (string_bytes c.in_ok-name.name) c.in_ok-insert.ensures.updates none

pub returns-clause-kept : goal.returns-clause-kept
returns-clause-kept g c = kept c.args.places.now c.insert.new.self c.requires c.insert.ensures.ordered (string_bytes c.in_ok-name.name) None c.in_ok-insert.ensures.updates

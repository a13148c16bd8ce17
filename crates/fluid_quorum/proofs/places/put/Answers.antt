use Rattle.std.proofs.Common.{Some, string_bytes, subst}
use Rattle.std.specs.BTreeMap.{UpdatesBy}
use Rattle.std.specs.Prelude.{string_cmp}
use Rattle.std.proofs.lemmas.Map.Text.{btree_map_updates_text}
use Rattle.fluid_quorum.proofs.Placed.{valued}
use Rattle.fluid_quorum.proofs.places.put.Goals as goal

pub returns-clause-put : goal.returns-clause-put
returns-clause-put g c = λ q. btree_map_updates_text (string_bytes c.args.key) c.args.places.now c.insert.new.self (Some c.args.value) c.in_ok-insert.ensures.updates q

pub returns-clause-value : goal.returns-clause-value
returns-clause-value g c = λ v is.
    valued c.args.places.now c.insert.new.self c.insert.ensures.was_ordered c.insert.ensures.ordered (string_bytes c.args.key) v
    (subst (λ o. UpdatesBy string_cmp (string_cmp c.args.key) c.args.places.now c.insert.new.self (Some o)) is c.in_ok-insert.ensures.updates)

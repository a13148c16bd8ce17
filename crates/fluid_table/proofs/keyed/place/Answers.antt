use Rattle.std.proofs.Common.{rules}
use Rattle.std.proofs.lemmas.Fn.{always_returns_same}
use Rattle.fluid_table.specs.Table.{byte_order}
use Rattle.fluid_table.proofs.KeyedPlaces.{searched}
use Rattle.fluid_table.proofs.keyed.place.Goals as goal

-- the closure compares an entry's key with the one that is looked for
pub returns-clause-found : goal.returns-clause-found
returns-clause-found g c =
    let facts = c.binary_search_by.ensures in
    let compares = facts.position (λ entry. byte_order (g.T.Entry.key_of entry) c.args.key.now) (always_returns_same _ _ _ (λ a r f called. search rules)) in
    (searched g.T.Entry.key_of g.T.Entry.value_of c.args.entries.now c.requires c.args.key.now c.binary_search_by.result facts.bound compares).0

pub returns-clause-absent : goal.returns-clause-absent
returns-clause-absent g c =
    let facts = c.binary_search_by.ensures in
    let compares = facts.position (λ entry. byte_order (g.T.Entry.key_of entry) c.args.key.now) (always_returns_same _ _ _ (λ a r f called. search rules)) in
    (searched g.T.Entry.key_of g.T.Entry.value_of c.args.entries.now c.requires c.args.key.now c.binary_search_by.result facts.bound compares).1

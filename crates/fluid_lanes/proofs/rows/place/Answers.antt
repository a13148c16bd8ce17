use Rattle.std.proofs.Common.{rules}
use Rattle.std.proofs.lemmas.Fn.{always_returns_same}
use Rattle.fluid_table.specs.Table.{byte_order}
use Rattle.fluid_table.proofs.KeyedPlaces.{searched}
use Rattle.fluid_lanes.specs.Rows.{name_of, value_of}
use Rattle.fluid_lanes.proofs.rows.place.Goals as goal

-- the closure compares a row's name with the one that is looked for
pub returns-clause-found : goal.returns-clause-found
returns-clause-found g c =
    let facts = c.binary_search_by.ensures in
    let compares = facts.position (λ row. byte_order (name_of row) c.args.name.now) (always_returns_same _ _ _ (λ a r f called. search rules)) in
    (searched name_of value_of c.args.rows.now c.requires c.args.name.now c.binary_search_by.result facts.bound compares).0

pub returns-clause-absent : goal.returns-clause-absent
returns-clause-absent g c =
    let facts = c.binary_search_by.ensures in
    let compares = facts.position (λ row. byte_order (name_of row) c.args.name.now) (always_returns_same _ _ _ (λ a r f called. search rules)) in
    (searched name_of value_of c.args.rows.now c.requires c.args.name.now c.binary_search_by.result facts.bound compares).1

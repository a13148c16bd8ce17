use Rattle.std.proofs.Common.{rules}
use Rattle.std.proofs.lemmas.Fn.{always_returns_same}
use Rattle.fluid_table.specs.Table.{byte_order}
use Rattle.fluid_table.proofs.KeyedPlaces.{searched}
use Rattle.fluid_clients.specs.Seats.{id_of, row_of}
use Rattle.fluid_clients.proofs.table.place.Goals as goal

-- the closure compares a seat's id with the one that is looked for
pub returns-clause-found : goal.returns-clause-found
returns-clause-found c =
    let facts = c.binary_search_by.ensures in
    let compares = facts.position (λ seat. byte_order (id_of seat) c.args.id.now) (always_returns_same _ _ _ (λ a r f called. search rules)) in
    (searched id_of row_of c.args.seats.now c.requires c.args.id.now c.binary_search_by.result facts.bound compares).0

pub returns-clause-absent : goal.returns-clause-absent
returns-clause-absent c =
    let facts = c.binary_search_by.ensures in
    let compares = facts.position (λ seat. byte_order (id_of seat) c.args.id.now) (always_returns_same _ _ _ (λ a r f called. search rules)) in
    (searched id_of row_of c.args.seats.now c.requires c.args.id.now c.binary_search_by.result facts.bound compares).1

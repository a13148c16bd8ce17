use Rattle.fluid_store.specs.Fetching.{fetched, node_within}
use Rattle.fluid_store.proofs.Fetched.{goes_on, found_then, read_stands}
use Rattle.fluid_store.proofs.fetching.fetch.Goals as goal

pub returns-clause-stands : goal.returns-clause-stands
returns-clause-stands g c =
    let old = g.O.Objects.seen c.args.objects.now in
    let mid = g.O.Objects.seen c.find.new.objects in
    let new = g.O.Objects.seen c.node_of.new.objects in
    let id = c.args.id.now in
    read_stands c.what_is_fetched_stands.ensures id old new c.node_of.result
    (goes_on old mid new c.find.ensures.content c.find.ensures.faults (λ held. node_within held 32 c.in_ok-object.object) (λ held. fetched held 32 id) c.node_of.result
    (found_then old.content 32 id c.in_ok-object.object c.in_ok-object.ensures.says) c.node_of.ensures.says)

use Rattle.fluid_store.proofs.FoundOrPut.{placed, compared}
use Rattle.fluid_store.proofs.keeping.keep.Goals as goal

pub returns-in-None-clause-does : goal.returns-in-None-clause-does
returns-in-None-clause-does g c = placed c.args.id.now c.args.bytes.now _ _ _ (rw c.in-None.is at c.in_ok-found.ensures) c.place.result c.place.ensures

pub returns-in-Some-clause-does : goal.returns-in-Some-clause-does
returns-in-Some-clause-does g c = compared c.args.id.now c.args.bytes.now _ _ c.in-Some.kept (rw c.in-Some.is at c.in_ok-found.ensures) c.compare.result c.compare.ensures

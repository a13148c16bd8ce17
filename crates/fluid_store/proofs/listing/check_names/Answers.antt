use Rattle.std.proofs.Common.{Err, inr, subst, sym, []}
use Rattle.fluid_json.specs.Unless.{IsUnless}
use Rattle.fluid_tree.specs.Names.{first_refused}
use Rattle.fluid_tree.specs.Summary.{children, names}
use Rattle.fluid_store.specs.Parts.{unrefused}
use Rattle.fluid_store.specs.declared.fault.StoreFault.TheVariants.{NoMemory}
use Rattle.fluid_store.proofs.Lists.{names_good, names_bad}
use Rattle.fluid_store.proofs.listing.check_names.Goals as goal

pub returns-in-Ok : goal.returns-in-Ok
returns-in-Ok c = inr (names_good c.in_ok-entries.entries (names (children c.args.nodes.now)) c.in-Ok.bytes c.in_ok-entries.ensures c.in-Ok.ensures)

pub returns : goal.returns
returns c =
    subst (λ f. IsUnless NoMemory (Err f) (unrefused (first_refused [] (names (children c.args.nodes.now))))) (sym c.refusal.ensures)
    (names_bad c.in_ok-entries.entries (names (children c.args.nodes.now)) c.in-Err.fault c.in_ok-entries.ensures c.in-Err.ensures)

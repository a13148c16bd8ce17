use Rattle.std.proofs.Common.{Some}
use Rattle.fluid_quorum.proofs.Placed.{valued, kept}
use Rattle.fluid_quorum.proofs.places.fill.Goals as goal

pub returns-in-Some-clause-value : goal.returns-in-Some-clause-value
returns-in-Some-clause-value g c =
    let held = c.get_mut.follows.holds (Some c.args.value) in
    valued c.args.places.now (c.get_mut.follows.lender (Some c.args.value)) c.get_mut.ensures.ordered held.4 c.args.key.now c.args.value (held.3 c.requires.place)

pub returns-in-Some-clause-kept : goal.returns-in-Some-clause-kept
returns-in-Some-clause-kept g c =
    let held = c.get_mut.follows.holds (Some c.args.value) in
    kept c.args.places.now (c.get_mut.follows.lender (Some c.args.value)) c.get_mut.ensures.ordered held.4 c.args.key.now (Some c.args.value) (held.3 c.requires.place)

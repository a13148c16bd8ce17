use Rattle.fluid_quorum.proofs.Filled.{rest_places}
use Rattle.fluid_quorum.proofs.accepting.accept_first.Goals as goal

pub returns-clause-places : goal.returns-clause-places
returns-clause-places c =
    rest_places c.args.values.now c.fill.new.places c.in-Some.proposal c.args.pending.now.items c.pop_front.new.self.items c.in-Some.ensures.items c.fill.ensures.kept c.requires.places

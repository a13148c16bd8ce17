use Rattle.fluid_connection.proofs.Standing.{known_some, legal_some, known_none, legal_none}
use Rattle.fluid_connection.proofs.talk.know_visit.Goals as goal

pub returns-in-Some-clause-own : goal.returns-in-Some-clause-own
returns-in-Some-clause-own g c = known_some _ c.in-Some.visit c.in-Some.is c.pass.result.now c.pass.ensures c.know.ensures.own

pub returns-in-Some-clause-legal : goal.returns-in-Some-clause-legal
returns-in-Some-clause-legal g c = legal_some _ c.in-Some.visit c.in-Some.is c.pass.result.now c.pass.ensures c.know.ensures.legal

pub returns-in-None-clause-own : goal.returns-in-None-clause-own
returns-in-None-clause-own g c = known_none _ c.in-None.is

pub returns-in-None-clause-legal : goal.returns-in-None-clause-legal
returns-in-None-clause-legal g c = legal_none _ c.in-None.is

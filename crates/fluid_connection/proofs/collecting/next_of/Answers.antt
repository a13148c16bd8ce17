use Rattle.std.proofs.Common.{ap}
use Rattle.fluid_voice.specs.States.{is_connected, next_number}
use Rattle.fluid_connection.proofs.Standing.{next_is}
use Rattle.fluid_connection.proofs.collecting.next_of.Goals as goal

pub returns-in-Reading-clause-some : goal.returns-in-Reading-clause-some
returns-in-Reading-clause-some c = λ next is. next_is c.args.state.now _ next (ap is_connected c.in-Reading.is) (ap next_number c.in-Reading.is) is

pub returns-in-Writing-clause-some : goal.returns-in-Writing-clause-some
returns-in-Writing-clause-some c = λ next is. next_is c.args.state.now _ next (ap is_connected c.in-Writing.is) (ap next_number c.in-Writing.is) is

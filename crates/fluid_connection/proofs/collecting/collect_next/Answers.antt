use Rattle.std.proofs.Common.{◌∙◌, sym, subst}
use Rattle.fluid_lane.specs.Steps.{range_steps}
use Rattle.fluid_doors.specs.Passing.{Grows}
use Rattle.fluid_doors.specs.Collecting.{Collects, gathered}
use Rattle.fluid_voice.specs.Feed.{most_in_event}
use Rattle.fluid_connection.proofs.Collections.{takes}
use Rattle.fluid_connection.proofs.Events.{fits_given}
use Rattle.fluid_connection.proofs.collecting.collect_next.Goals as goal

pub put_event-slice-requires : goal.put_event-slice-requires
put_event-slice-requires g c = record { fits = fits_given gathered c.args.next most_in_event c.collect-pass.result.1 c.ranges.next.fits c.collect-pass.ensures.does.says.given }

pub returns-clause-turn : goal.returns-clause-turn
returns-clause-turn g c = c.collect-pass.ensures.does.turn ∙ c.requires.pass

pub returns-clause-few : goal.returns-clause-few
returns-clause-few g c = c.collect-pass.ensures.does.few

pub returns-clause-does : goal.returns-clause-does
returns-clause-does g c =
    takes gathered c.args.door.now.name c.args.pass c.collect-pass.result.0 c.args.next c.args.events.now c.put_event-slice.new.events c.collect-pass.result.1 c.put_event-slice.result
    (subst (λ t. Grows c.args.pass c.collect-pass.result.0 (range_steps c.collect-pass.result.1) (Collects gathered t.fixed c.args.next most_in_event c.collect-pass.result.1)) (sym c.requires.pass) c.collect-pass.ensures.does)
    (c.put_event-slice.ensures c.args.door.now.name c.collect-pass.ensures.event)

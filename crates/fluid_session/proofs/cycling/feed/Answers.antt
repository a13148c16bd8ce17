use Rattle.std.proofs.Common.{Ok, Err, subst}
use Rattle.fluid_session.specs.Sending.{SendsAll}
use Rattle.fluid_session.proofs.Onward.{fails_collecting, fed_well, fed_badly, reached_behind}
use Rattle.fluid_session.proofs.cycling.feed.Goals as goal

pub returns-in-Err-clause-does : goal.returns-in-Err-clause-does
returns-in-Err-clause-does g c = λ store tally few. rw c.end_of.ensures (fails_collecting _ _ store tally _ c.in-Err.fault few c.in-Err.ensures.does)

pub returns-in-Ok-send_feed-clause-does : goal.returns-in-Ok-send_feed-clause-does
returns-in-Ok-send_feed-clause-does g c = λ store tally few.
    fed_well _ _ store tally _ _ c.in-Ok.events few c.in-Ok.ensures.does c.know.ensures
    (subst (λ l. SendsAll (g.W.Wire.seen c.args.wire.now) (g.W.Wire.seen c.send_feed.new.wire) l (Ok tt)) c.as_slice.ensures c.in-Ok-send_feed.ensures)

pub returns-clause-does : goal.returns-clause-does
returns-clause-does g c = λ store tally few.
    rw c.wire_end.ensures
    (fed_badly _ _ store tally _ _ c.in-Ok.events c.in-Err-send_feed.fault few c.in-Ok.ensures.does c.know.ensures
    (subst (λ l. SendsAll (g.W.Wire.seen c.args.wire.now) (g.W.Wire.seen c.send_feed.new.wire) l (Err c.in-Err-send_feed.fault)) c.as_slice.ensures c.in-Err-send_feed.ensures))

pub returns-in-Ok-send_feed-clause-reached : goal.returns-in-Ok-send_feed-clause-reached
returns-in-Ok-send_feed-clause-reached g c = reached_behind _ _ c.in-Ok.events c.in-Ok.ensures.does

use Rattle.fluid_session.proofs.Onward.{answered}
use Rattle.fluid_session.proofs.cycling.answer.Goals as goal

pub returns-clause-does : goal.returns-clause-does
returns-clause-does g c = λ w came later.
    answered _ _ _ _ _ _ w _ _ _ c.args.text.now c.args.moment c.hear-replies.result c.unread_in-unread.result c.as_slice.result.now c.as_slice-2.result.now c.send_all-sent.result
    c.behind_text.result c.requires.few c.requires.moment c.requires.reached c.requires.unused c.hear-replies.ensures.does c.know.ensures c.as_slice.ensures c.as_slice-2.ensures c.unread_in-unread.ensures c.add.ensures c.follow.ensures
    c.send_all-sent.ensures c.behind_text.ensures came later

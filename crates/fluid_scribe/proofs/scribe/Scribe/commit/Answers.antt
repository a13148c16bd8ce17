use Rattle.std.proofs.Common.{◌≡◌, ◌<◌, ◌++◌, ◌∙◌, sym, ap}
use Rattle.std.specs.Prelude.{option_to_list}
use Rattle.fluid_scribe.specs.State.{brought, after}
use Rattle.fluid_scribe.specs.Scribing.{Scribing, unanswered_at, spare_at}
use Rattle.fluid_scribe.specs.Tails.{state_with, kept}
use Rattle.fluid_scribe.proofs.Taken.{HasTaken, up_to_date, after-taken, stands-push, state-now}
use Rattle.fluid_scribe.proofs.scribe.Scribe.commit.Goals as goal

pub returns-clause-after : goal.returns-clause-after
returns-clause-after c = λ message is.
    let room : 0 < spare_at c.self.inside.tail.due _ = rw (← c.self.view_is) at c.requires.room in
    let none = up_to_date c.self.inside.tail.due _ room in
    let before = state_with (kept c.self.inside.tail) c.self.inside.waiting.messages c.self.inside.acks.items in
    let state : c.args.self.now.state ≡ before =
    ap (λ (s : Scribing). s.state) (sym c.self.view_is) ∙ state-now c.self.inside.tail c.self.inside.waiting.messages c.self.inside.acks.items none in
    let has : HasTaken before c.args.ready c.push.new.self.behind.items c.push.new.self.minima.items c.take.new.self.messages c.add_one.new.list.items c.least.result = record {
      behind_is = c.push.ensures.behind ∙ ap (λ o. c.self.inside.tail.behind.items ++ option_to_list o) c.sorted-heard.ensures.heard;
      minima_is = c.push.ensures.minima;
      pending_is = c.take.ensures ∙ ap (λ o. unanswered_at c.args.ready.answered c.self.inside.waiting.messages ++ option_to_list o) c.sorted-heard.ensures.summarize;
      acks_are = c.add_one.ensures;
      number_is = c.least.ensures;
    } in
    ap (λ base. state_with (brought c.least.result base c.push.new.self.behind.items c.push.new.self.minima.items) c.take.new.self.messages c.add_one.new.list.items) c.push.ensures.base
    ∙ after-taken before message c.args.ready _ _ _ _ _ (rw state at is) has
    ∙ ap (λ s. after s message) (sym state)

pub returns-clause-stands : goal.returns-clause-stands
returns-clause-stands c = λ ledger entry message legal stands said is. stands-push c.args.self.now _ message (returns-clause-after c message is) ledger entry legal stands said

use Rattle.std.proofs.Common.{◌∙◌, sym, Bool, bytes_eq, arith}
use Rattle.fluid_tree.specs.declared.id.SummaryRef.{SummaryRef}
use Rattle.fluid_voice.proofs.Lists.{passes, fails, none_is_left}
use Rattle.fluid_door_link.proofs.answers.last_of.Goals as goal

pub loop-behind-preserved : goal.loop-behind-preserved
loop-behind-preserved c =
    let p : SummaryRef → Bool = λ ack. bytes_eq ack.handle c.args.id.now in
    let within = c.loop-behind.invariant.within in
    record {
      within = omega (arith, within);
      before = c.loop-behind.invariant.before ∙ fails p _ _ _ c.loop-behind-test.true within c.index-acks-behind.is (sym c.is_of.ensures ∙ c.if-is_of.false);
    }

pub returns-then-is_of : goal.returns-then-is_of
returns-then-is_of c =
    let p : SummaryRef → Bool = λ ack. bytes_eq ack.handle c.args.id.now in
    sym (c.loop-behind.invariant.before ∙ passes p _ _ _ c.loop-behind-test.true c.loop-behind.invariant.within c.index-acks-behind.is (sym c.is_of.ensures ∙ c.if-is_of.true))

pub returns : goal.returns
returns c =
    let p : SummaryRef → Bool = λ ack. bytes_eq ack.handle c.args.id.now in
    sym (c.loop-behind.invariant.before ∙ none_is_left p _ _ c.loop-behind-test.false)

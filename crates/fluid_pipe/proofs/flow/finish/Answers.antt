use Rattle.std.proofs.Common.{◌∙◌, sym}
use Rattle.fluid_pipe.proofs.Endings.{finished, finished-cut, finish-cause, rose, stays-cut, unfailed}
use Rattle.fluid_pipe.proofs.flow.finish.Goals as goal

pub returns-then-has_write_fault : goal.returns-then-has_write_fault
returns-then-has_write_fault g c = record {
  cause = λ input start source h. h;
  failed = λ old h. h;
  failed_at = λ m input h. h;
  finished = λ m input start source h. stays-cut m _ input source start (g.K.Sink.seen c.args.output.now) _ _ (sym c.has_write_fault.ensures ∙ c.if-has_write_fault.true) h;
}

pub returns-in-Ok : goal.returns-in-Ok
returns-in-Ok g c =
    let none = sym c.has_write_fault.ensures ∙ c.if-has_write_fault.false in
    record {
      cause = λ input start source h. finish-cause input source start (g.K.Sink.seen c.args.output.now) (g.K.Sink.seen c.hand_on.new.output) _ none h c.in-Ok.ensures.cause.quiet;
      failed = λ old h. h;
      failed_at = λ m input h. h;
      finished = λ m input start source h. finished m _ input source start (g.K.Sink.seen c.args.output.now) (g.K.Sink.seen c.hand_on.new.output) _ _ none h c.in-Ok.ensures.gone;
    }

pub returns-in-Err : goal.returns-in-Err
returns-in-Err g c =
    let none = sym c.has_write_fault.ensures ∙ c.if-has_write_fault.false in
    record {
      cause = λ input start source h. rose _ _ _ (unfailed input source start (g.K.Sink.seen c.args.output.now) c.args.settled none h) c.in-Err.ensures.cause.failed;
      failed = λ old h. tt;
      failed_at = λ m input h. tt;
      finished = λ m input start source h. finished-cut m _ input source start (g.K.Sink.seen c.args.output.now) (g.K.Sink.seen c.hand_on.new.output) _ _ none h c.in-Err.ensures.cut;
    }

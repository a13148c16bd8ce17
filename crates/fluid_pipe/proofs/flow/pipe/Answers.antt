use Rattle.fluid_pipe.proofs.flow.pipe.Goals as goal

pub returns-clause-cause : goal.returns-clause-cause
returns-clause-cause g c =
    let input = g.S.Source.seen c.args.input.now in
    let start = g.K.Sink.seen c.args.output.now in
    let source = g.S.Source.seen c.take_all-taken.new.input in
    c.finish.ensures.cause input start source
    (c.settle-settled.ensures.cause input start source (g.K.Sink.seen c.take_all-taken.new.output) c.take_all-taken.ensures.cause)

pub returns-clause-failed : goal.returns-clause-failed
returns-clause-failed g c =
    c.finish.ensures.failed c.args.taker.now (c.settle-settled.ensures.failed c.args.taker.now c.take_all-taken.ensures.failed)

pub returns-clause-failed_at : goal.returns-clause-failed_at
returns-clause-failed_at g c =
    λ m stands.
    let input = g.S.Source.seen c.args.input.now in
    c.finish.ensures.failed_at m input (c.settle-settled.ensures.failed_at m input (c.take_all-taken.ensures.failed_at m stands))

pub returns-clause-finished : goal.returns-clause-finished
returns-clause-finished g c =
    λ m stands.
    let input = g.S.Source.seen c.args.input.now in
    let start = g.K.Sink.seen c.args.output.now in
    let source = g.S.Source.seen c.take_all-taken.new.input in
    c.finish.ensures.finished m input start source
    (c.settle-settled.ensures.settled m input start source (g.K.Sink.seen c.take_all-taken.new.output) (c.take_all-taken.ensures.ends m stands))

use Rattle.fluid_acts.proofs.Entering.{entry_entered, entry_refused}
use Rattle.fluid_acts.proofs.doing.enter.Goals as goal

pub returns-in-Ok : goal.returns-in-Ok
returns-in-Ok g c =
    let e = c.in-Ok.ensures in
    entry_entered c.lanes_say_their_ledgers.ensures.says c.args.raw.now _ _ c.in-Ok.verdict e.goes e.gate e.enters e.said

pub returns-in-Err : goal.returns-in-Err
returns-in-Err g c =
    let e = c.in-Err.ensures in
    rw c.refused.ensures (entry_refused c.lanes_say_their_ledgers.ensures.says c.args.raw.now _ _ c.in-Err.fault e.goes e.gate e.enters)

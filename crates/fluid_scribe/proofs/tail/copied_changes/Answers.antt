use Rattle.std.proofs.Common.{◌<◌, ◌≤◌, length, rules}
use Rattle.fluid_scribe.proofs.Walked.{copied-on, copied-end}
use Rattle.fluid_scribe.proofs.tail.copied_changes.Goals as goal

pub loop-index-preserved : goal.loop-index-preserved
loop-index-preserved c =
    let within : c.loop-index.index < length c.args.minima.now.items = search rules in
    copied-on c.loop-index.index c.args.from c.loop-index.copies.items _ c.args.minima.now.items c.index.result.now within c.index.ensures c.loop-index.invariant c.in_ok-push.ensures.items

pub returns : goal.returns
returns c =
    let past : length c.args.minima.now.items ≤ c.loop-index.index = search rules in
    copied-end c.loop-index.index c.args.from _ c.args.minima.now.items past c.loop-index.invariant

use Rattle.std.proofs.Common.{rules, ◌≤◌, length}
use Rattle.std.proofs.lemmas.Fn.{always_returns_same}
use Rattle.fluid_quorum.specs.After.{is_due}
use Rattle.fluid_quorum.proofs.Due.{parted, partitioned}
use Rattle.fluid_quorum.proofs.accepting.due.Goals as goal

pub returns-clause-due : goal.returns-clause-due
returns-clause-due c =
    let facts = c.partition_point.ensures in
    let bound : c.partition_point.result ≤ length c.args.pending.now.items = search rules in
    let point = facts.partitioned (is_due c.args.minimum) (always_returns_same _ _ _ (λ a r f called. search rules)) (partitioned c.args.minimum c.args.pending.now.items c.requires) in
    (parted (is_due c.args.minimum) c.args.pending.now.items c.partition_point.result bound point.0 point.1).0

pub returns-clause-rest : goal.returns-clause-rest
returns-clause-rest c =
    let facts = c.partition_point.ensures in
    let bound : c.partition_point.result ≤ length c.args.pending.now.items = search rules in
    let point = facts.partitioned (is_due c.args.minimum) (always_returns_same _ _ _ (λ a r f called. search rules)) (partitioned c.args.minimum c.args.pending.now.items c.requires) in
    (parted (is_due c.args.minimum) c.args.pending.now.items c.partition_point.result bound point.0 point.1).1

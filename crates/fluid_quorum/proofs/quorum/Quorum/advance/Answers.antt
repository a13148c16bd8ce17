use Rattle.std.proofs.Common.{rules, ◌≡◌, ◌+◌, ◌++◌, not, filter, fold, sym, subst}
use Rattle.fluid_quorum.specs.After.{is_due, with_accepted}
use Rattle.fluid_quorum.specs.Order.{StandsFor}
use Rattle.fluid_quorum.specs.Noops.{noops_to}
use Rattle.fluid_quorum.specs.Lists.{AreRising}
use Rattle.fluid_quorum.specs.Places.{table_at}
use Rattle.fluid_quorum.proofs.Taken.{left-rising}
use Rattle.fluid_quorum.proofs.Advanced.{IsParted, stays-later, stays-lower, stands-same, advanced-is, advanced-stands}
use Rattle.fluid_quorum.proofs.quorum.Quorum.advance.Goals as goal

pub returns-then-number-self-clause-after : goal.returns-then-number-self-clause-after
returns-then-number-self-clause-after c = rw (← c.self.view_is) (sym (stays-later _ c.args.number c.args.minimum c.if-number-self.true).same)

pub returns-then-number-self-clause-stands : goal.returns-then-number-self-clause-stands
returns-then-number-self-clause-stands c = rw (← c.self.view_is) (λ ms stands. stands-same ms _ c.args.number c.args.minimum (stays-later _ c.args.number c.args.minimum c.if-number-self.true) stands)

pub returns-then-minimum-self-clause-after : goal.returns-then-minimum-self-clause-after
returns-then-minimum-self-clause-after c = rw (← c.self.view_is) (sym (stays-lower _ c.args.number c.args.minimum c.if-minimum-self.true).same)

pub returns-then-minimum-self-clause-stands : goal.returns-then-minimum-self-clause-stands
returns-then-minimum-self-clause-stands c = rw (← c.self.view_is) (λ ms stands. stands-same ms _ c.args.number c.args.minimum (stays-lower _ c.args.number c.args.minimum c.if-minimum-self.true) stands)

pub due-accepted-requires : goal.due-accepted-requires
due-accepted-requires c =
    let left : c.accept.new.pending.items ≡ filter (λ p. not (is_due c.self.inside.minimum p)) c.self.inside.pending.items = search rules in
    subst AreRising (sym left) (left-rising (λ p. not (is_due c.self.inside.minimum p)) c.self.inside.pending.items c.self.invariant.1.1.1.0)

pub returns-clause-after : goal.returns-clause-after
returns-clause-after c =
    let first : IsParted c.self.inside.minimum c.due-first.result c.self.inside.pending.items = record { due = c.due-first.ensures.due; rest = c.due-first.ensures.rest } in
    let pending : c.accept-2.new.pending.items ≡ filter (λ p. not (is_due c.args.minimum p)) (filter (λ p. not (is_due c.self.inside.minimum p)) c.self.inside.pending.items) = search rules in
    let values : table_at c.accept-2.new.values ≡ fold (with_accepted c.args.number) (fold (with_accepted (c.self.inside.number + 1)) (table_at c.self.inside.values) (filter (is_due c.self.inside.minimum) c.self.inside.pending.items))
    (filter (is_due c.args.minimum) (filter (λ p. not (is_due c.self.inside.minimum p)) c.self.inside.pending.items)) = search rules in
    rw (← c.self.view_is) (rw (pending, values) (sym (advanced-is _ c.args.number c.args.minimum c.due-first.result c.if-number-self.false c.if-minimum-self.false first)))

pub returns-clause-stands : goal.returns-clause-stands
returns-clause-stands c = λ ms stands. subst (StandsFor (ms ++ noops_to c.args.self.now c.args.number c.args.minimum)) (sym (returns-clause-after c)) (advanced-stands ms c.args.self.now c.args.number c.args.minimum stands)

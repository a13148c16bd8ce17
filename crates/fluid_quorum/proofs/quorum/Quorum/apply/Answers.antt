use Rattle.std.proofs.Common.{rules, ◌≡◌, ◌+◌, [], ◌∷◌, ◌++◌, not, filter, fold, sym, subst}
use Rattle.std.specs.Prelude.{option_to_list}
use Rattle.fluid_types.specs.Quorum.{member_of, left_by, proposal_of}
use Rattle.fluid_quorum.specs.After.{is_due, with_member, without, with_accepted}
use Rattle.fluid_quorum.specs.Order.{StandsFor}
use Rattle.fluid_quorum.specs.Lists.{AreRising, AreUpTo}
use Rattle.fluid_quorum.specs.Places.{table_at, HavePlaces, KeepsPlaces}
use Rattle.fluid_quorum.proofs.Filled.{with_place_for}
use Rattle.fluid_quorum.proofs.Taken.{waiting-rising, waiting-bounded, left-rising, left-bounded, taken, stands-after}
use Rattle.fluid_quorum.proofs.quorum.Quorum.apply.Goals as goal

pub due-accepted-requires : goal.due-accepted-requires
due-accepted-requires c =
    let all : c.enter.new.pending.items ≡ c.self.inside.pending.items ++ option_to_list (proposal_of c.args.message.now) = search rules in
    let next : c.args.message.now.number ≡ c.self.inside.number + 1 = rw (← c.self.view_is) at c.requires in
    subst AreRising (sym all) (waiting-rising c.self.inside.pending.items c.self.inside.number c.args.message.now next c.self.invariant.1.1.1.0 c.self.invariant.1.1.1.1)

pub accept-requires-clause-places : goal.accept-requires-clause-places
accept-requires-clause-places c =
    let all : c.enter.new.pending.items ≡ c.self.inside.pending.items ++ option_to_list c.in_ok-said.said.proposal = search rules in
    let kept : KeepsPlaces c.self.inside.values c.make_room.new.values = search rules in
    subst (HavePlaces c.make_room.new.values) (sym all)
    (with_place_for c.self.inside.values c.make_room.new.values c.self.inside.pending.items c.in_ok-said.said.proposal kept c.self.invariant.1.1.0 c.in_ok-make_room.ensures.place)

pub invariant_of-self-2 : goal.invariant_of-self-2
invariant_of-self-2 c =
    let left : c.accept.new.pending.items ≡ filter (λ p. not (is_due c.args.message.now.minimum p)) (c.self.inside.pending.items ++ option_to_list (proposal_of c.args.message.now)) = search rules in
    let next : c.args.message.now.number ≡ c.self.inside.number + 1 = rw (← c.self.view_is) at c.requires in
    let rising = waiting-rising c.self.inside.pending.items c.self.inside.number c.args.message.now next c.self.invariant.1.1.1.0 c.self.invariant.1.1.1.1 in
    let bounded = waiting-bounded c.self.inside.pending.items c.self.inside.number c.args.message.now next c.self.invariant.1.1.1.0 c.self.invariant.1.1.1.1 in (
      c.enter.ensures.order,
      (
        c.accept.ensures.order,
        (
          c.accept.ensures.places,
          (
            subst AreRising (sym left) (left-rising (λ p. not (is_due c.args.message.now.minimum p)) _ rising),
            subst (AreUpTo c.args.message.now.number) (sym left) (left-bounded (λ p. not (is_due c.args.message.now.minimum p)) _ _ bounded),
          ),
        ),
      ),
    )

pub returns-clause-after : goal.returns-clause-after
returns-clause-after c =
    let left : c.accept.new.pending.items ≡ filter (λ p. not (is_due c.args.message.now.minimum p)) (c.self.inside.pending.items ++ option_to_list (proposal_of c.args.message.now)) = search rules in
    let members : table_at c.enter.new.members ≡ with_member (member_of c.args.message.now) (without (left_by c.args.message.now) (table_at c.self.inside.members)) = search rules in
    let values : table_at c.accept.new.values ≡ fold (with_accepted c.args.message.now.number) (table_at c.self.inside.values) (filter (is_due c.args.message.now.minimum) (c.self.inside.pending.items ++ option_to_list (proposal_of c.args.message.now))) = search rules in
    rw (← c.self.view_is) (taken _ c.args.message.now _ _ _ members left values)

pub returns-clause-stands : goal.returns-clause-stands
returns-clause-stands c = λ ms stands. subst (StandsFor (ms ++ c.args.message.now ∷ [])) (sym (returns-clause-after c)) (stands-after ms c.args.self.now c.args.message.now c.requires stands)

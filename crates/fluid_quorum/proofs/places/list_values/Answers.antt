use Rattle.std.proofs.Common.{rules, ◌≡◌, ◌∷◌, [], map}
use Rattle.fluid_quorum.proofs.Placed.{listed-on, listed-end}
use Rattle.fluid_quorum.proofs.places.list_values.Goals as goal

pub loop-key-preserved : goal.loop-key-preserved
loop-key-preserved g c =
    let left : c.loop-key._key-iterator ≡ (c.in-Some._key.now, c.in-Some.place.now) ∷ c.next.new.self = search rules in
    record {
      can_next = tt;
      is_finite = tt;
      all = listed-on c.in-Some._key.now c.in-Some.place.now c.loop-key._key-iterator c.next.new.self (map (λ v. v.now) c.loop-key.all.items) _ _ left c.in_ok-list_place.ensures c.loop-key.invariant.all;
    }

pub returns : goal.returns
returns g c =
    let none : c.loop-key._key-iterator ≡ [] = search rules in
    listed-end c.args.places.now c.requires c.loop-key._key-iterator (map (λ v. v.now) c.loop-key.all.items) none c.loop-key.invariant.all

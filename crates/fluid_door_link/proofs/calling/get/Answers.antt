use Rattle.std.proofs.Common.{subst, refl}
use Rattle.fluid_door_link.specs.Coursing.{IsAlong}
use Rattle.fluid_door_link.proofs.Stored.{got_along}
use Rattle.fluid_door_link.proofs.calling.get.Goals as goal

pub follow-requires : goal.follow-requires
follow-requires g c =
    let w = g.W.Begun in
    let along = subst (IsAlong w.good w.began w.before) c.requires.at c.know.ensures in
    got_along w.good w.began w.before _ along refl c.args.id.now _ _ c.in-Ok.ensures

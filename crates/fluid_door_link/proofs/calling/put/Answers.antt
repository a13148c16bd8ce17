use Rattle.std.proofs.Common.{None, subst, refl, option_map}
use Rattle.fluid_door_link.specs.Coursing.{IsAlong}
use Rattle.fluid_door_link.specs.Failing.{kept_of_store}
use Rattle.fluid_door_link.proofs.Stored.{counted_at, none_counted, put_along, put_told, tree_counted, trees_told, unput_along, unput_told}
use Rattle.fluid_door_link.proofs.Walked.{at_kept}
use Rattle.fluid_door_link.proofs.calling.put.Goals as goal

pub follow-requires : goal.follow-requires
follow-requires g c =
    let w = g.W.Begun in
    let along = subst (IsAlong w.good w.began w.before) c.requires.at c.know.ensures in
    put_along w.good w.began w.before _ along refl c.args.tree.now (option_map (λ id. id.now) c.args.base) _ c.in-Ok.ensures.counts c.in-Ok.id c.in-Ok.ensures.does

pub unput-requires : goal.unput-requires
unput-requires g c =
    let w = g.W.Begun in
    let along = subst (IsAlong w.good w.began w.before) c.requires.at c.know.ensures in
    unput_along w.good w.began w.before _ along refl c.args.tree.now (option_map (λ id. id.now) c.args.base) _ c.in-Err.ensures.counts c.in-Err.fault c.in-Err.ensures.does

pub returns-in-Ok : goal.returns-in-Ok
returns-in-Ok g c =
    let w = g.W.Begun in
    let along = subst (IsAlong w.good w.began w.before) c.requires.at c.know.ensures in
    record {
      at = at_kept _ _ _ None c.follow.ensures;
      does =
          put_told w.good w.began w.before _ along refl c.args.tree.now (option_map (λ id. id.now) c.args.base) _ c.in-Ok.ensures.counts c.in-Ok.id c.in-Ok.ensures.does c.in-Ok.ensures.stands;
      counted = counted_at _ _ _ None _ c.follow.ensures (none_counted _);
      trees = refl;
    }

pub returns-in-Err : goal.returns-in-Err
returns-in-Err g c =
    let w = g.W.Begun in
    let along = subst (IsAlong w.good w.began w.before) c.requires.at c.know.ensures in
    record {
      at = at_kept _ _ _ (kept_of_store c.in-Err.fault) c.unput.ensures.at;
      does = rw c.unput.ensures.answer (unput_told w.good w.began w.before _ along refl c.args.tree.now (option_map (λ id. id.now) c.args.base) _ c.in-Err.ensures.counts c.in-Err.fault c.in-Err.ensures.does);
      counted = counted_at _ _ _ (kept_of_store c.in-Err.fault) _ c.unput.ensures.at (tree_counted c.in-Err.fault _ _ c.unput.ensures.trees);
      trees =
          rw c.unput.ensures.answer
          (trees_told w.good w.began w.before _ along refl c.args.tree.now (option_map (λ id. id.now) c.args.base) _ c.in-Err.ensures.counts c.in-Err.fault _ _ c.unput.ensures.trees c.in-Err.ensures.does);
    }

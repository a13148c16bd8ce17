use Rattle.std.proofs.Common.{None, refl, subst, sym}
use Rattle.fluid_door_link.specs.Coursing.{IsAlong}
use Rattle.fluid_door_link.specs.Failing.{kept_of_lane}
use Rattle.fluid_door_link.specs.Linking.{EntersBy}
use Rattle.fluid_door_link.proofs.Entered.{entered_along, entered_told, unentered_along, unentered_told, no_tree}
use Rattle.fluid_door_link.proofs.Walked.{at_kept, none_kept, stop_kept}
use Rattle.fluid_door_link.proofs.calling.enter.Goals as goal

pub follow-requires : goal.follow-requires
follow-requires g c =
    let w = g.W.Begun in
    let along = subst (IsAlong w.good w.began w.before) c.requires.at c.know.ensures in
    entered_along w.good w.began w.before _ along refl c.args.raw.now _ c.in-Ok.verdict c.in-Ok.ensures.goes c.in-Ok.ensures.enters

pub unentered-requires : goal.unentered-requires
unentered-requires g c =
    let w = g.W.Begun in
    let along = subst (IsAlong w.good w.began w.before) c.requires.at c.know.ensures in
    unentered_along w.good w.began w.before _ along refl c.args.raw.now _ c.in-Err.fault c.in-Err.ensures.goes c.in-Err.ensures.gate c.in-Err.ensures.enters

pub returns-in-Ok : goal.returns-in-Ok
returns-in-Ok g c =
    let w = g.W.Begun in
    let along = subst (IsAlong w.good w.began w.before) c.requires.at c.know.ensures in
    record {
      at = at_kept _ _ _ None c.follow.ensures;
      kept = none_kept _ _ _ c.follow.ensures;
      does = entered_told w.good w.began w.before _ along refl c.args.raw.now _ c.in-Ok.verdict c.in-Ok.ensures.goes c.in-Ok.ensures.gate;
    }

pub returns-in-Err : goal.returns-in-Err
returns-in-Err g c =
    let w = g.W.Begun in
    let along = subst (IsAlong w.good w.began w.before) c.requires.at c.know.ensures in
    record {
      at = at_kept _ _ _ (kept_of_lane c.in-Err.fault) c.unentered.ensures.at;
      kept = stop_kept _ _ _ (kept_of_lane c.in-Err.fault) c.unentered.ensures.at (no_tree c.in-Err.fault);
      does =
          subst (EntersBy c.args.raw.now _ _) (sym c.unentered.ensures.answer)
          (unentered_told w.good w.began w.before _ along refl c.args.raw.now _ c.in-Err.fault c.in-Err.ensures.goes c.in-Err.ensures.gate);
    }

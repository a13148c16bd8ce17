use Rattle.std.proofs.Common.{rules, ◌≡◌, [], None, Ok, subst, sym, refl, arith}
use Rattle.fluid_door_link.specs.Telling.{told_by}
use Rattle.fluid_door_link.specs.Coursing.{IsAlong}
use Rattle.fluid_door_link.specs.Failing.{kept_of_deltas}
use Rattle.fluid_door_link.specs.Linking.{ReadsBy}
use Rattle.fluid_door_link.proofs.Ranged.{none_behind, read_along, read_told, unread_along, unread_told, read_by, no_tree}
use Rattle.fluid_door_link.proofs.Walked.{known, at_kept, none_kept, stop_kept}
use Rattle.fluid_door_link.proofs.calling.read.Goals as goal

pub returns-then-behind-from : goal.returns-then-behind-from
returns-then-behind-from g c =
    let w = g.W.Begun in
    let along = subst (IsAlong w.good w.began w.before) c.requires.at c.know.ensures in
    let none : c.new-then-behind-from.result ≡ [] = search rules in
    let told = told_by w.good c.args.lane.now c.args.objects.now in
    record {
      at = at_kept _ _ _ None c.requires.at;
      kept = none_kept _ _ _ c.requires.at;
      does = subst (λ ms. ReadsBy c.args.from told told (Ok ms)) (sym none) (none_behind w.good c.args.lane.now (known w.good w.began w.before _ along) c.args.objects.now c.args.from c.requires.above c.requires.fits (omega (arith, c.seq-behind.ensures.is, c.if-behind-from.true)));
    }

pub follow-requires : goal.follow-requires
follow-requires g c =
    let w = g.W.Begun in
    let along = subst (IsAlong w.good w.began w.before) c.requires.at c.know.ensures in
    let e = c.in-Ok.ensures in
    read_along (λ v. v.items) w.good w.began w.before _ along refl _ c.args.from _ c.requires.above (omega (arith, c.if-behind-from.false)) (omega (arith, c.seq-behind.ensures.is)) c.in-Ok.messages e.goes e.worn e.ranges

pub unread-requires : goal.unread-requires
unread-requires g c =
    let w = g.W.Begun in
    let along = subst (IsAlong w.good w.began w.before) c.requires.at c.know.ensures in
    let e = c.in-Err.ensures in
    unread_along (λ v. v.items) w.good w.began w.before _ along refl _ c.args.from _ c.in-Err.fault e.goes e.worn e.ranges e.slice

pub returns-in-Ok : goal.returns-in-Ok
returns-in-Ok g c =
    let w = g.W.Begun in
    let along = subst (IsAlong w.good w.began w.before) c.requires.at c.know.ensures in
    let e = c.in-Ok.ensures in
    let same : c.new-in-Ok.result ≡ c.in-Ok.messages.items = search rules in
    record {
      at = at_kept _ _ _ None c.follow.ensures;
      kept = none_kept _ _ _ c.follow.ensures;
      does = rw same (
          read_told (λ v. v.items) w.good w.began w.before _ along refl _ c.args.from _ c.requires.above (omega (arith, c.if-behind-from.false)) (omega (arith, c.seq-behind.ensures.is)) c.in-Ok.messages e.goes e.worn e.ranges e.slice
          (omega (arith, c.seq-behind.ensures.bound, c.seq-behind.ensures.is)));
    }

pub returns-in-Err : goal.returns-in-Err
returns-in-Err g c =
    let w = g.W.Begun in
    let along = subst (IsAlong w.good w.began w.before) c.requires.at c.know.ensures in
    let e = c.in-Err.ensures in
    record {
      at = at_kept _ _ _ (kept_of_deltas c.in-Err.fault) c.unread.ensures.at;
      kept = stop_kept _ _ _ (kept_of_deltas c.in-Err.fault) c.unread.ensures.at (no_tree c.in-Err.fault);
      does = rw c.unread.ensures.answer (read_by c.args.from _ _ c.in-Err.fault (unread_told (λ v. v.items) w.good w.began w.before _ along refl _ c.args.from _ c.in-Err.fault e.goes e.worn e.ranges e.slice));
    }

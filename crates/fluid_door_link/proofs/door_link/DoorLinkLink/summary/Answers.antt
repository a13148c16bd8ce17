use Rattle.std.proofs.Common.{refl, subst, ap, ◌∙◌, arith}
use Rattle.fluid_door_link.specs.Coursing.{IsAlong}
use Rattle.fluid_door_link.specs.Linking.{few_only, picked_among}
use Rattle.fluid_door_link.proofs.Linked.{picks_few, picks_told}
use Rattle.fluid_door_link.proofs.Walked.{known}
use Rattle.fluid_door_link.proofs.door_link.DoorLinkLink.summary.Goals as goal

pub returns-clause-does : goal.returns-clause-does
returns-clause-does g c =
    let w = g.W.Begun in
    let now = c.args.self.now in
    let along = subst (IsAlong w.good w.began w.before) now.at c.know.ensures in
    let at = known w.good w.began w.before _ along in
    let is = c.few.ensures ∙ ap few_only (c.picked.ensures ∙ ap (picked_among c.args.pick.now) c.acks.ensures) in
    let within = c.picked_numbers_are_within.ensures in
    let orders = c.orders_are_told.ensures in
    record {
      reads = record { same = refl; later = omega arith };
      says = (
        picks_few within orders c.args.pick.now w.good now.lane.now at now.objects.now c.few.result is,
        picks_told within orders c.args.pick.now w.good now.lane.now at now.objects.now c.few.result is,
      );
    }

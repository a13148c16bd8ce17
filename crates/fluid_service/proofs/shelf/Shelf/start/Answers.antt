use Rattle.std.proofs.Common.{◌≡◌, ◌+◌, ◌<◌, ◌≤◌, false, List, length, sym, ap, subst, ◌∙◌, refl, arith}
use Rattle.std.proofs.lemmas.Result.{err_from_is_err_and}
use Rattle.fluid_log.proofs.Lending.{given_out}
use Rattle.fluid_types.specs.Forms.{largest}
use Rattle.fluid_opening.specs.declared.opening.TheConstants.{MOST_DOCUMENTS}
use Rattle.fluid_service.specs.Visiting.{Visiting}
use Rattle.fluid_service.specs.Shelved.{Shelved, is_open}
use Rattle.fluid_service.specs.Opening.{GoesOn, KeepsVisit}
use Rattle.fluid_service.proofs.Standings.{failed_on, starts_not, same_shelf}
use Rattle.fluid_service.proofs.Starting.{lane_stands, on_given, keeps_first, shelf_first, on_back, shelf_back, back_kept}
use Rattle.fluid_service.proofs.shelf.Shelf.start.Goals as goal

pub invariant_of-self-in_err-lane : goal.invariant_of-self-in_err-lane
invariant_of-self-in_err-lane g c =
    let on = failed_on c.kept_is_loaded.ensures.checkpoints c.new_keepers_are_kept.ensures c.self.inside.limits c.args.name.now c.args.moment (g.B.Shelves.seen c.self.inside.shelves) (g.B.Shelves.seen c.start_lane.new.shelves) c.self.invariant.0.kept c.in_err-lane.ensures.later c.in_err-lane.field-0.0 c.in_err-lane.ensures.does in
    rw c.in_ok-reserve.ensures.same (same_shelf (record { shelving = g.B.Shelves.seen c.self.inside.shelves; visits = c.self.inside.visits.visits; limits = c.self.inside.limits; failed = c.self.inside.failed; last = c.self.inside.last }) (g.B.Shelves.seen c.start_lane.new.shelves) c.self.invariant.0 c.in_err-lane.ensures.back on.1 on.0, λ untold keeper. c.self.invariant.1 (sym on.0.told ∙ untold) keeper)

pub returns-in_err-lane-clause-goes : goal.returns-in_err-lane-clause-goes
returns-in_err-lane-clause-goes g c =
    let on = failed_on c.kept_is_loaded.ensures.checkpoints c.new_keepers_are_kept.ensures c.self.inside.limits c.args.name.now c.args.moment (g.B.Shelves.seen c.self.inside.shelves) (g.B.Shelves.seen c.start_lane.new.shelves) c.self.invariant.0.kept c.in_err-lane.ensures.later c.in_err-lane.field-0.0 c.in_err-lane.ensures.does in
    subst (λ (s : Shelved). GoesOn s.shelving (g.B.Shelves.seen c.start_lane.new.shelves)) c.self.view_is on.0

pub returns-in_err-lane-clause-starts : goal.returns-in_err-lane-clause-starts
returns-in_err-lane-clause-starts g c =
    let e = err_from_is_err_and c.from_residual-in_err-lane.result c.from_residual-in_err-lane.ensures.1 in
    rw (e.1, e.2)
    (starts_not c.kept_is_loaded.ensures.checkpoints c.new_keepers_are_kept.ensures c.self.inside.limits c.args.name.now c.args.moment (g.B.Shelves.seen c.self.inside.shelves) (g.B.Shelves.seen c.start_lane.new.shelves) c.self.invariant.0.kept c.in_err-lane.ensures.later c.args.self.now _ c.in_err-lane.field-0.0 (sym (ap (λ (s : Shelved). s.shelving) c.self.view_is)) refl
    c.in_err-lane.ensures.does c.in_err-lane.ensures.cause
    (ap (λ (visits : List Visiting). record { shelving = (g.B.Shelves.seen c.start_lane.new.shelves); visits = visits; limits = c.self.inside.limits; failed = c.self.inside.failed; last = c.self.inside.last }) c.in_ok-reserve.ensures.same
    ∙ ap (λ (s : Shelved). record s { shelving = (g.B.Shelves.seen c.start_lane.new.shelves) }) c.self.view_is))

pub open_door-requires : goal.open_door-requires
open_door-requires g c =
    lane_stands c.new_keepers_are_kept.ensures g.B.K.Keeper.seen c.self.inside.limits c.args.name.now c.args.moment (g.B.Shelves.seen c.self.inside.shelves) (g.B.Shelves.seen c.start_lane.new.shelves) c.in_ok-lane.ensures.given.0 c.in_ok-lane.lane c.self.invariant.0.kept c.self.invariant.1 c.in_ok-lane.ensures.given.1.0 c.in_ok-lane.ensures.given.1.1

pub put_back-requires : goal.put_back-requires
put_back-requires g c = given_out _ _ _ _ c.in_ok-lane.ensures.does.gives

pub invariant_of-self-in-Ok : goal.invariant_of-self-in-Ok
invariant_of-self-in-Ok g c =
    let s : Shelved = record { shelving = g.B.Shelves.seen c.self.inside.shelves; visits = c.self.inside.visits.visits; limits = c.self.inside.limits; failed = c.self.inside.failed; last = c.self.inside.last } in
    let closed = subst (λ (t : Shelved). is_open c.args.name.now t ≡ false) (sym c.self.view_is) c.requires.closed in
    let number = c.number-number.ensures.is in let bound = c.number-number.ensures.few in
    let few : c.in_ok-lane.lane.entries.entered ≤ largest = omega (arith, number, bound) in
    let are = rw c.in_ok-named.ensures at c.in-Ok.ensures.visits in
    let room : length s.visits < MOST_DOCUMENTS = subst (λ (t : Shelved). length t.visits < MOST_DOCUMENTS) (sym c.self.view_is) c.requires.room in
    let numbered : s.failed + length s.visits < largest = subst (λ (t : Shelved). t.failed + length t.visits < largest) (sym c.self.view_is) c.requires.few in
    let on = on_given c.kept_is_loaded.ensures.checkpoints c.new_keepers_are_kept.ensures c.args.name.now c.args.moment s (g.B.Shelves.seen c.start_lane.new.shelves) c.in_ok-lane.lane c.self.invariant.0 closed c.in_ok-lane.ensures.does few c.in_ok-lane.ensures.later in
    rw (c.push.ensures, c.in_ok-reserve.ensures.same) (shelf_first c.kept_is_loaded.ensures.checkpoints c.new_keepers_are_kept.ensures c.args.name.now c.args.moment s (g.B.Shelves.seen c.start_lane.new.shelves) c.in_ok-lane.lane c.self.invariant.0 closed c.in_ok-lane.ensures.does few c.in_ok-lane.ensures.later c.in-Ok.first c.in-Ok.second are room numbered, λ untold keeper. c.self.invariant.1 (sym on.told ∙ untold) keeper)

pub invariant_of-self-in-Err-1 : goal.invariant_of-self-in-Err-1
invariant_of-self-in-Err-1 g c =
    let s : Shelved = record { shelving = g.B.Shelves.seen c.self.inside.shelves; visits = c.self.inside.visits.visits; limits = c.self.inside.limits; failed = c.self.inside.failed; last = c.self.inside.last } in
    let closed = subst (λ (t : Shelved). is_open c.args.name.now t ≡ false) (sym c.self.view_is) c.requires.closed in
    let number = c.number-number.ensures.is in let bound = c.number-number.ensures.few in
    let few : c.in_ok-lane.lane.entries.entered ≤ largest = omega (arith, number, bound) in
    let kept = back_kept c.kept_is_loaded.ensures.checkpoints c.new_keepers_are_kept.ensures c.args.name.now c.args.moment s (g.B.Shelves.seen c.start_lane.new.shelves) c.in_ok-lane.lane c.self.invariant.0 closed c.in_ok-lane.ensures.does few c.in_ok-lane.ensures.later c.in-Err.lane c.in-Err.ensures.back.0.0 (g.B.K.Keeper.seen c.close.result) c.in-Err.ensures.back.1 c.close.ensures.keeper (c.close.ensures.left c.in-Err.ensures.back.0.0 c.in-Err.ensures.back.0.1) c.close.ensures.sized in
    let on = on_back c.kept_is_loaded.ensures.checkpoints c.new_keepers_are_kept.ensures c.args.name.now c.args.moment s (g.B.Shelves.seen c.start_lane.new.shelves) c.in_ok-lane.lane c.self.invariant.0 closed c.in_ok-lane.ensures.does few c.in_ok-lane.ensures.later (g.B.Shelves.seen c.put_back.new.self) (g.B.K.Keeper.seen c.close.result) c.put_back.ensures.does in
    rw c.in_ok-reserve.ensures.same (shelf_back c.kept_is_loaded.ensures.checkpoints c.new_keepers_are_kept.ensures c.args.name.now c.args.moment s (g.B.Shelves.seen c.start_lane.new.shelves) c.in_ok-lane.lane c.self.invariant.0 closed c.in_ok-lane.ensures.does few c.in_ok-lane.ensures.later (g.B.Shelves.seen c.put_back.new.self) (g.B.K.Keeper.seen c.close.result) c.put_back.ensures.does kept, λ untold keeper. c.self.invariant.1 (sym on.told ∙ untold) keeper)

pub returns-in-Ok-clause-goes : goal.returns-in-Ok-clause-goes
returns-in-Ok-clause-goes g c =
    let s : Shelved = record { shelving = g.B.Shelves.seen c.self.inside.shelves; visits = c.self.inside.visits.visits; limits = c.self.inside.limits; failed = c.self.inside.failed; last = c.self.inside.last } in
    let closed = subst (λ (t : Shelved). is_open c.args.name.now t ≡ false) (sym c.self.view_is) c.requires.closed in
    let number = c.number-number.ensures.is in let bound = c.number-number.ensures.few in
    let few : c.in_ok-lane.lane.entries.entered ≤ largest = omega (arith, number, bound) in
    subst (λ (t : Shelved). GoesOn t.shelving (g.B.Shelves.seen c.start_lane.new.shelves)) c.self.view_is (on_given c.kept_is_loaded.ensures.checkpoints c.new_keepers_are_kept.ensures c.args.name.now c.args.moment s (g.B.Shelves.seen c.start_lane.new.shelves) c.in_ok-lane.lane c.self.invariant.0 closed c.in_ok-lane.ensures.does few c.in_ok-lane.ensures.later)

pub returns-in-Ok-clause-starts : goal.returns-in-Ok-clause-starts
returns-in-Ok-clause-starts g c =
    let s : Shelved = record { shelving = g.B.Shelves.seen c.self.inside.shelves; visits = c.self.inside.visits.visits; limits = c.self.inside.limits; failed = c.self.inside.failed; last = c.self.inside.last } in
    let closed = subst (λ (t : Shelved). is_open c.args.name.now t ≡ false) (sym c.self.view_is) c.requires.closed in
    let number = c.number-number.ensures.is in let bound = c.number-number.ensures.few in
    let few : c.in_ok-lane.lane.entries.entered ≤ largest = omega (arith, number, bound) in
    let are = rw c.in_ok-named.ensures at c.in-Ok.ensures.visits in
    subst (λ (o : Shelved). KeepsVisit c.args.name.now c.args.moment o (record { shelving = (g.B.Shelves.seen c.start_lane.new.shelves); visits = c.push.new.self.visits; limits = c.self.inside.limits; failed = c.self.inside.failed; last = c.self.inside.last }) c.in-Ok.second) c.self.view_is
    (rw (c.push.ensures, c.in_ok-reserve.ensures.same) (keeps_first c.kept_is_loaded.ensures.checkpoints c.new_keepers_are_kept.ensures c.args.name.now c.args.moment s (g.B.Shelves.seen c.start_lane.new.shelves) c.in_ok-lane.lane c.self.invariant.0 closed c.in_ok-lane.ensures.does few c.in_ok-lane.ensures.later c.in-Ok.first c.in-Ok.second are))

pub returns-in-Err-clause-goes : goal.returns-in-Err-clause-goes
returns-in-Err-clause-goes g c =
    let s : Shelved = record { shelving = g.B.Shelves.seen c.self.inside.shelves; visits = c.self.inside.visits.visits; limits = c.self.inside.limits; failed = c.self.inside.failed; last = c.self.inside.last } in
    let closed = subst (λ (t : Shelved). is_open c.args.name.now t ≡ false) (sym c.self.view_is) c.requires.closed in
    let number = c.number-number.ensures.is in let bound = c.number-number.ensures.few in
    let few : c.in_ok-lane.lane.entries.entered ≤ largest = omega (arith, number, bound) in
    subst (λ (t : Shelved). GoesOn t.shelving (g.B.Shelves.seen c.put_back.new.self)) c.self.view_is
    (on_back c.kept_is_loaded.ensures.checkpoints c.new_keepers_are_kept.ensures c.args.name.now c.args.moment s (g.B.Shelves.seen c.start_lane.new.shelves) c.in_ok-lane.lane c.self.invariant.0 closed c.in_ok-lane.ensures.does few c.in_ok-lane.ensures.later (g.B.Shelves.seen c.put_back.new.self) (g.B.K.Keeper.seen c.close.result) c.put_back.ensures.does)

use Rattle.std.proofs.Common.{ap, sym, option_map, length, ◌∙◌}
use Rattle.std.specs.Option.{option_copied}
use Rattle.std.proofs.lemmas.Bool.{ltb-true, ltb-false}
use Rattle.std.proofs.lemmas.Option.{slice_get_read, slice_get_past}
use Rattle.fluid_clients.specs.declared.table.Seat.{Seat}
use Rattle.fluid_clients.proofs.Seating.{row_in_place}
use Rattle.fluid_clients.proofs.table.Clients.row_at.Goals as goal

pub returns-in_err-seat : goal.returns-in_err-seat
returns-in_err-seat c =
    let past = slice_get_past c.self.inside.seats.items c.args.place (rw c.deref.ensures.value at (ltb-false _ _ (sym c.in_err-seat.ensures.lookup.0))) in
    rw (← c.self.view_is) (λ id at. ap option_copied c.from_residual.ensures ∙ sym (row_in_place _ _ id c.self.invariant.order at ∙ ap (option_map (λ (seat : Seat). seat.row)) past))

pub returns : goal.returns
returns c =
    let look = rw c.deref.ensures.value at c.in_ok-seat.ensures.lookup in
    let there = slice_get_read c.self.inside.seats.items (length c.self.inside.seats.items) c.args.place c.in_ok-seat.seat.now (λ _. length c.self.inside.seats.items) (ltb-true _ _ (sym look.0)) look.1 in
    rw (← c.self.view_is) (λ id at. sym (row_in_place _ _ id c.self.invariant.order at ∙ ap (option_map (λ (seat : Seat). seat.row)) there))

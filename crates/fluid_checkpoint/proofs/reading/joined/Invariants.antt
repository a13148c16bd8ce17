use Rattle.std.proofs.Common.{◌≡◌, length}
use Rattle.std.specs.FinMap.{empty}
use Rattle.fluid_checkpoint.specs.Joined.{all_in}
use Rattle.fluid_checkpoint.proofs.reading.joined.Given as goal

abbrev pub ghosts-take_in : goal.ghosts-take_in
ghosts-take_in a = record { name = a.blank.name; parts = a.blank.parts }

-- with the rest they are all in
abbrev pub invariant-loop-id : goal.invariant-loop-id
invariant-loop-id l = record {
  can_next : (goal.iterator-loop-id).can_next l.id-iterator;
  is_finite : (goal.iterator-loop-id).is_finite l.id-iterator;
  len : l.id-iterator.rest.len ≡ length l.id-iterator.rest.items;
  done : all_in l.clients.rows l.id-iterator.rest.items ≡ all_in empty l.fn.rows;
}

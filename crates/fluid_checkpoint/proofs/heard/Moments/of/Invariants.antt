use Rattle.std.proofs.Common.{◌≡◌, ◌++◌, length, map}
use Rattle.fluid_checkpoint.specs.Heard.{moments_of}
use Rattle.fluid_checkpoint.proofs.heard.Moments.of.Given as goal

-- the moments so far, and those of the rest
abbrev pub invariant-loop-id : goal.invariant-loop-id
invariant-loop-id l = record {
  can_next : (goal.iterator-loop-id).can_next l.id-iterator;
  is_finite : (goal.iterator-loop-id).is_finite l.id-iterator;
  len : l.id-iterator.rest.len ≡ length l.id-iterator.rest.items;
  done : l.vec.items ++ map (λ entry. (entry.0, entry.1.heard)) l.id-iterator.rest.items ≡ moments_of l.clients.rows;
}

-- What one more message makes of a quorum.
use Rattle.std.specs.Prelude.{ℕ, nat_le, Bool, not, List, ◌++◌, fold, filter, Option, Some, None, option_to_list}
use Rattle.std.specs.FinMap.{insert, remove}
use Rattle.fluid_types.specs.declared.messages.Message.{Message}
use Rattle.fluid_types.specs.declared.quorum.Member.{Member}
use Rattle.fluid_types.specs.declared.quorum.Proposal.{Proposal}
use Rattle.fluid_types.specs.declared.quorum.Accepted.{Accepted}
use Rattle.fluid_types.specs.Quorum.{Table, Quorum, member_of, left_by, proposal_of}

-- who leaves is no member any more
abbrev pub without : Option (List ℕ) → Table Member → Table Member
without None members = members
without (Some id) members = remove members id

-- who joins is a member, in place of an earlier one of the same id
abbrev pub with_member : Option Member → Table Member → Table Member
with_member None members = members
with_member (Some member) members = insert members member.id member

-- a proposal that is accepted by the message of this number is the value of its key
abbrev pub with_accepted : ℕ → Table Accepted → Proposal → Table Accepted
with_accepted approval values p = insert values p.key (record { number = p.number; approval = approval; value = p.value })

-- the minimum has reached the proposal's number
abbrev pub is_due : ℕ → Proposal → Bool
is_due minimum p = nat_le p.number minimum

-- the pending proposals, with the one that the message makes
abbrev pub waiting : Quorum → Message → List Proposal
waiting q m = q.pending ++ option_to_list (proposal_of m)

-- the quorum behind a message: those of the pending proposals whose number its minimum has reached are accepted, in their order
unfoldable pub after : Quorum → Message → Quorum
after q m = record {
  number = m.number;
  minimum = m.minimum;
  members = with_member (member_of m) (without (left_by m) q.members);
  pending = filter (λ p. not (is_due m.minimum p)) (waiting q m);
  values = fold (with_accepted m.number) q.values (filter (is_due m.minimum) (waiting q m));
}

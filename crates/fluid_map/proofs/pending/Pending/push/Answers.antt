use Rattle.std.proofs.Common.{rules, ◌≡◌, ◌+◌, ◌^◌, ◌<◌, length, Some, None, sym, ◌∙◌, arith}
use Rattle.fluid_map.specs.declared.operation.MapOp.TheVariants.{Set, Delete}
use Rattle.fluid_map.proofs.Laid.{count-laid, change-laid, clear-laid, set_says, delete_says}
use Rattle.fluid_map.proofs.pending.Pending.push.Goals as goal

pub lay-requires-clause-counted : goal.lay-requires-clause-counted
lay-requires-clause-counted c =
    let few : length c.self.inside.changes.items + 1 < 2 ^ 64 = search rules in
    rw c.in_ok-reserve.ensures.same (omega (arith, few, count-laid _ _ _ c.in-Set.key c.self.invariant))

pub lay-requires-in-Delete-clause-counted : goal.lay-requires-in-Delete-clause-counted
lay-requires-in-Delete-clause-counted c =
    let few : length c.self.inside.changes.items + 1 < 2 ^ 64 = search rules in
    rw c.in_ok-reserve.ensures.same (omega (arith, few, count-laid _ _ _ c.in-Delete.key c.self.invariant))

pub invariant_of-self-in-Set : goal.invariant_of-self-in-Set
invariant_of-self-in-Set c =
    let op = c.in_ok-pending.ensures ∙ sym c.in_ok-laid.ensures ∙ c.in-Set.is in
    rw (c.in_ok-push_back.ensures.items, c.lay.ensures, c.in_ok-reserve.ensures.same, op)
    (change-laid _ _ _ c.self.invariant (Set c.in-Set.key c.in-Set.value) c.in-Set.key (Some c.in-Set.value) (set_says c.in-Set.key c.in-Set.value))

pub invariant_of-self-in-Delete : goal.invariant_of-self-in-Delete
invariant_of-self-in-Delete c =
    let op = c.in_ok-pending.ensures ∙ sym c.in_ok-laid.ensures ∙ c.in-Delete.is in
    rw (c.in_ok-push_back.ensures.items, c.lay-in-Delete.ensures, c.in_ok-reserve.ensures.same, op)
    (change-laid _ _ _ c.self.invariant (Delete c.in-Delete.key) c.in-Delete.key None (delete_says c.in-Delete.key))

pub invariant_of-self-in-Clear : goal.invariant_of-self-in-Clear
invariant_of-self-in-Clear c =
    let op = c.in_ok-pending.ensures ∙ sym c.in_ok-laid.ensures ∙ c.in-Clear.is in
    let size : c.len-self-inside.result ≡ length c.push_back.new.self.items = search rules in
    rw (size, c.clear.ensures.values, c.in_ok-push_back.ensures.items, op) (clear-laid _)

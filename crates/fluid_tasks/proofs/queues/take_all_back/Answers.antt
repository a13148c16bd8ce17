use Rattle.std.proofs.Common.{rules, ◌≡◌, ◌∷◌, [], sym, subst, nat_cmp}
use Rattle.std.specs.BTreeMap.{get}
use Rattle.std.specs.List.Sorted.{IsStrictlySortedBy}
use Rattle.std.proofs.lemmas.Map.Keys.{sorted_tail}
use Rattle.fluid_tasks.specs.Kept.{at, AreBack}
use Rattle.fluid_tasks.proofs.Left.{back_more, back_end, keys_rise}
use Rattle.fluid_tasks.proofs.queues.take_all_back.Goals as goal

pub loop-item-preserved : goal.loop-item-preserved
loop-item-preserved c =
    let left : c.loop-item.item-iterator ≡ c.in-Some.item.now ∷ c.next.new.self = search rules in
    let rest = subst (IsStrictlySortedBy nat_cmp) left c.loop-item.invariant.sorted in
    record {
      can_next = tt;
      is_finite = tt;
      sorted = sorted_tail nat_cmp c.in-Some.item.now c.next.new.self rest;
      whole = c.loop-item.invariant.whole;
      back = λ q last h.
          c.loop-item.invariant.back q last
          (subst (λ ks. AreBack (get nat_cmp c.args.items.now) c.args.client.now q ks (at c.loop-item.queues q) last) (sym left)
          (back_more (get nat_cmp c.args.items.now) c.args.client.now q c.in-Some.item.now c.next.new.self (keys_rise (c.in-Some.item.now ∷ c.next.new.self) rest).0 (at c.loop-item.queues q) (at c.take_one_back.new.queues q) last (c.take_one_back.ensures q) h));
    }

pub returns-clause-back : goal.returns-clause-back
returns-clause-back c = λ q.
    let none : c.loop-item.item-iterator ≡ [] = search rules in
    c.loop-item.invariant.back q (at c.loop-item.queues q)
    (subst (λ ks. AreBack (get nat_cmp c.args.items.now) c.args.client.now q ks (at c.loop-item.queues q) (at c.loop-item.queues q)) (sym none) (back_end (get nat_cmp c.args.items.now) c.args.client.now q (at c.loop-item.queues q)))

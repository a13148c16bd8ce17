-- What the calls that ask answer.
use Rattle.std.proofs.Common.{◌≡◌, ℕ, Bool, true, false, cond, List, [], Option, Some, None, option_map, refl, sym, ◌∙◌, ap, subst, nat_cmp, string_bytes}
use Rattle.std.specs.BTreeMap.{BTreeMap, is_at}
use Rattle.std.specs.Map.{lookup}
use Rattle.std.specs.Cmp.Lexicographic.{slice_cmp}
use Rattle.fluid_rules.proofs.Ids.{own_id}
use Rattle.fluid_tasks.specs.declared.tasks.Item.{Item}
use Rattle.fluid_tasks.specs.declared.queues.Queue.{Queue}
use Rattle.fluid_tasks.specs.Past.{Past, is_text, numbers, items, added, is_of, Status, NoItem, Free, Held, Gone, holder_in, is_there, status, free, live, holder_of, value, volunteerings, standing_since, standing}
use Rattle.fluid_tasks.specs.Kept.{Named, at, free_at, held_at, IsQueue, Candidates, entries_at, Clients, IsKept}
use Rattle.fluid_tasks.proofs.Applied.{live-is, holder_of-is, held_by-is}
use Rattle.fluid_tasks.proofs.Facts.{no_status}
use Rattle.fluid_tasks.proofs.Freed.{held_in}

-- nothing is kept of no messages
pub nothing_kept : (own : BTreeMap ℕ Item) (queues : Named Queue) (tasks : Named Candidates) (noting : Clients) → own.entries ≡ [] → queues.entries ≡ [] → tasks.entries ≡ [] → IsKept own queues tasks noting []
unfolding numbers items added status free live holder_of volunteerings standing_since standing
nothing_kept own queues tasks noting no_items no_queues no_tasks = record {
  items_are = λ n. ap (lookup (is_at (nat_cmp n))) no_items;
  queues_are = λ q. subst (IsQueue [] q) (sym (ap (lookup (is_at (λ k. slice_cmp nat_cmp q (string_bytes k)))) no_queues)) (record { free = refl; held = λ n. refl });
  tasks_are = λ u. ap entries_at (ap (lookup (is_at (λ k. slice_cmp nat_cmp u (string_bytes k)))) no_tasks);
  holds = λ c n h. absurd (let wrong : false ≡ true = h in cc);
  stands = λ c u n h. absurd (let wrong : ◌≡◌ {A = Option ℕ} None (Some n) = h in cc);
}

pub free_answer : (past : Past) (q : List ℕ) (o : Option Queue) → IsQueue past q o → free_at o ≡ free past q
free_answer past q None is = sym is.free
free_answer past q (Some w) is = is.free

-- an item that isn't there has no holder
pub none_holds : (past : Past) (i : ℕ) → live past i ≡ None → None ≡ holder_of past i
none_holds past i none = of (status past i) refl ∙ sym (holder_of-is past i)
  where
    of : (st : Status) → status past i ≡ st → None ≡ holder_in (status past i)
    of NoItem at = sym (ap holder_in at)
    of (Free since) at = sym (ap holder_in at)
    of Gone at = sym (ap holder_in at)
    of (Held c) at =
        let gone : added past i ≡ None = sym (live-is past i ∙ ap (λ st. cond (is_there st) (added past i) None) at) ∙ none in
        sym (ap holder_in (no_status past i gone))

-- an item that is there is held in its queue by its holder
pub holder_found : (past : Past) (i : ℕ) (it : Item) (o : Option Queue) → live past i ≡ Some it → IsQueue past it.queue o → held_at o i ≡ holder_of past i
holder_found past i it o is queue =
    held_in past it.queue o queue i ∙ held_by-is past it.queue i ∙ ap (λ b. cond b (holder_in (status past i)) None) own ∙ sym (holder_of-is past i)
  where
    its : (b : Bool) → cond b (added past i) None ≡ Some it → added past i ≡ Some it
    its true h = h
    its false h = absurd (let wrong : ◌≡◌ {A = Option Item} None (Some it) = h in cc)

    own : is_of past it.queue i ≡ true
    own = ap (λ (o : Option Item). is_text (option_map (λ (x : Item). x.queue) o) it.queue) (its (is_there (status past i)) (sym (live-is past i) ∙ is)) ∙ own_id it.queue

pub value_is : (past : Past) (i : ℕ) → option_map (λ (it : Item). it.value) (live past i) ≡ value past i
unfolding value
value_is past i = refl

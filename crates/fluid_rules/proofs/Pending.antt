-- The pending summarize is the least numbered one that no message of the order answers.
use Rattle.std.proofs.Common.{◌≡◌, ◌≤◌, zero, suc, Bool, true, false, List, [], ◌∷◌, Option, Some, None, refl, sym, ◌∙◌, subst, arith}
use Rattle.std.specs.Prelude.{filter, slice_get}
use Rattle.std.proofs.lemmas.List.Elements.{All-nil, All-cons}
use Rattle.fluid_types.specs.declared.messages.Message.{Message}
use Rattle.fluid_rules.specs.ScribeLaws.{waits, AreRising, IsLeastOrNone, PendingIsLeast}
use Rattle.fluid_rules.proofs.Summaries.{unanswered-by_none}

-- what is so of the messages behind one that doesn't pass is so with it
lifted : (passes : Message → Bool) (x : Message) (xs : List Message) (o : Option Message) → passes x ≡ false → IsLeastOrNone passes xs o → IsLeastOrNone passes (x ∷ xs) o
lifted passes x xs None not_it h = All-cons (λ m. passes m ≡ false) x xs not_it h
lifted passes x xs (Some m) not_it h = record {
  is_there = let lt = h.is_there.1 in (suc h.is_there.0, omega arith, h.is_there.2);
  does_pass = h.does_pass;
  is_least = All-cons (λ other. passes other ≡ true → m.number ≤ other.number) x xs (λ yes. absurd (let no : true ≡ false = sym yes ∙ not_it in cc)) h.is_least;
}

-- the first message that passes, where the others behind it have greater numbers
one_first : (passes : Message → Bool) (does : Bool) (x : Message) (xs : List Message) → passes x ≡ does → AreRising (x ∷ xs) →
    IsLeastOrNone passes xs (slice_get (filter passes xs) 0) → IsLeastOrNone passes (x ∷ xs) (slice_get (filter passes (x ∷ xs)) 0)
one_first passes true x xs is rising rest =
    rw is
    (record {
      is_there = (0, omega arith, refl);
      does_pass = is;
      is_least =
          All-cons (λ other. passes other ≡ true → x.number ≤ other.number) x xs (λ yes. omega arith)
          (λ k d lt yes. let later = rising zero (suc k) d (omega arith) (omega arith) in omega arith);
    })
one_first passes false x xs is rising rest = rw is (lifted passes x xs (slice_get (filter passes xs) 0) is rest)

first_least : (passes : Message → Bool) (ms : List Message) → AreRising ms → IsLeastOrNone passes ms (slice_get (filter passes ms) 0)
first_least passes [] rising = All-nil (λ m. passes m ≡ false)
first_least passes (x ∷ xs) rising =
    one_first passes (passes x) x xs refl rising
    (first_least passes xs (λ i j d lt within. rising (suc i) (suc j) d (omega arith) (omega arith)))

pub pending-least : PendingIsLeast
pending-least order rising behind =
    subst (λ ms. IsLeastOrNone (waits order) order (slice_get ms 0)) (sym (unanswered-by_none order behind)) (first_least (waits order) order rising)

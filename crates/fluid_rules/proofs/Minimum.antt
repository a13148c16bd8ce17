-- Of a ledger: the joined ids, and the minimum in terms of what is said of each client.
use Rattle.std.proofs.Common.{◌≡◌, ℕ, ◌≤◌, ◌+◌, List, [], ◌∷◌, ◌++◌, reverse, refl, sym, ◌∙◌, inl, inr, arith, add_comm, Option, Some, None, is_some, length-append}
use Rattle.std.proofs.lemmas.List.{reverse-append}
use Rattle.fluid_types.specs.Ledger.{Ledger, order, seq}
use Rattle.fluid_types.proofs.Ledgers.{order-append}
use Rattle.fluid_rules.specs.Past.{Entry, Client, IsLeast, has_id, AreInOrder}
use Rattle.fluid_rules.specs.Rules.{past_of, is_joined, client, joined, minimum}
use Rattle.fluid_rules.proofs.Joined as said

-- an id is among the joined ids exactly where its client is joined
pub joined-has : (ledger : Ledger) (c : List ℕ) → has_id c (joined ledger) ≡ is_joined ledger c
unfolding joined is_joined
joined-has ledger c = said.joined-has (past_of ledger) c

-- the joined ids stand in byte order, each once
pub joined-in_order : (ledger : Ledger) → AreInOrder (joined ledger)
unfolding joined
joined-in_order ledger = said.joined-in_order (past_of ledger)

-- something is said of the joined clients alone
pub is_joined-client : (ledger : Ledger) (c : List ℕ) → is_joined ledger c ≡ is_some (client ledger c)
unfolding is_joined client
is_joined-client ledger c = sym (said.client-joined (past_of ledger) c)

seq-append : (first second : Ledger) → seq (first ++ second) ≡ seq first + seq second
unfolding seq
seq-append first second = rw (order-append first second) (length-append (order first) (order second))

reverse-cons : (entry : Entry) (ledger : Ledger) → reverse (entry ∷ ledger) ≡ reverse ledger ++ entry ∷ []
reverse-cons entry ledger = reverse-append (entry ∷ []) ledger

seq-reverse : (ledger : Ledger) → seq (reverse ledger) ≡ seq ledger
seq-reverse [] = refl
seq-reverse (entry ∷ ledger) =
    rw (reverse-cons entry ledger, seq-append (reverse ledger) (entry ∷ []), seq-reverse ledger)
    (add_comm (seq ledger) (seq (entry ∷ [])) ∙ sym (seq-append (entry ∷ []) ledger))

-- a past has as many messages as its ledger
pub seq-past_of : (ledger : Ledger) → seq (past_of ledger) ≡ seq ledger
unfolding past_of
seq-past_of ledger = seq-reverse ledger

-- the minimum is the least reference of the joined clients, and the last sequence number where there is none
pub minimum-is_least : (ledger : Ledger) → IsLeast (client ledger) (seq ledger) (minimum ledger)
unfolding past_of client minimum
minimum-is_least ledger = rw (sym (seq-reverse ledger)) (said.minimum-least (past_of ledger))

least_both : (said : List ℕ → Option Client) (sequence m n : ℕ) → IsLeast said sequence m → IsLeast said sequence n → m ≤ n
least_both said sequence m n first second =
    elim second.reached [
      | inl found ↦ let bound : m ≤ found.1.0.reference = first.below found.0 found.1.0 found.1.1.0 in omega (arith, found.1.1.1)
      | inr nobody ↦ elim first.reached [
        | inl other ↦ absurd (let no : Some other.1.0 ≡ None = sym other.1.1.0 ∙ nobody.0 other.0 in cc)
        | inr none ↦ omega (arith, nobody.1, none.1)
      ]
    ]

-- there is one least reference
pub least-unique : (said : List ℕ → Option Client) (sequence m n : ℕ) → IsLeast said sequence m → IsLeast said sequence n → m ≡ n
least-unique said sequence m n first second =
    let one : m ≤ n = least_both said sequence m n first second in
    let other : n ≤ m = least_both said sequence n m second first in
    omega arith

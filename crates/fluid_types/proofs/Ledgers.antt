-- One more entry at the end of a ledger.
use Rattle.std.proofs.Common.{◌≡◌, ◌+◌, ◌≤◌, arith, [], ◌∷◌, ◌++◌, length, refl, ap, ◌∙◌, sym, append_assoc, append-nil, length-append}
use Rattle.std.proofs.lemmas.List.{map-append}
use Rattle.fluid_types.specs.declared.entries.Raw.{Raw}
use Rattle.fluid_types.specs.declared.verdicts.Verdict.{Verdict}
use Rattle.fluid_types.specs.declared.verdicts.Verdict.TheVariants.{Sequenced, Nacked, Dropped, Absorbed}
use Rattle.fluid_types.specs.Ledger.{Ledger, messages_of, order, seq, raws}

pub order-append : (first second : Ledger) → order (first ++ second) ≡ order first ++ order second
unfolding order
order-append [] second = refl
order-append (entry ∷ first) second = rw (order-append first second) (sym (append_assoc (messages_of entry.1) (order first) (order second)))

pub order-push : (ledger : Ledger) (entry : Raw × Verdict) → order (ledger ++ entry ∷ []) ≡ order ledger ++ messages_of entry.1
unfolding order
order-push ledger entry = order-append ledger (entry ∷ []) ∙ ap (λ last. order ledger ++ last) (append-nil (messages_of entry.1))

pub seq-push : (ledger : Ledger) (entry : Raw × Verdict) → seq (ledger ++ entry ∷ []) ≡ seq ledger + length (messages_of entry.1)
unfolding seq
seq-push ledger entry = rw (order-push ledger entry) (length-append (order ledger) (messages_of entry.1))

pub raws-push : (ledger : Ledger) (entry : Raw × Verdict) → raws (ledger ++ entry ∷ []) ≡ raws ledger ++ entry.0 ∷ []
unfolding raws
raws-push ledger entry = map-append (λ e. e.0) ledger (entry ∷ [])

messages_few : (verdict : Verdict) → length (messages_of verdict) ≤ 1
messages_few (Sequenced message) = omega arith
messages_few (Nacked nack) = omega arith
messages_few Dropped = omega arith
messages_few Absorbed = omega arith

-- no more messages than entries
pub seq-le_length : (ledger : Ledger) → seq ledger ≤ length ledger
unfolding seq order
seq-le_length [] = omega arith
seq-le_length (entry ∷ ledger) =
    omega (arith, length-append (messages_of entry.1) (order ledger), messages_few entry.1, seq-le_length ledger)

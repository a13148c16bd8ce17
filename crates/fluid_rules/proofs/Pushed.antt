-- One more entry at the end of a ledger: what the ledger then says.
use Rattle.std.proofs.Common.{◌≡◌, ℕ, List, [], ◌∷◌, ◌++◌, ◌∙◌, ap}
use Rattle.std.proofs.lemmas.List.{reverse-append}
use Rattle.fluid_types.specs.Ledger.{Ledger, seq}
use Rattle.fluid_rules.specs.Past as past
use Rattle.fluid_rules.specs.Rules.{past_of, client, minimum}
use Rattle.fluid_rules.proofs.Minimum.{seq-past_of}
use Rattle.fluid_rules.proofs.Steps.{client_step}

pub past_of-push : (ledger : Ledger) (entry : past.Entry) → past_of (ledger ++ entry ∷ []) ≡ entry ∷ past_of ledger
unfolding past_of
past_of-push ledger entry = reverse-append ledger (entry ∷ [])

pub client-push : (ledger : Ledger) (entry : past.Entry) (c : List ℕ) →
    client (ledger ++ entry ∷ []) c ≡ past.client_behind entry (seq ledger) (minimum ledger) c (client ledger c)
unfolding client minimum
client-push ledger entry c =
    rw (past_of-push ledger entry)
    (client_step entry (past_of ledger) c
    ∙ ap (λ n. past.client_behind entry n (past.minimum (past_of ledger)) c (past.client (past_of ledger) c)) (seq-past_of ledger))

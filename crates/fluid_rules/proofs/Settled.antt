-- The minimum in a message is that of the ledger with its entry.
use Rattle.std.proofs.Common.{◌≡◌, ℕ, ◌+◌, List, [], ◌∷◌, ◌++◌, Option, Some, None, option_map, refl, sym, ◌∙◌, inl, inr}
use Rattle.fluid_types.specs.declared.entries.Raw.{Raw}
use Rattle.fluid_types.specs.declared.entries.Raw.TheVariants.{Join, Leave, Submit, Report}
use Rattle.fluid_types.specs.declared.messages.Message.{Message}
use Rattle.fluid_types.specs.declared.verdicts.Verdict.TheVariants.{Sequenced}
use Rattle.fluid_types.specs.Ledger.{Ledger, order, seq}
use Rattle.fluid_types.proofs.Ledgers.{seq-push}
use Rattle.fluid_rules.specs.Past.{Client, IsLeast, client_behind}
use Rattle.fluid_rules.specs.Rules.{client, minimum, unsettled, settled, message}
use Rattle.fluid_rules.specs.Scribe.{answer}
use Rattle.fluid_rules.proofs.Verdicts.{some_message}
use Rattle.fluid_rules.proofs.Minimum.{minimum-is_least, least-unique}
use Rattle.fluid_rules.proofs.Pushed.{client-push}

-- what is said of clients decides the least reference
pub least-same : (said other : List ℕ → Option Client) (sequence other_sequence least : ℕ) → ((c : List ℕ) → said c ≡ other c) → sequence ≡ other_sequence →
    IsLeast said sequence least → IsLeast other other_sequence least
least-same said other sequence other_sequence least same at is = record {
  below = λ c client h. is.below c client (same c ∙ h);
  reached = elim is.reached [
    | inl found ↦ inl (found.0, (found.1.0, (sym (same found.0) ∙ found.1.1.0, found.1.1.1)))
    | inr nobody ↦ inr (λ c. sym (same c) ∙ nobody.0 c, nobody.1 ∙ at)
  ];
}

-- two ledgers that say the same have the same minimum
pub minimum-same : (first second : Ledger) → ((c : List ℕ) → client first c ≡ client second c) → seq first ≡ seq second → minimum first ≡ minimum second
minimum-same first second same at =
    least-unique (client second) (seq second) (minimum first) (minimum second)
    (least-same (client first) (client second) (seq first) (seq second) (minimum first) same at (minimum-is_least first))
    (minimum-is_least second)

behind_same : (raw : Raw) (m : Message) (n sequence least : ℕ) (c : List ℕ) (before : Option Client) →
    client_behind (raw, Sequenced (record m { minimum = n })) sequence least c before ≡ client_behind (raw, Sequenced m) sequence least c before
behind_same (Join id scopes detail moment) m n sequence least c before = refl
behind_same (Leave id moment) m n sequence least c before = refl
behind_same (Submit id submission moment) m n sequence least c before = refl
behind_same (Report summary found moment) m n sequence least c before = refl

-- the minimum in a message has no part in the minimum of a ledger
pub minimum-settled : (ledger : Ledger) (raw : Raw) (m : Message) (n : ℕ) →
    minimum (ledger ++ (raw, Sequenced (record m { minimum = n })) ∷ []) ≡ minimum (ledger ++ (raw, Sequenced m) ∷ [])
minimum-settled ledger raw m n =
    minimum-same (ledger ++ (raw, Sequenced (record m { minimum = n })) ∷ []) (ledger ++ (raw, Sequenced m) ∷ [])
    (λ c. client-push ledger (raw, Sequenced (record m { minimum = n })) c
    ∙ behind_same raw m n (seq ledger) (minimum ledger) c (client ledger c)
    ∙ sym (client-push ledger (raw, Sequenced m) c))
    (seq-push ledger (raw, Sequenced (record m { minimum = n })) ∙ sym (seq-push ledger (raw, Sequenced m)))

settled_minimum : (ledger : Ledger) (raw : Raw) (o : Option Message) (m : Message) → option_map (settled ledger raw) o ≡ Some m →
    m.minimum ≡ minimum (ledger ++ (raw, Sequenced m) ∷ [])
settled_minimum ledger raw None m is = absurd (cc)
settled_minimum ledger raw (Some x) m is = rw (sym (some_message _ m is)) (sym (minimum-settled ledger raw x _))

-- a message carries the minimum that holds behind it
pub message-minimum : (ledger : Ledger) (raw : Raw) (m : Message) → message ledger raw ≡ Some m → m.minimum ≡ minimum (ledger ++ (raw, Sequenced m) ∷ [])
unfolding message
message-minimum ledger raw m is = settled_minimum ledger raw (unsettled (seq ledger + 1) (answer (order ledger)) raw) m is

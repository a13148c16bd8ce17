-- When a client was last heard of, and what the last message says, behind one entry more.
use Rattle.std.proofs.Common.{◌≡◌, ℕ, List, [], ◌∷◌, ◌++◌, append-nil, Option, Some, None, option_map, refl, ap}
use Rattle.std.specs.List.{last_or}
use Rattle.std.specs.Option.{unwrap_or}
use Rattle.fluid_types.specs.declared.messages.Message.{Message}
use Rattle.fluid_types.specs.declared.verdicts.Verdict.{Verdict}
use Rattle.fluid_types.specs.declared.verdicts.Verdict.TheVariants.{Sequenced, Nacked, Dropped, Absorbed}
use Rattle.fluid_types.specs.Ledger.{Ledger, messages_of, order}
use Rattle.fluid_types.proofs.Ledgers.{order-push}
use Rattle.fluid_rules.specs.Past as past
use Rattle.fluid_rules.specs.Past.{Entry, Past, speaking, latest}
use Rattle.fluid_rules.specs.Rules.{past_of, heard, last_minimum, last_minimum_behind}
use Rattle.fluid_rules.proofs.Pushed.{past_of-push}

heard_at : (said : Option ℕ) (entry : Entry) (before : Past) (c : List ℕ) → speaking c entry.0 ≡ said → past.heard (entry ∷ before) c ≡ unwrap_or said (past.heard before c)
unfolding past.heard
heard_at None entry before c is = rw is refl
heard_at (Some moment) entry before c is = rw is refl

-- an entry of a client is heard, whatever its verdict
pub heard-push : (l : Ledger) (entry : Entry) (c : List ℕ) → heard (l ++ entry ∷ []) c ≡ unwrap_or (speaking c entry.0) (heard l c)
unfolding heard
heard-push l entry c = rw (past_of-push l entry) (heard_at (speaking c entry.0) entry (past_of l) c refl)

last_or-push : (o : Option Message) (ms : List Message) (m : Message) → last_or o (ms ++ m ∷ []) ≡ Some m
last_or-push o [] m = refl
last_or-push o (x ∷ ms) m = last_or-push (Some x) ms m

said_behind : (ms : List Message) (verdict : Verdict) →
    unwrap_or (option_map (λ m. m.minimum) (last_or None (ms ++ messages_of verdict))) 0
    ≡ last_minimum_behind (unwrap_or (option_map (λ m. m.minimum) (last_or None ms)) 0) verdict
said_behind ms (Sequenced m) = ap (λ o. unwrap_or (option_map (λ m. m.minimum) o) 0) (last_or-push None ms m)
said_behind ms (Nacked nack) = ap (λ ms. unwrap_or (option_map (λ m. m.minimum) (last_or None ms)) 0) (append-nil ms)
said_behind ms Dropped = ap (λ ms. unwrap_or (option_map (λ m. m.minimum) (last_or None ms)) 0) (append-nil ms)
said_behind ms Absorbed = ap (λ ms. unwrap_or (option_map (λ m. m.minimum) (last_or None ms)) 0) (append-nil ms)

-- a message brings its minimum
pub last_minimum-push : (l : Ledger) (entry : Entry) → last_minimum (l ++ entry ∷ []) ≡ last_minimum_behind (last_minimum l) entry.1
unfolding last_minimum
last_minimum-push l entry = rw (order-push l entry) (said_behind (order l) entry.1)

-- The last messages of an order.
use Rattle.std.specs.Prelude.{◌≡◌, ℕ, ◌+◌, ◌-◌, ◌<◌, ◌≤◌, List, ◌++◌, length, take, drop, refl}
use Rattle.std.specs.Coded.{Coded, code_by, coded×, coded_ℕ, coded_list}
use Rattle.fluid_types.specs.declared.messages.Message.{Message}
use Rattle.fluid_types.specs.contracts.messages.Message as message

-- the number of the first, and the messages, which have the numbers from it on
pub record ATail : Type 0 where
  pub from : ℕ
  pub messages : List Message

-- those from one number to before another
abbrev pub stretch : ATail → (from to : ℕ) → List Message
stretch t from to = take (to - from) (drop (from - t.from) t.messages)

-- these were put at the end
abbrev pub with_more : List Message → ATail → ATail
with_more more t = record t { messages = t.messages ++ more }

-- more than a trimmed one has
abbrev pub too_many : ℕ
too_many = 4096

-- some of the first ones were let go, so that there aren't too many
pub record IsTrimmed (old new : ATail) : Type 0 where
  pub short : length new.messages < too_many
  pub count : ℕ
  pub few : count ≤ length old.messages
  pub from : new.from ≡ old.from + count
  pub messages : new.messages ≡ drop count old.messages

-- as a pair of its parts, for the proofs that tell values apart
abbrev pub tail_code : Coded ATail
tail_code =
    code_by (ℕ × List Message) (coded× coded_ℕ (coded_list message.the_row.coded)) (λ t. (t.from, t.messages)) (λ p. record { from = p.0; messages = p.1 }) (λ _. refl)

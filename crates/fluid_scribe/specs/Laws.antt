-- What a scribe keeps answers as the rules do.
use Rattle.std.specs.Prelude.{◌≡◌, ℕ, Bool, [], ◌∷◌, ◌++◌, length, fold}
use Rattle.fluid_types.specs.Ledger.{Ledger, order, messages_of}
use Rattle.fluid_quorum.specs.declared.state.ScribeState.{ScribeState}
use Rattle.fluid_rules.specs.Past.{Entry}
use Rattle.fluid_rules.specs.Rules.{IsLegal}
use Rattle.fluid_rules.specs.Scribe.{answer}
use Rattle.fluid_rules.specs.declared.answers.Answer.{Answer}
use Rattle.fluid_rules.specs.declared.answers.Answer.TheVariants.{Dropped, Ack, Refused}
use Rattle.fluid_scribe.specs.State.{state_of, start, after}
use Rattle.fluid_scribe.specs.Jobs.{answer_in, job_in, job}

-- of no messages nothing is kept
abbrev pub StartsSo : Type 0
StartsSo = state_of [] ≡ start

-- what is kept of a legal ledger's order with one entry more is what the message of that entry makes of what was kept before
abbrev pub StateGrows : Type 0
StateGrows =
    (l : Ledger) (entry : Entry) → IsLegal (l ++ entry ∷ []) → state_of (order (l ++ entry ∷ [])) ≡ fold after (state_of (order l)) (messages_of entry.1)

-- it answers as the rules do over the order
abbrev pub AnswersByRules : Type 0
AnswersByRules = (l : Ledger) → IsLegal l → (summary : ℕ) (found : Bool) → answer_in (state_of (order l)) summary found ≡ answer (order l) summary found

-- and describes the pending summarize
abbrev pub JobByRules : Type 0
JobByRules = (l : Ledger) → IsLegal l → job_in (state_of (order l)) ≡ job (order l)

-- a handle of 20 bytes, where an answer has one
abbrev pub HasHandle : Answer → Type 0
HasHandle Dropped = Unit {0}
HasHandle (Ack handle) = length handle ≡ 20
HasHandle (Refused rule) = Unit {0}

-- what is kept acknowledges by an id, whatever is kept
abbrev pub HandlesAreIds : Type 0
HandlesAreIds = (s : ScribeState) (summary : ℕ) (found : Bool) → HasHandle (answer_in s summary found)

-- What is known of a connection.
use Rattle.std.specs.Prelude.{◌≡◌, ◌<◌, ◌≤◌, ℕ, ◌+◌, Bool, true, List, ◌++◌, length, Option, is_some}
use Rattle.fluid_turn.specs.declared.view.Numbered.{Numbered}
use Rattle.fluid_turn.specs.Entries.{IsPrefix, entries, made_by}
use Rattle.fluid_types.specs.Ledger.{Ledger, order}
use Rattle.fluid_types.specs.declared.messages.Message.{Message}
use Rattle.fluid_rules.specs.declared.limits.Limits.{Limits}
use Rattle.fluid_rules.specs.Rules.{IsLegal}
use Rattle.fluid_types.specs.Forms.{largest}
use Rattle.fluid_lane.specs.declared.steps.Step.{Step}
use Rattle.fluid_lane.specs.Steps.{ledger}
use Rattle.fluid_voice.specs.declared.states.VoiceState.{VoiceState}
use Rattle.fluid_voice.specs.States.{document_name, is_connected, next_number}
use Rattle.fluid_opening.specs.declared.shelf.ShelfStep.{ShelfStep}
use Rattle.fluid_opening.specs.declared.opening.TheConstants.{MOST_DOCUMENTS}
use Rattle.fluid_opening.specs.Steps.{opened}

-- ---- what is known

-- a pass of a document: the document's name, its limits and whether its keeper tells its content, which never change; the
-- number of the pass, the steps that it has seen, oldest first, and those of them that it entered. Before a document is reached
-- there is no name, and the lists are empty
pub record Knowing : Type 0 where
  pub name : Option (List ℕ)
  pub limits : Limits
  pub told : Bool
  pub number : ℕ
  pub seen : List (Numbered Step)
  pub mine : List Step

-- a key of a service: the limits of its documents, whether its shelves tell their keepers, and the number of the key, which never
-- change; the steps of the shelf that it has seen, and those of them that it made
pub record Keyed : Type 0 where
  pub limits : Limits
  pub told : Bool
  pub number : ℕ
  pub seen : List (Numbered ShelfStep)
  pub mine : List ShelfStep

-- a connection: where it stands, the pass of the last document that it reached, the pass that was handed to it, which it has until it
-- is connected, and its key
pub record Talking : Type 0 where
  pub voice : VoiceState
  pub pass : Knowing
  pub handed : Knowing
  pub key : Keyed

-- ---- what a pass says of its document

-- the ledger of the entered steps, and the messages of its order
abbrev pub ledger_of : List (Numbered Step) → Ledger
ledger_of seen = ledger (entries seen)

abbrev pub order_of : List (Numbered Step) → List Message
order_of seen = order (ledger_of seen)

-- the number behind the last one
abbrev pub number_behind_last : List (Numbered Step) → ℕ
number_behind_last seen = length (order_of seen) + 1

-- ---- what a key says of its service

-- the names of the documents that were opened, in order
abbrev pub opened_by : Keyed → List (List ℕ)
opened_by k = opened (entries k.seen)

-- it is a pass of one of the service's documents: it has their limits, and its keeper tells its content where the shelves tell their
-- keepers
pub record IsServed (k : Keyed) (p : Knowing) : Type 0 where
  pub limits : p.limits ≡ k.limits
  pub told : k.told ≡ true → p.told ≡ true

-- the same of a pass that may have no document yet
abbrev pub MayBeServed : Keyed → Knowing → Type 0
MayBeServed k p = is_some p.name ≡ true → IsServed k p

-- ---- what holds of every connection

-- One that is connected has a pass of its document. The number of the message that is delivered next isn't 0 then, and not above the
-- one behind the last message. Pass and key have as their own those of the seen steps that bear their numbers, in order. The entered
-- steps of a document whose keeper tells its content are a legal ledger, and not more documents were opened than may be open
pub record IsSound (t : Talking) : Type 0 where
  pub named : is_connected t.voice ≡ true → t.pass.name ≡ document_name t.voice
  pub first : is_connected t.voice ≡ true → 0 < next_number t.voice
  pub next : is_connected t.voice ≡ true → t.pass.told ≡ true → next_number t.voice ≤ number_behind_last t.pass.seen
  pub few : is_connected t.voice ≡ true → length t.pass.seen ≤ largest
  pub own : t.pass.mine ≡ made_by t.pass.number t.pass.seen
  pub legal : t.pass.told ≡ true → IsLegal (ledger_of t.pass.seen)
  pub key_own : t.key.mine ≡ made_by t.key.number t.key.seen
  pub key_few : length (opened_by t.key) ≤ MOST_DOCUMENTS

-- ---- what never changes, and how a pass goes on

-- it is a pass of the same document with the same number
pub record IsSamePass (p q : Knowing) : Type 0 where
  pub name : q.name ≡ p.name
  pub limits : q.limits ≡ p.limits
  pub told : q.told ≡ p.told
  pub number : q.number ≡ p.number

-- what it has seen begins with what it had seen, and it entered these steps
pub record Goes (p q : Knowing) (added : List Step) : Type 0 where
  pub same : IsSamePass p q
  pub seen : IsPrefix p.seen q.seen
  pub mine : q.mine ≡ p.mine ++ added

-- it is a key of the same service with the same number
pub record IsSameKey (k m : Keyed) : Type 0 where
  pub limits : m.limits ≡ k.limits
  pub told : m.told ≡ k.told
  pub number : m.number ≡ k.number

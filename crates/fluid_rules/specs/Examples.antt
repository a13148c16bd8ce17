-- Worked examples: the numbers and minima of small ledgers.
use Rattle.std.specs.Prelude.{◌≡◌, ℕ, ℤ, pos, negsuc, true, false, List, [], ◌∷◌, ◌++◌, map, None, Some, codes}
use Rattle.fluid_json.specs.Tree.{Tree, null, text}
use Rattle.fluid_types.specs.declared.entries.Raw.{Raw}
use Rattle.fluid_types.specs.declared.entries.Raw.TheVariants.{Join, Leave, Submit}
use Rattle.fluid_types.specs.declared.entries.Scopes.{Scopes}
use Rattle.fluid_types.specs.declared.entries.Submission.{Submission}
use Rattle.fluid_types.specs.declared.entries.Offered.TheVariants.{Op, Noop, Summarize}
use Rattle.fluid_types.specs.declared.verdicts.Verdict.{Verdict}
use Rattle.fluid_types.specs.declared.verdicts.Verdict.TheVariants.{Sequenced, Nacked, Dropped, Absorbed}
use Rattle.fluid_types.specs.declared.nacks.NackRule.{NackRule}
use Rattle.fluid_types.specs.declared.nacks.NackRule.TheVariants.{Gap, Nonexistent, Below, Ahead, Scope}
use Rattle.fluid_types.specs.declared.messages.Kind.TheVariants as kind
use Rattle.fluid_rules.specs.Rules.{message, ledger, reference, minimum, last_minimum, lifted, heard}

-- what a verdict shows: the number and the minimum of a message, or the rule and the minimum of a nack
pub data Shown : Type 0 where
  at : ℕ → ℕ → Shown
  nacked : NackRule → ℤ → Shown
  dropped : Shown
  absorbed : Shown

abbrev pub shown : Verdict → Shown
shown (Sequenced message) = at message.number message.minimum
shown (Nacked nack) = nacked nack.rule nack.minimum
shown Dropped = dropped
shown Absorbed = absorbed

abbrev pub verdicts : List Raw → List Shown
verdicts raws = map (λ entry. shown entry.1) (ledger raws)

abbrev pub read_write : Scopes
read_write = record { read = true; write = true; summary = false }

abbrev pub join : List ℕ → Raw
join id = Join id read_write null 5

abbrev pub op : List ℕ → ℕ → ℤ → Raw
op id number reference =
    Submit id (record { client_number = number; reference = reference; kind = Op; contents = null; metadata = None }) 7

abbrev pub leave : List ℕ → Raw
leave id = Leave id 8

-- one join, and two; a second join of a joined client is dropped
abbrev pub OneJoin : Type 0
OneJoin = verdicts (join (codes "A") ∷ []) ≡ (at 1 0 ∷ [])

-- the message of a first join
abbrev pub FirstMessage : Type 0
FirstMessage =
    message [] (join (codes "A"))
    ≡ Some (record {
      client = None;
      client_number = negsuc 0;
      reference = negsuc 0;
      number = 1;
      minimum = 0;
      kind = kind.Join;
      contents = null;
      system = Some (codes "{\"clientId\":\"A\",\"detail\":null}");
      metadata = None;
      moment = 5;
    })

abbrev pub TwoJoins : Type 0
TwoJoins = verdicts (join (codes "A") ∷ join (codes "B") ∷ join (codes "A") ∷ []) ≡ (at 1 0 ∷ at 2 0 ∷ dropped ∷ [])

-- A joins, B joins, and each submits: the minimum becomes the reference of A
abbrev pub two_writers : List Raw
two_writers = join (codes "A") ∷ join (codes "B") ∷ op (codes "A") 1 (pos 2) ∷ op (codes "B") 1 (pos 3) ∷ []

abbrev pub TwoWriters : Type 0
TwoWriters = verdicts two_writers ≡ (at 1 0 ∷ at 2 0 ∷ at 3 0 ∷ at 4 2 ∷ [])

-- then A refers to a message below the minimum, and is held there
abbrev pub below_minimum : List Raw
below_minimum = two_writers ++ (op (codes "A") 2 (pos 1) ∷ op (codes "B") 2 (pos 4) ∷ [])

abbrev pub BelowMinimum : Type 0
BelowMinimum = verdicts below_minimum ≡ (at 1 0 ∷ at 2 0 ∷ at 3 0 ∷ at 4 2 ∷ nacked Below (pos 2) ∷ at 5 2 ∷ [])

-- a duplicate of a client that was refused so is dropped, a gap is told first, and all else of it is refused
abbrev pub after_refusal : List Raw
after_refusal = below_minimum ++ (op (codes "A") 2 (pos 4) ∷ op (codes "A") 4 (pos 4) ∷ op (codes "A") 3 (pos 4) ∷ op (codes "A") 3 (pos 4) ∷ [])

abbrev pub AfterRefusal : Type 0
AfterRefusal =
    verdicts after_refusal
    ≡ (at 1 0 ∷ at 2 0 ∷ at 3 0 ∷ at 4 2 ∷ nacked Below (pos 2) ∷ at 5 2 ∷ dropped ∷ nacked Gap (pos 2) ∷ nacked Nonexistent (pos 2) ∷ nacked Nonexistent (pos 2) ∷ [])

-- both leave, and nobody is joined; then C joins, and D, who never joined, submits
abbrev pub after_leaving : List Raw
after_leaving =
    after_refusal
    ++ (leave (codes "A") ∷ leave (codes "B") ∷ leave (codes "B") ∷ join (codes "C") ∷ op (codes "D") 1 (pos 8) ∷ [])

-- C leaves its reference to the service, refers ahead of the order, and goes on with the same number
abbrev pub whole_story : List Raw
whole_story =
    after_leaving ++ (op (codes "C") 1 (negsuc 0) ∷ op (codes "C") 2 (pos 10) ∷ op (codes "C") 2 (pos 9) ∷ op (codes "C") 0 (pos 9) ∷ [])

abbrev pub WholeStory : Type 0
WholeStory =
    verdicts whole_story
    ≡ (at 1 0 ∷ at 2 0 ∷ at 3 0 ∷ at 4 2 ∷ nacked Below (pos 2) ∷ at 5 2 ∷ dropped ∷ nacked Gap (pos 2) ∷ nacked Nonexistent (pos 2)
    ∷ nacked Nonexistent (pos 2) ∷ at 6 4 ∷ at 7 7 ∷ dropped ∷ at 8 7 ∷ nacked Nonexistent (pos 7) ∷ at 9 9 ∷ nacked Ahead (pos 9) ∷ at 10 9
    ∷ dropped ∷ [])

-- a summarize of a client that may not write summaries
abbrev pub summarize : List ℕ → ℕ → ℤ → Raw
summarize id number reference =
    Submit id (record { client_number = number; reference = reference; kind = Summarize; contents = null; metadata = None }) 7

abbrev pub WithoutScope : Type 0
WithoutScope =
    verdicts (join (codes "A") ∷ summarize (codes "A") 1 (pos 1) ∷ op (codes "A") 1 (pos 1) ∷ [])
    ≡ (at 1 0 ∷ nacked Scope (pos 0) ∷ at 2 1 ∷ [])

-- ---- noops

abbrev pub noop_with : Tree → ℕ → ℤ → Submission
noop_with contents number reference = record { client_number = number; reference = reference; kind = Noop; contents = contents; metadata = None }

-- a noop with null contents asks for no number; one with others does
abbrev pub quiet : List ℕ → ℕ → ℤ → Raw
quiet id number reference = Submit id (noop_with null number reference) 9

abbrev pub loud : List ℕ → ℕ → ℤ → Raw
loud id number reference = Submit id (noop_with (text (codes "x")) number reference) 10

-- A's first noop is absorbed; B's lifts the minimum to 2 and is sequenced; its next lifts nothing
abbrev pub two_noops : List Raw
two_noops =
    join (codes "A") ∷ join (codes "B") ∷ quiet (codes "A") 1 (pos 2) ∷ loud (codes "B") 1 (pos 2) ∷ loud (codes "B") 2 (pos 3) ∷ []

-- a repeat of an absorbed one is dropped, one that leaves its reference to the service is absorbed, and an op of the next number is
-- sequenced with the minimum 3
abbrev pub noops : List Raw
noops = two_noops ++ (quiet (codes "A") 1 (pos 2) ∷ quiet (codes "A") 2 (negsuc 0) ∷ op (codes "A") 3 (pos 3) ∷ [])

abbrev pub Noops : Type 0
Noops = verdicts noops ≡ (at 1 0 ∷ at 2 0 ∷ absorbed ∷ at 3 2 ∷ absorbed ∷ dropped ∷ absorbed ∷ at 4 3 ∷ [])

-- the first two joins and A's noop: A is known to have seen 2 and B nothing, and B's noop would lift the minimum from 0 to 2
pub record WhatIsLifted : Type 0 where
  pub of_a : reference (ledger (join (codes "A") ∷ join (codes "B") ∷ quiet (codes "A") 1 (pos 2) ∷ [])) (codes "A") ≡ 2
  pub by_b : lifted (ledger (join (codes "A") ∷ join (codes "B") ∷ quiet (codes "A") 1 (pos 2) ∷ [])) (codes "B") (noop_with null 1 (pos 2)) ≡ 2
  -- its own old reference has no part in it, and that of the other has
  pub by_a : lifted (ledger two_noops) (codes "A") (noop_with null 2 (negsuc 0)) ≡ 3
  pub by_a_alone : lifted (ledger (join (codes "A") ∷ [])) (codes "A") (noop_with null 1 (negsuc 0)) ≡ 1
  pub held_back : lifted (ledger (join (codes "A") ∷ join (codes "B") ∷ [])) (codes "A") (noop_with null 1 (pos 2)) ≡ 0

-- an absorbed noop may lift the minimum above that of the last message
pub record WhatTheLastSays : Type 0 where
  pub at_first : last_minimum [] ≡ 0
  pub of_message : last_minimum (ledger two_noops) ≡ 2
  pub behind_it : minimum (ledger (two_noops ++ quiet (codes "A") 2 (negsuc 0) ∷ [])) ≡ 3
  pub still : last_minimum (ledger (two_noops ++ quiet (codes "A") 2 (negsuc 0) ∷ [])) ≡ 2

-- a join, a dropped join, a refused op, an absorbed noop and a dropped repeat move the moment of their client, and of no other
pub record WhenHeard : Type 0 where
  pub by_join : heard (ledger (join (codes "A") ∷ [])) (codes "A") ≡ 5
  pub again : heard (ledger (join (codes "A") ∷ Join (codes "A") read_write null 6 ∷ [])) (codes "A") ≡ 6
  pub by_refused : heard (ledger (join (codes "A") ∷ op (codes "A") 3 (pos 1) ∷ [])) (codes "A") ≡ 7
  pub by_absorbed : heard (ledger (join (codes "A") ∷ quiet (codes "A") 1 (pos 1) ∷ [])) (codes "A") ≡ 9
  pub repeated : heard (ledger (join (codes "A") ∷ quiet (codes "A") 1 (pos 1) ∷ op (codes "A") 1 (pos 1) ∷ [])) (codes "A") ≡ 7
  pub another : heard (ledger (join (codes "A") ∷ Join (codes "B") read_write null 6 ∷ [])) (codes "A") ≡ 5

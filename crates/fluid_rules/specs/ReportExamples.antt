-- Worked examples of reports: their verdicts over small ledgers, and the messages of their answers.
use Rattle.std.specs.Prelude.{◌≡◌, ℕ, pos, Bool, true, false, List, [], ◌∷◌, ◌++◌, Option, Some, None, option_map, codes}
use Rattle.fluid_json.specs.Tree.{null}
use Rattle.fluid_json.specs.Printed as json
use Rattle.fluid_types.specs.declared.entries.Raw.{Raw}
use Rattle.fluid_types.specs.declared.entries.Raw.TheVariants.{Join, Submit, Report}
use Rattle.fluid_types.specs.declared.entries.Offered.TheVariants as offered
use Rattle.fluid_types.specs.declared.messages.Kind.{Kind}
use Rattle.fluid_types.specs.declared.messages.Kind.TheVariants.{SummaryAck, SummaryNack}
use Rattle.fluid_types.specs.Blobs.{blobs}
use Rattle.fluid_types.specs.Ledger.{order}
use Rattle.fluid_rules.specs.Examples.{at, dropped, verdicts, op, leave}
use Rattle.fluid_rules.specs.Rules.{system_message, message, ledger}
use Rattle.fluid_rules.specs.Scribe.{version, ack_contents}
use Rattle.fluid_rules.specs.ScribeExamples.{asking, empty_tree, empty_tree_text, empty_blob_text}

-- A joins with all scopes, and asks for a summary that builds on this head
abbrev pub asked : List ℕ → List Raw
asked head =
    Join (codes "A") (record { read = true; write = true; summary = true }) null 5
    ∷ Submit (codes "A")
    (record { client_number = 1; reference = pos 1; kind = offered.Summarize; contents = asking empty_tree_text head; metadata = None }) 6
    ∷ []

abbrev pub report : ℕ → Bool → Raw
report summary found = Report summary found 7

-- the kind of the message of the last entry, and its contents as a text
abbrev pub answered : List Raw → Raw → Option (Kind × List ℕ)
answered before last = option_map (λ m. (m.kind, json.printed m.contents)) (message (ledger before) last)

-- its tree isn't stored: a summaryNack. The same report again is dropped, and so is one that found the tree
pub record NotStored : Type 0 where
  pub verdicts_are :
      verdicts (asked [] ++ (report 2 false ∷ report 2 false ∷ report 2 true ∷ [])) ≡ (at 1 0 ∷ at 2 1 ∷ at 3 1 ∷ dropped ∷ dropped ∷ [])
  pub says :
      answered (asked []) (report 2 false)
      ≡ Some (SummaryNack, codes "{\"code\":400,\"message\":\"summary tree is not stored\",\"summaryProposal\":{\"summarySequenceNumber\":2}}")

-- its tree is stored: a summaryAck of the version with the order's state at 1. The same report again is dropped
pub record Stored : Type 0 where
  pub verdicts_are : verdicts (asked [] ++ (report 2 true ∷ report 2 true ∷ [])) ≡ (at 1 0 ∷ at 2 1 ∷ at 3 1 ∷ dropped ∷ [])
  pub message_is :
      message (ledger (asked [])) (report 2 true)
      ≡ Some (record (system_message SummaryAck 3 None 7) {
        minimum = 1;
        contents = ack_contents 2 (version empty_tree (blobs (order (ledger (asked []))) 1));
      })

-- it builds on a summary that isn't the last acknowledged one: a summaryNack, whatever was found
pub record BuiltOnAnother : Type 0 where
  pub verdict_is : verdicts (asked empty_blob_text ++ report 2 true ∷ []) ≡ (at 1 0 ∷ at 2 1 ∷ at 3 1 ∷ [])
  pub says :
      answered (asked empty_blob_text) (report 2 true)
      ≡ Some (SummaryNack, codes "{\"code\":400,\"message\":\"head is not the last acknowledged summary\",\"summaryProposal\":{\"summarySequenceNumber\":2}}")
  pub whatever_is_found : answered (asked empty_blob_text) (report 2 false) ≡ answered (asked empty_blob_text) (report 2 true)

-- a report on the join, on an op, or on a number that isn't there yet is dropped
abbrev pub OnOthers : Type 0
OnOthers =
    verdicts (asked [] ++ (op (codes "A") 2 (pos 2) ∷ report 1 true ∷ report 3 false ∷ report 4 true ∷ report 2 false ∷ []))
    ≡ (at 1 0 ∷ at 2 1 ∷ at 3 2 ∷ dropped ∷ dropped ∷ dropped ∷ at 4 2 ∷ [])

-- where nobody is joined any more, the minimum of an answer is its own number
abbrev pub NobodyJoined : Type 0
NobodyJoined = verdicts (asked [] ++ (leave (codes "A") ∷ report 2 false ∷ [])) ≡ (at 1 0 ∷ at 2 1 ∷ at 3 3 ∷ at 4 4 ∷ [])

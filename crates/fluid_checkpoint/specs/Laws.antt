-- What is printed is read back.
use Rattle.std.specs.Prelude.{◌≡◌, ℕ, ◌≤◌, List, All, length, IsTrue, IsUtf8, Ok}
use Rattle.std.specs.Ordering.{nat_cmp}
use Rattle.std.specs.FinMap.{entries, is_sorted}
use Rattle.hex.specs.Hex.{IsBytes}
use Rattle.fluid_table.specs.Table.{byte_order}
use Rattle.fluid_json.specs.Tree.{IsCanonical, depth}
use Rattle.fluid_types.specs.Forms.{largest}
use Rattle.fluid_types.specs.Names.{IsName}
use Rattle.fluid_types.specs.Quorum.{Quorum}
use Rattle.fluid_types.specs.declared.messages.Kind.{Kind}
use Rattle.fluid_types.specs.declared.messages.Message.{Message}
use Rattle.fluid_tree.specs.declared.id.SummaryRef.{SummaryRef}
use Rattle.fluid_clients.specs.declared.table.Row.{Row}
use Rattle.fluid_clients.specs.Table.{Rows}
use Rattle.fluid_codec.specs.Laws.{IsMessage}
use Rattle.fluid_quorum.specs.Node.{node_of, AreTexts}
use Rattle.fluid_quorum.specs.Reading as blobs
use Rattle.fluid_rules.specs.Scribe.{is_summarize}
use Rattle.fluid_scribe.specs.State.{is_heard}
use Rattle.fluid_checkpoint.specs.declared.state.State.{State}
use Rattle.fluid_checkpoint.specs.declared.state.Form.TheVariants.{One, Two}
use Rattle.fluid_checkpoint.specs.declared.version.Version.TheVariants as version
use Rattle.fluid_checkpoint.specs.Heard.{moments_of, with_moments, without_moments}
use Rattle.fluid_checkpoint.specs.Text.{base_tree, state_tree, first_printed, state_printed}
use Rattle.fluid_checkpoint.specs.Reading.{are_numbered, answer}

-- ---- when a state is in the form

pub record IsAck (ack : SummaryRef) : Type 0 where
  pub size : length ack.handle ≡ 20
  pub bytes : IsBytes ack.handle
  pub number : ack.number ≤ largest

pub record IsClient (client : List ℕ × Row) : Type 0 where
  pub id : IsName client.0
  pub last : client.1.last ≤ largest
  pub reference : client.1.reference ≤ largest

pub record IsMoment (heard : List ℕ × ℕ) : Type 0 where
  pub id : IsName heard.0
  pub moment : heard.1 ≤ largest

pub record IsChange (change : ℕ × ℕ) : Type 0 where
  pub number : change.0 ≤ largest
  pub minimum : change.1 ≤ largest

-- a quorum that its blobs say
pub record IsBase (base : Quorum) : Type 0 where
  pub canonical : IsCanonical (base_tree base)
  pub read_back : blobs.answer (node_of base) ≡ Ok base

-- messages of such kinds
pub record AreMessages (is_such : Kind → _) (ms : List Message) : Type 0 where
  pub each : All IsMessage ms
  pub kinds : All (λ m. IsTrue (is_such m.kind)) ms
  pub numbered : IsTrue (are_numbered ms)

-- its numbers are at most 2^53 - 1, its names are names, its lists are in order, and each moment is that of its client's row
pub record IsInForm (s : State) : Type 0 where
  pub entered : s.entered ≤ largest
  pub counted : s.counted ≤ largest
  pub sequence : s.sequencer.sequence ≤ largest
  pub minimum : s.sequencer.minimum ≤ largest
  pub clients : All IsClient (entries s.sequencer.rows)
  pub moments : All IsMoment s.heard
  pub ids : IsTrue (is_sorted byte_order s.heard)
  pub heard : with_moments (without_moments s.sequencer.rows) s.heard ≡ s.sequencer.rows
  pub base : IsBase s.scribe.base
  pub behind : AreMessages is_heard s.scribe.behind
  pub minima : All IsChange s.scribe.minima
  pub changes : IsTrue (is_sorted nat_cmp s.scribe.minima)
  pub pending : AreMessages is_summarize s.scribe.pending
  pub acks : All IsAck s.scribe.acks
  pub shallow : depth (state_tree version.Two s) ≤ 120

-- contracts see a text as a list of numbers, so that the texts are UTF-8 has to be said; `print` says it of what it writes
pub record IsWritten (s : State) : Type 0 where
  pub utf8 : IsUtf8 (state_printed s)
  pub blobs : AreTexts s.scribe.base

-- ---- the laws

-- a state in the form is read back from its text as itself
abbrev pub IsReadBack : Type 0
IsReadBack = (s : State) → IsInForm s → IsWritten s → answer (state_printed s) ≡ Ok (Two s)

-- and its text in version 1 is read as the number of its entries
abbrev pub FirstIsRead : Type 0
FirstIsRead = (s : State) → IsInForm s → IsUtf8 (first_printed s) → answer (first_printed s) ≡ Ok (One s.entered)

-- moments that are taken out of rows and written down again are where they were
abbrev pub MomentsAreJoined : Type 0
MomentsAreJoined = (rows : Rows) → with_moments (without_moments rows) (moments_of rows) ≡ rows

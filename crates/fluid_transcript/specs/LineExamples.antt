-- Worked examples: the forms of lines, connections, edits, and which lines are refused.
use Rattle.std.specs.Prelude.{◌≡◌, [], ◌∷◌, List, ℕ, pos, true, false, Some, None, codes}
use Rattle.std.specs.FinMap.{empty, insert}
use Rattle.fluid_json.specs.Tree.{null, text, object, members, whole}
use Rattle.fluid_types.specs.declared.entries.Raw.TheVariants.{Join, Submit}
use Rattle.fluid_types.specs.declared.entries.Offered.TheVariants.{Op}
use Rattle.fluid_types.specs.declared.nacks.NackRule.TheVariants.{Scope}
use Rattle.fluid_rules.specs.declared.answers.Answer.TheVariants.{Ack, Refused}
use Rattle.fluid_rules.specs.declared.answers.SummaryRule.TheVariants.{StaleHead}
use Rattle.fluid_edits.specs.declared.edit.Edit.TheVariants.{Attach, Clear, Increment}
use Rattle.fluid_edits.specs.declared.edit.ChannelKind.TheVariants.{Map, Counter}
use Rattle.fluid_edits.specs.Replay.{no_channels}
use Rattle.fluid_loader.specs.Submitting.{numbered}
use Rattle.fluid_steps.specs.declared.refusal.LineWhy.TheVariants.{UnknownStep, BadStep, NameInUse, UnknownName}
use Rattle.fluid_steps.specs.declared.steps.Step.TheVariants.{Count, Load, Sweep, Tasks}
use Rattle.fluid_loader.specs.declared.link.Pick.TheVariants as pick
use Rattle.fluid_voice.specs.declared.actions.Act.TheVariants as act
use Rattle.fluid_voice.specs.declared.states.VoiceState.TheVariants.{Fresh, Reading, Writing}
use Rattle.fluid_transcript.specs.World.{Document, Container, new_document, connection, used_up, ledger_of}
use Rattle.fluid_transcript.specs.Lines.{clash_line, answer_line, scribe_clash_line, stored_line, large_line, bad_summary_line, summarized_line, shown_line, refused_line}
use Rattle.fluid_transcript.specs.Connections.{Hearing, hear, delivered, closed}
use Rattle.fluid_transcript.specs.Containers.{all_scopes, edited}
use Rattle.fluid_transcript.specs.Steps.{beyond}
use Rattle.fluid_transcript.specs.Transcript.{text_refusal, lines_of}
use Rattle.fluid_transcript.specs.Examples.{nothing, few, d, two_clients}

-- ---- forms

-- the id of the empty tree
abbrev pub id : List ℕ
id = 75 ∷ 130 ∷ 93 ∷ 198 ∷ 66 ∷ 203 ∷ 110 ∷ 185 ∷ 160 ∷ 96 ∷ 229 ∷ 75 ∷ 248 ∷ 214 ∷ 146 ∷ 136 ∷ 251 ∷ 238 ∷ 73 ∷ 4 ∷ []

pub record Forms : Type 0 where
  pub clash : clash_line (codes "c") id ≡ codes "c clash 4b825dc642cb6eb9a060e54bf8d69288fbee4904"
  pub ack : answer_line d 7 (Ack id) ≡ codes "d scribe ack 7"
  pub nack : answer_line d 7 (Refused StaleHead) ≡ codes "d scribe nack 7: head is not the last acknowledged summary"
  pub scribe_clash : scribe_clash_line d id ≡ codes "d scribe clash 4b825dc642cb6eb9a060e54bf8d69288fbee4904"
  pub checkpoint : stored_line d 2 9 ≡ codes "d checkpoint 2 at 9"
  pub large : large_line d 1001 ≡ codes "d checkpoint too large: 1001 bytes"
  pub bad_summary : bad_summary_line (codes "r") (codes ".app/m/content") ≡ codes "r bad summary .app/m/content"
  pub summarized : summarized_line (codes "p") 6 ≡ codes "p summarized at 6"
  pub refused : refused_line (codes "p") Scope ≡ codes "p refused 403: summary:write is missing"
  pub shown :
      shown_line (codes "p") 1 (object (members ((codes "m", object (members ((codes "kind", text (codes "map")) ∷ (codes "value", object (members ((codes "k", whole (pos 1)) ∷ []))) ∷ []))) ∷ [])))
      ≡ codes "p at 1: {\"m\":{\"kind\":\"map\",\"value\":{\"k\":1}}}"

-- ---- connections

abbrev pub fresh : Hearing
fresh = record { entries = []; store = empty; voice = Fresh; lines = [] }

abbrev pub writer : Hearing
writer = record { entries = []; store = empty; voice = Writing d (codes "c0") 1; lines = [] }

-- one joins
abbrev pub one_joined : Document
one_joined = record { raws = Join (codes "c0") (record { read = true; write = true; summary = false }) null 7 ∷ []; checkpoints = [] }

pub record Hears : Type 0 where
  pub connects :
      (hear few [] (codes "c") new_document fresh (act.Connect d true all_scopes null 20 ∷ [])).lines
      ≡ codes "c < [\"connect_document_success\",{\"checkpointSequenceNumber\":0,\"clientId\":\"c0\",\"maxMessageSize\":1048576,\"mode\":\"write\",\"version\":\"1\"}]" ∷ []
  pub joins : (hear few [] (codes "c") new_document fresh (act.Connect d true all_scopes null 20 ∷ [])).entries ≡ Join (codes "c0") all_scopes null 20 ∷ []
  pub feed_begins : (hear few [] (codes "c") new_document fresh (act.Connect d true all_scopes null 20 ∷ [])).voice ≡ Writing d (codes "c0") 1
  pub reads : (hear few [] (codes "c") two_clients fresh (act.Connect d false all_scopes null 20 ∷ [])).voice ≡ Reading d 7
  pub too_many :
      (hear few [] (codes "c") two_clients fresh (act.Connect d true all_scopes null 20 ∷ [])).lines
      ≡ codes "c < [\"connect_document_error\",{\"code\":429,\"message\":\"too many clients\"}]" ∷ []
  -- one submission is entered and refused by its rule, and the next finds the document full
  pub gap_and_full :
      (hear (record few { entries = 2 }) [] (codes "c") one_joined writer
      (act.Enter (Submit (codes "c0") (numbered 2 1 Op null) 20) ∷ act.Enter (Submit (codes "c0") (numbered 1 1 Op null) 20) ∷ [])).lines
      ≡ codes "c < [\"nack\",\"d\",[{\"content\":{\"code\":400,\"message\":\"Gap in client sequence numbers\",\"type\":\"BadRequestError\"},\"operation\":{\"clientSequenceNumber\":2,\"contents\":null,\"referenceSequenceNumber\":1,\"type\":\"op\"},\"sequenceNumber\":0}]]"
      ∷ codes "c < [\"nack\",\"d\",[{\"content\":{\"code\":429,\"message\":\"document is full\",\"type\":\"LimitExceededError\"},\"operation\":null,\"sequenceNumber\":-1}]]"
      ∷ []

pub record Collects : Type 0 where
  pub join :
      (delivered nothing (ledger_of one_joined) (codes "c") (Writing d (codes "c0") 1)).lines
      ≡ codes "c < [\"op\",\"d\",[{\"clientId\":null,\"clientSequenceNumber\":-1,\"contents\":null,\"data\":\"{\\\"clientId\\\":\\\"c0\\\",\\\"detail\\\":null}\",\"minimumSequenceNumber\":0,\"referenceSequenceNumber\":-1,\"sequenceNumber\":1,\"timestamp\":7,\"type\":\"join\"}]]" ∷ []
  pub goes_on : (delivered nothing (ledger_of one_joined) (codes "c") (Writing d (codes "c0") 1)).name ≡ Some (codes "c", connection (Writing d (codes "c0") 2))
  pub nothing_more : (delivered nothing (ledger_of one_joined) (codes "c") (Writing d (codes "c0") 2)).lines ≡ []
  pub unconnected : (delivered nothing [] (codes "c") Fresh).lines ≡ []
  pub closes : (closed nothing (codes "c")).lines ≡ codes "c closed" ∷ []

-- ---- edits

abbrev pub n : List ℕ
n = codes "n"

-- a container of that document, with nothing on its way
abbrev pub k : Container
k = record { document = d; entries = 0; from = no_channels; base = 0; number = 1; pending = [] }

-- with an attach on its way
abbrev pub attached : Container
attached = record k { pending = Attach n Counter ∷ [] }

pub record Edits : Type 0 where
  pub no_channel : (edited few nothing one_joined (codes "p") k (Increment n (pos 1))).lines ≡ codes "p edit fault NoChannel" ∷ []
  pub attach : (edited few nothing one_joined (codes "p") k (Attach n Counter)).lines ≡ codes "p edited" ∷ []
  pub largest : (edited few nothing one_joined (codes "p") attached (Increment n (pos 9007199254740991))).lines ≡ codes "p edited" ∷ []
  pub out_of_range : (edited few nothing one_joined (codes "p") attached (Increment n (pos 9007199254740992))).lines ≡ codes "p edit fault OutOfRange" ∷ []
  pub wrong_kind : (edited few nothing one_joined (codes "p") attached (Clear n)).lines ≡ codes "p edit fault WrongKind" ∷ []
  pub exists : (edited few nothing one_joined (codes "p") attached (Attach n Map)).lines ≡ codes "p edit fault Exists" ∷ []

-- ---- refusals

pub record Refusals : Type 0 where
  pub empty_line : text_refusal nothing [] ≡ None
  pub step : text_refusal nothing (codes "dance p") ≡ Some UnknownStep
  pub form : text_refusal nothing (codes "pump p q") ≡ Some BadStep
  pub no_container : text_refusal nothing (codes "pump p") ≡ Some UnknownName
  pub no_connection : text_refusal nothing (codes "collect c") ≡ Some UnknownName
  pub new_one : text_refusal nothing (codes "send c x") ≡ None
  pub used : text_refusal (record nothing { names = insert empty (codes "c") used_up }) (codes "send c x") ≡ Some UnknownName
  pub in_use : text_refusal (record nothing { names = insert empty (codes "c") used_up }) (codes "load c d none") ≡ Some NameInUse

-- as many documents as may be are open
pub record Beyond : Type 0 where
  pub count : (beyond few nothing d (Count d)).lines ≡ codes "d refused 429: too many documents" ∷ []
  pub sweep : (beyond few nothing d (Sweep d 0)).lines ≡ codes "d refused 429: too many documents" ∷ []
  pub tasks : (beyond few nothing d (Tasks d)).lines ≡ codes "d refused 429: too many documents" ∷ []
  pub load : (beyond few nothing d (Load (codes "p") d pick.Empty)).lines ≡ codes "p refused 429: too many documents" ∷ []

-- the first use of a document
pub record FirstUse : Type 0 where
  pub count : lines_of few nothing (codes "count d" ∷ []) ≡ codes "d 0 entries, number 0, minimum 0" ∷ []

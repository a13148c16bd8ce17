-- Worked examples: what acts of a workload do, and what is written of a short one.
use Rattle.std.specs.Prelude.{◌≡◌, [], ◌∷◌, List, ℕ, codes, take, pos, negsuc}
use Rattle.std.specs.FinMap.{empty, insert}
use Rattle.fluid_json.specs.Tree.{null, whole}
use Rattle.fluid_types.specs.declared.entries.Raw.{Raw}
use Rattle.fluid_types.specs.declared.entries.Raw.TheVariants.{Join, Submit}
use Rattle.fluid_types.specs.declared.entries.Submission.{Submission}
use Rattle.fluid_types.specs.declared.entries.Offered.TheVariants.{Op, Noop}
use Rattle.fluid_rules.specs.Rules.{ledger}
use Rattle.fluid_edits.specs.declared.edit.Edit.TheVariants as edit
use Rattle.fluid_edits.specs.declared.edit.ChannelKind.TheVariants.{Map, Counter}
use Rattle.fluid_edits.specs.Forms.{contents_of}
use Rattle.fluid_loader.specs.Submitting.{numbered}
use Rattle.fluid_voice.specs.declared.states.VoiceState.TheVariants.{Writing}
use Rattle.fluid_gen.specs.declared.act.Act.TheVariants as gen
use Rattle.fluid_transcript.specs.World.{Document, Name, connection}
use Rattle.fluid_transcript.specs.Containers.{all_scopes}
use Rattle.fluid_workload.specs.Working.{work, m, n, named, Workload, deeds, submits}
use Rattle.fluid_workload.specs.Summary.{summary_of}

-- the first container joins and attaches map and counter; a client joins, and has collected the four messages when it submits its
-- noop, sets a key, submits the same again, leaves a gap, and adds to the counter
abbrev pub noop : Submission
noop = numbered 1 4 Noop null

abbrev pub set : Submission
set = numbered 2 4 Op (contents_of (edit.Set m (codes "k7") (whole (pos 42))))

abbrev pub gap : Submission
gap = numbered 4 4 Op null

abbrev pub increment : Submission
increment = numbered 3 4 Op (contents_of (edit.Increment n (negsuc 4)))

abbrev pub entries : List Raw
entries =
    Join (codes "c0") all_scopes null 0
    ∷ Submit (codes "c0") (numbered 1 1 Op (contents_of (edit.Attach m Map))) 0
    ∷ Submit (codes "c0") (numbered 2 1 Op (contents_of (edit.Attach n Counter))) 0
    ∷ Join (codes "c3") all_scopes null 0
    ∷ Submit (codes "c3") noop 0
    ∷ Submit (codes "c3") set 0
    ∷ Submit (codes "c3") set 0
    ∷ Submit (codes "c3") gap 0
    ∷ Submit (codes "c3") increment 0
    ∷ []

-- the document behind so many of them, and the client that has collected the first four messages
abbrev pub document_at : (count : ℕ) → Document
document_at count = record { raws = take count entries; checkpoints = [] }

abbrev pub writer : Name
writer = connection (Writing work (codes "c3") 5)

-- the client set the key, at most
abbrev pub behind : (count : ℕ) → Workload
behind count = record {
  world = record {
    documents = insert empty work (document_at count);
    opened = work ∷ [];
    store = empty;
    names = insert empty (named 0) writer;
    moment = 0;
  };
  sent = insert empty (named 0) set;
}

-- each act of the client as what it submits next
pub record Submits : Type 0 where
  pub noop_is : deeds (behind 4) (gen.Noop 0) ≡ submits 0 (codes "c3") noop ∷ []
  pub set_is : deeds (behind 5) (gen.Set 0 7 42) ≡ submits 0 (codes "c3") set ∷ []
  pub again_is : deeds (behind 6) (gen.Again 0) ≡ submits 0 (codes "c3") set ∷ []
  pub gap_is : deeds (behind 7) (gen.Gap 0) ≡ submits 0 (codes "c3") gap ∷ []
  pub increment_is : deeds (behind 8) (gen.Increment 0 (negsuc 4)) ≡ submits 0 (codes "c3") increment ∷ []
  -- a client that hasn't joined submits nothing
  pub nobody : deeds (behind 8) (gen.Gap 1) ≡ []

-- what is written of these entries, where both containers have this state, and where they don't
pub record Writes : Type 0 where
  pub lines :
      summary_of (ledger entries) (171 ∷ []) (171 ∷ [])
      ≡ codes "messages 6"
      ∷ codes "dropped 1"
      ∷ codes "absorbed 1"
      ∷ codes "nacked 1"
      ∷ codes "summaries 0"
      ∷ codes "state ab"
      ∷ codes "loaded same"
      ∷ []
  pub different : summary_of [] (171 ∷ []) [] ≡ codes "messages 0" ∷ codes "dropped 0" ∷ codes "absorbed 0" ∷ codes "nacked 0" ∷ codes "summaries 0" ∷ codes "state ab" ∷ codes "loaded different" ∷ []

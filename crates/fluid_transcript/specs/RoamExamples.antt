-- Worked examples: the steps of a roamer, on documents as they find them.
use Rattle.std.specs.Prelude.{◌≡◌, [], ◌∷◌, List, ℕ, pos, true, false, Some, None, codes}
use Rattle.std.specs.FinMap.{empty, insert}
use Rattle.fluid_json.specs.Tree.{null}
use Rattle.fluid_types.specs.declared.entries.Raw.TheVariants.{Join, Leave, Submit}
use Rattle.fluid_types.specs.declared.entries.Offered.TheVariants.{Op}
use Rattle.fluid_edits.specs.declared.edit.Edit.{Edit}
use Rattle.fluid_edits.specs.declared.edit.Edit.TheVariants.{Attach, Increment}
use Rattle.fluid_edits.specs.declared.edit.ChannelKind.TheVariants.{Counter}
use Rattle.fluid_edits.specs.Forms.{contents_of}
use Rattle.fluid_loader.specs.Submitting.{numbered}
use Rattle.fluid_steps.specs.declared.refusal.LineWhy.TheVariants.{UnknownName}
use Rattle.fluid_transcript.specs.World.{Document, new_document, Roamer, World, roamer, used_up, ledger_of}
use Rattle.fluid_transcript.specs.Containers.{all_scopes}
use Rattle.fluid_transcript.specs.Roamers.{roamed, laid_over, lost, came_back, acked}
use Rattle.fluid_transcript.specs.Transcript.{text_refusal}
use Rattle.fluid_transcript.specs.Examples.{nothing, few, d}
use Rattle.fluid_transcript.specs.ScriptExamples.{from_nothing}

abbrev pub r : List ℕ
r = codes "r"

abbrev pub attach : Edit
attach = Attach (codes "n") Counter

abbrev pub five : Edit
five = Increment (codes "n") (pos 5)

abbrev pub seven : Edit
seven = Increment (codes "n") (pos 7)

-- a roamer that said two edits, which stand though it hasn't heard of them
abbrev pub roaming : Roamer
roaming = record { client = record (from_nothing 0 1) { pending = attach ∷ five ∷ [] }; stood = 0; is_lost = false }

abbrev pub sent_two : Document
sent_two = record {
  raws =
      Join (codes "c0") all_scopes null 1
      ∷ Submit (codes "c0") (numbered 1 1 Op (contents_of attach)) 2
      ∷ Submit (codes "c0") (numbered 2 1 Op (contents_of five)) 3
      ∷ [];
  checkpoints = [];
}

-- the same one, lost, behind a third edit
abbrev pub away : Roamer
away = record { client = record (from_nothing 0 1) { pending = attach ∷ five ∷ seven ∷ [] }; stood = 0; is_lost = true }

pub record Comes : Type 0 where
  pub line : (roamed few nothing new_document r d).lines ≡ codes "r roams d as c0 at 1" ∷ []
  pub entry : (roamed few nothing new_document r d).entries ≡ Join (codes "c0") all_scopes null 20 ∷ []
  pub name : (roamed few nothing new_document r d).name ≡ Some (r, roamer (record { client = from_nothing 0 1; stood = 0; is_lost = false }))
  -- the document is full
  pub refused : (roamed (record few { entries = 0 }) nothing new_document r d).lines ≡ codes "r refused 429: document is full" ∷ []
  pub used : (roamed (record few { entries = 0 }) nothing new_document r d).name ≡ Some (r, used_up)

pub record Says : Type 0 where
  pub line : (laid_over few nothing (ledger_of sent_two) r roaming seven (contents_of seven) false).lines ≡ codes "r said 2" ∷ []
  pub entry :
      (laid_over few nothing (ledger_of sent_two) r roaming seven (contents_of seven) false).entries
      ≡ Submit (codes "c0") (numbered 3 1 Op (contents_of seven)) 20 ∷ []
  -- one that is lost sends nothing
  pub lost_line : (lost nothing r roaming).lines ≡ codes "r lost" ∷ []
  pub waits_line : (laid_over few nothing (ledger_of sent_two) r (record roaming { is_lost = true }) seven (contents_of seven) true).lines ≡ codes "r said 2" ∷ []
  pub no_entry : (laid_over few nothing (ledger_of sent_two) r (record roaming { is_lost = true }) seven (contents_of seven) true).entries ≡ []
  pub waits : (laid_over few nothing (ledger_of sent_two) r (record roaming { is_lost = true }) seven (contents_of seven) true).name ≡ Some (r, roamer away)
  -- one whose edit is refused is lost, and the edit is on its way
  pub full_line : (laid_over (record few { entries = 3 }) nothing (ledger_of sent_two) r roaming seven (contents_of seven) false).lines ≡ codes "r refused 429: document is full" ∷ []
  pub full : (laid_over (record few { entries = 3 }) nothing (ledger_of sent_two) r roaming seven (contents_of seven) false).name ≡ Some (r, roamer away)

-- the client leaves, and a new one sends the edit that doesn't stand
pub record Returns : Type 0 where
  pub line : (came_back few nothing sent_two r away).lines ≡ codes "r back as c4 at 5" ∷ []
  pub entries :
      (came_back few nothing sent_two r away).entries
      ≡ Leave (codes "c0") 20 ∷ Join (codes "c4") all_scopes null 20 ∷ Submit (codes "c4") (numbered 1 5 Op (contents_of seven)) 20 ∷ []
  pub name :
      (came_back few nothing sent_two r away).name
      ≡ Some (r, roamer (record { client = record (from_nothing 4 5) { pending = seven ∷ [] }; stood = 2; is_lost = false }))
  -- its join is refused, and the leave stays
  pub refused : (came_back (record few { entries = 3 }) nothing sent_two r away).lines ≡ codes "r refused 429: document is full" ∷ []
  pub leave : (came_back (record few { entries = 3 }) nothing sent_two r away).entries ≡ Leave (codes "c0") 20 ∷ []
  pub same : (came_back (record few { entries = 3 }) nothing sent_two r away).name ≡ None
  -- there is room for the join alone
  pub cut_line : (came_back (record few { entries = 4 }) nothing sent_two r away).lines ≡ codes "r refused 429: document is full" ∷ []
  pub cut :
      (came_back (record few { entries = 4 }) nothing sent_two r away).name
      ≡ Some (r, roamer (record { client = record (from_nothing 4 5) { pending = seven ∷ [] }; stood = 2; is_lost = true }))

pub record Acks : Type 0 where
  pub line : (acked nothing sent_two r away).lines ≡ codes "r acked 2 of 3" ∷ []
  pub name :
      (acked nothing sent_two r away).name
      ≡ Some (r, roamer (record { client = record (from_nothing 0 3) { pending = seven ∷ [] }; stood = 2; is_lost = true }))

-- `back` for one that isn't lost, `lose` for one that is, and names of another kind
abbrev pub with_r : Roamer → World
with_r k = record nothing { names = insert empty r (roamer k) }

pub record Refuses : Type 0 where
  pub nobody : text_refusal nothing (codes "back r") ≡ Some UnknownName
  pub back : text_refusal (with_r roaming) (codes "back r") ≡ Some UnknownName
  pub lose : text_refusal (with_r away) (codes "lose r") ≡ Some UnknownName
  pub comes_back : text_refusal (with_r away) (codes "back r") ≡ None
  pub is_lost : text_refusal (with_r roaming) (codes "lose r") ≡ None
  pub pump : text_refusal (with_r roaming) (codes "pump r") ≡ Some UnknownName
  pub show : text_refusal (with_r roaming) (codes "show r") ≡ None

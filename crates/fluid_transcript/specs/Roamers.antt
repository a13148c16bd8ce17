-- The steps of a roamer: `roam`, `say`, `lose`, `back` and `acked`. A roamer is one user's edits over many clients.
use Rattle.std.specs.Prelude.{ℕ, ◌+◌, Bool, true, false, List, [], ◌∷◌, ◌++◌, length, Option, Some, None, is_some, Result, Ok, Err}
use Rattle.fluid_json.specs.Tree.{Tree}
use Rattle.fluid_types.specs.declared.entries.Raw.{Raw}
use Rattle.fluid_types.specs.declared.entries.Raw.TheVariants.{Leave}
use Rattle.fluid_types.specs.declared.entries.Offered.TheVariants.{Op}
use Rattle.fluid_types.specs.declared.nacks.NackRule.{NackRule}
use Rattle.fluid_types.specs.Ledger.{Ledger, seq}
use Rattle.fluid_rules.specs.declared.limits.Limits.{Limits}
use Rattle.fluid_edits.specs.declared.edit.Edit.{Edit}
use Rattle.fluid_edits.specs.Forms.{contents_of}
use Rattle.fluid_edits.specs.Replay.{no_channels}
use Rattle.fluid_runtime.specs.Refused.{answer}
use Rattle.fluid_runtime.specs.declared.fault.EditFault.{EditFault}
use Rattle.fluid_voice.specs.declared.refusals.ConnectRefusal.{ConnectRefusal}
use Rattle.fluid_transcript.specs.World.{Document, Container, Roamer, roamer, used_up, World, ledger_of, with_entries, Effect, says}
use Rattle.fluid_transcript.specs.Lines.{turned_away_line, edit_fault_line, roams_line, said_line, lost_line, back_line, acked_line}
use Rattle.fluid_transcript.specs.Containers.{id_of, visible, Submitted, submitting, line_for, join_for, joining, join_refusal, own_ops, caught_up}

-- ---- what a roamer has

-- how many edits were said
abbrev pub edits : Roamer → ℕ
edits k = k.stood + length k.client.pending

-- the number of the next one is how many there are before
abbrev pub with_edit : Roamer → Edit → Roamer
with_edit k edit = record k { client = record k.client { pending = k.client.pending ++ edit ∷ [] } }

-- with the messages up to the last; of its pending edits those that stand in the order now are the first ones
abbrev pub heard_all : Ledger → Roamer → Roamer
heard_all l k = record k { client = caught_up l k.client; stood = k.stood + own_ops l k.client }

-- ---- roam

-- a client whose join stands behind so many entries, and which has heard all
abbrev pub newcomer : (name : List ℕ) → (entries : ℕ) → Ledger → Container
newcomer name entries l = record { document = name; entries = entries; from = no_channels; base = 0; number = seq l; pending = [] }

-- the document behind the join of a client
abbrev pub with_join : World → Document → Document
with_join w d = with_entries (join_for w (ledger_of d) ∷ []) d

abbrev pub behind_join : World → Document → Ledger
behind_join w d = ledger_of (with_join w d)

abbrev pub begun : World → Document → (name : List ℕ) → Roamer
begun w d name = record { client = newcomer name (length d.raws) (behind_join w d); stood = 0; is_lost = false }

abbrev pub roams_as : World → (r : List ℕ) → Roamer → Effect
roams_as w r k =
    record (says w (roams_line r k.client.document (id_of k.client) k.client.number ∷ [])) { name = Some (r, roamer k) }

-- the name of one whose join is refused is used up
abbrev pub roamed_by : World → Document → (r name : List ℕ) → Option ConnectRefusal → Effect
roamed_by w d r name (Some refusal) = record (says w (turned_away_line r refusal ∷ [])) { name = Some (r, used_up) }
roamed_by w d r name None = record (roams_as w r (begun w d name)) { entries = join_for w (ledger_of d) ∷ [] }

abbrev pub roamed : Limits → World → Document → (r name : List ℕ) → Effect
roamed limits w d r name = roamed_by w d r name (join_refusal (joining limits w (ledger_of d)))

-- ---- say

-- a roamer behind an op that was submitted for it: it is lost where the op was refused
abbrev pub sent_for : World → (r : List ℕ) → Roamer → (line : List ℕ) → Submitted → Effect
sent_for w r k line s =
    record (says w (line_for r line s.refused ∷ [])) { entries = s.entries; name = Some (r, roamer (record k { is_lost = is_some s.refused })) }

-- one that isn't lost has heard the leave of each earlier client, since `back` enters it before the join: so its op may be sent
abbrev pub laid_over : Limits → World → Ledger → (r : List ℕ) → Roamer → Edit → Tree → (is_lost : Bool) → Effect
laid_over limits w l r k edit contents true =
    record (says w (said_line r (edits k) ∷ [])) { name = Some (r, roamer (with_edit k edit)) }
laid_over limits w l r k edit contents false =
    sent_for w r (with_edit k edit) (said_line r (edits k)) (submitting limits w l k.client Op contents)

-- an edit of what is shown is refused, or it is pending; its op is submitted unless the roamer is lost
abbrev pub said_by : Limits → World → Ledger → (r : List ℕ) → Roamer → Edit → Result Tree EditFault → Effect
said_by limits w l r k edit (Err fault) = says w (edit_fault_line r fault ∷ [])
said_by limits w l r k edit (Ok contents) = laid_over limits w l r k edit contents k.is_lost

abbrev pub said : Limits → World → Document → (r : List ℕ) → Roamer → Edit → Effect
said limits w d r k edit = said_by limits w (ledger_of d) r k edit (answer (visible (ledger_of d) k.client) edit)

-- ---- lose

abbrev pub lost : World → (r : List ℕ) → Roamer → Effect
lost w r k = record (says w (lost_line r ∷ [])) { name = Some (r, roamer (record k { is_lost = true })) }

-- ---- back

-- an op that was submitted, and those behind it, unless it was refused
abbrev pub and_others : (first others : Submitted) → (refused : Option NackRule) → Submitted
and_others first others None = record { entries = first.entries ++ others.entries; refused = others.refused }
and_others first others (Some rule) = first

-- an op for each edit, one after another, up to the first that is refused
unfoldable pub sending : Limits → World → Document → Container → List Edit → Submitted
sending limits w d k [] = record { entries = []; refused = None }
sending limits w d k (edit ∷ others) =
    let s = submitting limits w (ledger_of d) k Op (contents_of edit) in
    and_others s (sending limits w (with_entries s.entries d) k others) s.refused

-- behind the leave of its last client
abbrev pub left : World → Document → Roamer → Document
left w d k = with_entries (Leave (id_of k.client) w.moment ∷ []) d

-- it has heard all up to the join of its new client, whose first op is the next
abbrev pub rejoined : World → Document → Roamer → Roamer
rejoined w d k = record (heard_all (behind_join w d) k) { client = record (caught_up (behind_join w d) k.client) { entries = length d.raws } }

-- what it sends then: an op for each of its edits that don't stand
abbrev pub sends_again : Limits → World → Document → Roamer → Submitted
sends_again limits w d k = sending limits w (with_join w d) (rejoined w d k).client (rejoined w d k).client.pending

-- and how it stands behind that
abbrev pub stands_again : Limits → World → Document → Roamer → Roamer
stands_again limits w d k = record (rejoined w d k) { is_lost = is_some (sends_again limits w d k).refused }

abbrev pub again_line : Limits → World → (r : List ℕ) → Document → Roamer → List ℕ
again_line limits w r d k = line_for r (back_line r (id_of (rejoined w d k).client) (rejoined w d k).client.number) (sends_again limits w d k).refused

-- behind this leave a new client joins, and sends again
abbrev pub resent : Limits → World → Document → (r : List ℕ) → Roamer → (leave : Raw) → Effect
resent limits w d r k leave =
    record (says w (again_line limits w r d k ∷ [])) {
      entries = leave ∷ join_for w (ledger_of d) ∷ (sends_again limits w d k).entries;
      name = Some (r, roamer (stands_again limits w d k));
    }

abbrev pub back_by : Limits → World → Document → (r : List ℕ) → Roamer → (leave : Raw) → Option ConnectRefusal → Effect
back_by limits w d r k leave (Some refusal) = record (says w (turned_away_line r refusal ∷ [])) { entries = leave ∷ [] }
back_by limits w d r k leave None = resent limits w d r k leave

-- the last client leaves, also where the join is then refused
abbrev pub came_back : Limits → World → Document → (r : List ℕ) → Roamer → Effect
came_back limits w d r k =
    back_by limits w (left w d k) r k (Leave (id_of k.client) w.moment) (join_refusal (joining limits w (ledger_of (left w d k))))

-- ---- acked

abbrev pub acked_as : World → (r : List ℕ) → Roamer → Effect
acked_as w r k = record (says w (acked_line r k.stood (edits k) ∷ [])) { name = Some (r, roamer k) }

abbrev pub acked : World → Document → (r : List ℕ) → Roamer → Effect
acked w d r k = acked_as w r (heard_all (ledger_of d) k)

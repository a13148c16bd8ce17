-- How an act ends: what a document answers, as it is read out of its ledger, and what a store answers, out of what it holds.
use Rattle.std.specs.Prelude.{ℕ, ◌+◌, ◌-◌, ◌&&◌, not, nat_le, ℤ, pos, negsuc, Bool, if◌then◌else◌, List, [], ◌∷◌, ◌++◌, length, take, drop, find, reverse, Option, Some, None, option_map, bytes_eq, Result, Ok, Err}
use Rattle.std.specs.List.{list_any, last_or}
use Rattle.std.specs.FinMap.{FinMap, get, insert}
use Rattle.sha1.specs.Sha1.{sha1}
use Rattle.fluid_json.specs.Tree.{Tree}
use Rattle.fluid_table.specs.Table.{byte_order}
use Rattle.fluid_types.specs.Ledger.{Ledger, order, seq}
use Rattle.fluid_types.specs.Names.{entry_name}
use Rattle.fluid_types.specs.declared.entries.Scopes.{Scopes}
use Rattle.fluid_types.specs.declared.entries.Raw.{Raw}
use Rattle.fluid_types.specs.declared.entries.Raw.TheVariants.{Join}
use Rattle.fluid_types.specs.declared.messages.Message.{Message}
use Rattle.fluid_types.specs.declared.verdicts.Verdict.{Verdict}
use Rattle.fluid_types.specs.declared.verdicts.Verdict.TheVariants as verdict
use Rattle.fluid_types.specs.declared.fault.Field.{Field}
use Rattle.fluid_types.specs.declared.fault.Field.TheVariants as field
use Rattle.fluid_types.specs.declared.fault.What.TheVariants.{OutOfRange}
use Rattle.fluid_types.specs.declared.fault.CodecFault.TheVariants.{BadField}
use Rattle.fluid_types.specs.declared.nacks.Nack.{Nack}
use Rattle.fluid_types.specs.declared.nacks.NackRule.TheVariants.{Unread}
use Rattle.fluid_tree.specs.declared.id.SummaryRef.{SummaryRef}
use Rattle.fluid_rules.specs.Rules.{verdict as verdict_of}
use Rattle.fluid_rules.specs.Scribe.{last_ack, number_of}
use Rattle.fluid_rules.specs.Counted.{is_full, has_too_many_clients}
use Rattle.fluid_rules.specs.declared.limits.Limits.{Limits}
use Rattle.fluid_codec.specs.declared.events.Asked.{Asked}
use Rattle.fluid_codec.specs.declared.events.Asked.TheVariants.{Latest, Handle}
use Rattle.fluid_codec.specs.declared.replies.Reply.{Reply}
use Rattle.fluid_codec.specs.declared.replies.Reply.TheVariants.{Nacked, Deltas, Summary, Object, Stored}
use Rattle.fluid_voice.specs.declared.refusals.ConnectRefusal.TheVariants.{TooManyDocuments}
use Rattle.fluid_voice.specs.declared.actions.Act.{Act}
use Rattle.fluid_voice.specs.declared.actions.Act.TheVariants as act
use Rattle.fluid_voice.specs.declared.ends.ActEnd.{ActEnd}
use Rattle.fluid_voice.specs.declared.ends.ActEnd.TheVariants.{Said, Joined, Told, Entered, FullNow, TooMany, Given}
use Rattle.fluid_voice.specs.Refusals.{refused, front_nack}

-- ---- what is entered

-- the join of a client: its id is made of the number of entries before it
abbrev pub join_of : Ledger → Scopes → Tree → ℕ → Raw
join_of l scopes detail moment = Join (entry_name (length l)) scopes detail moment

-- by the verdict on the join, which is sequenced under a new id
abbrev pub joined_by : List ℕ → Verdict → ActEnd
joined_by id (verdict.Sequenced message) = Joined id message.number
joined_by id other = Entered other

abbrev pub join_end : Limits → Ledger → Raw → ActEnd
join_end limits l join =
    if is_full limits.entries l join then FullNow
    else if has_too_many_clients limits.clients l join then TooMany
    else joined_by (entry_name (length l)) (verdict_of l join)

-- who only reads enters nothing
abbrev pub connect_end : Limits → Ledger → Bool → Scopes → Tree → ℕ → ActEnd
connect_end limits l write scopes detail moment = if write then join_end limits l (join_of l scopes detail moment) else Told (seq l)

abbrev pub entry_end : Limits → Ledger → Raw → ActEnd
entry_end limits l raw = if is_full limits.entries l raw then FullNow else Entered (verdict_of l raw)

-- ---- messages

-- the most messages that one question may ask for
abbrev pub most_deltas : ℕ
most_deltas = 2048

-- a number of the order, or the one behind its last
abbrev pub placed : Field → ℕ → ℤ → Result ℕ Field
placed f last (pos n) = if nat_le 1 n && nat_le n (last + 1) then Ok n else Err f
placed f last (negsuc n) = Err f

abbrev pub bounded : ℕ → Result ℕ Field → Result (ℕ × ℕ) Field
bounded first (Ok end) = if nat_le first end && nat_le end (first + most_deltas) then Ok (first, end) else Err field.To
bounded first (Err f) = Err f

abbrev pub range_from : ℕ → ℤ → Result ℕ Field → Result (ℕ × ℕ) Field
range_from last to (Ok first) = bounded first (placed field.To last to)
range_from last to (Err f) = Err f

-- the numbers from one to before another, not more than are allowed, or which of the two is out of range
unfoldable pub range_asked : ℕ → ℤ → ℤ → Result (ℕ × ℕ) Field
range_asked last from to = range_from last to (placed field.From last from)

-- the messages with these numbers
abbrev pub messages_in : List Message → ℕ × ℕ → List Message
messages_in messages range = take (range.1 - range.0) (drop (range.0 - 1) messages)

abbrev pub range_nack : Field → Nack
range_nack f = front_nack (Unread (BadField f OutOfRange))

-- it is out of range
abbrev pub out_of_range : Field → Reply
out_of_range f = Nacked None (range_nack f)

abbrev pub deltas_in : List Message → Result (ℕ × ℕ) Field → Reply
deltas_in messages (Ok range) = Deltas range.0 (messages_in messages range)
deltas_in messages (Err f) = out_of_range f

-- ---- summaries

-- the handle and the number of the last acknowledged summary, or the number of the last that has this handle
abbrev pub summary_asked : List Message → Asked → Option (List ℕ × ℕ)
summary_asked messages Latest = option_map (λ (ack : SummaryRef). (ack.handle, ack.number)) (last_ack messages)
summary_asked messages (Handle handle) = option_map (λ (number : ℕ). (handle, number)) (number_of messages handle)

-- the same, of the acknowledged summaries, oldest first
abbrev pub summary_among : List SummaryRef → Asked → Option (List ℕ × ℕ)
summary_among acks Latest = option_map (λ (ack : SummaryRef). (ack.handle, ack.number)) (last_or None acks)
summary_among acks (Handle handle) =
    option_map (λ (number : ℕ). (handle, number)) (option_map (λ (ack : SummaryRef). ack.number) (find (λ ack. bytes_eq ack.handle handle) (reverse acks)))

-- ---- what an act finds, and how it ends

abbrev pub Held : Type 0
Held = FinMap byte_order (List ℕ)

-- the names of the open documents; the limits and the ledger of the document that is asked; what the store holds
pub record Found : Type 0 where
  pub opened : List (List ℕ)
  pub limits : Limits
  pub ledger : Ledger
  pub held : Held

-- the most documents that are open
abbrev pub most_documents : ℕ
most_documents = 1024

-- as many as may be are open, and this isn't one
abbrev pub is_beyond : List (List ℕ) → List ℕ → Bool
is_beyond opened name = not (list_any (bytes_eq name) opened) && nat_le most_documents (length opened)

-- an end, or a clash: other bytes are held under the id of these
pub data Outcome : Type 0 where
  ends : ActEnd → Outcome
  clashes : (id kept new : List ℕ) → Outcome

abbrev pub put_under : List ℕ → List ℕ → Option (List ℕ) → Outcome
put_under id bytes None = ends (Given (Stored id))
put_under id bytes (Some kept) = if bytes_eq kept bytes then ends (Given (Stored id)) else clashes id kept bytes

abbrev pub outcome : Found → Act → Outcome
outcome f (act.Say reply) = ends Said
outcome f (act.Connect name write scopes detail moment) =
    ends (if is_beyond f.opened name then Given (refused TooManyDocuments) else connect_end f.limits f.ledger write scopes detail moment)
outcome f (act.Enter raw) = ends (entry_end f.limits f.ledger raw)
outcome f (act.Deltas from to) = ends (Given (deltas_in (order f.ledger) (range_asked (seq f.ledger) from to)))
outcome f (act.Summary asked) = ends (Given (Summary (summary_asked (order f.ledger) asked)))
outcome f (act.GetObject id) = ends (Given (Object id (get f.held id)))
outcome f (act.PutObject bytes) = put_under (sha1 bytes) bytes (get f.held (sha1 bytes))

-- ---- what an act leaves

-- the entry with its verdict that an act with this end adds to a ledger
abbrev pub added_by : Ledger → Act → Outcome → Ledger
added_by l (act.Connect name write scopes detail moment) (ends (Joined id number)) =
    (join_of l scopes detail moment, verdict_of l (join_of l scopes detail moment)) ∷ []
added_by l (act.Connect name write scopes detail moment) (ends (Entered v)) = (join_of l scopes detail moment, v) ∷ []
added_by l (act.Enter raw) (ends (Entered v)) = (raw, v) ∷ []
added_by l act outcome = []

-- what is held is kept; new bytes stand under their id
abbrev pub held_with : Held → List ℕ → Option (List ℕ) → Held
held_with held bytes None = insert held (sha1 bytes) bytes
held_with held bytes (Some kept) = held

abbrev pub held_behind : Held → Act → Held
held_behind held (act.PutObject bytes) = held_with held bytes (get held (sha1 bytes))
held_behind held act = held

-- an act changes the ledger of its document, and what the store holds
abbrev pub found_after : Found → Act → Found
found_after f act = record f { ledger = f.ledger ++ added_by f.ledger act (outcome f act); held = held_behind f.held act }

-- acts one after another, where nobody else comes between: how each ends, and what they leave
unfoldable pub outcomes : Found → List Act → List Outcome
outcomes f [] = []
outcomes f (act ∷ acts) = outcome f act ∷ outcomes (found_after f act) acts

unfoldable pub found_behind : Found → List Act → Found
found_behind f [] = f
found_behind f (act ∷ acts) = found_behind (found_after f act) acts

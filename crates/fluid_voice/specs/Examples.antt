-- Worked examples: what some texts ask for, and what comes of it.
use Rattle.std.specs.Prelude.{◌≡◌, ℕ, ℤ, pos, negsuc, true, false, List, [], ◌∷◌, Some, None, Ok, Err, codes}
use Rattle.std.specs.FinMap.{empty}
use Rattle.fluid_json.specs.Tree.{null}
use Rattle.fluid_types.specs.declared.entries.Raw.TheVariants.{Join, Submit}
use Rattle.fluid_types.specs.declared.entries.Scopes.{Scopes}
use Rattle.fluid_types.specs.declared.entries.Submission.{Submission}
use Rattle.fluid_types.specs.declared.entries.Offered.TheVariants.{Op}
use Rattle.fluid_types.specs.declared.fault.Field.TheVariants as field
use Rattle.fluid_types.specs.declared.nacks.NackRule.TheVariants.{Unread, NotConnected, ForeignClient, ReadOnly, Full}
use Rattle.fluid_types.specs.declared.fault.What.TheVariants.{OutOfRange}
use Rattle.fluid_types.specs.declared.fault.CodecFault.TheVariants.{BadField}
use Rattle.fluid_types.specs.declared.messages.Message.{Message}
use Rattle.fluid_tree.specs.declared.id.SummaryRef.{SummaryRef}
use Rattle.fluid_types.specs.declared.verdicts.Verdict.TheVariants as verdict
use Rattle.fluid_types.specs.declared.messages.Kind.TheVariants as kind
use Rattle.fluid_types.specs.Ledger.{Ledger}
use Rattle.fluid_rules.specs.declared.limits.Limits.{Limits}
use Rattle.fluid_codec.specs.declared.events.Event.TheVariants as event
use Rattle.fluid_codec.specs.declared.events.Asked.TheVariants.{Latest, Handle}
use Rattle.fluid_codec.specs.declared.replies.Reply.TheVariants.{Connected, ConnectError, Nacked, Deltas, Object, Stored}
use Rattle.fluid_voice.specs.declared.states.VoiceState.{VoiceState}
use Rattle.fluid_voice.specs.declared.states.VoiceState.TheVariants.{Fresh, Reading, Writing}
use Rattle.fluid_voice.specs.declared.actions.Act.TheVariants as act
use Rattle.fluid_voice.specs.declared.ends.ActEnd.TheVariants.{Joined, Told, Entered, FullNow, TooMany, Given}
use Rattle.fluid_voice.specs.Refusals.{front_nack}
use Rattle.fluid_voice.specs.Heard.{event_acts}
use Rattle.fluid_voice.specs.Replies.{replies_to, state_after}
use Rattle.fluid_voice.specs.Ends.{range_asked, connect_end, entry_end, deltas_in, summary_among, put_under, outcome}
use Rattle.fluid_voice.specs.Ends.Outcome.{ends, clashes}

-- a document, and a client of it
abbrev pub d : List ℕ
d = codes "d"

abbrev pub c0 : List ℕ
c0 = codes "c0"

abbrev pub writer : VoiceState
writer = Writing d c0 1

abbrev pub reader : VoiceState
reader = Reading d 4

abbrev pub only_read : Scopes
only_read = record { read = true; write = false; summary = false }

abbrev pub read_write : Scopes
read_write = record { read = true; write = true; summary = false }

abbrev pub nothing : Scopes
nothing = record { read = false; write = false; summary = false }

-- an op with this client number and this reference
abbrev pub op : ℕ → ℤ → Submission
op number reference = record { client_number = number; reference = reference; kind = Op; contents = null; metadata = None }

-- who may only read is connected for reading, whatever the mode; the last number is told, and the feed begins behind it
abbrev pub OnlyReading : Type 0
OnlyReading =
    (event_acts Fresh 7 (event.Connect d true only_read null) ≡ (act.Connect d false only_read null 7 ∷ []))
    × (replies_to Fresh (act.Connect d false only_read null 7) (Told 3) ≡ (Connected 3 None false ∷ []))
    × (state_after Fresh (act.Connect d false only_read null 7) (Told 3) ≡ Reading d 4)

-- who writes is told the number before that of its join
abbrev pub Writers : Type 0
Writers =
    (event_acts Fresh 7 (event.Connect d true read_write null) ≡ (act.Connect d true read_write null 7 ∷ []))
    × (replies_to Fresh (act.Connect d true read_write null 7) (Joined c0 12) ≡ (Connected 11 (Some c0) true ∷ []))
    × (state_after Fresh (act.Connect d true read_write null 7) (Joined c0 12) ≡ Writing d c0 12)

-- one connect is heard; that the scope is missing is looked at behind that
abbrev pub OneConnect : Type 0
OneConnect =
    (event_acts writer 7 (event.Connect (codes "e") true nothing null) ≡ (act.Say (ConnectError 400 (codes "already connected")) ∷ []))
    × (event_acts Fresh 7 (event.Connect d true nothing null) ≡ (act.Say (ConnectError 403 (codes "doc:read is missing")) ∷ []))

-- who isn't connected, who only reads and who speaks for another submits nothing; an own list is entered one by one
abbrev pub WhoSubmits : Type 0
WhoSubmits =
    (event_acts Fresh 7 (event.SubmitOp c0 []) ≡ (act.Say (Nacked None (front_nack NotConnected)) ∷ []))
    × (event_acts reader 7 (event.SubmitOp c0 []) ≡ (act.Say (Nacked (Some d) (front_nack ReadOnly)) ∷ []))
    × (event_acts writer 7 (event.SubmitOp (codes "c5") (op 1 (pos 1) ∷ [])) ≡ (act.Say (Nacked (Some d) (front_nack ForeignClient)) ∷ []))
    × (event_acts writer 7 (event.SubmitOp c0 []) ≡ [])
    × (event_acts writer 7 (event.SubmitOp c0 (op 1 (pos 1) ∷ op 2 (pos 1) ∷ []))
    ≡ (act.Enter (Submit c0 (op 1 (pos 1)) 7) ∷ act.Enter (Submit c0 (op 2 (pos 1)) 7) ∷ []))

-- of a dropped or absorbed one nobody is told, a full document is told each time
abbrev pub WhatIsTold : Type 0
WhatIsTold =
    (replies_to writer (act.Enter (Submit c0 (op 1 (pos 1)) 7)) (Entered verdict.Dropped) ≡ [])
    × (replies_to writer (act.Enter (Submit c0 (op 1 (pos 1)) 7)) (Entered verdict.Absorbed) ≡ [])
    × (replies_to writer (act.Enter (Submit c0 (op 1 (pos 1)) 7)) FullNow ≡ (Nacked (Some d) (front_nack Full) ∷ []))

-- with three messages: from one of them or the number behind the last, to at least that and at most the number behind the last
abbrev pub Ranges : Type 0
Ranges =
    (range_asked 3 (pos 4) (pos 4) ≡ Ok (4, 4))
    × (range_asked 3 (pos 1) (pos 4) ≡ Ok (1, 4))
    × (range_asked 3 (pos 4) (pos 5) ≡ Err field.To)
    × (range_asked 3 (pos 5) (pos 5) ≡ Err field.From)
    × (range_asked 3 (pos 0) (pos 9) ≡ Err field.From)
    × (range_asked 3 (negsuc 0) (pos 1) ≡ Err field.From)
    × (range_asked 3 (pos 3) (pos 2) ≡ Err field.To)

-- and at most 2,048 of them
abbrev pub LongRanges : Type 0
LongRanges = (range_asked 5000 (pos 1) (pos 2049) ≡ Ok (1, 2049)) × (range_asked 5000 (pos 1) (pos 2050) ≡ Err field.To)

-- a document that c0 joined, with its first entry
abbrev pub joined_by_c0 : Ledger
joined_by_c0 = (
  Join c0 read_write null 5,
  verdict.Sequenced (record {
    client = None;
    client_number = negsuc 0;
    reference = negsuc 0;
    number = 1;
    minimum = 0;
    kind = kind.Join;
    contents = null;
    system = None;
    metadata = None;
    moment = 5;
  }),
)
    ∷ []

-- at most so many entries and clients
abbrev pub limits : ℕ → ℕ → Limits
limits entries clients = record { entries = entries; clients = clients; checkpoints = 1; bytes = 1048576 }

-- the second entry's client is c1, and its join has number 2; who reads is told of the one message. A full document is told before
-- one with too many clients
abbrev pub AtLimits : Type 0
AtLimits =
    (connect_end (limits 9 9) joined_by_c0 true read_write null 5 ≡ Joined (codes "c1") 2)
    × (connect_end (limits 9 1) joined_by_c0 true read_write null 5 ≡ TooMany)
    × (connect_end (limits 1 1) joined_by_c0 true read_write null 5 ≡ FullNow)
    × (entry_end (limits 1 1) joined_by_c0 (Submit c0 (op 1 (pos 1)) 7) ≡ FullNow)
    × (connect_end (limits 1 1) joined_by_c0 false read_write null 5 ≡ Told 1)

-- ---- what a store and an order answer

-- of three messages those with the numbers 2 and 3; behind the last there are none
abbrev pub Slices : Type 0
Slices =
    (one two three : Message)
    → (deltas_in (one ∷ two ∷ three ∷ []) (range_asked 3 (pos 2) (pos 4)) ≡ Deltas 2 (two ∷ three ∷ []))
    × (deltas_in (one ∷ two ∷ three ∷ []) (range_asked 3 (pos 4) (pos 4)) ≡ Deltas 4 [])
    × (deltas_in (one ∷ two ∷ three ∷ []) (range_asked 3 (pos 5) (pos 5)) ≡ Nacked None (front_nack (Unread (BadField field.From OutOfRange))))

-- an acknowledgement of this version, with its reference
abbrev pub ack : ℕ → ℕ → SummaryRef
ack handle number = record { handle = handle ∷ []; number = number }

-- one version was acknowledged twice: its last acknowledgement is given
abbrev pub TwoAcks : Type 0
TwoAcks =
    (summary_among (ack 7 3 ∷ ack 8 5 ∷ ack 7 6 ∷ ack 9 8 ∷ []) (Handle (7 ∷ [])) ≡ Some (7 ∷ [], 6))
    × (summary_among (ack 7 3 ∷ ack 8 5 ∷ ack 7 6 ∷ ack 9 8 ∷ []) Latest ≡ Some (9 ∷ [], 8))
    × (summary_among (ack 7 3 ∷ []) (Handle (8 ∷ [])) ≡ None)
    × (summary_among [] Latest ≡ None)

-- where nothing is held, nothing is given. The same bytes are put once more, other ones clash and aren't
abbrev pub Objects : Type 0
Objects =
    ((limits : Limits) (l : Ledger) (id : List ℕ)
    → outcome (record { opened = []; limits = limits; ledger = l; held = empty }) (act.GetObject id) ≡ ends (Given (Object id None)))
    × (put_under (1 ∷ []) (2 ∷ []) None ≡ ends (Given (Stored (1 ∷ []))))
    × (put_under (1 ∷ []) (2 ∷ []) (Some (2 ∷ [])) ≡ ends (Given (Stored (1 ∷ []))))
    × (put_under (1 ∷ []) (2 ∷ []) (Some (3 ∷ [])) ≡ clashes (1 ∷ []) (3 ∷ []) (2 ∷ []))

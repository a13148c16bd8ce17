-- The nacks of entries that are sent, and those that the entries got.
use Rattle.std.proofs.Common.{◌≡◌, ℕ, Bool, true, false, List, [], ◌∷◌, ◌++◌, Option, None, Some, Ok, Err, refl, sym, ap, subst, ◌∙◌, append_assoc, append-nil, if◌then◌else◌, is_ok, bytes_eq}
use Rattle.std.proofs.lemmas.Bool.{false≢true}
use Rattle.fluid_turn.specs.Entries.{IsPrefix}
use Rattle.fluid_turn.proofs.Lists.{prefix_refl, prefix_trans}
use Rattle.fluid_types.specs.Forms.{Read}
use Rattle.fluid_types.specs.declared.entries.Submission.{Submission}
use Rattle.fluid_types.specs.declared.nacks.NackRule.TheVariants.{ForeignClient}
use Rattle.fluid_types.specs.declared.verdicts.Verdict.TheVariants as verdict
use Rattle.fluid_tree.specs.Reading.{object_read}
use Rattle.fluid_deltas.specs.declared.fault.DeltaFault.{DeltaFault}
use Rattle.fluid_deltas.specs.declared.fault.DeltaFault.TheVariants as delta
use Rattle.fluid_codec.specs.Events.{event_spelled}
use Rattle.fluid_codec.specs.declared.events.Event.{Event as Spelled}
use Rattle.fluid_codec.specs.declared.events.Event.TheVariants as event
use Rattle.fluid_codec.specs.declared.replies.Reply.{Reply}
use Rattle.fluid_codec.specs.declared.replies.Reply.TheVariants as reply
use Rattle.fluid_lane.specs.declared.fault.LaneFault.{LaneFault}
use Rattle.fluid_lane.specs.declared.fault.LaneFault.TheVariants as lane
use Rattle.fluid_lane.specs.declared.steps.Step.{Step}
use Rattle.fluid_lane.specs.Steps.{fault_steps, delta_steps}
use Rattle.fluid_voice.specs.declared.states.VoiceState.{VoiceState}
use Rattle.fluid_voice.specs.declared.states.VoiceState.TheVariants.{Fresh, Reading, Writing, Used}
use Rattle.fluid_voice.specs.declared.actions.Act.{Act}
use Rattle.fluid_voice.specs.declared.actions.Act.TheVariants as act
use Rattle.fluid_voice.specs.declared.ends.ActEnd.{ActEnd}
use Rattle.fluid_voice.specs.declared.ends.ActEnd.TheVariants.{Said, Joined, Told, Entered as EndsEntered, FullNow, TooMany, Given}
use Rattle.fluid_voice.specs.States.{document_name, is_connected}
use Rattle.fluid_voice.specs.Heard.{acts_of, submission_acts, read_acts, nacks}
use Rattle.fluid_voice.specs.Replies.{replies_to, replies_behind, state_after}
use Rattle.fluid_voice.specs.Suits.{Suits}
use Rattle.fluid_ends.specs.Adding.{AddsBy}
use Rattle.fluid_ends.specs.declared.fault.TalkFault.{TalkFault}
use Rattle.fluid_ends.specs.declared.fault.TalkFault.TheVariants.{Door, Lane, Delta, Store, NoMemory}
use Rattle.fluid_talk.specs.Talking.{Talking}
use Rattle.fluid_talk.specs.Doing.{Did, AreDone, acts_in, ended, steps_in, may_steps}
use Rattle.fluid_talk.specs.Hearing.{AreReplies}
use Rattle.fluid_session.specs.Events.{Event, Stand, Round, IsRound, AreWhole, AreEvents, behind}
use Rattle.fluid_session.specs.Events.Event.{brings, hears}
use Rattle.fluid_session.specs.Outcome.{nacks_said, nacks_in, nacks_given, nacks_of, steps_of, steps_of_round, answered_in, MayBreakLast, NacksInOrder}
use Rattle.fluid_session.proofs.Passes.{brings_on, hears_on}
use Rattle.fluid_session.proofs.Prefixes.{prefix_behind, prefix_last, sent_prefix, sent_whole}

-- ---- lists

in-append : (a b : List Reply) → nacks_in (a ++ b) ≡ nacks_in a ++ nacks_in b
in-append [] b = refl
in-append (x ∷ a) b = ap (λ l. nacks_said x ++ l) (in-append a b) ∙ sym (append_assoc (nacks_said x) (nacks_in a) (nacks_in b))

of-append : (a b : List Step) → nacks_of (a ++ b) ≡ nacks_of a ++ nacks_of b
of-append [] b = refl
of-append (x ∷ a) b = ap (λ l. nacks_given x ++ l) (of-append a b) ∙ sym (append_assoc (nacks_given x) (nacks_of a) (nacks_of b))

in_prefix : (a b : List Reply) → IsPrefix a b → IsPrefix (nacks_in a) (nacks_in b)
in_prefix a b (rest, is) = (nacks_in rest, ap nacks_in is ∙ in-append a rest)

-- ---- what one that is connected is told at once is no nack of an entry, and it isn't connected again

abbrev IsQuiet : Act → Type 0
IsQuiet (act.Say said) = nacks_said said ≡ []
IsQuiet (act.Connect name write scopes detail moment) = ⊥
IsQuiet (act.Enter raw) = Unit {0}
IsQuiet (act.Deltas from to) = Unit {0}
IsQuiet (act.Summary asked) = Unit {0}
IsQuiet (act.GetObject id) = Unit {0}
IsQuiet (act.PutObject bytes) = Unit {0}

abbrev AreQuiet : List Act → Type 0
AreQuiet [] = Unit {0}
AreQuiet (a ∷ acts) = IsQuiet a × AreQuiet acts

either : (b : Bool) (xs ys : List Act) → AreQuiet xs → AreQuiet ys → AreQuiet (if b then xs else ys)
either true xs ys h k = h
either false xs ys h k = k

of_submissions : (moment : ℕ) (id : List ℕ) (submissions : List Submission) → AreQuiet (submission_acts moment id submissions)
of_submissions moment id [] = tt
of_submissions moment id (s ∷ ss) = (tt, of_submissions moment id ss)

of_read_reading : (name : List ℕ) (next moment : ℕ) (read : Read Spelled) → AreQuiet (read_acts (Reading name next) moment read)
of_read_reading name next moment (Err fault) = (refl, tt)
of_read_reading name next moment (Ok (event.Connect other write scopes client)) = (refl, tt)
of_read_reading name next moment (Ok (event.SubmitOp id submissions)) = (refl, tt)
of_read_reading name next moment (Ok (event.GetDeltas from to)) = (tt, tt)
of_read_reading name next moment (Ok (event.GetSummary asked)) = (tt, tt)
of_read_reading name next moment (Ok (event.GetObject id)) = (tt, tt)
of_read_reading name next moment (Ok (event.PutObject bytes)) = either (is_ok (object_read bytes)) _ _ (tt, tt) (refl, tt)

of_read_writing : (name own : List ℕ) (next moment : ℕ) (read : Read Spelled) → AreQuiet (read_acts (Writing name own next) moment read)
of_read_writing name own next moment (Err fault) = (refl, tt)
of_read_writing name own next moment (Ok (event.Connect other write scopes client)) = (refl, tt)
of_read_writing name own next moment (Ok (event.SubmitOp id submissions)) = either (bytes_eq id own) (submission_acts moment id submissions) (nacks (Writing name own next) ForeignClient) (of_submissions moment id submissions) (refl, tt)
of_read_writing name own next moment (Ok (event.GetDeltas from to)) = (tt, tt)
of_read_writing name own next moment (Ok (event.GetSummary asked)) = (tt, tt)
of_read_writing name own next moment (Ok (event.GetObject id)) = (tt, tt)
of_read_writing name own next moment (Ok (event.PutObject bytes)) = either (is_ok (object_read bytes)) _ _ (tt, tt) (refl, tt)

all_quiet : (s : VoiceState) (text : List ℕ) (moment : ℕ) → is_connected s ≡ true → AreQuiet (acts_of s text moment)
unfolding acts_of
all_quiet Fresh text moment joined = absurd (false≢true joined)
all_quiet (Reading name next) text moment joined = of_read_reading name next moment (event_spelled text)
all_quiet (Writing name own next) text moment joined = of_read_writing name own next moment (event_spelled text)
all_quiet Used text moment joined = absurd (false≢true joined)

prefix_quiet : (a b : List Act) → AreQuiet (a ++ b) → AreQuiet a
prefix_quiet [] b h = tt
prefix_quiet (x ∷ a) b (here, rest) = (here, prefix_quiet a b rest)

round_quiet : (r : Round) → is_connected r.from.voice ≡ true → IsRound r → AreQuiet (acts_in r.done)
round_quiet r joined is = prefix_quiet (acts_in r.done) is.hears_it.does.rest (subst AreQuiet is.hears_it.does.asked (all_quiet r.from.voice r.text r.moment joined))

-- ---- one act

none_added : (added : List Step) → added ≡ [] → [] ≡ nacks_of added
none_added added none = ap nacks_of (sym none)

-- what is said to an act are the nacks that its entry got
one_act : (s : VoiceState) (a : Act) (end : ActEnd) (added : List Step) → IsQuiet a → Suits a end → AddsBy a end added → nacks_in (replies_to s a end) ≡ nacks_of added
one_act s (act.Say said) end added quiet suits adds = ap (λ l. l ++ []) quiet ∙ none_added added adds
one_act s (act.Connect name write scopes detail moment) end added quiet suits adds = absurd quiet
one_act s (act.Enter raw) (EndsEntered (verdict.Nacked nack)) added quiet suits adds = ap nacks_of (sym adds)
one_act s (act.Enter raw) (EndsEntered (verdict.Sequenced message)) added quiet suits adds = ap nacks_of (sym adds)
one_act s (act.Enter raw) (EndsEntered verdict.Dropped) added quiet suits adds = ap nacks_of (sym adds)
one_act s (act.Enter raw) (EndsEntered verdict.Absorbed) added quiet suits adds = ap nacks_of (sym adds)
one_act s (act.Enter raw) FullNow added quiet suits adds = none_added added adds
one_act s (act.Enter raw) Said added quiet suits adds = absurd suits
one_act s (act.Enter raw) (Joined id number) added quiet suits adds = absurd suits
one_act s (act.Enter raw) (Told last) added quiet suits adds = absurd suits
one_act s (act.Enter raw) TooMany added quiet suits adds = absurd suits
one_act s (act.Enter raw) (Given given) added quiet suits adds = absurd suits
one_act s (act.Deltas from to) Said added quiet suits adds = absurd suits
one_act s (act.Deltas from to) (Joined own number) added quiet suits adds = absurd suits
one_act s (act.Deltas from to) (Told last) added quiet suits adds = absurd suits
one_act s (act.Deltas from to) (EndsEntered v) added quiet suits adds = absurd suits
one_act s (act.Deltas from to) FullNow added quiet suits adds = absurd suits
one_act s (act.Deltas from to) TooMany added quiet suits adds = absurd suits
one_act s (act.Deltas from to) (Given (reply.Connected n c w)) added quiet suits adds = absurd suits
one_act s (act.Deltas from to) (Given (reply.ConnectError code text)) added quiet suits adds = absurd suits
one_act s (act.Deltas from to) (Given (reply.Ops name messages)) added quiet suits adds = absurd suits
one_act s (act.Deltas from to) (Given (reply.Nacked name nack)) added quiet suits adds =
    ap (λ n. nacks_in (reply.Nacked (document_name s) n ∷ [])) suits.1.1.1 ∙ none_added added adds
one_act s (act.Deltas from to) (Given (reply.Deltas first messages)) added quiet suits adds = none_added added adds
one_act s (act.Deltas from to) (Given (reply.Summary found)) added quiet suits adds = absurd suits
one_act s (act.Deltas from to) (Given (reply.Object given held)) added quiet suits adds = absurd suits
one_act s (act.Deltas from to) (Given (reply.Stored own)) added quiet suits adds = absurd suits
one_act s (act.Summary asked) Said added quiet suits adds = absurd suits
one_act s (act.Summary asked) (Joined own number) added quiet suits adds = absurd suits
one_act s (act.Summary asked) (Told last) added quiet suits adds = absurd suits
one_act s (act.Summary asked) (EndsEntered v) added quiet suits adds = absurd suits
one_act s (act.Summary asked) FullNow added quiet suits adds = absurd suits
one_act s (act.Summary asked) TooMany added quiet suits adds = absurd suits
one_act s (act.Summary asked) (Given (reply.Connected n c w)) added quiet suits adds = absurd suits
one_act s (act.Summary asked) (Given (reply.ConnectError code text)) added quiet suits adds = absurd suits
one_act s (act.Summary asked) (Given (reply.Ops name messages)) added quiet suits adds = absurd suits
one_act s (act.Summary asked) (Given (reply.Nacked name nack)) added quiet suits adds = absurd suits
one_act s (act.Summary asked) (Given (reply.Deltas first messages)) added quiet suits adds = absurd suits
one_act s (act.Summary asked) (Given (reply.Summary found)) added quiet suits adds = none_added added adds
one_act s (act.Summary asked) (Given (reply.Object given held)) added quiet suits adds = absurd suits
one_act s (act.Summary asked) (Given (reply.Stored own)) added quiet suits adds = absurd suits
one_act s (act.GetObject id) Said added quiet suits adds = absurd suits
one_act s (act.GetObject id) (Joined own number) added quiet suits adds = absurd suits
one_act s (act.GetObject id) (Told last) added quiet suits adds = absurd suits
one_act s (act.GetObject id) (EndsEntered v) added quiet suits adds = absurd suits
one_act s (act.GetObject id) FullNow added quiet suits adds = absurd suits
one_act s (act.GetObject id) TooMany added quiet suits adds = absurd suits
one_act s (act.GetObject id) (Given (reply.Connected n c w)) added quiet suits adds = absurd suits
one_act s (act.GetObject id) (Given (reply.ConnectError code text)) added quiet suits adds = absurd suits
one_act s (act.GetObject id) (Given (reply.Ops name messages)) added quiet suits adds = absurd suits
one_act s (act.GetObject id) (Given (reply.Nacked name nack)) added quiet suits adds = absurd suits
one_act s (act.GetObject id) (Given (reply.Deltas first messages)) added quiet suits adds = absurd suits
one_act s (act.GetObject id) (Given (reply.Summary found)) added quiet suits adds = absurd suits
one_act s (act.GetObject id) (Given (reply.Object given held)) added quiet suits adds = none_added added adds
one_act s (act.GetObject id) (Given (reply.Stored own)) added quiet suits adds = absurd suits
one_act s (act.PutObject bytes) Said added quiet suits adds = absurd suits
one_act s (act.PutObject bytes) (Joined own number) added quiet suits adds = absurd suits
one_act s (act.PutObject bytes) (Told last) added quiet suits adds = absurd suits
one_act s (act.PutObject bytes) (EndsEntered v) added quiet suits adds = absurd suits
one_act s (act.PutObject bytes) FullNow added quiet suits adds = absurd suits
one_act s (act.PutObject bytes) TooMany added quiet suits adds = absurd suits
one_act s (act.PutObject bytes) (Given (reply.Connected n c w)) added quiet suits adds = absurd suits
one_act s (act.PutObject bytes) (Given (reply.ConnectError code text)) added quiet suits adds = absurd suits
one_act s (act.PutObject bytes) (Given (reply.Ops name messages)) added quiet suits adds = absurd suits
one_act s (act.PutObject bytes) (Given (reply.Nacked name nack)) added quiet suits adds = absurd suits
one_act s (act.PutObject bytes) (Given (reply.Deltas first messages)) added quiet suits adds = absurd suits
one_act s (act.PutObject bytes) (Given (reply.Summary found)) added quiet suits adds = absurd suits
one_act s (act.PutObject bytes) (Given (reply.Object given held)) added quiet suits adds = absurd suits
one_act s (act.PutObject bytes) (Given (reply.Stored own)) added quiet suits adds = none_added added adds

-- ---- one text

acts_done : (s : VoiceState) (done : List Did) → AreQuiet (acts_in done) → AreDone done → nacks_in (replies_behind s (ended done)) ≡ nacks_of (steps_in done)
acts_done s [] quiet are = refl
acts_done s (d ∷ done) (here, quiet) (is, are) =
    in-append (replies_to s d.act d.end) (replies_behind (state_after s d.act d.end) (ended done))
    ∙ ap (λ l. l ++ nacks_in (replies_behind (state_after s d.act d.end) (ended done))) (one_act s d.act d.end d.added here is.suits is.adds)
    ∙ ap (λ l. nacks_of d.added ++ l) (acts_done (state_after s d.act d.end) done quiet are)
    ∙ sym (of-append d.added (steps_in done))

lane_none : (f : LaneFault) → nacks_of (fault_steps f) ≡ []
lane_none (lane.LogFailed note) = refl
lane_none (lane.Full n) = refl
lane_none (lane.BadRecord n) = refl
lane_none (lane.NoCheckpoint a b) = refl
lane_none lane.CheckpointsFull = refl
lane_none lane.TooManyClients = refl
lane_none (lane.DeltaFailed note) = refl
lane_none lane.NoMemory = refl
lane_none (lane.BadCheckpoint n f) = refl
lane_none (lane.TooLarge n) = refl
lane_none lane.Worn = refl

delta_none : (f : DeltaFault) → nacks_of (delta_steps f) ≡ []
delta_none (delta.DeltaFailed note) = refl
delta_none delta.NoMemory = refl
delta_none (delta.BadDelta n) = refl
delta_none delta.Worn = refl

note_none : (failed : Option TalkFault) → nacks_of (may_steps failed) ≡ []
note_none None = refl
note_none (Some (Door fault)) = refl
note_none (Some (Lane fault)) = lane_none fault
note_none (Some (Delta fault)) = delta_none fault
note_none (Some (Store fault)) = refl
note_none (Some NoMemory) = refl

round_nacks : (r : Round) → is_connected r.from.voice ≡ true → IsRound r → nacks_in (replies_behind r.from.voice (ended r.done)) ≡ nacks_of (steps_of_round r)
round_nacks r joined is =
    acts_done r.from.voice r.done (round_quiet r joined is) is.hears_it.does.are_done
    ∙ sym (of-append (steps_in r.done) (may_steps r.heard.fault) ∙ ap (λ l. nacks_of (steps_in r.done) ++ l) (note_none r.heard.fault) ∙ append-nil (nacks_of (steps_in r.done)))

replied_prefix : (failed : Option TalkFault) (all replies : List Reply) → AreReplies failed all replies → IsPrefix replies all
replied_prefix None all replies is = subst (λ l. IsPrefix l all) (sym is) (prefix_refl all)
replied_prefix (Some (Door fault)) all replies is = subst (λ l. IsPrefix l all) (sym is) (prefix_refl all)
replied_prefix (Some (Lane fault)) all replies is = subst (λ l. IsPrefix l all) (sym is) (prefix_refl all)
replied_prefix (Some (Delta fault)) all replies is = subst (λ l. IsPrefix l all) (sym is) (prefix_refl all)
replied_prefix (Some (Store fault)) all replies is = subst (λ l. IsPrefix l all) (sym is) (prefix_refl all)
replied_prefix (Some NoMemory) all replies is = is

round_prefix : (r : Round) → is_connected r.from.voice ≡ true → IsRound r → IsPrefix (nacks_in r.sent) (nacks_of (steps_of_round r))
round_prefix r joined is =
    subst (λ l. IsPrefix (nacks_in r.sent) l) (round_nacks r joined is)
    (in_prefix r.sent (replies_behind r.from.voice (ended r.done))
    (prefix_trans r.sent r.heard.replies (replies_behind r.from.voice (ended r.done)) (sent_prefix r.sending r.sent r.heard.replies is.is_sent) (replied_prefix r.heard.fault _ r.heard.replies is.hears_it.replies)))

round_whole : (r : Round) → is_connected r.from.voice ≡ true → IsRound r → r.sending ≡ Ok tt → r.heard.fault ≡ None → nacks_in r.sent ≡ nacks_of (steps_of_round r)
round_whole r joined is sent well =
    ap nacks_in (sent_whole r.sending r.sent r.heard.replies sent is.is_sent ∙ subst (λ f. AreReplies f (replies_behind r.from.voice (ended r.done)) r.heard.replies) well is.hears_it.replies) ∙ round_nacks r joined is

-- ---- all texts of one that is connected

still_brings : (s t : Stand) (c : Event) (es : List Event) → is_connected s.talk.voice ≡ true → AreEvents s (c ∷ es) t → is_connected (behind c s).talk.voice ≡ true
still_brings s t (brings c) es joined (begins, (is, more)) = (brings_on c (ap (λ (k : Talking). is_connected k.voice) begins ∙ joined) is).still
still_brings s t (hears r) es joined (begins, (is, more)) = (hears_on r (ap (λ (k : Talking). is_connected k.voice) begins.0 ∙ joined) is).still

all_nacks : (es : List Event) (s t : Stand) → is_connected s.talk.voice ≡ true → AreEvents s es t → AreWhole es → nacks_in (answered_in es) ≡ nacks_of (steps_of es)
all_nacks [] s t joined same whole = refl
all_nacks (brings c ∷ es) s t joined (begins, (is, more)) (well, rest) = all_nacks es (behind (brings c) s) t (still_brings s t (brings c) es joined (begins, (is, more))) more rest
all_nacks (hears r ∷ es) s t joined (begins, (is, more)) (well, rest) =
    in-append r.sent (answered_in es)
    ∙ ap (λ l. l ++ nacks_in (answered_in es)) (round_whole r (ap (λ (k : Talking). is_connected k.voice) begins.0 ∙ joined) is well.0 well.1)
    ∙ ap (λ l. nacks_of (steps_of_round r) ++ l) (all_nacks es (behind (hears r) s) t (still_brings s t (hears r) es joined (begins, (is, more))) more rest)
    ∙ sym (of-append (steps_of_round r) (steps_of es))

prefix_nacks : (es : List Event) (s t : Stand) → is_connected s.talk.voice ≡ true → AreEvents s es t → MayBreakLast es → IsPrefix (nacks_in (answered_in es)) (nacks_of (steps_of es))
prefix_nacks [] s t joined same may = prefix_refl []
prefix_nacks (brings c ∷ []) s t joined (begins, (is, more)) may = prefix_refl []
prefix_nacks (hears r ∷ []) s t joined (begins, (is, more)) may =
    subst (λ l. IsPrefix l (nacks_of (steps_of_round r ++ []))) (sym (in-append r.sent []))
    (subst (λ l. IsPrefix (nacks_in r.sent ++ []) l) (sym (of-append (steps_of_round r) []))
    (prefix_last (nacks_in r.sent) (nacks_of (steps_of_round r)) (round_prefix r (ap (λ (k : Talking). is_connected k.voice) begins.0 ∙ joined) is)))
prefix_nacks (brings c ∷ e ∷ es) s t joined (begins, (is, more)) (well, rest) =
    prefix_nacks (e ∷ es) (behind (brings c) s) t (still_brings s t (brings c) (e ∷ es) joined (begins, (is, more))) more rest
prefix_nacks (hears r ∷ e ∷ es) s t joined (begins, (is, more)) (well, rest) =
    subst (λ l. IsPrefix l (nacks_of (steps_of_round r ++ steps_of (e ∷ es)))) (sym (in-append r.sent (answered_in (e ∷ es))))
    (subst (λ l. IsPrefix (nacks_in r.sent ++ nacks_in (answered_in (e ∷ es))) l) (sym (of-append (steps_of_round r) (steps_of (e ∷ es))))
    (subst (λ l. IsPrefix (l ++ nacks_in (answered_in (e ∷ es))) (nacks_of (steps_of_round r) ++ nacks_of (steps_of (e ∷ es)))) (sym (round_whole r (ap (λ (k : Talking). is_connected k.voice) begins.0 ∙ joined) is well.0 well.1))
    (prefix_behind (nacks_of (steps_of_round r)) (nacks_in (answered_in (e ∷ es))) (nacks_of (steps_of (e ∷ es)))
    (prefix_nacks (e ∷ es) (behind (hears r) s) t (still_brings s t (hears r) (e ∷ es) joined (begins, (is, more))) more rest))))

pub nacks_in_order : (es : List Event) (s t : Stand) → is_connected s.talk.voice ≡ true → AreEvents s es t → MayBreakLast es → NacksInOrder es
nacks_in_order es s t joined are may = record { prefix = prefix_nacks es s t joined are may; all = all_nacks es s t joined are }

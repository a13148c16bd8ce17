-- The state of a ledger, and what one entry more makes of it.
use Rattle.std.proofs.Common.{◌≡◌, ℕ, ◌+◌, ◌-◌, ◌^◌, ◌<◌, ◌≤◌, [], ◌∷◌, ◌++◌, length, Option, Some, None, refl, sym, ap, ◌∙◌, arith, All}
use Rattle.fluid_types.specs.declared.entries.Raw.{Raw}
use Rattle.fluid_types.specs.declared.entries.Raw.TheVariants.{Join, Leave, Submit, Report}
use Rattle.fluid_types.specs.declared.messages.Message.{Message}
use Rattle.fluid_types.specs.declared.verdicts.Verdict.{Verdict}
use Rattle.fluid_types.specs.declared.verdicts.Verdict.TheVariants.{Sequenced, Nacked, Dropped, Absorbed}
use Rattle.fluid_types.specs.Ledger.{Ledger, messages_of, order, seq}
use Rattle.fluid_types.proofs.Numbers.{numbered_most}
use Rattle.fluid_quorum.specs.declared.state.ScribeState.{ScribeState}
use Rattle.fluid_rules.specs.Rules as rules
use Rattle.fluid_rules.specs.Rules.{IsLegal}
use Rattle.fluid_rules.specs.Scribe.{acks}
use Rattle.fluid_rules.proofs.Legal.{legal-push}
use Rattle.fluid_scribe.specs.State as scribe
use Rattle.fluid_scribe.specs.Scribing as scribing
use Rattle.fluid_scribe.specs.declared.ready.ScribeReady.{ScribeReady}
use Rattle.fluid_scribe.proofs.Sequenced.{legal-sequenced, sequenced-numbered}
use Rattle.fluid_scribe.proofs.Grown.{state-entry, state-start}
use Rattle.fluid_scribe.proofs.ByRules.{answers-by_rules, kept-acks}
use Rattle.fluid_ticket.specs.State as ticket
use Rattle.fluid_ticket.specs.Ledger as ledger
use Rattle.fluid_ticket.proofs.Ledgers as tickets
use Rattle.fluid_ticket.proofs.Heard.{heard_on_order}
use Rattle.fluid_ticket.proofs.Commits.{stands_after}
use Rattle.fluid_core.specs.Entering.{State, start, answer_for, verdict_in, after, state_of, StandsFor, Prepared, note_for, prepared, Entering, HasRoom, IsPreparedIn, CanTake, Takes}
use Rattle.fluid_core.specs.Laws.{VerdictByRules, StateGrows}

-- ---- the state of a ledger

pub sequence-state_of : (l : Ledger) → (state_of l).sequencer.sequence ≡ seq l
unfolding state_of ledger.state_of
sequence-state_of l = refl

legal-most : (l : Ledger) → IsLegal l → All (λ m. m.number ≤ seq l) (order l)
unfolding seq
legal-most l legal = numbered_most (order l) 1 (length (order l)) (sequenced-numbered (order l) 0 0 (legal-sequenced l legal)) (omega arith)

-- the scribe's answer in it is that of the rules, and it is the one that is heard
answered : (l : Ledger) (raw : Raw) → IsLegal l → ledger.IsAnswered l raw (answer_for (state_of l) raw)
unfolding state_of ledger.state_of
answered l (Join id scopes detail moment) legal = tt
answered l (Leave id moment) legal = tt
answered l (Submit id submission moment) legal = tt
answered l (Report summary found moment) legal =
    ap (ticket.heard (ledger.state_of l) (Report summary found moment)) (answers-by_rules l legal summary found)
    ∙ heard_on_order (ledger.state_of l) (order l) summary found moment (legal-most l legal)

-- the verdict in the state of a ledger is that of the rules
pub verdict-state_of : VerdictByRules
unfolding verdict_in state_of
verdict-state_of l raw legal = tickets.verdict-state_of l (answer_for (state_of l) raw) raw (answered l raw legal)

pub same_state : (s t : State) → s.sequencer ≡ t.sequencer → s.scribe ≡ t.scribe → s ≡ t
same_state s t sequencer scribe = λ i. record { sequencer = sequencer i; scribe = scribe i }

-- the state of a ledger with one entry more
pub state_of-push : StateGrows
unfolding state_of after
state_of-push l raw verdict legal is =
    let said : verdict ≡ ticket.verdict_in (ledger.state_of l) (answer_for (state_of l) raw) raw =
    is ∙ sym (tickets.verdict-state_of l (answer_for (state_of l) raw) raw (answered l raw legal)) in
    let stands =
    stands_after (ledger.state_of l) (ticket.after (ledger.state_of l) raw verdict) (answer_for (state_of l) raw) raw verdict l said refl (record { is = refl }) (answered l raw legal) in
    same_state _ _ (sym stands.1.is) (state-entry l raw verdict legal (sym is))

pub verdict-stands : (s : State) (raw : Raw) (verdict : Verdict) (l : Ledger) → verdict ≡ verdict_in s raw → StandsFor s l → verdict ≡ rules.verdict l raw
verdict-stands s raw verdict l by stands = by ∙ ap (λ u. verdict_in u raw) stands.is ∙ verdict-state_of l raw stands.legal

-- a state that stood for a ledger stands, behind an entry, for the ledger with this entry
pub stands-push : (s t : State) (raw : Raw) (verdict : Verdict) (l : Ledger) → verdict ≡ verdict_in s raw → t ≡ after s raw verdict → StandsFor s l →
    (verdict ≡ rules.verdict l raw) × StandsFor t (l ++ (raw, verdict) ∷ [])
stands-push s t raw verdict l by is stands =
    let said = verdict-stands s raw verdict l by stands in (
      said,
      record {
        legal = legal-push l (raw, verdict) stands.legal said;
        is = is ∙ ap (λ u. after u raw verdict) stands.is ∙ sym (state_of-push l raw verdict stands.legal said);
      },
    )

pub start-stands : StandsFor start []
unfolding state_of order
start-stands = record { legal = tt; is = same_state _ _ tickets.start-stands.is (sym state-start) }

-- its number and its minimum
pub stands-sequencer : (s : State) (l : Ledger) → StandsFor s l → ledger.StandsFor s.sequencer l
unfolding state_of
stands-sequencer s l stands = record { is = ap (λ (t : State). t.sequencer) stands.is }

pub stands-scribe : (s : State) (l : Ledger) → StandsFor s l → s.scribe ≡ scribe.state_of (order l)
unfolding state_of
stands-scribe s l stands = ap (λ (t : State). t.scribe) stands.is

pub stands-acks : (s : State) (l : Ledger) → StandsFor s l → s.scribe.acks ≡ acks (order l)
stands-acks s l stands = ap (λ (t : ScribeState). t.acks) (stands-scribe s l stands) ∙ kept-acks (order l)

-- an entry brings one number at most
pub after-next : (s : State) (raw : Raw) (verdict : Verdict) → (after s raw verdict).sequencer.sequence ≤ s.sequencer.sequence + 1
unfolding after
after-next s raw verdict = few _ _ verdict (tickets.after-sequence s.sequencer raw verdict)
  where
    few : (n m : ℕ) (v : Verdict) → n ≡ m + length (messages_of v) → n ≤ m + 1
    few n m (Sequenced message) h = omega (arith, h)
    few n m (Nacked nack) h = omega (arith, h)
    few n m Dropped h = omega (arith, h)
    few n m Absorbed h = omega (arith, h)

-- ---- what is prepared

pub verdict_of : (s : State) (raw : Raw) (p : ticket.Prepared) → p ≡ ticket.prepared s.sequencer (answer_for s raw) raw → p.verdict ≡ verdict_in s raw
unfolding ticket.prepared verdict_in
verdict_of s raw p is = ap (λ (r : ticket.Prepared). r.verdict) is

same_prepared : (p q : Prepared) → p.ticket ≡ q.ticket → p.note ≡ q.note → p ≡ q
same_prepared p q ticket note = λ i. record { ticket = ticket i; note = note i }

pub prepared-is : (s : State) (raw : Raw) (p : ticket.Prepared) (note : Option ScribeReady) → p ≡ ticket.prepared s.sequencer (answer_for s raw) raw →
    note ≡ note_for s.scribe p.verdict → record { ticket = p; note = note } ≡ prepared s raw
unfolding prepared
prepared-is s raw p kept is noted = same_prepared _ _ is (noted ∙ ap (note_for s.scribe) (verdict_of s raw p is))

-- the parts of what was prepared
pub record HasParts (s : State) (raw : Raw) (ready : Prepared) : Type 0 where
  pub ticket_is : ready.ticket ≡ ticket.prepared s.sequencer (answer_for s raw) raw
  pub verdict_is : ready.ticket.verdict ≡ verdict_in s raw
  pub note_is : ready.note ≡ note_for s.scribe ready.ticket.verdict

pub parts_of : (s : State) (raw : Raw) (ready : Prepared) → ready ≡ prepared s raw → HasParts s raw ready
unfolding prepared
parts_of s raw ready is =
    let ticket_is : ready.ticket ≡ ticket.prepared s.sequencer (answer_for s raw) raw = ap (λ (r : Prepared). r.ticket) is in
    let verdict_is = verdict_of s raw ready.ticket ticket_is in
    record { ticket_is = ticket_is; verdict_is = verdict_is; note_is = ap (λ (r : Prepared). r.note) is ∙ ap (note_for s.scribe) (sym verdict_is) }

can_take : (s : ScribeState) (spare : ℕ) (verdict : Verdict) → HasRoom (note_for s verdict) spare →
    CanTake (record { state = s; spare = spare }) (note_for s verdict)
can_take s spare (Sequenced m) room = record { message = m; is = refl; room = room }
can_take s spare (Nacked nack) room = tt
can_take s spare Dropped room = tt
can_take s spare Absorbed room = tt

pub takes : (s : State) (spare : ℕ) (raw : Raw) (ready : Prepared) → ready ≡ prepared s raw → HasRoom ready.note spare →
    CanTake (record { state = s.scribe; spare = spare }) ready.note
takes s spare raw ready is room =
    let parts = parts_of s raw ready is in
    rw parts.note_is (can_take s.scribe spare ready.ticket.verdict (rw parts.note_is at room))

-- what the scribe can take has room
pub has_room : (s : scribing.Scribing) (note : Option ScribeReady) → CanTake s note → HasRoom note s.spare
has_room s None h = tt
has_room s (Some note) h = h.room

-- what was prepared can be committed where there is room
pub ready_in : (s : State) (c : Entering) (raw : Raw) (ready : Prepared) → ready ≡ prepared s raw → c.state ≡ s → c.state.sequencer.sequence < 2 ^ 53 - 1 → 0 < c.clients →
    HasRoom ready.note c.notes → IsPreparedIn c ready
ready_in s c raw ready is same numbered joining noting = record {
  raw = raw;
  is = is ∙ ap (λ t. prepared t raw) (sym same);
  numbered = numbered;
  joining = joining;
  noting = noting;
}

-- and then the sequencer can commit its part
pub sequencer_ready : (q : ticket.Sequencing) (s : ScribeState) (raw : Raw) (ready : Prepared) →
    ready ≡ prepared (record { sequencer = q.state; scribe = s }) raw → q.state.sequence < 2 ^ 53 - 1 → 0 < q.spare → ticket.IsPreparedIn q ready.ticket
sequencer_ready q s raw ready is numbered room = record {
  answer = answer_for (record { sequencer = q.state; scribe = s }) raw;
  raw = raw;
  is = (parts_of (record { sequencer = q.state; scribe = s }) raw ready is).ticket_is;
  numbered = numbered;
  room = room;
}

-- what the scribe took of a message, or of none
no_note : (s : ScribeState) (verdict : Verdict) → None ≡ note_for s verdict → messages_of verdict ≡ []
no_note s (Sequenced m) is = absurd (cc)
no_note s (Nacked nack) is = refl
no_note s Dropped is = refl
no_note s Absorbed is = refl

pub took-none : (s : ScribeState) → Takes s s None
took-none s verdict is = rw (no_note s verdict is) refl

pub took : (old new : ScribeState) (note : ScribeReady) → ((m : Message) → note ≡ scribing.prepared old m → new ≡ scribe.after old m) → Takes old new (Some note)
took old new note behind (Sequenced m) is = behind m (cc)
took old new note behind (Nacked nack) is = absurd (cc)
took old new note behind Dropped is = absurd (cc)
took old new note behind Absorbed is = absurd (cc)

-- the state behind what was committed
pub after-is : (s t : State) (raw : Raw) (ready : Prepared) (verdict : Verdict) → ready ≡ prepared s raw → verdict ≡ ready.ticket.verdict →
    t.sequencer ≡ ticket.after s.sequencer raw verdict → Takes s.scribe t.scribe ready.note → t ≡ after s raw verdict
unfolding after
after-is s t raw ready verdict is said sequencer takes =
    let parts = parts_of s raw ready is in
    same_state _ _ sequencer (takes verdict (parts.note_is ∙ ap (note_for s.scribe) (sym said)))

-- ---- the sequencer's parts

-- the verdict over a ledger, of what was prepared
pub ready-verdict : (s : State) (raw : Raw) (ready : Prepared) (l : Ledger) → ready ≡ prepared s raw → StandsFor s l → ready.ticket.verdict ≡ rules.verdict l raw
ready-verdict s raw ready l is stands = verdict-stands s raw ready.ticket.verdict l (parts_of s raw ready is).verdict_is stands

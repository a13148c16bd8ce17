-- What an entry does to a core: its numbers, its clients, and the message that it brings.
use Rattle.std.proofs.Common.{◌≡◌, ℕ, ◌+◌, ◌-◌, ◌^◌, ◌<◌, Bool, true, List, [], length, Option, Some, None, is_some, refl, ap, subst, arith, inl, inr, All}
use Rattle.std.specs.Prelude.{◌⊎◌, IsSome}
use Rattle.std.specs.FinMap.{get}
use Rattle.std.proofs.lemmas.Bool.{false≢true}
use Rattle.std.proofs.lemmas.List.Elements.{All-nil, All-cons}
use Rattle.fluid_json.specs.Tree.{Tree}
use Rattle.fluid_types.specs.Fits.{Fits}
use Rattle.fluid_types.specs.declared.entries.Raw.{Raw}
use Rattle.fluid_types.specs.declared.entries.Raw.TheVariants.{Join, Leave, Submit, Report}
use Rattle.fluid_types.specs.declared.entries.Scopes.{Scopes}
use Rattle.fluid_types.specs.declared.messages.Message.{Message}
use Rattle.fluid_types.specs.declared.verdicts.Verdict.{Verdict}
use Rattle.fluid_types.specs.declared.verdicts.Verdict.TheVariants.{Sequenced}
use Rattle.fluid_types.specs.Ledger.{messages_of}
use Rattle.fluid_rules.specs.Past.{is_sequenced}
use Rattle.fluid_rules.specs.Rules.{unsettled}
use Rattle.fluid_rules.specs.declared.answers.Answer.{Answer}
use Rattle.fluid_readback.proofs.Messages.{is_message_of, messages_of_are_read_back}
use Rattle.fluid_deltas.specs.Pushed.{IsKeepable}
use Rattle.fluid_ticket.specs.State as ticket
use Rattle.fluid_ticket.specs.State.{IsSound, change_of, changed}
use Rattle.fluid_ticket.proofs.Ledgers as tickets
use Rattle.fluid_ticket.proofs.Commits.{is_message_in, number_in, minimum_within, sound_after}
use Rattle.fluid_core.specs.Entering.{State, start, answer_for, verdict_in, after, state_of}
use Rattle.fluid_core.proofs.Entered.{start-stands}
use Rattle.fluid_document.proofs.Answered.{answered-handle}
use Rattle.fluid_document.proofs.Rows.{StaysWith, rows-changed}

pub start-state_of : start ≡ state_of []
start-state_of = start-stands.is

-- ---- the message of a verdict

-- it holds of the message of a verdict, where it has one
pub message_all : (P : Message → Type 0) (v : Verdict) → ((m : Message) → v ≡ Sequenced m → P m) → All P (messages_of v)
message_all P (Sequenced m) each = All-cons P m [] (each m refl) (All-nil P)
message_all P v each = All-nil P

-- ---- numbers

pub after-sequence : (s : State) (raw : Raw) (v : Verdict) → (after s raw v).sequencer.sequence ≡ s.sequencer.sequence + length (messages_of v)
unfolding after
after-sequence s raw v = tickets.after-sequence s.sequencer raw v

pub verdict-number : (s : State) (raw : Raw) (m : Message) → verdict_in s raw ≡ Sequenced m → m.number ≡ s.sequencer.sequence + 1
unfolding verdict_in
verdict-number s raw m is = number_in s.sequencer (answer_for s raw) raw m (is_message_in s.sequencer (answer_for s raw) raw m is)

-- ---- sound states

pub sound-after : (s : State) (raw : Raw) → IsSound s.sequencer → s.sequencer.sequence < 2 ^ 53 - 1 → IsSound (after s raw (verdict_in s raw)).sequencer
unfolding after verdict_in
sound-after s raw sound few = sound_after s.sequencer sound (answer_for s raw) raw _ refl few

-- ---- messages

-- a keeper takes the message of an entry that fits, and it is read back from it
pub messages-keepable : (s : State) (raw : Raw) → IsSound s.sequencer → s.sequencer.sequence < 2 ^ 53 - 1 → Fits raw → All IsKeepable (messages_of (verdict_in s raw))
unfolding verdict_in ticket.message_in
messages-keepable s raw sound few fits = message_all IsKeepable (verdict_in s raw)
    (λ m is.
    let number = s.sequencer.sequence + 1 in
    let by : ℕ → Bool → Answer = λ summary found. answer_for s raw in
    let low = subst (ticket.HasMinimumUpTo number) is (minimum_within s.sequencer (answer_for s raw) raw _ sound few refl) in
    let its = is_message_of raw number by (λ x. ticket.minimum (ticket.after s.sequencer raw (Sequenced x))) (unsettled number by raw) m (λ summary found. answered-handle s raw) refl (is_message_in s.sequencer (answer_for s raw) raw m is) in
    let back = messages_of_are_read_back raw number m.minimum m fits (omega (arith, few)) (omega (arith, few, low)) its in
    record { short = omega (arith, back.short); read_back = back.read_back })

-- ---- joined ids

abbrev pub IsJoinOf : List ℕ → Raw → Type 0
IsJoinOf c (Join id scopes detail moment) = id ≡ c
IsJoinOf c (Leave id moment) = ⊥
IsJoinOf c (Submit id submission moment) = ⊥
IsJoinOf c (Report summary found moment) = ⊥

some_of : {X : Type 0} (o : Option X) → IsSome o → (x : X) × (o ≡ Some x)
some_of None is = absurd (false≢true is)
some_of (Some x) is = (x, refl)

-- whoever is joined behind an entry was joined before it, or joins with it
pub rows-after : (s : State) (raw : Raw) (id : List ℕ) → IsSome (get (after s raw (verdict_in s raw)).sequencer.rows id) → IsSome (get s.sequencer.rows id) ⊎ IsJoinOf id raw
unfolding after ticket.after
rows-after s raw id is =
    let row = some_of (get (changed (change_of s.sequencer raw (verdict_in s raw)) s.sequencer.rows) id) is in
    rows-changed (λ q _. IsSome (get s.sequencer.rows q) ⊎ IsJoinOf q raw) s.sequencer raw (verdict_in s raw) (stays raw) (λ q _ there. inl (ap is_some there)) id row.0 row.1
  where
    stays : (r : Raw) → StaysWith (λ q _. IsSome (get s.sequencer.rows q) ⊎ IsJoinOf q r) r
    stays (Join q scopes detail moment) = (λ row one. one, λ row last heard. inr refl)
    stays (Leave q moment) = λ row one. one
    stays (Submit q submission moment) = λ row new one last heard. one
    stays (Report summary found moment) = tt

-- a join of an id that isn't joined is sequenced
pub join-sequenced : (s : State) (id : List ℕ) (scopes : Scopes) (detail : Tree) (moment : ℕ) → get s.sequencer.rows id ≡ None → is_sequenced (verdict_in s (Join id scopes detail moment)) ≡ true
unfolding verdict_in ticket.verdict_in ticket.message_in unsettled
join-sequenced s id scopes detail moment none = rw none refl

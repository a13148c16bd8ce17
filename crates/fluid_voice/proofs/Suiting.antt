-- Answers are ends that their acts may have.
use Rattle.std.proofs.Common.{◌≡◌, ◌-◌, ℕ, ℤ, Bool, true, false, List, length, drop, Option, Some, None, IfSome, option_map, Result, Ok, Err, bytes_eq, refl, sym, subst, if◌then◌else◌, arith}
use Rattle.std.proofs.lemmas.List.{length-take}
use Rattle.std.specs.Prelude.{⊤}
use Rattle.std.specs.FinMap.{get}
use Rattle.sha1.specs.Sha1.{sha1}
use Rattle.fluid_types.specs.Ledger.{Ledger, order, seq}
use Rattle.fluid_types.specs.Names.{entry_name}
use Rattle.fluid_types.specs.declared.messages.Message.{Message}
use Rattle.fluid_types.specs.declared.entries.Raw.{Raw}
use Rattle.fluid_types.specs.declared.fault.Field.{Field}
use Rattle.fluid_types.specs.declared.verdicts.Verdict.{Verdict}
use Rattle.fluid_types.specs.declared.verdicts.Verdict.TheVariants as verdict
use Rattle.fluid_tree.specs.declared.id.SummaryRef.{SummaryRef}
use Rattle.fluid_rules.specs.Rules.{verdict as verdict_of}
use Rattle.fluid_rules.specs.Scribe.{last_ack, number_of}
use Rattle.fluid_rules.proofs.Verdicts.{verdict-is_message, message-number}
use Rattle.fluid_codec.specs.declared.events.Asked.{Asked}
use Rattle.fluid_codec.specs.declared.replies.Reply.TheVariants.{Stored}
use Rattle.fluid_codec.specs.declared.events.Asked.TheVariants.{Latest, Handle}
use Rattle.fluid_voice.specs.declared.refusals.ConnectRefusal.TheVariants.{TooManyDocuments}
use Rattle.fluid_voice.specs.declared.actions.Act.TheVariants as act
use Rattle.fluid_voice.specs.declared.ends.ActEnd.{ActEnd}
use Rattle.fluid_voice.specs.declared.ends.ActEnd.TheVariants.{Entered, FullNow, TooMany, Given}
use Rattle.fluid_voice.specs.Refusals.{refused}
use Rattle.fluid_voice.specs.Ends.{join_of, joined_by, deltas_in, range_asked, summary_asked, is_beyond, put_under}
use Rattle.fluid_voice.specs.Ends.Outcome.{ends, clashes}
use Rattle.fluid_voice.specs.Suits.{SuitsConnect, SuitsEntry, SuitsDeltas, IsAsked, OutcomeSuits}
use Rattle.fluid_voice.specs.Laws.{OutcomesSuit}

joined : (l : Ledger) (join : Raw) (id : List ℕ) (full many : Bool) (m : Message) → verdict_of l join ≡ verdict.Sequenced m
    → SuitsConnect true (if full then FullNow else if many then TooMany else joined_by id (verdict_of l join))
joined l join id true many m is = tt
joined l join id false true m is = tt
joined l join id false false m is =
    let numbered = message-number l join m (verdict-is_message l join m is) in
    subst (λ (v : Verdict). SuitsConnect true (joined_by id v)) (sym is) (omega (arith, numbered))

connects : (write beyond : Bool) (end : ActEnd) → SuitsConnect write end → SuitsConnect write (if beyond then Given (refused TooManyDocuments) else end)
connects true true end h = refl
connects false true end h = refl
connects write false end h = h

entered : (full : Bool) (v : Verdict) → SuitsEntry (if full then FullNow else Entered v)
entered true v = tt
entered false v = tt

deltas : (messages : List Message) (last : ℕ) (from to : ℤ) (range : Result (ℕ × ℕ) Field) → range_asked last from to ≡ range
    → SuitsDeltas from to (Given (deltas_in messages range))
deltas messages last from to (Ok range) is =
    (last, range.1, (is, omega (arith, length-take (range.1 - range.0) (drop (range.0 - 1) messages))))
deltas messages last from to (Err f) is = (last, (f, (is, refl)))

latest : (ack : Option SummaryRef) → IfSome {T = List ℕ × ℕ} (option_map (λ (a : SummaryRef). (a.handle, a.number)) ack) (λ pair. ⊤)
latest None = tt
latest (Some a) = tt

under : (handle : List ℕ) (number : Option ℕ) → IfSome {T = List ℕ × ℕ} (option_map (λ (n : ℕ). (handle, n)) number) (λ pair. pair.0 ≡ handle)
under handle None = tt
under handle (Some n) = refl

summaries : (messages : List Message) (asked : Asked) → IfSome (summary_asked messages asked) (λ pair. IsAsked asked pair.0)
summaries messages Latest = latest (last_ack messages)
summaries messages (Handle handle) = under handle (number_of messages handle)

kept : (bytes held : List ℕ) (same : Bool)
    → OutcomeSuits (act.PutObject bytes) (if same then ends (Given (Stored (sha1 bytes))) else clashes (sha1 bytes) held bytes)
kept bytes held true = refl
kept bytes held false = (refl, refl)

puts : (bytes : List ℕ) (held : Option (List ℕ)) → OutcomeSuits (act.PutObject bytes) (put_under (sha1 bytes) bytes held)
puts bytes None = refl
puts bytes (Some other) = kept bytes other (bytes_eq other bytes)

pub outcomes_suit : OutcomesSuit
outcomes_suit f (act.Say reply) taken = refl
outcomes_suit f (act.Connect name true scopes detail moment) taken =
    connects true (is_beyond f.opened name) _
    (joined f.ledger (join_of f.ledger scopes detail moment) (entry_name (length f.ledger)) _ _ taken.0 taken.1)
outcomes_suit f (act.Connect name false scopes detail moment) taken = connects false (is_beyond f.opened name) _ tt
outcomes_suit f (act.Enter raw) taken = entered _ _
outcomes_suit f (act.Deltas from to) taken = deltas (order f.ledger) (seq f.ledger) from to _ refl
outcomes_suit f (act.Summary asked) taken = summaries (order f.ledger) asked
outcomes_suit f (act.GetObject id) taken = refl
outcomes_suit f (act.PutObject bytes) taken = puts bytes (get f.held (sha1 bytes))

-- Entries that neither ask for a summary nor answer one.
use Rattle.std.proofs.Common.{◌≡◌, Bool, true, false, not, List, [], ◌∷◌, ◌++◌, All, Some, refl, sym, subst, append-nil, append_assoc}
use Rattle.std.proofs.lemmas.List.Elements.{All-head, All-tail}
use Rattle.fluid_types.specs.Ledger.{Ledger, order, messages_of}
use Rattle.fluid_types.proofs.Ledgers.{order-push}
use Rattle.fluid_types.specs.declared.entries.Raw.{Raw}
use Rattle.fluid_types.specs.declared.entries.Raw.TheVariants.{Join, Leave, Submit, Report}
use Rattle.fluid_types.specs.declared.entries.Offered.{Offered}
use Rattle.fluid_types.specs.declared.entries.Offered.TheVariants as offered
use Rattle.fluid_types.specs.declared.messages.Message.{Message}
use Rattle.fluid_types.specs.declared.verdicts.Verdict.{Verdict}
use Rattle.fluid_types.specs.declared.verdicts.Verdict.TheVariants.{Sequenced, Nacked, Dropped, Absorbed}
use Rattle.fluid_rules.specs.Scribe.{is_summarize, is_ack}
use Rattle.fluid_rules.specs.ScribeLaws.{AcksGrow}
use Rattle.fluid_rules.specs.Rules.{kind_of, message, unsettled, verdict, ledger, entries_behind}
use Rattle.fluid_rules.proofs.Verdicts.{some_message, verdict-is_message}
use Rattle.fluid_store.specs.Held.{Held}
use Rattle.fluid_store.specs.Laws.{GoesOnStanding}
use Rattle.fluid_transcript.proofs.Begins.{ledger_more}
use Rattle.fluid_alike.proofs.Honest.{AllHonest, one_plain_more}

abbrev pub is_plain : Raw → Bool
is_plain (Join id scopes detail moment) = true
is_plain (Leave id moment) = true
is_plain (Submit id submission moment) = not (is_summarize (kind_of submission.kind))
is_plain (Report summary found moment) = false

abbrev pub Plain : Raw → Type 0
Plain raw = is_plain raw ≡ true

-- ---- their messages

pub record IsPlainMessage (m : Message) : Type 0 where
  pub asks : is_summarize m.kind ≡ false
  pub acks : is_ack m.kind ≡ false

offered_acks : (kind : Offered) → is_ack (kind_of kind) ≡ false
offered_acks offered.Op = refl
offered_acks offered.Noop = refl
offered_acks offered.Propose = refl
offered_acks offered.Reject = refl
offered_acks offered.Summarize = refl

not_true : (b : Bool) → not b ≡ true → b ≡ false
not_true true h = absurd (cc)
not_true false h = refl

pub plain_message : (l : Ledger) (raw : Raw) (m : Message) → Plain raw → message l raw ≡ Some m → IsPlainMessage m
unfolding message unsettled
plain_message l (Join id scopes detail moment) m plain is = rw (sym (some_message _ m is)) (record { asks = refl; acks = refl })
plain_message l (Leave id moment) m plain is = rw (sym (some_message _ m is)) (record { asks = refl; acks = refl })
plain_message l (Submit id submission moment) m plain is =
    rw (sym (some_message _ m is)) (record { asks = not_true (is_summarize (kind_of submission.kind)) plain; acks = offered_acks submission.kind })
plain_message l (Report summary found moment) m plain is = absurd (cc)

-- ---- a ledger that goes on by them

module _ (standing : GoesOnStanding) (grow : AcksGrow) (held : Held) where
  one_verdict : (l : Ledger) (raw : Raw) → Plain raw → AllHonest held (order l) → (v : Verdict) → verdict l raw ≡ v → AllHonest held (order l ++ messages_of v)
  one_verdict l raw plain was (Sequenced m) is =
      let says = plain_message l raw m plain (verdict-is_message l raw m is) in
      one_plain_more standing grow held (order l) m was says.asks says.acks
  one_verdict l raw plain was (Nacked nack) is = subst (AllHonest held) (sym (append-nil (order l))) was
  one_verdict l raw plain was Dropped is = subst (AllHonest held) (sym (append-nil (order l))) was
  one_verdict l raw plain was Absorbed is = subst (AllHonest held) (sym (append-nil (order l))) was

  one_entry : (l : Ledger) (raw : Raw) → Plain raw → AllHonest held (order l) → AllHonest held (order (l ++ (raw, verdict l raw) ∷ []))
  one_entry l raw plain was = subst (AllHonest held) (sym (order-push l (raw, verdict l raw))) (one_verdict l raw plain was (verdict l raw) refl)

  entries_plain : (l : Ledger) (more : List Raw) → All Plain more → AllHonest held (order l) → AllHonest held (order (l ++ entries_behind l more))
  entries_plain l [] plain was = subst (λ x. AllHonest held (order x)) (sym (append-nil l)) was
  entries_plain l (raw ∷ more) plain was =
      subst (λ x. AllHonest held (order x)) (append_assoc l ((raw, verdict l raw) ∷ []) (entries_behind (l ++ (raw, verdict l raw) ∷ []) more))
      (entries_plain (l ++ (raw, verdict l raw) ∷ []) more (All-tail Plain raw more plain) (one_entry l raw (All-head Plain raw more plain) was))

  pub raws_plain : (raws more : List Raw) → All Plain more → AllHonest held (order (ledger raws)) → AllHonest held (order (ledger (raws ++ more)))
  raws_plain raws more plain was = subst (λ x. AllHonest held (order x)) (sym (ledger_more raws more)) (entries_plain (ledger raws) more plain was)

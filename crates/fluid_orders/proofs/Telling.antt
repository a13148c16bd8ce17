-- The order of a ledger that a log takes.
use Rattle.std.proofs.Common.{◌≡◌, ◌≤◌, ◌<◌, arith, [], ◌∷◌, ◌++◌, length, All, Some, refl, sym, subst, ◌∙◌, length-append}
use Rattle.std.specs.Prelude.{IsUtf8}
use Rattle.std.proofs.lemmas.List.Elements.{All-nil, All-cons, All-append, All-pop, All-same, All-weaker}
use Rattle.fluid_texts.specs.Laws.{TextsAreRead, TextsArePrinted, TextsAreWritable}
use Rattle.fluid_types.specs.declared.entries.Raw.{Raw}
use Rattle.fluid_types.specs.declared.messages.Message.{Message}
use Rattle.fluid_types.specs.declared.verdicts.Verdict.{Verdict}
use Rattle.fluid_types.specs.declared.verdicts.Verdict.TheVariants.{Sequenced, Nacked, Dropped, Absorbed}
use Rattle.fluid_types.specs.Ledger.{Ledger, messages_of, order}
use Rattle.fluid_types.specs.Forms.{largest}
use Rattle.fluid_types.specs.Printed.{message_printed}
use Rattle.fluid_types.proofs.Ledgers.{order-push, seq-le_length}
use Rattle.fluid_rules.specs.Rules.{verdict, IsLegal}
use Rattle.fluid_rules.specs.Scribe.{reference_of}
use Rattle.fluid_rules.proofs.Legal.{legal-induction}
use Rattle.fluid_rules.proofs.Verdicts.{verdict-is_message}
use Rattle.fluid_scribe.proofs.Sequenced.{sequenced-numbered, legal-sequenced}
use Rattle.fluid_readback.specs.Quorums.{IsReadAsItself}
use Rattle.fluid_readback.proofs.Messages.{sequenced_are_read_back}
use Rattle.fluid_document.specs.Kept.{IsLoggable}
use Rattle.fluid_orders.specs.Laws.{OrdersAreTold}
use Rattle.fluid_orders.proofs.Referring.{refers_back}
use Rattle.fluid_orders.proofs.Wording.{message_utf8}

-- what is told of one message
pub record IsTold (m : Message) : Type 0 where
  pub read_back : IsReadAsItself m
  pub utf8 : IsUtf8 (message_printed m)
  pub refers_back : reference_of m ≤ m.number

of_verdict : (v : Verdict) → ((m : Message) → v ≡ Sequenced m → IsTold m) → All IsTold (messages_of v)
of_verdict (Sequenced m) told = All-cons IsTold m [] (told m refl) (All-nil IsTold)
of_verdict (Nacked nack) told = All-nil IsTold
of_verdict Dropped told = All-nil IsTold
of_verdict Absorbed told = All-nil IsTold

none_told : All IsTold (order [])
unfolding order
none_told = All-nil IsTold

module _ (reads : TextsAreRead) (prints : TextsArePrinted) (writes : TextsAreWritable) where
  one_told : (l : Ledger) (raw : Raw) (m : Message) → IsLegal l → length l < largest → IsLoggable (raw, Sequenced m) → verdict l raw ≡ Sequenced m → IsTold m
  one_told l raw m legal few loggable is =
      let back = sequenced_are_read_back l raw m legal (omega (arith, few, seq-le_length l)) loggable.fits is in
      record {
        read_back = back.read_back;
        utf8 = message_utf8 reads prints writes l raw m loggable.fits loggable.text back.in_grammar (verdict-is_message l raw m is);
        refers_back = refers_back l raw m legal is;
      }

  abbrev AreTold : Ledger → Type 0
  AreTold l = length l ≤ largest → All IsLoggable l → All IsTold (order l)

  all_told : (l : Ledger) → IsLegal l → AreTold l
  all_told =
      legal-induction AreTold (λ few loggable. none_told)
      (λ l entry legal before is few loggable.
      let parts = All-pop IsLoggable (l ++ entry ∷ []) l (Some entry) refl loggable in
      let count = length-append l (entry ∷ []) in
      All-same IsTold (order (l ++ entry ∷ [])) (order l ++ messages_of entry.1) (order-push l entry) (
      All-append IsTold (order l) (messages_of entry.1) (before (omega (arith, few, count)) parts.0)
      (of_verdict entry.1 (λ m said. one_told l entry.0 m legal (omega (arith, few, count)) (subst (λ v. IsLoggable (entry.0, v)) said parts.1) (sym is ∙ said)))))

  pub orders_are_told : OrdersAreTold
  orders_are_told l legal few loggable =
      let all = all_told l legal few loggable in
      record {
        numbered = sequenced-numbered (order l) 0 0 (legal-sequenced l legal);
        read_back = All-weaker IsTold IsReadAsItself (λ m is. is.read_back) (order l) all;
        utf8 = All-weaker IsTold (λ m. IsUtf8 (message_printed m)) (λ m is. is.utf8) (order l) all;
        refers_back = All-weaker IsTold (λ m. reference_of m ≤ m.number) (λ m is. is.refers_back) (order l) all;
      }

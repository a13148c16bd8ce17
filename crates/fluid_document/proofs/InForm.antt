-- What a checkpoint keeps of a legal ledger, whose entries a log takes, is in the form.
use Rattle.std.proofs.Common.{get_or, ◌≡◌, ℕ, ◌≤◌, [], length, All, refl, sym, subst, ◌∙◌, arith}
use Rattle.std.specs.FinMap.{entries}
use Rattle.std.proofs.lemmas.List.Elements.{All-map}
use Rattle.fluid_types.specs.Forms.{largest}
use Rattle.fluid_types.specs.declared.verdicts.Verdict.{Verdict}
use Rattle.fluid_types.specs.declared.verdicts.Verdict.TheVariants.{Sequenced}
use Rattle.fluid_types.specs.Ledger.{Ledger, order}
use Rattle.fluid_types.proofs.Ledgers.{seq-le_length}
use Rattle.fluid_rules.specs.Rules.{IsLegal, last_minimum, last_minimum_behind}
use Rattle.fluid_rules.proofs.Counted.{counted-le_length}
use Rattle.fluid_rules.proofs.Heard.{last_minimum-push}
use Rattle.fluid_clients.specs.Table.{Rows}
use Rattle.fluid_quorum.specs.Node.{AreTexts}
use Rattle.fluid_ticket.specs.Ledger as tickets
use Rattle.fluid_ticket.proofs.Within.{sound-legal}
use Rattle.fluid_core.specs.Entering.{state_of}
use Rattle.fluid_readback.specs.Quorums.{QuorumsAreReadBack}
use Rattle.fluid_readback.proofs.Messages.{sequenced_are_read_back}
use Rattle.fluid_checkpoint.specs.Heard.{moments_of}
use Rattle.fluid_checkpoint.specs.Laws.{IsClient, IsMoment, IsInForm}
use Rattle.fluid_document.specs.Entries.{entries_of}
use Rattle.fluid_document.specs.Kept.{IsLoggable, checkpoint_state}
use Rattle.fluid_document.proofs.Moments.{entries_all, moments_sorted, moments_put_back}
use Rattle.fluid_document.proofs.Rows.{AllRows}
use Rattle.fluid_document.proofs.Orders.{logged-induction}
use Rattle.fluid_document.proofs.Joined.{IsJoined, joined-ledger}
use Rattle.fluid_types.specs.Printed.{message_tree}
use Rattle.fluid_checkpoint.specs.Text.{state_members, ack_tree, client_tree, moment_tree, change_tree}
use Rattle.fluid_document.proofs.Shallow.{list_shallow, client_shallow, message_shallow}
use Rattle.fluid_document.proofs.Scribed.{scribe_in_form}

-- ---- numbers

small_behind : (n : ℕ) (v : Verdict) → n ≤ largest → ((m : _) → v ≡ Sequenced m → m.minimum ≤ largest) → last_minimum_behind n v ≤ largest
small_behind n (Sequenced m) low each = each m refl
small_behind n v low each = low

-- ---- clients

clients_in_form : (rows : Rows) (last : ℕ) → last ≤ largest → AllRows IsJoined rows → AllRows (λ id row. row.reference ≤ last) rows → All IsClient (entries rows)
clients_in_form rows last few all sound = entries_all IsClient rows (λ id row there. let one = all id row there in record { id = one.name; last = one.last; reference = omega (arith, few, sound id row there) })

moments_in_form : (rows : Rows) → AllRows IsJoined rows → All IsMoment (moments_of rows)
moments_in_form rows all = All-map IsMoment (λ entry. (entry.0, entry.1.heard)) (entries rows)
    (entries_all (λ entry. IsMoment (entry.0, entry.1.heard)) rows (λ id row there. let one = all id row there in record { id = one.name; moment = one.heard }))

-- ---- a ledger

minimum_none : last_minimum [] ≤ largest
unfolding last_minimum order
minimum_none = omega arith

minimum-small : (l : Ledger) → IsLegal l → All IsLoggable l → length l ≤ largest → last_minimum l ≤ largest
minimum-small = logged-induction (λ l. last_minimum l ≤ largest) minimum_none
    (λ l entry legal loggable few low is. subst (λ n. n ≤ largest) (sym (last_minimum-push l entry)) (small_behind (last_minimum l) entry.1 low
    (λ m said. (sequenced_are_read_back l entry.0 m legal (omega (arith, few, seq-le_length l)) loggable.fits (sym is ∙ said)).in_grammar.minimum)))

minimum-state_of : (l : Ledger) → (tickets.state_of l).last_minimum ≡ last_minimum l
unfolding tickets.state_of
minimum-state_of l = refl

pub in_form : QuorumsAreReadBack → (l : Ledger) → IsLegal l → All IsLoggable l → length l ≤ largest → AreTexts (entries_of l).state.scribe.base → IsInForm (checkpoint_state (entries_of l))
unfolding entries_of state_of state_members
in_form back l legal loggable few texts =
    let sound = sound-legal l legal (omega (arith, seq-le_length l, few)) in
    let joined = joined-ledger l legal loggable few in
    let rows : Rows = (tickets.state_of l).rows in
    let scribed = scribe_in_form back l legal loggable few texts in
    record {
      entered = omega (arith, few);
      counted = omega (arith, few, counted-le_length l);
      sequence = omega (arith, sound.few);
      minimum = omega (arith, minimum-state_of l, minimum-small l legal loggable few);
      clients = clients_in_form rows (tickets.state_of l).sequence (omega (arith, sound.few)) joined sound.rows;
      moments = moments_in_form rows joined;
      ids = moments_sorted rows;
      heard = moments_put_back rows;
      base = scribed.base;
      behind = scribed.behind;
      minima = scribed.minima;
      changes = scribed.changes;
      pending = scribed.pending;
      acks = scribed.acks;
      shallow = omega (
        arith,
        list_shallow ack_tree 1 (state_of l).scribe.acks (λ k d lt. omega arith),
        scribed.shallow,
        list_shallow message_tree 100 (state_of l).scribe.behind (λ k d lt. message_shallow _ (scribed.behind.each k d lt)),
        list_shallow client_tree 2 (entries rows) (λ k d lt. client_shallow (get_or (entries rows) k d)),
        list_shallow moment_tree 1 (moments_of rows) (λ k d lt. omega arith),
        list_shallow change_tree 1 (state_of l).scribe.minima (λ k d lt. omega arith),
        list_shallow message_tree 100 (state_of l).scribe.pending (λ k d lt. message_shallow _ (scribed.pending.each k d lt)),
      );
    }

-- What the entries of a log that fit it say of each joined client is in the form of a checkpoint.
use Rattle.std.proofs.Common.{◌≡◌, ℕ, ◌≤◌, List, length, sym, subst, ◌∙◌, arith, ⊎_elim, All}
use Rattle.std.specs.FinMap.{get-empty}
use Rattle.std.proofs.lemmas.Option.{none-some}
use Rattle.fluid_types.specs.Forms.{largest}
use Rattle.fluid_types.specs.Names.{IsName}
use Rattle.fluid_types.specs.declared.entries.Raw.{Raw}
use Rattle.fluid_types.specs.declared.entries.Raw.TheVariants.{Join, Leave, Submit, Report}
use Rattle.fluid_types.specs.declared.verdicts.Verdict.{Verdict}
use Rattle.fluid_types.specs.Ledger.{Ledger}
use Rattle.fluid_codec.specs.Laws.{IsInGrammar}
use Rattle.fluid_readback.proofs.Fitting.{fits_in_grammar}
use Rattle.fluid_rules.specs.Rules.{IsLegal}
use Rattle.fluid_clients.specs.declared.table.Row.{Row}
use Rattle.fluid_clients.specs.Table.{byte_order}
use Rattle.fluid_ticket.specs.State as ticket
use Rattle.fluid_core.specs.Entering.{State, start, after, state_of}
use Rattle.fluid_core.proofs.Entered.{state_of-push}
use Rattle.fluid_document.specs.Kept.{IsLoggable}
use Rattle.fluid_document.proofs.Onwards.{start-state_of}
use Rattle.fluid_document.proofs.Orders.{logged-induction}
use Rattle.fluid_document.proofs.Rows.{AllRows, StaysWith, rows-changed}

-- a client's id and its row as a checkpoint has them
pub record IsJoined (id : List ℕ) (row : Row) : Type 0 where
  pub name : IsName id
  pub last : row.last ≤ largest
  pub heard : row.heard ≤ largest

-- an entry in the grammar leaves them in the form
joined_stays : (raw : Raw) → IsInGrammar raw → StaysWith IsJoined raw
joined_stays (Join id scopes detail moment) is =
    (λ row one. record { name = one.name; last = one.last; heard = is.bound }, λ row last heard. record { name = is.name; last = omega (arith, last); heard = omega (arith, heard, is.bound) })
joined_stays (Leave id moment) is = λ row one. record { name = one.name; last = one.last; heard = is.bound }
joined_stays (Submit id submission moment) is = λ row new one last heard. record {
  name = one.name;
  last = ⊎_elim (λ (same : new.last ≡ row.last). omega (arith, same, one.last)) (λ (same : new.last ≡ submission.client_number). omega (arith, same, is.operation.client_number)) last;
  heard = omega (arith, heard, is.bound);
}
joined_stays (Report summary found moment) is = tt

joined_after : (s : State) (raw : Raw) (v : Verdict) → IsInGrammar raw → AllRows IsJoined s.sequencer.rows → AllRows IsJoined (after s raw v).sequencer.rows
unfolding after ticket.after
joined_after s raw v in_grammar all = rows-changed IsJoined s.sequencer raw v (joined_stays raw in_grammar) all

nobody : AllRows IsJoined start.sequencer.rows
nobody id row there = absurd (none-some _ (sym (get-empty byte_order id) ∙ there))

pub joined-ledger : (l : Ledger) → IsLegal l → All IsLoggable l → length l ≤ largest → AllRows IsJoined (state_of l).sequencer.rows
joined-ledger = logged-induction (λ l. AllRows IsJoined (state_of l).sequencer.rows) (subst (λ s. AllRows IsJoined s.sequencer.rows) start-state_of nobody)
    (λ l entry legal loggable few all is. subst (λ s. AllRows IsJoined s.sequencer.rows) (sym (state_of-push l entry.0 entry.1 legal is))
    (joined_after (state_of l) entry.0 entry.1 (fits_in_grammar entry.0 loggable.fits) all))

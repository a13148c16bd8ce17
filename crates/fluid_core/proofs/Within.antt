-- What is kept of a legal ledger lies within its order.
use Rattle.std.proofs.Common.{◌≡◌, ◌-◌, ◌^◌, ◌≤◌, arith, ap, ◌∙◌}
use Rattle.fluid_types.specs.Ledger.{Ledger, order, seq}
use Rattle.fluid_quorum.specs.declared.state.ScribeState.{ScribeState}
use Rattle.fluid_rules.specs.Rules.{IsLegal}
use Rattle.fluid_scribe.specs.State as scribe
use Rattle.fluid_scribe.specs.Within.{within as scribe_within}
use Rattle.fluid_scribe.proofs.Within.{kept_within}
use Rattle.fluid_ticket.specs.State as ticket
use Rattle.fluid_ticket.specs.Ledger as ledger
use Rattle.fluid_ticket.proofs.Ledgers.{number_of}
use Rattle.fluid_core.specs.Entering.{state_of, StandsFor}
use Rattle.fluid_core.proofs.Entered.{same_state, stands-sequencer, stands-scribe}

-- a core of what lies within the order stands for the ledger for which the parts stand
pub stands_within : (sequencer : ticket.State) (s : ScribeState) (t : ticket.State) (u : ScribeState) (l : Ledger) → seq l ≤ 2 ^ 53 - 1 → StandsFor (record { sequencer = sequencer; scribe = s }) l →
    (IsLegal l → sequencer.sequence ≤ 2 ^ 53 - 1 → ledger.StandsFor sequencer l → ledger.StandsFor t l) → u ≡ scribe_within t.sequence s → StandsFor (record { sequencer = t; scribe = u }) l
unfolding state_of
stands_within sequencer s t u l few stands kept is =
    let first = stands-sequencer (record { sequencer = sequencer; scribe = s }) l stands in
    let here = kept stands.legal (omega (arith, few, number_of sequencer l first)) first in
    let number : t.sequence ≡ seq l = number_of t l here in
    let scribe_is : s ≡ scribe.state_of (order l) = stands-scribe (record { sequencer = sequencer; scribe = s }) l stands in
    record {
      legal = stands.legal;
      is = same_state _ _ here.is (is ∙ ap (λ n. scribe_within n s) number ∙ ap (scribe_within (seq l)) scribe_is ∙ kept_within (seq l) l stands.legal (omega arith));
    }

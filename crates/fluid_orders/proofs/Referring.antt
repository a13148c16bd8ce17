-- No message of a legal ledger refers to one behind it.
use Rattle.std.proofs.Common.{◌≡◌, ◌≤◌, ℕ, ◌+◌, arith, Bool, List, Option, Some, None, option_map, sym, ap}
use Rattle.fluid_json.specs.Tree.{Tree}
use Rattle.fluid_types.specs.declared.entries.Raw.{Raw}
use Rattle.fluid_types.specs.declared.entries.Raw.TheVariants.{Join, Leave, Submit, Report}
use Rattle.fluid_types.specs.declared.entries.Scopes.{Scopes}
use Rattle.fluid_types.specs.declared.entries.Submission.{Submission}
use Rattle.fluid_types.specs.declared.messages.Kind.{Kind}
use Rattle.fluid_types.specs.declared.messages.Message.{Message}
use Rattle.fluid_types.specs.declared.verdicts.Verdict.TheVariants.{Sequenced}
use Rattle.fluid_types.specs.Ledger.{Ledger, order, seq}
use Rattle.fluid_rules.specs.Rules.{answer_message, unsettled, settled, message, verdict, IsLegal}
use Rattle.fluid_rules.specs.Scribe.{reference_of, reported}
use Rattle.fluid_rules.specs.Scribe.{answer as answer_by_rules}
use Rattle.fluid_rules.proofs.Growth.{minimum-bounded}
use Rattle.fluid_rules.proofs.Verdicts.{verdict-is_message, message-number, some_message, sequenced-was, reference-within}

submitted : (l : Ledger) (c : List ℕ) (submission : Submission) (moment : ℕ) (m : Message) → IsLegal l → verdict l (Submit c submission moment) ≡ Sequenced m → reference_of m ≤ seq l + 1
unfolding verdict
submitted l c submission moment m legal is = (reference-within l c submission moment m (minimum-bounded l legal) (sequenced-was l c submission moment m (sym is))).1

-- messages that no client sent refer to none
joined : (l : Ledger) (id : List ℕ) (scopes : Scopes) (detail : Tree) (moment : ℕ) (m : Message) → message l (Join id scopes detail moment) ≡ Some m → reference_of m ≡ 0
unfolding message unsettled
joined l id scopes detail moment m is = ap reference_of (sym (some_message _ m is))

left : (l : Ledger) (id : List ℕ) (moment : ℕ) (m : Message) → message l (Leave id moment) ≡ Some m → reference_of m ≡ 0
unfolding message unsettled
left l id moment m is = ap reference_of (sym (some_message _ m is))

of_report : (o : Option (Kind × Tree)) (l : Ledger) (raw : Raw) (number moment : ℕ) (m : Message) → option_map (settled l raw) (option_map (answer_message number moment) o) ≡ Some m → reference_of m ≡ 0
of_report None l raw number moment m is = absurd (cc)
of_report (Some said) l raw number moment m is = ap reference_of (sym (some_message _ m is))

answered : (l : Ledger) (summary moment : ℕ) (found : Bool) (m : Message) → message l (Report summary found moment) ≡ Some m → reference_of m ≡ 0
unfolding message unsettled
answered l summary moment found m is = of_report (reported summary (answer_by_rules (order l) summary found)) l (Report summary found moment) (seq l + 1) moment m is

pub refers_back : (l : Ledger) (raw : Raw) (m : Message) → IsLegal l → verdict l raw ≡ Sequenced m → reference_of m ≤ m.number
refers_back l (Submit c submission moment) m legal is =
    omega (arith, submitted l c submission moment m legal is, message-number l (Submit c submission moment) m (verdict-is_message l (Submit c submission moment) m is))
refers_back l (Join id scopes detail moment) m legal is = omega (arith, joined l id scopes detail moment m (verdict-is_message l (Join id scopes detail moment) m is))
refers_back l (Leave id moment) m legal is = omega (arith, left l id moment m (verdict-is_message l (Leave id moment) m is))
refers_back l (Report summary found moment) m legal is = omega (arith, answered l summary moment found m (verdict-is_message l (Report summary found moment) m is))

-- What messages stand for, for the crates above: where the parts stay, they stand for it still.
use Rattle.std.proofs.Common.{◌≡◌, ◌≤◌, List, ◌++◌, length, ap, sym, subst, ◌∙◌, arith}
use Rattle.fluid_types.specs.declared.messages.Message.{Message}
use Rattle.fluid_log.specs.Keeping.{Content}
use Rattle.fluid_deltas.specs.Pushed.{Pushed, AreDeltasOf, ArePartOf, StandIn, StandFor}

-- room for more messages changes nothing of the order
pub same_part : (one other : Pushed) (order : List Message) → other.before ≡ one.before → other.held ≡ one.held → ArePartOf one order → ArePartOf other order
same_part one other order before held part = record {
  first = part.first;
  behind = part.behind;
  splits = part.splits ∙ ap (λ ms. part.first ++ (ms ++ part.behind)) (sym held);
  before = part.before ∙ sym before;
  numbered = part.numbered;
  keepable = part.keepable;
}

-- nor does a keeper that keeps the same deltas
pub same_in : (one other : Pushed) (order : List Message) (content after : Content) → other.before ≡ one.before → other.held ≡ one.held → after.deltas ≡ content.deltas
    → StandIn one order content → StandIn other order after
same_in one other order content after before held deltas stands = record {
  part = same_part one other order before held stands.part;
  deltas = subst (AreDeltasOf order) (sym deltas) stands.deltas;
  reached = rw (before, deltas) stands.reached;
}

pub same_stand : (one other : Pushed) (order : List Message) (content after : Content) → other.before ≡ one.before → other.held ≡ one.held → after.deltas ≡ content.deltas
    → StandFor one order content → StandFor other order after
same_stand one other order content after before held deltas stands = record {
  stand = same_in one other order content after before held deltas stands.stand;
  whole = omega (arith, stands.whole, before, ap length held);
}

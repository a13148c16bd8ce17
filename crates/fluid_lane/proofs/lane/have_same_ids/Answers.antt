use Rattle.std.proofs.Common.{refl, sym, ap, ◌∙◌, length, arith}
use Rattle.std.proofs.lemmas.Bool.{false≢true}
use Rattle.fluid_lane.proofs.Ids.{length-keys, all_same}
use Rattle.fluid_lane.proofs.lane.have_same_ids.Goals as goal

pub returns-then-count : goal.returns-then-count
returns-then-count c = (λ is. absurd (false≢true is), λ same. absurd (c.if-count.true (c.count.ensures ∙ sym (length-keys c.args.other.now.rows) ∙ sym (ap length same) ∙ length-keys c.args.one.now.rows ∙ sym c.count-count.ensures)))

pub returns : goal.returns
returns c = (
  λ _. all_same c.args.one.now.rows c.args.other.now.rows c.loop-place.place (omega (arith, c.count-count.ensures, c.loop-place.auto.place-end, c.loop-place-test.false))
      (omega (arith, c.count-count.ensures, c.count.ensures, c.if-count.false, c.loop-place.auto.place-end, c.loop-place-test.false)) c.loop-place.invariant,
  λ _. refl,
)

use Rattle.std.proofs.Common.{arith, refl, ℕ, List, Some, ◌∷◌, ◌∙◌, ap, sym, subst}
use Rattle.fluid_tree.specs.Names.{Knows, is_refused}
use Rattle.fluid_tree.specs.Summary.{Summary, children, names}
use Rattle.fluid_tree.proofs.Admitted.{not_refused, is_so, admitted, refused, all_admitted}
use Rattle.fluid_tree.proofs.names.first_refused_child.Goals as goal

pub loop-name-preserved : goal.loop-name-preserved
loop-name-preserved c =
    let before = c.loop-name.invariant.0 in
    let known = c.in_ok-admitted.ensures before c.loop-name.invariant.1.0 in
    let good = ap (is_refused before) (sym c.as_str.ensures) ∙ not_refused _ _ known.0 c.if-not-admitted.false in (
      c.loop-name-item.result.0 ∷ before,
      (
        subst (λ n. Knows c.admit.new.self.seen (n ∷ before)) c.as_str.ensures (known.1 c.if-not-admitted.false),
        admitted (λ (m : List ℕ × Summary). m.0) (λ ms. names (children ms)) (λ m ms. refl) refl before c.args.entries.now c.loop-name.name-index c.loop-name-item.result _ (omega arith) c.loop-name-item.is good
            c.loop-name.invariant.1.1,
      ),
    )

pub returns-then-not-admitted : goal.returns-then-not-admitted
returns-then-not-admitted c =
    let before = c.loop-name.invariant.0 in
    let known = c.in_ok-admitted.ensures before c.loop-name.invariant.1.0 in
    let bad = ap (is_refused before) (sym c.as_str.ensures) ∙ is_so _ _ known.0 c.if-not-admitted.true in
    ap Some c.in_ok-name.ensures
    ∙ refused (λ (m : List ℕ × Summary). m.0) (λ ms. names (children ms)) (λ m ms. refl) refl before c.args.entries.now c.loop-name.name-index c.loop-name-item.result _ (omega arith) c.loop-name-item.is bad
    c.loop-name.invariant.1.1

pub returns : goal.returns
returns c =
    all_admitted (λ (m : List ℕ × Summary). m.0) (λ ms. names (children ms)) (λ m ms. refl) refl c.loop-name.invariant.0 c.args.entries.now c.loop-name.name-index _ (omega arith) c.loop-name.invariant.1.1

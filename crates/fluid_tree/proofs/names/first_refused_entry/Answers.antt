use Rattle.std.proofs.Common.{arith, refl, Some, map, ◌∷◌, ◌∙◌, ap, sym, subst}
use Rattle.fluid_tree.specs.Names.{Knows, is_refused}
use Rattle.fluid_tree.specs.declared.object.ObjectEntry.{ObjectEntry}
use Rattle.fluid_tree.proofs.Admitted.{not_refused, is_so, admitted, refused, all_admitted}
use Rattle.fluid_tree.proofs.names.first_refused_entry.Goals as goal

pub loop-entry-preserved : goal.loop-entry-preserved
loop-entry-preserved c =
    let before = c.loop-entry.invariant.0 in
    let known = c.in_ok-admitted.ensures before c.loop-entry.invariant.1.0 in
    let good = ap (is_refused before) (sym c.as_str.ensures) ∙ not_refused _ _ known.0 c.if-not-admitted.false in (
      c.entry-item.result.name ∷ before,
      (
        subst (λ n. Knows c.admit.new.self.seen (n ∷ before)) c.as_str.ensures (known.1 c.if-not-admitted.false),
        admitted (λ (e : ObjectEntry). e.name) (map (λ e. e.name)) (λ e es. refl) refl before c.args.entries.now c.loop-entry.entry-index c.entry-item.result _ (omega arith) c.entry-item.is good
            c.loop-entry.invariant.1.1,
      ),
    )

pub returns-then-not-admitted : goal.returns-then-not-admitted
returns-then-not-admitted c =
    let before = c.loop-entry.invariant.0 in
    let known = c.in_ok-admitted.ensures before c.loop-entry.invariant.1.0 in
    let bad = ap (is_refused before) (sym c.as_str.ensures) ∙ is_so _ _ known.0 c.if-not-admitted.true in
    ap Some c.in_ok-name.ensures
    ∙ refused (λ (e : ObjectEntry). e.name) (map (λ e. e.name)) (λ e es. refl) refl before c.args.entries.now c.loop-entry.entry-index c.entry-item.result _ (omega arith) c.entry-item.is bad
    c.loop-entry.invariant.1.1

pub returns : goal.returns
returns c =
    all_admitted (λ (e : ObjectEntry). e.name) (map (λ e. e.name)) (λ e es. refl) refl c.loop-entry.invariant.0 c.args.entries.now c.loop-entry.entry-index _ (omega arith) c.loop-entry.invariant.1.1

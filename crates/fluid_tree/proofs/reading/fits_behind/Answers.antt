use Rattle.std.proofs.Common.{◌∙◌, ◌∷◌, ◌-◌, ◌&&◌, length, not, ap, sym, subst}
use Rattle.std.specs.Prelude.{slice_get}
use Rattle.fluid_tree.specs.Names.{Knows, is_refused}
use Rattle.fluid_tree.specs.Reading.{is_behind}
use Rattle.fluid_tree.proofs.reading.fits_behind.Goals as goal

pub returns : goal.returns
returns c known knows =
    let before = c.args.before.now in
    let known_is = c.in_ok-admitted.ensures known knows in
    let good = ap (λ n. not (is_refused known n)) (sym c.as_str.ensures) ∙ sym known_is.0 ∙ c.if-not-admitted.false in (
      c.in_ok-behind.ensures ∙ ap (λ o. is_behind o c.args.entry.now) c.last.ensures.value ∙ ap (λ b. b && is_behind (slice_get before (length before - 1)) c.args.entry.now) (sym good),
      λ fits. subst (λ n. Knows c.admit.new.self.seen (n ∷ known)) c.as_str.ensures (known_is.1 c.if-not-admitted.false),
    )

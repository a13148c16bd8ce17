use Rattle.std.proofs.Common.{◌≡◌, ◌+◌, refl, sym, ap, ◌∙◌, arith}
use Rattle.fluid_loader.proofs.Behind.{kept_behind}
use Rattle.fluid_loader.proofs.container.Container.take.Goals as goal

pub invariant_of-self-2 : goal.invariant_of-self-2
invariant_of-self-2 c =
    let m = c.args.message in
    let q = c.settle.new.self.quorum in
    let kept = c.self.invariant in
    let n : m.number ≡ c.self.inside.number + 1 = c.requires.next ∙ ap (λ v. v.number + 1) (sym c.self.view_is) in
    let number : q.number ≡ c.self.inside.number = ap (λ f. f.quorum.number) c.in_ok-settle.ensures.settled ∙ kept.abreast in
    kept_behind c.settle-2.result c.apply.new.self.room m.number c.self.inside.last q m c.settle-2.new.self c.settle-2.ensures.settled c.settle-2.ensures.unchanged (n ∙ ap (λ k. k + 1) (sym number)) refl
    (omega (arith, kept.roomy, c.in_ok-apply.ensures.kept.0, n)) c.requires.fits kept.last_fits

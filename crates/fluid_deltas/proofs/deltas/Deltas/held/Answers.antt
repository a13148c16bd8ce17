use Rattle.std.proofs.Common.{rules, ◌≡◌, ◌+◌, ◌-◌, ◌<◌, ◌≤◌, ◌↔◌, length, take, drop, max, IsSome, IfSome, ap, sym, subst, ◌∙◌, arith}
use Rattle.fluid_deltas.specs.Pages.{IsOnPage}
use Rattle.fluid_deltas.specs.Pushed.{pushed, slice}
use Rattle.fluid_deltas.specs.Ranges.{held_between}
use Rattle.fluid_deltas.proofs.Slices.{held_slice, some_is}
use Rattle.fluid_deltas.proofs.deltas.Deltas.held.Goals as goal

pub returns-clause-known : goal.returns-clause-known
returns-clause-known c =
    let d = c.args.self.now in
    let start = c.args.from - 1 in
    let end = c.args.to - 1 in
    let known = subst (λ e. IsSome c.on_page.result ↔ IsOnPage (start - e.before) (end - e.before)) c.self.view_is c.on_page.ensures.known in
    let behind : d.before < c.args.from = subst (λ e. e.before < c.args.from) c.self.view_is c.if-from-self.false in
    let last : c.self.inside.last ≡ pushed d = c.self.invariant.counted ∙ ap pushed c.self.view_is in
    let within : c.args.to ≤ pushed d + 1 = omega (arith, c.if-self-to.false, last) in
    (λ some lt. (behind, (within, known.0 some)), λ are. known.1 (are c.if-to-from.false).1.1)

pub returns-clause-messages : goal.returns-clause-messages
returns-clause-messages c =
    let d = c.args.self.now in
    let start = c.args.from - 1 in
    let end = c.args.to - 1 in
    let on = subst (λ e. IfSome c.on_page.result (λ ms. ms.now ≡ take (end - e.before - (start - e.before)) (drop (start - e.before) e.held))) c.self.view_is c.on_page.ensures.messages in
    let behind : d.before < c.args.from = subst (λ e. e.before < c.args.from) c.self.view_is c.if-from-self.false in
    let count : end - d.before - (start - d.before) ≡ end - max start d.before = omega (arith, behind) in
    some_is (λ ms. ms.now) c.on_page.result _ (held_between d start end) (ap (λ n. take n (drop (start - d.before) d.held)) count) on

pub returns-clause-slice : goal.returns-clause-slice
returns-clause-slice c = λ order part.
    let d = c.args.self.now in
    let start = c.args.from - 1 in
    let end = c.args.to - 1 in
    let on = subst (λ e. IfSome c.on_page.result (λ ms. ms.now ≡ take (end - e.before - (start - e.before)) (drop (start - e.before) e.held))) c.self.view_is c.on_page.ensures.messages in
    let behind : d.before < c.args.from = subst (λ e. e.before < c.args.from) c.self.view_is c.if-from-self.false in
    let last : c.self.inside.last ≡ pushed d = c.self.invariant.counted ∙ ap pushed c.self.view_is in
    let within : c.args.to ≤ pushed d + 1 = omega (arith, c.if-self-to.false, last) in
    let count : end - d.before - (start - d.before) ≡ end - max start d.before = omega (arith, behind) in
    some_is (λ ms. ms.now) c.on_page.result _ (slice order c.args.from c.args.to)
    (ap (λ n. take n (drop (start - d.before) d.held)) count ∙ held_slice d order c.args.from c.args.to part behind within) on

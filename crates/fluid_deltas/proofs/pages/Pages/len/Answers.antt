use Rattle.std.proofs.Common.{rules, ◌≡◌, ◌+◌, ◌*◌, ◌++◌, length, ap, ◌∙◌, arith, length-append}
use Rattle.fluid_deltas.specs.Pages.{joined}
use Rattle.fluid_deltas.proofs.Paging.{joined_length}
use Rattle.fluid_deltas.proofs.pages.Pages.len.Goals as goal

pub returns-clause-length : goal.returns-clause-length
returns-clause-length c =
    let full = c.self.inside.full.items in
    let last = c.self.inside.last.items in
    let pages : c.len.result ≡ length full = search rules in
    let rest : c.len-2.result ≡ length last = search rules in
    let whole : c.len.result * 256 + c.len-2.result ≡ length (joined full ++ last) =
    omega (arith, length-append (joined full) last, joined_length full c.self.invariant.each, pages, rest) in
    whole ∙ ap (λ p. length p.messages) c.self.view_is

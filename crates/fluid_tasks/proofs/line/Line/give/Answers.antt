use Rattle.std.proofs.Common.{rules, ◌+◌, ◌<◌, drop, length, refl, sym, ap}
use Rattle.fluid_tasks.specs.Line.{given_of}
use Rattle.fluid_tasks.proofs.Lists.{rest_at}
use Rattle.fluid_tasks.proofs.line.Line.give.Goals as goal

pub returns-then-self-len : goal.returns-then-self-len
returns-then-self-len c =
    let items = c.self.inside.items.items in
    let lt : c.self.inside.start < length items = search rules in
    let next = rest_at items c.self.inside.start (c.self.inside.start + 1) lt refl in
    rw (← c.self.view_is) (sym (ap (λ l. given_of l (record { free = drop c.self.inside.start items; out = c.self.inside.out })) next.1))

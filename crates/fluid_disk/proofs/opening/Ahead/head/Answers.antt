use Rattle.std.proofs.Common.{◌≡◌, ℕ, List, length, drop, subst, ◌∙◌, arith}
use Rattle.fluid_disk.specs.Records.{IsHead}
use Rattle.fluid_disk.proofs.Standing.{tells_at}
use Rattle.fluid_disk.proofs.Walks.{is_head_more, rest_there}
use Rattle.fluid_disk.proofs.opening.Ahead.head.Goals as goal

pub returns-clause-head : goal.returns-clause-head
returns-clause-head g c held told =
    let a = c.in_ok-reach.ensures in
    let now = c.reach.ensures.reads.same.bytes ∙ told in
    let size = tells_at (g.D.Disk.seen c.reach.new.disk).bytes (λ b. (g.D.Disk.seen c.reach.new.disk).size ≡ length b) held now (g.met.D.Disk.sized c.reach.new.disk) in
    let is = tells_at (g.D.Disk.seen c.reach.new.disk).bytes _ held now a.ahead.told in
    let rest = rest_there c.reach.new.self.start c.args.place c.reach.new.self.bytes.items held is a.place.0 (omega (arith, c.requires.within, size, c.reach.ensures.reads.same.size))
    (omega (arith, a.place.1, size, c.reach.ensures.reads.same.size)) in
    is_head_more rest.0 (drop c.args.place held) c.head_of.result rest.2
    (subst (λ (l : List ℕ). IsHead l c.head_of.result) (c.rest.ensures ∙ rest.1) c.head_of.ensures)

use Rattle.std.proofs.Common.{ap, ◌∙◌}
use Rattle.std.specs.FinMap.{get, insert}
use Rattle.fluid_log.specs.Places.{faults_back}
use Rattle.fluid_disk_shelves.specs.declared.seat.Seat.TheVariants.{In, Out}
use Rattle.fluid_disk_shelves.proofs.Covering.{covers, is_out, puts_below, puts_back}
use Rattle.fluid_disk_shelves.proofs.shelves.DiskShelvesShelves.put_back.Goals as goal

pub invariant_of-self : goal.invariant_of-self
invariant_of-self g c =
    let seats = c.self.inside.seats.values in
    let out = is_out g.D.Disk.seen g.D.Disk.tells seats c.args.name.now (rw (← c.self.view_is) at c.requires) in
    let there = ap (λ n. get seats n) c.as_str.ensures.bytes ∙ out.1 in
    let new = c.replace-before.ensures.replaced (Out out.0) there ∙ ap (λ n. insert seats n (In c.args.keeper)) c.as_str.ensures.bytes in
    let counted = c.behind-self-inside.ensures.given out.0 (c.replace-before.ensures.former ∙ there) ∙ ap (λ back. faults_back out.0 back c.self.inside.faults) c.faults-back.ensures in
    puts_below g.D.Disk.seen g.D.Disk.tells seats c.replace-before.new.self.values c.args.name.now c.args.keeper c.self.inside.faults c.behind-self-inside.result out.0 c.self.invariant out.1 new counted
    c.behind-self-inside.ensures.later

pub returns-clause-does : goal.returns-clause-does
returns-clause-does g c =
    let seats = c.self.inside.seats.values in
    let out = is_out g.D.Disk.seen g.D.Disk.tells seats c.args.name.now (rw (← c.self.view_is) at c.requires) in
    let there = ap (λ n. get seats n) c.as_str.ensures.bytes ∙ out.1 in
    let new = c.replace-before.ensures.replaced (Out out.0) there ∙ ap (λ n. insert seats n (In c.args.keeper)) c.as_str.ensures.bytes in
    let counted = c.behind-self-inside.ensures.given out.0 (c.replace-before.ensures.former ∙ there) ∙ ap (λ back. faults_back out.0 back c.self.inside.faults) c.faults-back.ensures in
    rw (← c.self.view_is)
    (puts_back g.D.Disk.seen g.D.Disk.tells seats c.replace-before.new.self.values c.args.name.now c.args.keeper c.self.inside.faults c.behind-self-inside.result out.0 out.1 new counted
    c.behind-self-inside.ensures.later)

pub returns-clause-covered : goal.returns-clause-covered
returns-clause-covered g c =
    let seats = c.self.inside.seats.values in
    let out = is_out g.D.Disk.seen g.D.Disk.tells seats c.args.name.now (rw (← c.self.view_is) at c.requires) in
    let there = ap (λ n. get seats n) c.as_str.ensures.bytes ∙ out.1 in
    let new = c.replace-before.ensures.replaced (Out out.0) there ∙ ap (λ n. insert seats n (In c.args.keeper)) c.as_str.ensures.bytes in
    let counted = c.behind-self-inside.ensures.given out.0 (c.replace-before.ensures.former ∙ there) ∙ ap (λ back. faults_back out.0 back c.self.inside.faults) c.faults-back.ensures in
    covers g.D.Disk.seen g.D.Disk.tells c.replace-before.new.self.values c.behind-self-inside.result
    (puts_below g.D.Disk.seen g.D.Disk.tells seats c.replace-before.new.self.values c.args.name.now c.args.keeper c.self.inside.faults c.behind-self-inside.result out.0 c.self.invariant out.1 new counted
    c.behind-self-inside.ensures.later)

pub returns-clause-seats : goal.returns-clause-seats
returns-clause-seats g c =
    let seats = c.self.inside.seats.values in
    let out = is_out g.D.Disk.seen g.D.Disk.tells seats c.args.name.now (rw (← c.self.view_is) at c.requires) in
    let there = ap (λ n. get seats n) c.as_str.ensures.bytes ∙ out.1 in
    rw (← c.self.view_is) (c.replace-before.ensures.replaced (Out out.0) there ∙ ap (λ n. insert seats n (In c.args.keeper)) c.as_str.ensures.bytes)

pub returns-clause-faults : goal.returns-clause-faults
returns-clause-faults g c =
    let seats = c.self.inside.seats.values in
    rw (← c.self.view_is)
    (λ given there. c.behind-self-inside.ensures.given given (c.replace-before.ensures.former ∙ ap (λ n. get seats n) c.as_str.ensures.bytes ∙ there)
    ∙ ap (λ back. faults_back given back c.self.inside.faults) c.faults-back.ensures)

use Rattle.fluid_acts.proofs.Reading.{range_given, range_fails, unworn, worn_fault}
use Rattle.fluid_acts.proofs.asking.messages.Goals as goal

pub returns-in-Ok : goal.returns-in-Ok
returns-in-Ok g c = λ from to is.
    let e = c.in-Ok.ensures in
    let open_ = unworn _ _ e.worn in
    rw c.new.ensures
    (range_given c.lanes_say_their_ledgers.ensures.says from to _ _ c.args.first c.args.end is (λ v. v.items) c.in-Ok.messages open_ e.goes (e.ranges open_) (e.slice open_))

pub returns-in-Err : goal.returns-in-Err
returns-in-Err g c = λ from to is.
    let e = c.in-Err.ensures in
    rw c.from.ensures
    (range_fails c.lanes_say_their_ledgers.ensures.says from to _ _ c.args.first c.args.end is (λ v. v.items) c.in-Err.fault e.goes e.ranges (λ worn. worn_fault _ _ _ (e.worn worn)) e.slice)

use Rattle.std.proofs.Common.{Err, option_map, sym, subst}
use Rattle.fluid_loader.specs.Listed.{PutInto}
use Rattle.fluid_loader.proofs.Puts.{put_into_ok, put_into_err}
use Rattle.fluid_loader.proofs.list_link.put.Goals as goal

pub returns-in-Ok : goal.returns-in-Ok
returns-in-Ok c = λ order.
    put_into_ok c.args.tree.now (option_map (λ id. id.now) c.args.base) order c.args.objects.now c.upload.new.objects c.in-Ok.id c.in-Ok.ensures.does c.in-Ok.ensures.stands

pub returns-in-Err : goal.returns-in-Err
returns-in-Err c = λ order.
    let base = option_map (λ id. id.now) c.args.base in
    subst (λ f. PutInto c.args.tree.now base order c.args.objects.now.held c.upload.new.objects.held (Err f)) (sym c.link_fault.ensures)
    (put_into_err c.args.tree.now base order c.args.objects.now c.upload.new.objects c.in-Err.fault c.in-Err.ensures.does)

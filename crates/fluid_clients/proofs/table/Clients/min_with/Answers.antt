use Rattle.std.proofs.Common.{Some, None, ap, sym, ◌∙◌}
use Rattle.fluid_clients.proofs.Laws.{least_with-joined}
use Rattle.fluid_clients.proofs.table.Clients.min_with.Goals as goal

pub returns-in-Some : goal.returns-in-Some
returns-in-Some c =
    ap Some c.min.ensures
    ∙ sym (least_with-joined c.args.self.now.rows c.args.id.now c.args.reference (Some c.in-Some.others) c.requires (sym c.in-Some.is ∙ c.min_without.ensures))

pub returns-in-None : goal.returns-in-None
returns-in-None c =
    sym (least_with-joined c.args.self.now.rows c.args.id.now c.args.reference None c.requires (sym c.in-None.is ∙ c.min_without.ensures))

use Rattle.fluid_orders.proofs.Telling as telling
use Rattle.fluid_orders.proofs.laws.orders_are_told.Goals as goal

pub returns : goal.returns
returns c = telling.orders_are_told c.texts_are_read.ensures c.texts_are_printed.ensures.printed c.texts_are_printed.ensures.kept

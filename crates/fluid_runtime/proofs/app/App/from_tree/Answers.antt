use Rattle.fluid_runtime.specs.AppTree.{answer}
use Rattle.fluid_runtime.proofs.Marked.{loaded_app}
use Rattle.fluid_runtime.proofs.Reading.{app_read}
use Rattle.fluid_runtime.proofs.app.App.from_tree.Goals as goal

pub returns : goal.returns
returns c = app_read c.in_ok-slots.slots.values _ (answer c.args.tree.now) (loaded_app c.in_ok-slots.slots.values c.new.result.items c.new.ensures.items) c.in_ok-slots.ensures.answer

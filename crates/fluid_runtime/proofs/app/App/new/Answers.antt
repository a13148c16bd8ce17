use Rattle.std.proofs.Common.{[], refl, subst, sym, arith}
use Rattle.fluid_edits.specs.Replay.{no_channels}
use Rattle.fluid_runtime.specs.App.{StandsFor}
use Rattle.fluid_runtime.specs.Slots.{AreNamed, IsSound}
use Rattle.fluid_runtime.proofs.Marked.{fresh_app}
use Rattle.fluid_runtime.proofs.Told.{none_sound, none_named}
use Rattle.fluid_runtime.proofs.app.App.new.Goals as goal

pub invariant_of-result : goal.invariant_of-result
invariant_of-result c = (subst (IsSound 0) (sym c.new.ensures) (none_sound 0), (tt, (omega arith, subst AreNamed (sym c.new.ensures) none_named)))

pub returns-clause-fresh : goal.returns-clause-fresh
returns-clause-fresh c = fresh_app c.new.result.values c.new-2.result.items c.new.ensures c.new-2.ensures.items

pub returns-clause-stands : goal.returns-clause-stands
returns-clause-stands c =
    subst (StandsFor no_channels [] []) (sym (fresh_app c.new.result.values c.new-2.result.items c.new.ensures c.new-2.ensures.items)) (record { channels = refl; pending = refl })

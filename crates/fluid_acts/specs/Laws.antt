-- What holds of acts that are done one after another.
use Rattle.std.specs.Prelude.{◌≡◌, true, List, Ok}
use Rattle.fluid_types.specs.declared.entries.Raw.{Raw}
use Rattle.fluid_rules.specs.Counted.{is_counted}
use Rattle.fluid_store.specs.Held.{Held}
use Rattle.fluid_lane.specs.declared.steps.Step.{Step}
use Rattle.fluid_lane.specs.Steps.{ledger}
use Rattle.fluid_lane.specs.Standing.{Standing}
use Rattle.fluid_voice.specs.declared.actions.Act.{Act}
use Rattle.fluid_voice.specs.declared.actions.Act.TheVariants as act
use Rattle.fluid_voice.specs.declared.ends.ActEnd.{ActEnd}
use Rattle.fluid_voice.specs.declared.ends.ActEnd.TheVariants.{FullNow}
use Rattle.fluid_voice.specs.Ends.{outcome, added_by}
use Rattle.fluid_voice.specs.Ends.Outcome.{ends}
use Rattle.fluid_acts.specs.AtLane.{OnLane}
use Rattle.fluid_acts.specs.Doing.{found_in}
use Rattle.fluid_acts.specs.Parts.{FindsLane}

-- over a lane that stands for a list, and whose keeper tells its content, an act adds to the ledger what the definition says
abbrev pub AddsAsDefined : Type 0
AddsAsDefined =
    (a : Act) (old new : Standing) (end : ActEnd) (does : OnLane a old new (Ok end)) (l : List Step) (held : Held) → FindsLane old l
    → outcome (found_in old.limits (ledger l) held) a ≡ ends end → ledger does.added ≡ added_by (ledger l) a (ends end)

-- over every keeper: behind an entry that a full document refuses, the next one that counts is refused too
abbrev pub FullStaysAtLane : Type 0
FullStaysAtLane =
    (raw other : Raw) (old between new : Standing) (end : ActEnd) → OnLane (act.Enter raw) old between (Ok FullNow) → OnLane (act.Enter other) between new (Ok end)
    → is_counted other ≡ true → end ≡ FullNow

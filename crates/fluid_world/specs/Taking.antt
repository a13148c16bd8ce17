-- A script between two lines, as a taker of them.
use Rattle.std.specs.Prelude.{◌≡◌, ◌≤◌, ◌+◌, ℕ, ⊤, Bool, true, false, List, [], ◌++◌, length, Option, Some, None, is_some, IfSome, Result, Ok, Err, refl}
use Rattle.std.specs.Coded.{Coded, code_by, coded×, coded_ℕ, coded_bool, coded_option}
use Rattle.fluid_table.specs.Table.{Values, values_code}
use Rattle.fluid_io.specs.declared.lines.TheConstants.{MOST_LINES}
use Rattle.fluid_pipe.specs.Meaning.{Meaning}
use Rattle.fluid_pipe.specs.Output.{FailedAt}
use Rattle.fluid_pipe.specs.declared.taker.Untaken.{Untaken}
use Rattle.fluid_pipe.specs.declared.taker.Untaken.TheVariants.{Refused, Failed}
use Rattle.fluid_store.specs.Storing.{Storing}
use Rattle.fluid_types.specs.Forms.{largest}
use Rattle.fluid_lane.specs.declared.fault.LaneFault.TheVariants.{Worn}
use Rattle.fluid_lanes.specs.Opened.{Opened, opened_code}
use Rattle.fluid_door_link.specs.Codes.{storing_code}
use Rattle.fluid_rules.specs.declared.limits.Limits.{Limits}
use Rattle.fluid_steps.specs.declared.steps.Step.{Step}
use Rattle.fluid_steps.specs.declared.refusal.LineWhy.{LineWhy}
use Rattle.fluid_holding.specs.Holding.{HoldsOwn}
use Rattle.fluid_transcript.specs.World.{World, document, Told}
use Rattle.fluid_transcript.specs.Transcript.{at_line, behind, done, meaning, silent, written}
use Rattle.fluid_desk.specs.declared.stop.Stop.{Stop}
use Rattle.fluid_desk.specs.contracts.stop.Stop as stops
use Rattle.fluid_desk.specs.declared.stop.Stop.TheVariants.{BadStored}
use Rattle.fluid_desk.specs.declared.stop.StoredFault.TheVariants.{Lane}
use Rattle.fluid_desk.specs.Stopping.{MayStop, HasRun}
use Rattle.fluid_containers.specs.Ending.{StopsForLinking}
use Rattle.fluid_world.specs.declared.halted.Halted.{Halted}
use Rattle.fluid_world.specs.declared.named.Named.{Named}
use Rattle.fluid_world.specs.contracts.named.Named as named
use Rattle.fluid_world.specs.Naming.{AreBounded}
use Rattle.fluid_world.specs.Standing.{WorldStands}

-- the open documents, the store, what names stand for, how many lines were read, whether the lines of steps are written, whether all
-- this is known to stand for a world, and why a step ended the script, if one did
pub record Scripting : Type 0 where
  pub lanes : Opened
  pub store : Storing
  pub names : Values Named
  pub lines : ℕ
  pub speaks : Bool
  pub good : Bool
  pub stop : Option Stop

abbrev pub scripting_code : Coded Scripting
scripting_code =
    code_by (Opened × (Storing × (Values Named × (ℕ × (Bool × (Bool × Option Stop))))))
    (coded× opened_code (coded× storing_code (coded× (values_code Named named.the_row.coded) (coded× coded_ℕ (coded× coded_bool (coded× coded_bool (coded_option stops.the_row.coded)))))))
    (λ s. (s.lanes, (s.store, (s.names, (s.lines, (s.speaks, (s.good, s.stop)))))))
    (λ p. record { lanes = p.0; store = p.1.0; names = p.1.1.0; lines = p.1.1.1.0; speaks = p.1.1.1.1.0; good = p.1.1.1.1.1.0; stop = p.1.1.1.1.1.1 }) (λ _. refl)

-- ---- a world

-- what lines mean from a world on, where the lines of steps are written and where they aren't
abbrev pub means : (speaks : Bool) → Limits → World → Meaning LineWhy
means true limits w = meaning limits w
means false limits w = silent limits w

-- it stands for a world whose moment is the number of lines, and in which each object is held under its own id; no document has more
-- side steps than lines were taken, and no step ended it
pub record ScriptStands (s : Scripting) (w : World) : Type 0 where
  pub good : s.good ≡ true
  pub stands : WorldStands s.lanes s.store s.names w
  pub moment : w.moment ≡ s.lines
  pub owned : HoldsOwn w.store
  pub run : HasRun 0 s.lines s.lanes
  pub going : s.stop ≡ None

-- a document of a world has so many raw entries that with the lines so far, no more than an input may have, and one entry more they
-- come to the end of all numbers
abbrev pub IsLong : World → Type 0
IsLong w = (w.moment ≤ MOST_LINES + 2) × ((name : List ℕ) × (largest ≤ length (document w name).raws + w.moment + 1))

-- why a step may end a script that stands for a world: nothing that is stored is refused, but that a document is long in the world
-- behind the step
abbrev pub MayEnd : World → Stop → Type 0
MayEnd w (BadStored (Lane Worn)) = IsLong w
MayEnd w (BadStored fault) = ⊥
MayEnd w other = ⊤

-- a step leaves each object under its own id
abbrev pub LeavesOwn : Step → Type 0
LeavesOwn step = (limits : Limits) (w : World) → HoldsOwn w.store → HoldsOwn (done limits (at_line w) step).world.store

-- it took these lines from the world on that is told of
pub record StandsBehind (told : Option World) (m : Meaning LineWhy) (before : List (List ℕ)) (s : Scripting) : Type 0 where
  pub first : World
  pub is_told : told ≡ Some first
  pub is : m ≡ means s.speaks s.lanes.limits first
  pub stands : ScriptStands s (behind s.lanes.limits first before)

-- a step ended it at the last of these lines, from the world on that is told of
pub record StoppedBehind (told : Option World) (lines : List (List ℕ)) (s : Scripting) : Type 0 where
  pub first : World
  pub is_told : told ≡ Some first
  pub ends : IfSome s.stop (MayEnd (behind s.lanes.limits first lines))

-- the same at the last of some first lines of the input
abbrev pub StopsAt : Limits → World → Option Stop → (input : Option (List ℕ)) → Type 0
StopsAt limits w stop input = FailedAt (λ lines. IfSome stop (MayEnd (behind limits w lines))) input

-- where it is known to stand for a world, it stands for one
abbrev pub MayStand : Scripting → Type 0
MayStand s = s.good ≡ true → (w : World) × ScriptStands s w

-- at most so many lines were taken, and no step ended it
pub record IsWithin (n : ℕ) (s : Scripting) : Type 0 where
  pub lines : s.lines ≤ n
  pub numbers : AreBounded n s.names
  pub going : s.stop ≡ None
  pub stands : MayStand s

-- ---- one line after another

-- in a run that began when the shelves had counted so many faults, and the store was so before
abbrev pub RanTo : (first : ℕ) → (before : Storing) → Scripting → Option Stop → Type 0
RanTo first before s None = HasRun first s.lines s.lanes
RanTo first before s (Some stop) = StopsForLinking first (s.lines + 1) before s.store s.lanes stop

-- the same behind a line, unless a step ended it
abbrev pub StoodTo : Scripting → Option Stop → Type 0
StoodTo s None = MayStand s
StoodTo s (Some stop) = ⊤

pub record Goes (a b : Scripting) : Type 0 where
  pub limits : b.lanes.limits ≡ a.lanes.limits
  pub speaks : b.speaks ≡ a.speaks
  pub good : b.good ≡ a.good
  pub counts : a.store.faults ≤ b.store.faults
  pub few : a.lines ≤ MOST_LINES + 1 → b.lines ≤ MOST_LINES + 1
  pub runs : (first : ℕ) → HasRun first a.lines a.lanes → RanTo first a.store b b.stop
  pub stood : MayStand a → StoodTo b b.stop

-- behind a step that ended the script nothing is done
abbrev pub FollowsBy : Option Stop → Scripting → Scripting → Type 0
FollowsBy None a b = Goes a b
FollowsBy (Some stop) a b = b ≡ a

abbrev pub Follows : Scripting → Scripting → Type 0
Follows a b = FollowsBy a.stop a b

-- a step ended the script
abbrev pub HasStopped : Scripting → Type 0
HasStopped s = is_some s.stop ≡ true

-- ---- a line

-- what is written of these bytes
abbrev pub spoken : (speaks : Bool) → List ℕ → List ℕ
spoken true bytes = bytes
spoken false bytes = []

-- these parts and numbers stay, and no count of the store falls
pub record Moves (a b : Scripting) : Type 0 where
  pub limits : b.lanes.limits ≡ a.lanes.limits
  pub speaks : b.speaks ≡ a.speaks
  pub good : b.good ≡ a.good
  pub lines : b.lines ≡ a.lines
  pub stop : b.stop ≡ a.stop
  pub counts : a.store.faults ≤ b.store.faults

-- a step was done, and what it writes waits
pub record Wrote (told : Told) (speaks : Bool) (s : Scripting) (old new : List ℕ) : Type 0 where
  pub stands : WorldStands s.lanes s.store s.names told.world
  pub waits : new ≡ old ++ spoken speaks (written told.lines)

abbrev pub WritesBy : Told → (speaks : Bool) → Scripting → (old new : List ℕ) → Result (Unit {0}) Stop → Type 0
WritesBy told speaks s old new (Ok done) = Wrote told speaks s old new
WritesBy told speaks s old new (Err stop) = MayStop told.world s.lanes stop

-- a line was taken: it isn't refused, the script stands for the world behind it, and what it writes waits
pub record TookLine (refusal : Option LineWhy) (told : Told) (speaks : Bool) (s : Scripting) (old new : List ℕ) : Type 0 where
  pub accepted : refusal ≡ None
  pub stands : ScriptStands s told.world
  pub waits : new ≡ old ++ spoken speaks (written told.lines)

abbrev pub TakesBy : (refusal : Option LineWhy) → World → Told → (speaks : Bool) → Scripting → (old new : List ℕ) → Result (Unit {0}) (Untaken LineWhy Halted) → Type 0
TakesBy refusal w told speaks s old new (Ok done) = TookLine refusal told speaks s old new
TakesBy refusal w told speaks s old new (Err (Refused why)) = (refusal ≡ Some why) × ScriptStands s w
TakesBy refusal w told speaks s old new (Err (Failed halted)) = IfSome s.stop (MayEnd told.world)

-- where a step ended it, it keeps why
abbrev pub HaltsBy : Scripting → Result (Unit {0}) (Untaken LineWhy Halted) → Type 0
HaltsBy s (Err (Failed halted)) = HasStopped s
HaltsBy s other = ⊤

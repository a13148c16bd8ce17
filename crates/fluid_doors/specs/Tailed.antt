-- The last messages of a document's order, printed, beside its lane.
use Rattle.std.specs.Prelude.{◌≡◌, ◌⊎◌, ⊤, ℕ, ◌+◌, ◌<◌, ◌≤◌, Bool, true, List, [], ◌∷◌, length, Result, Ok, Err, IfErr}
use Rattle.fluid_types.specs.Ledger.{order}
use Rattle.fluid_types.specs.Order.{AreNumberedFrom}
use Rattle.fluid_types.specs.declared.messages.Message.{Message}
use Rattle.fluid_deltas.specs.Pushed.{slice}
use Rattle.fluid_deltas.specs.declared.fault.DeltaFault.{DeltaFault}
use Rattle.fluid_types.specs.Forms.{largest}
use Rattle.fluid_feed.specs.Tails.{ATail, too_many, with_more, IsTrimmed}
use Rattle.fluid_types.specs.declared.verdicts.Verdict.{Verdict}
use Rattle.fluid_types.specs.declared.verdicts.Verdict.TheVariants.{Sequenced}
use Rattle.fluid_lane.specs.declared.fault.LaneFault.{LaneFault}
use Rattle.fluid_lane.specs.declared.steps.Step.{Step}
use Rattle.fluid_lane.specs.Steps.{ledger}
use Rattle.fluid_lane.specs.Standing.{Standing, LaneStands}
use Rattle.fluid_doors.specs.declared.bench.Terms.{Terms}
use Rattle.fluid_doors.specs.Terms.{terms_of}
use Rattle.fluid_doors.specs.Collecting.{Collects, gathered}

-- they are the messages of the order from the first one's number on
pub record IsIn (t : ATail) (order : List Message) : Type 0 where
  pub is : t.messages ≡ slice order t.from (t.from + length t.messages)
  pub within : t.from + length t.messages ≤ length order + 1

-- Over any keeper they are numbered one by one; where it tells its content, they are messages of the ledger's order
pub record IsTailOf (tells : Bool) (t : ATail) (l : List Step) : Type 0 where
  pub first : 0 < t.from
  pub numbered : AreNumberedFrom t.from t.messages
  pub few : t.from + length t.messages ≤ largest + 1
  pub told : tells ≡ true → IsIn t (order (ledger l))

-- a lane that stands for the list, and a tail of its order that hasn't too many messages
pub record BenchStands (s : Standing) (t : ATail) (l : List Step) : Type 0 where
  pub lane : LaneStands s l
  pub tail : IsTailOf (terms_of s).told t l
  pub short : length t.messages < too_many

-- ---- for private clauses

-- it is as it was, where it reaches to this number, or else it begins there and has no messages
abbrev pub Begins : (old new : ATail) → ℕ → Type 0
Begins old new from = ((new ≡ old) × (from ≤ old.from + length old.messages)) ⊎ (new ≡ record { from = from; messages = [] })

-- the message of the last number was put behind it, and perhaps some of the first were let go; or it is as it was
abbrev pub KeepsUp : (last : ℕ) → Message → (old new : ATail) → Type 0
KeepsUp last m old new = (new ≡ old) ⊎ ((old.from + length old.messages ≡ m.number) × ((m.number ≡ last) × IsTrimmed (with_more (m ∷ []) old) new))

-- whatever the answer: of one that isn't a sequenced message the tail is as it was
abbrev pub KeepsUpBy : (last : ℕ) → Result Verdict LaneFault → (old new : ATail) → Type 0
KeepsUpBy last (Ok (Sequenced m)) old new = KeepsUp last m old new
KeepsUpBy last other old new = new ≡ old

-- it has the messages from one number to before another
pub record ReachesTo (t : ATail) (from to : ℕ) : Type 0 where
  pub low : t.from ≤ from
  pub high : to ≤ t.from + length t.messages

-- what failed is what fails a collection
abbrev pub FailsAt : Terms → (from to : ℕ) → Result (Unit {0}) DeltaFault → List Step → Type 0
FailsAt t from to (Ok done) l = ⊤
FailsAt t from to (Err fault) l = (atmost : ℕ) → to ≤ from + atmost → Collects gathered t from atmost (Err fault) l

-- it is a tail still, and where it got nothing it isn't longer
abbrev pub IsNoLonger : ATail → ATail → Result (Unit {0}) DeltaFault → Type 0
IsNoLonger old new result = IfErr result (λ _. length new.messages ≤ length old.messages)

pub record ReadsUpTo (t : Terms) (from to : ℕ) (now : ATail) (result : Result (Unit {0}) DeltaFault) (l : List Step) : Type 0 where
  pub tail : IsTailOf t.told now l
  pub fails : FailsAt t from to result l

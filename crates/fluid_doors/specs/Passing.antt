-- What a call on a door makes of the pass that it is handed.
use Rattle.std.specs.Prelude.{◌≡◌, ◌≤◌, List, ◌++◌, map, length}
use Rattle.fluid_turn.specs.declared.view.Numbered.{Numbered}
use Rattle.fluid_turn.specs.Entries.{IsPrefix, by_seat, entries}
use Rattle.fluid_turn.specs.Seats.{Known}
use Rattle.fluid_types.specs.Forms.{largest}
use Rattle.fluid_lane.specs.declared.steps.Step.{Step}
use Rattle.fluid_lane.specs.Standing.{Standing, LaneStands}
use Rattle.fluid_doors.specs.declared.bench.Terms.{Terms}
use Rattle.fluid_doors.specs.Terms.{terms_of}

-- a pass of a document
abbrev pub APass : Type 0
APass = Known Step Terms

-- the pass has entered these steps behind the whole list
abbrev pub adding : List Step → APass → APass
adding added k = record k { seen = k.seen ++ map (by_seat k.number) added; mine = k.mine ++ added }

-- The pass q comes back for the pass p. The call found a list of the document that begins with all that p had seen, and of that list
-- these facts hold. It added these steps, which are the pass's own, and they are the last that q has seen
pub record Grows (p q : APass) (added : List Step) (holds : List Step → Type 0) : Type 0 where
  pub turn : q.turn ≡ p.turn
  pub number : q.number ≡ p.number
  pub before : List (Numbered Step)
  pub begins : IsPrefix p.seen before
  pub seen : q.seen ≡ before ++ map (by_seat p.number) added
  pub mine : q.mine ≡ p.mine ++ added
  pub more : IsPrefix p.seen q.seen
  pub few : length q.seen ≤ largest
  pub says : holds (entries before)

-- A call on a lane behind its door: what never changes stays, the keeper's count of faults never falls, and whatever list it stood
-- for, it stands for that list with these steps
pub record Continues (old new : Standing) (added : List Step) : Type 0 where
  pub terms : terms_of new ≡ terms_of old
  pub later : old.keeping.faults ≤ new.keeping.faults
  pub list : (l : List Step) → LaneStands old l → LaneStands new (l ++ added)

-- What an act does to the lane of its document, whether its keeper tells its content or not.
use Rattle.std.specs.Prelude.{◌≡◌, ◌⊎◌, ℕ, ◌+◌, ◌<◌, ◌≤◌, ⊤, ◌||◌, Bool, true, false, List, Result, Ok, Err, OnOk, IfOk, IfErr}
use Rattle.std.specs.Option.{option_map}
use Rattle.fluid_io.specs.Causes.{Tells}
use Rattle.fluid_types.specs.declared.entries.Raw.{Raw}
use Rattle.fluid_types.specs.declared.entries.Raw.TheVariants.{Join}
use Rattle.fluid_types.specs.declared.fault.Field.{Field}
use Rattle.fluid_types.specs.Names.{entry_name}
use Rattle.fluid_log.specs.Keeping.{Keeping}
use Rattle.fluid_codec.specs.declared.events.Asked.{Asked}
use Rattle.fluid_codec.specs.declared.replies.Reply.TheVariants.{Deltas, Summary}
use Rattle.fluid_core.specs.Entering.{verdict_in}
use Rattle.fluid_document.specs.Entries.{Entries, taken_up}
use Rattle.fluid_deltas.specs.Ranges.{IsNoted, AreNumbersOf, range_of}
use Rattle.fluid_deltas.specs.declared.fault.DeltaFault.{DeltaFault}
use Rattle.fluid_deltas.specs.declared.fault.DeltaFault.TheVariants as delta
use Rattle.fluid_lane.specs.declared.fault.LaneFault.{LaneFault}
use Rattle.fluid_lane.specs.declared.fault.LaneFault.TheVariants as lane
use Rattle.fluid_lane.specs.declared.steps.Step.{Step}
use Rattle.fluid_lane.specs.Standing.{Standing, LaneStands, Goes, is_worn}
use Rattle.fluid_lane.specs.Refusals.{IsCutFailed, is_full, is_full_for, has_too_many}
use Rattle.fluid_voice.specs.declared.actions.Act.{Act}
use Rattle.fluid_voice.specs.declared.actions.Act.TheVariants as act
use Rattle.fluid_voice.specs.declared.ends.ActEnd.{ActEnd}
use Rattle.fluid_voice.specs.declared.ends.ActEnd.TheVariants.{Joined, Told, Entered, FullNow, TooMany, Given}
use Rattle.fluid_voice.specs.Ends.{range_asked, out_of_range, summary_among}
use Rattle.fluid_ends.specs.declared.fault.TalkFault.{TalkFault}
use Rattle.fluid_ends.specs.declared.fault.TalkFault.TheVariants.{Lane, Delta, NoMemory}
use Rattle.fluid_ends.specs.Adding.{Adds}
pub use Rattle.fluid_ends.specs.Asking.{is_entering, is_asked_of_lane}

-- ---- what it leaves

-- the same checkpoints are stored
pub record KeepsCheckpoints (old new : Keeping) : Type 0 where
  pub count : new.checkpoints ≡ old.checkpoints
  pub texts : option_map (λ c. c.checkpoints) new.content ≡ option_map (λ c. c.checkpoints) old.content

-- what the entries made: the entry is taken up, or all is as it was
abbrev pub entries_after : Entries → Act → Result ActEnd TalkFault → Entries
entries_after e (act.Enter raw) (Ok (Entered verdict)) = taken_up e raw
entries_after e (act.Connect name write scopes detail moment) (Ok (Joined id number)) = taken_up e (Join id scopes detail moment)
entries_after e act result = e

-- ---- how it ends, over every keeper: a limit is told exactly where the lane has reached it

abbrev pub IsEntryEnd : Standing → Raw → ActEnd → Type 0
IsEntryEnd s raw FullNow = (is_full_for s raw).0 ≡ true
IsEntryEnd s raw (Entered verdict) = ((is_full_for s raw).0 ≡ false) × (verdict ≡ verdict_in s.entries.state raw)
IsEntryEnd s raw end = ⊥

-- the id is that of the number of entries before the join, and the message is the next one
abbrev pub IsJoinEnd : Standing → ActEnd → Type 0
IsJoinEnd s FullNow = (is_full s).0 ≡ true
IsJoinEnd s TooMany = ((is_full s).0 ≡ false) × ((has_too_many s).0 ≡ true)
IsJoinEnd s (Joined id number) =
    (((is_full s).0 ≡ false) × ((has_too_many s).0 ≡ false)) × ((id ≡ entry_name s.entries.entered) × (number ≡ s.entries.state.sequencer.sequence + 1))
IsJoinEnd s end = ⊥

-- the messages of the range that was asked for, or which of its numbers is out of range
abbrev pub IsRangeEnd : Result (ℕ × ℕ) Field → ActEnd → Type 0
IsRangeEnd (Ok range) (Given (Deltas first messages)) = (first ≡ range.0) × AreNumbersOf range.0 range.1 messages
IsRangeEnd (Ok range) end = ⊥
IsRangeEnd (Err f) end = end ≡ Given (out_of_range f)

-- the acknowledged summary that was asked for, among those that the lane keeps
abbrev pub IsSummaryEnd : Standing → Asked → ActEnd → Type 0
IsSummaryEnd s asked end = end ≡ Given (Summary (summary_among s.entries.state.scribe.acks asked))

abbrev pub IsEndAt : Standing → Act → ActEnd → Type 0
IsEndAt s (act.Enter raw) end = IsEntryEnd s raw end
IsEndAt s (act.Connect name true scopes detail moment) end = IsJoinEnd s end
IsEndAt s (act.Connect name false scopes detail moment) end = end ≡ Told s.entries.state.sequencer.sequence
IsEndAt s (act.Deltas from to) end = IsRangeEnd (range_asked s.entries.state.sequencer.sequence from to) end
IsEndAt s (act.Summary asked) end = IsSummaryEnd s asked end
IsEndAt s act end = ⊤

-- a worn lane says so, or memory was wanting before it was asked
pub record IsWorn (old new : Standing) (result : Result ActEnd TalkFault) : Type 0 where
  pub answer : (result ≡ Err NoMemory) ⊎ (result ≡ Err (Lane lane.Worn))
  pub same : new ≡ old

-- of a worn lane a range is answered so; one that is out of range isn't asked of the lane
abbrev pub RangesBy : Result (ℕ × ℕ) Field → Standing → Standing → Result ActEnd TalkFault → Type 0
RangesBy (Ok range) old new result = is_worn old ≡ true → (result ≡ Err (Delta delta.Worn)) × (new ≡ old)
RangesBy (Err f) old new result = new ≡ old

abbrev pub IsRangeOf : Act → Standing → Standing → Result ActEnd TalkFault → Type 0
IsRangeOf (act.Deltas from to) old new result = RangesBy (range_asked old.entries.state.sequencer.sequence from to) old new result
IsRangeOf a old new result = ⊤

-- whether a cut is owed behind an entry: none behind an end, and one where the log failed. A lane may be worn, and memory wanting, before
-- one is looked for
abbrev pub OwesBy : Standing → Result ActEnd TalkFault → Type 0
OwesBy new (Ok end) = new.owed ≡ false
OwesBy new (Err (Lane (lane.LogFailed note))) = new.owed ≡ true
OwesBy new (Err (Lane (lane.DeltaFailed note))) = new.owed ≡ false
OwesBy new (Err fault) = ⊤

-- the lane has reached a limit that refuses the act
abbrev pub is_limited : Standing → Act → Bool
is_limited s (act.Enter raw) = (is_full_for s raw).0
is_limited s (act.Connect name true scopes detail moment) = (is_full s).0 || (has_too_many s).0
is_limited s act = false

-- the cut that is owed failed, or memory was wanting
abbrev pub IsLimitFault : Standing → Standing → TalkFault → Type 0
IsLimitFault old new (Lane (lane.LogFailed note)) = IsCutFailed old new
IsLimitFault old new NoMemory = ⊤
IsLimitFault old new fault = ⊥

-- at a limit only the cut that is owed is asked of the keeper
pub record IsLimited (old new : Standing) (result : Result ActEnd TalkFault) : Type 0 where
  pub fails : IfErr result (IsLimitFault old new)
  pub unasked : old.owed ≡ false → new ≡ old

-- what an act does to the lane, over every keeper
pub record OnLane (a : Act) (old new : Standing) (result : Result ActEnd TalkFault) : Type 0 where
  pub added : List Step
  pub adds : Adds a result added
  pub goes : Goes old new added
  pub entries : new.entries ≡ entries_after old.entries a result
  -- an act that reads leaves a cut as owed as it was
  pub owes : is_entering a ≡ true → OwesBy new result
  pub level : is_entering a ≡ false → new.owed ≡ old.owed
  -- where the act doesn't fail, no checkpoint is stored
  pub checkpoints : OnOk result (KeepsCheckpoints old.keeping new.keeping)
  pub ends : IfOk result (IsEndAt old a)
  pub worn : is_worn old ≡ true → is_entering a ≡ true → IsWorn old new result
  pub range : IsRangeOf a old new result
  pub limited : is_worn old ≡ false → is_limited old a ≡ true → IsLimited old new result
  pub untouched : is_asked_of_lane a ≡ false → new ≡ old

-- ---- why it fails

abbrev pub IsLaneCause : Standing → Standing → LaneFault → Type 0
IsLaneCause old new (lane.LogFailed note) = IsNoted old.keeping.faults new.keeping.faults note
IsLaneCause old new (lane.DeltaFailed note) = IsNoted old.keeping.faults new.keeping.faults note
IsLaneCause old new lane.Worn = is_worn old ≡ true
IsLaneCause old new fault = ⊥

-- the first delta of the range that was asked for that doesn't decode is this one, and none is where the lane stands for a list
pub record IsBadDelta (range : Result (ℕ × ℕ) Field) (s : Standing) (number : ℕ) : Type 0 where
  pub first : ℕ
  pub end : ℕ
  pub asked : range ≡ Ok (first, end)
  pub within : (first ≤ number) × ((number < end) × (number ≤ s.messages.before))
  pub bad : Tells s.keeping.content (λ content. range_of s.messages content first end ≡ Err (delta.BadDelta number))
  pub never : (l : List Step) → LaneStands s l → Tells s.keeping.content (λ _. ⊥)

abbrev pub IsBadFor : Act → Standing → ℕ → Type 0
IsBadFor (act.Deltas from to) s number = IsBadDelta (range_asked s.entries.state.sequencer.sequence from to) s number
IsBadFor a s number = ⊥

abbrev pub IsDeltaCause : Act → Standing → Standing → DeltaFault → Type 0
IsDeltaCause a old new (delta.DeltaFailed note) = IsNoted old.keeping.faults new.keeping.faults note
IsDeltaCause a old new (delta.BadDelta number) = IsBadFor a old number
IsDeltaCause a old new delta.Worn = is_worn old ≡ true
IsDeltaCause a old new delta.NoMemory = ⊥

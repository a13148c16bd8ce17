-- A script from its start to its end.
use Rattle.std.proofs.Common.{◌≡◌, ℕ, ◌+◌, ◌≤◌, arith, Bool, true, false, List, [], Option, Some, None, is_some, Result, Ok, Err, refl, sym, ap, ap₂, subst, ◌∙◌}
use Rattle.std.specs.Prelude.{IfSome, not}
use Rattle.std.proofs.lemmas.Bool.{false≢true}
use Rattle.std.specs.FinMap.{get, empty, get-empty}
use Rattle.fluid_table.specs.Table.{byte_order, Values}
use Rattle.fluid_io.specs.Streams.{Reading, Writing}
use Rattle.fluid_io.specs.declared.lines.TheConstants.{MOST_LINES}
use Rattle.fluid_log.specs.Shelving.{Shelving}
use Rattle.fluid_store.specs.Storing.{Storing}
use Rattle.fluid_pipe.specs.Meaning.{Meaning}
use Rattle.fluid_pipe.specs.Output.{FailedAt, Finished, HasFailed}
use Rattle.fluid_pipe.specs.declared.stop.Stop.{Stop as PipeStop}
use Rattle.fluid_pipe.specs.declared.stop.Stop.TheVariants as pipe
use Rattle.fluid_lane.specs.Standing.{Standing}
use Rattle.fluid_lanes.specs.Opened.{nothing_open}
use Rattle.fluid_rules.specs.declared.limits.Limits.{Limits}
use Rattle.fluid_steps.specs.declared.refusal.LineWhy.{LineWhy}
use Rattle.fluid_steps.specs.Refusals.{why_text}
use Rattle.fluid_transcript.specs.World.{World}
use Rattle.fluid_transcript.specs.Transcript.{behind}
use Rattle.fluid_transcript.specs.Laws.{FirstIsSound}
use Rattle.fluid_door_link.specs.Hushing.{hushed}
use Rattle.fluid_world.specs.declared.halted.Halted.{Halted}
use Rattle.fluid_world.specs.declared.named.Named.{Named}
use Rattle.fluid_world.specs.Taking.{Scripting, means, ScriptStands, StandsBehind, MayEnd, StoppedBehind, StopsAt, MayStand, IsWithin, RanTo, StoodTo, Goes, Follows}
use Rattle.fluid_world.specs.Ending.{IsDeskOf}
use Rattle.fluid_world.proofs.Tooked.{goes_of}
use Rattle.fluid_world.proofs.Ended.{nothing_there, run_at_first, stands_at_first}

-- ---- at first

abbrev pub first_script : Shelving → Limits → Storing → (speaks good : Bool) → Scripting
first_script shelves limits objects speaks good = record { lanes = nothing_open shelves limits; store = hushed good objects; names = empty; lines = 0; speaks = speaks; good = good; stop = None }

module _ (shelves : Shelving) (limits : Limits) (objects : Storing) (speaks : Bool) (first : FirstIsSound) where
  may_at_first : (told : Option World) → IfSome told (IsDeskOf shelves objects) → MayStand (first_script shelves limits objects speaks (is_some told))
  may_at_first None is good = absurd (false≢true good)
  may_at_first (Some w) is good = (w, stands_at_first shelves limits objects w speaks first is)

  pub within_at_first : (told : Option World) → IfSome told (IsDeskOf shelves objects) → IsWithin 0 (first_script shelves limits objects speaks (is_some told))
  within_at_first told is = record { lines = omega arith; numbers = λ q named there. absurd (nothing_there Named empty q named (get-empty byte_order q) there); going = refl; stands = may_at_first told is }

  pub stands_behind_first : (told : Option World) → IfSome told (IsDeskOf shelves objects) → (w : World) → told ≡ Some w
      → StandsBehind told (means speaks limits w) [] (first_script shelves limits objects speaks (is_some told))
  stands_behind_first None is w some = absurd (cc)
  stands_behind_first (Some v) is w some =
      let same : v ≡ w = cc in
      record { first = w; is_told = some; is = refl; stands = subst (ScriptStands (first_script shelves limits objects speaks true)) same (stands_at_first shelves limits objects v speaks first is) }

-- ---- behind the lines

pub words_mean : (told : Option World) (m : Meaning LineWhy) (before : List (List ℕ)) (s : Scripting) → StandsBehind told m before s → (why : LineWhy) → m.words why ≡ why_text why
words_mean told m before s b why = ap (λ n. n.words why) b.is ∙ by s.speaks
  where
    by : (speaks : Bool) → (means speaks s.lanes.limits b.first).words why ≡ why_text why
    by true = refl
    by false = refl

-- it stands for the world behind them from the one that is told of
stands_told : (told : Option World) (m : Meaning LineWhy) (before : List (List ℕ)) (s : Scripting) (w : World) → told ≡ Some w → StandsBehind told m before s → ScriptStands s (behind s.lanes.limits w before)
stands_told told m before s w is b =
    let both : ◌≡◌ {A = Option World} (Some b.first) (Some w) = sym b.is_told ∙ is in
    let same : b.first ≡ w = cc in
    subst (λ v. ScriptStands s (behind s.lanes.limits v before)) same b.stands

module _ (told : Option World) (w : World) (is : told ≡ Some w) (m : Meaning LineWhy) (s : Scripting) (input : Reading) (start : Writing) (source : Reading) (sink : Writing) where
  pub finished_told : (ended : Result (Unit {0}) (PipeStop LineWhy Halted)) → Finished m (λ before. StandsBehind told m before s) input start source sink ended
      → Finished m (λ before. ScriptStands s (behind s.lanes.limits w before)) input start source sink ended
  finished_told (Ok done) h = (h.0, h.1, record { before = h.2.before; keeps = stands_told told m h.2.before s w is h.2.keeps; are_all = h.2.are_all })
  finished_told (Err (pipe.Refused number why)) h = (h.0, record { before = h.1.before; keeps = stands_told told m h.1.before s w is h.1.keeps; its_number = h.1.its_number; are_first = h.1.are_first })
  finished_told (Err pipe.ReadFault) h = h
  finished_told (Err pipe.WriteFault) h = h
  finished_told (Err pipe.NoMemory) h = h
  finished_told (Err (pipe.Failed fault)) h = h

-- where it stopped in them
stopped_told : (told : Option World) (w : World) → told ≡ Some w → (s : Scripting) (input : Option (List ℕ)) → FailedAt (λ lines. StoppedBehind told lines s) input → StopsAt s.lanes.limits w s.stop input
stopped_told told w is s input h = record { taken = h.taken; fails = by h.fails; are_first = h.are_first }
  where
    by : StoppedBehind told h.taken s → IfSome s.stop (MayEnd (behind s.lanes.limits w h.taken))
    by b =
        let both : ◌≡◌ {A = Option World} (Some b.first) (Some w) = sym b.is_told ∙ is in
        let same : b.first ≡ w = cc in
        subst (λ v. IfSome s.stop (MayEnd (behind s.lanes.limits v h.taken))) same b.ends

pub failed_told : (told : Option World) (w : World) → told ≡ Some w → (s : Scripting) (input : Option (List ℕ)) (ended : Result (Unit {0}) (PipeStop LineWhy Halted))
    → HasFailed (λ _. FailedAt (λ lines. StoppedBehind told lines s) input) ended → HasFailed (λ _. StopsAt s.lanes.limits w s.stop input) ended
failed_told told w is s input (Ok done) h = h
failed_told told w is s input (Err (pipe.Refused number why)) h = h
failed_told told w is s input (Err pipe.ReadFault) h = h
failed_told told w is s input (Err pipe.WriteFault) h = h
failed_told told w is s input (Err pipe.NoMemory) h = h
failed_told told w is s input (Err (pipe.Failed fault)) h = stopped_told told w is s input h

-- ---- from the start on

module _ (shelves : Shelving) (limits : Limits) (objects : Storing) (speaks : Bool) (first : FirstIsSound) (told : Option World) (is : IfSome told (IsDeskOf shelves objects)) (s t : Scripting)
    (begun : s ≡ first_script shelves limits objects speaks (is_some told)) (follows : Follows s t) where
  went : Goes (first_script shelves limits objects speaks (is_some told)) t
  went = goes_of (first_script shelves limits objects speaks (is_some told)) t refl (subst (λ a. Follows a t) begun follows)

  pub few_lines : t.lines ≤ MOST_LINES + 1
  few_lines = went.few (omega arith)

  pub stood_then : StoodTo t t.stop
  stood_then = went.stood (may_at_first shelves limits objects speaks first told is)

  pub counted_then : (hushed (is_some told) objects).faults ≤ t.store.faults
  counted_then = went.counts

  pub ran_then : RanTo shelves.faults (hushed (is_some told) objects) t t.stop
  ran_then = went.runs shelves.faults (run_at_first shelves.faults shelves limits (omega arith))

  pub good_then : (w : World) → told ≡ Some w → t.good ≡ true
  good_then w some = went.good ∙ ap is_some some

  pub limits_then : t.lanes.limits ≡ limits
  limits_then = went.limits

  pub speaks_then : t.speaks ≡ speaks
  speaks_then = went.speaks

  pub finished_then : (w : World) → told ≡ Some w → (input : Reading) (start : Writing) (source : Reading) (sink : Writing) (ended : Result (Unit {0}) (PipeStop LineWhy Halted))
      → ((m : Meaning LineWhy) → StandsBehind told m [] s → Finished m (λ before. StandsBehind told m before t) input start source sink ended)
      → Finished (means t.speaks t.lanes.limits w) (λ before. ScriptStands t (behind t.lanes.limits w before)) input start source sink ended
  finished_then w some input start source sink ended finished =
      let m : Meaning LineWhy = means speaks limits w in
      let same : m ≡ means t.speaks t.lanes.limits w = ap₂ (λ b l. means b l w) (sym went.speaks) (sym went.limits) in
      subst (λ n. Finished n (λ before. ScriptStands t (behind t.lanes.limits w before)) input start source sink ended) same
      (finished_told told w some m t input start source sink ended (finished m (subst (StandsBehind told m []) (sym begun) (stands_behind_first shelves limits objects speaks first told is w some))))

  pub failed_then : (w : World) → told ≡ Some w → (input : Option (List ℕ)) (ended : Result (Unit {0}) (PipeStop LineWhy Halted))
      → ((m : Meaning LineWhy) → StandsBehind told m [] s → HasFailed (λ _. FailedAt (λ lines. StoppedBehind told lines t) input) ended)
      → HasFailed (λ _. StopsAt t.lanes.limits w t.stop input) ended
  failed_then w some input ended failed =
      failed_told told w some t input ended (failed (means speaks limits w) (subst (StandsBehind told (means speaks limits w) []) (sym begun) (stands_behind_first shelves limits objects speaks first told is w some)))

-- a fact on the world that is told of, if one is
pub if_told : (told : Option World) (Fact : World → Type 0) → ((w : World) → told ≡ Some w → Fact w) → IfSome told Fact
if_told None Fact h = tt
if_told (Some w) Fact h = h w refl

-- there is none where there isn't one
pub none_is : (some none : Bool) → some ≡ not none → not some ≡ none
none_is some true is = ap not is
none_is some false is = ap not is

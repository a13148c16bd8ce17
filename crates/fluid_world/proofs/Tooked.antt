-- A script takes a line.
use Rattle.std.proofs.Common.{◌≡◌, ℕ, ◌+◌, ◌==◌, ◌≤◌, ◌<◌, arith, Bool, true, false, if◌then◌else◌, List, [], ◌∷◌, ◌++◌, length, Option, Some, None, Result, Ok, Err, refl, sym, ap, ap₂, subst, ◌∙◌, append-nil}
use Rattle.std.specs.Prelude.{IfSome}
use Rattle.std.specs.Option.{option_map_or}
use Rattle.std.specs.FinMap.{get}
use Rattle.fluid_table.specs.Table.{Values}
use Rattle.fluid_io.specs.declared.lines.TheConstants.{MOST_LINES}
use Rattle.fluid_pipe.specs.Meaning.{Meaning}
use Rattle.fluid_pipe.specs.Taking.{FailsBy, IsWithinMost, Takes}
use Rattle.fluid_pipe.specs.declared.taker.Untaken.{Untaken}
use Rattle.fluid_pipe.specs.declared.taker.Untaken.TheVariants.{Refused, Failed}
use Rattle.fluid_rules.specs.declared.limits.Limits.{Limits}
use Rattle.fluid_store.specs.Storing.{Storing}
use Rattle.fluid_lane.specs.declared.fault.LaneFault.TheVariants as lane
use Rattle.fluid_lane.specs.Standing.{Standing}
use Rattle.fluid_lanes.specs.Opened.{Opened}
use Rattle.fluid_steps.specs.Grammar.{step_spelled}
use Rattle.fluid_steps.specs.declared.steps.Step.{Step}
use Rattle.fluid_steps.specs.declared.refusal.LineWhy.{LineWhy}
use Rattle.fluid_transcript.specs.World.{Name, connection, container, roamer, used_up, World, Told}
use Rattle.fluid_transcript.specs.Steps.{refusal}
use Rattle.fluid_transcript.specs.Transcript.{at_line, behind, done, done_as, refused_as, taken, text_refusal, written}
use Rattle.fluid_transcript.specs.Laws.{WorldGrows, TranscriptGrows}
use Rattle.fluid_transcript.proofs.Sounds.{at_line_grows, same_names}
use Rattle.fluid_transcript.proofs.Stepping.{done_leaves}
use Rattle.fluid_desk.specs.declared.stop.Stop.{Stop}
use Rattle.fluid_desk.specs.declared.stop.Stop.TheVariants.{KeeperFault, StoreFault, BadStored, NoMemory}
use Rattle.fluid_desk.specs.declared.stop.StoredFault.TheVariants.{Lane, Delta, Object}
use Rattle.fluid_desk.specs.Stands.{DeskStands}
use Rattle.fluid_desk.specs.Stopping.{AreFew, MayStop, HasRun}
use Rattle.fluid_desk.proofs.Few.{few_more}
use Rattle.fluid_desk.proofs.Running.{run_more}
use Rattle.fluid_containers.specs.Ending.{RunsLinking, StopsForLinking}
use Rattle.fluid_containers.specs.Stepping.{MayStand as MayShow}
use Rattle.fluid_types.specs.Forms.{largest}
use Rattle.fluid_holding.specs.Holding.{HoldsOwn}
use Rattle.fluid_holding.specs.Laws.{OwnedStaysOwned}
use Rattle.fluid_world.specs.declared.halted.Halted.{Halted}
use Rattle.fluid_world.specs.declared.named.Named.{Named}
use Rattle.fluid_world.specs.declared.named.Named.TheVariants as a
use Rattle.fluid_world.specs.Naming.{AreBounded, refusal_by}
use Rattle.fluid_world.specs.Standing.{IsNamed, WorldStands, StepTakes}
use Rattle.fluid_world.specs.Taking.{Scripting, means, ScriptStands, MayEnd, StoppedBehind, LeavesOwn, StandsBehind, MayStand, IsWithin, RanTo, StoodTo, Goes, FollowsBy, Follows, spoken, Moves, Wrote, WritesBy, TookLine, TakesBy, HasStopped, HaltsBy}
use Rattle.fluid_world.proofs.Behind.{same_refusal}
use Rattle.fluid_world.proofs.Stepped.{bounded_more}

-- ---- at a line

named_at : (w : World) (n : Option Named) (m : Option Name) → IsNamed w n m → IsNamed (at_line w) n m
named_at w None None h = h
named_at w None (Some m) h = absurd h
named_at w (Some (a.Connection v)) None h = absurd h
named_at w (Some (a.Connection v)) (Some (connection s)) h = h
named_at w (Some (a.Connection v)) (Some (container k)) h = absurd h
named_at w (Some (a.Connection v)) (Some (roamer k)) h = absurd h
named_at w (Some (a.Connection v)) (Some used_up) h = absurd h
named_at w (Some (a.Container g)) None h = absurd h
named_at w (Some (a.Container g)) (Some (connection s)) h = absurd h
named_at w (Some (a.Container g)) (Some (container k)) h = h
named_at w (Some (a.Container g)) (Some (roamer k)) h = absurd h
named_at w (Some (a.Container g)) (Some used_up) h = absurd h
named_at w (Some (a.Roamer g)) None h = absurd h
named_at w (Some (a.Roamer g)) (Some (connection s)) h = absurd h
named_at w (Some (a.Roamer g)) (Some (container k)) h = absurd h
named_at w (Some (a.Roamer g)) (Some (roamer k)) h = h
named_at w (Some (a.Roamer g)) (Some used_up) h = absurd h
named_at w (Some a.Used) None h = absurd h
named_at w (Some a.Used) (Some (connection s)) h = absurd h
named_at w (Some a.Used) (Some (container k)) h = absurd h
named_at w (Some a.Used) (Some (roamer k)) h = absurd h
named_at w (Some a.Used) (Some used_up) h = h

pub desk_at : (o : Opened) (w : World) → DeskStands o w → DeskStands o (at_line w)
desk_at o w h = record { held = h.held; told = h.told; documents = h.documents; count = h.count; few = h.few }

pub stands_at : (o : Opened) (store : Storing) (names : Values Named) (w : World) → WorldStands o store names w → WorldStands o store names (at_line w)
stands_at o store names w h = record {
  desk = desk_at o w h.desk;
  held = h.held;
  named = λ q. named_at w (get names q) (get w.names q) (h.named q);
  sound = same_names w (at_line w) (at_line_grows w) refl h.sound;
}

-- ---- within

pub most_within : (s : Scripting) → IsWithinMost (λ n. IsWithin n s) → IsWithin MOST_LINES s
most_within s h = record {
  lines = omega (arith, h.within.lines, h.few);
  numbers = bounded_more h.taken MOST_LINES s.names h.few h.within.numbers;
  going = h.within.going;
  stands = h.within.stands;
}

-- ---- a step

module _ (step : Step) (s : Scripting) (accepted : refusal_by s.names step ≡ None) (w : World) (stands : ScriptStands s w) where
  pub not_refused : refusal w step ≡ None
  not_refused = same_refusal s.names w stands.stands.named step ∙ accepted

  at : WorldStands s.lanes s.store s.names (at_line w)
  at = stands_at s.lanes s.store s.names w stands.stands

  -- the moment of the world behind it
  pub moment_behind : (limits : Limits) → (done limits (at_line w) step).world.moment ≡ s.lines + 1
  moment_behind limits =
      (done_leaves limits (at_line w) at.sound step (same_refusal s.names (at_line w) at.named step ∙ accepted)).moment ∙ ap (λ n. n + 1) stands.moment

-- ---- the end of all numbers

-- no document has more side steps than so many
sides_few : (l : Option Standing) (n : ℕ) → ((lane : Standing) → l ≡ Some lane → lane.sides ≤ n) → option_map_or (λ (s : Standing). s.sides) l 0 ≤ n
sides_few None n few = omega arith
sides_few (Some lane) n few = few lane refl

-- a step that may end a desk may end a script
pub may_end : (v : World) (o : Opened) (n : ℕ) (stop : Stop) → n ≤ MOST_LINES + 2 → AreFew n o → v.moment ≡ n → MayStop v o stop → MayEnd v stop
may_end v o n (KeeperFault note) lines few at may = tt
may_end v o n (StoreFault note) lines few at may = tt
may_end v o n NoMemory lines few at may = tt
may_end v o n (BadStored (Delta number)) lines few at may = absurd may.1
may_end v o n (BadStored (Object fault)) lines few at may = absurd may.1
may_end v o n (BadStored (Lane lane.Worn)) lines few at may =
    (omega (arith, at, lines), (may.0, omega (arith, may.1, at, sides_few (get o.lanes may.0) n (λ lane there. few may.0 lane there))))
may_end v o n (BadStored (Lane (lane.LogFailed note))) lines few at may = absurd may.1
may_end v o n (BadStored (Lane (lane.Full entries))) lines few at may = absurd may.1
may_end v o n (BadStored (Lane (lane.BadRecord place))) lines few at may = absurd may.1
may_end v o n (BadStored (Lane (lane.NoCheckpoint asked stored))) lines few at may = absurd may.1
may_end v o n (BadStored (Lane lane.CheckpointsFull)) lines few at may = absurd may.1
may_end v o n (BadStored (Lane lane.TooManyClients)) lines few at may = absurd may.1
may_end v o n (BadStored (Lane (lane.DeltaFailed note))) lines few at may = absurd may.1
may_end v o n (BadStored (Lane lane.NoMemory)) lines few at may = absurd may.1
may_end v o n (BadStored (Lane (lane.BadCheckpoint number fault))) lines few at may = absurd may.1
may_end v o n (BadStored (Lane (lane.TooLarge bytes))) lines few at may = absurd may.1

-- what `write_step` owes
abbrev pub Writing : Scripting → Scripting → Step → (old new : List ℕ) → Result (Unit {0}) Stop → Type 0
Writing old mid step ow nw result = (w : World) → ScriptStands old w → WritesBy (done old.lanes.limits (at_line w) step) old.speaks mid ow nw result

abbrev pub Running : Scripting → Scripting → Result (Unit {0}) Stop → Type 0
Running old mid result = (first : ℕ) → HasRun first old.lines old.lanes → RunsLinking first (old.lines + 1) old.store mid.store mid.lanes result

module _ (step : Step) (old mid : Scripting) (ow nw : List ℕ) (accepted : refusal_by old.names step ≡ None) (owned : LeavesOwn step) (moves : Moves old mid) where
  abbrev behind_ok : ℕ → Scripting
  behind_ok moment = record mid { lines = moment }

  abbrev behind_err : Stop → Scripting
  behind_err stop = record mid { stop = Some stop }

  stands_ok : (moment : ℕ) → moment ≡ old.lines + 1 → Writing old mid step ow nw (Ok tt) → Running old mid (Ok tt) → (w : World) → ScriptStands old w
      → ScriptStands (behind_ok moment) (done old.lanes.limits (at_line w) step).world
  stands_ok moment is writes runs w stands = record {
    good = moves.good ∙ stands.good;
    stands = (writes w stands).stands;
    moment = moment_behind step old accepted w stands old.lanes.limits ∙ sym is;
    owned = owned old.lanes.limits w stands.owned;
    run = subst (λ n. HasRun 0 n mid.lanes) (sym is) (runs 0 stands.run);
    going = moves.stop ∙ stands.going;
  }

  pub goes_ok : (moment : ℕ) → moment ≡ old.lines + 1 → IsWithin MOST_LINES old → Writing old mid step ow nw (Ok tt) → Running old mid (Ok tt) → Goes old (behind_ok moment)
  goes_ok moment is within writes runs = record {
    limits = moves.limits;
    speaks = moves.speaks;
    good = moves.good;
    counts = moves.counts;
    few = λ few. omega (arith, is, within.lines);
    runs = λ first run. subst (RanTo first old.store (behind_ok moment)) (sym (moves.stop ∙ within.going)) (subst (λ n. HasRun first n mid.lanes) (sym is) (runs first run));
    stood = λ may. subst (StoodTo (behind_ok moment)) (sym (moves.stop ∙ within.going)) (λ good. by (may (sym moves.good ∙ good)));
  }
    where
      by : (w : World) × ScriptStands old w → (w : World) × ScriptStands (behind_ok moment) w
      by (w, stands) = ((done old.lanes.limits (at_line w) step).world, stands_ok moment is writes runs w stands)

  pub goes_err : (stop : Stop) → Writing old mid step ow nw (Err stop) → Running old mid (Err stop) → Goes old (behind_err stop)
  goes_err stop writes runs = record {
    limits = moves.limits;
    speaks = moves.speaks;
    good = moves.good;
    counts = moves.counts;
    few = λ few. omega (arith, few, moves.lines);
    runs = λ first run. subst (λ n. StopsForLinking first (n + 1) old.store mid.store mid.lanes stop) (sym moves.lines) (runs first run);
    stood = λ may. tt;
  }

  -- why it ended it
  pub takes_err : (stop : Stop) → IsWithin MOST_LINES old → Writing old mid step ow nw (Err stop) → Running old mid (Err stop) → (w : World) → ScriptStands old w → MayEnd (done old.lanes.limits (at_line w) step).world stop
  takes_err stop within writes runs w stands =
      may_end (done old.lanes.limits (at_line w) step).world mid.lanes (old.lines + 1) stop (omega (arith, within.lines)) (runs 0 stands.run).few (moment_behind step old accepted w stands old.lanes.limits) (writes w stands)

  pub within_ok : (moment n : ℕ) → moment ≡ old.lines + 1 → IsWithin n old → AreBounded (n + 1) mid.names → Writing old mid step ow nw (Ok tt) → Running old mid (Ok tt) → IsWithin (n + 1) (behind_ok moment)
  within_ok moment n is within counted writes runs = record {
    lines = omega (arith, is, within.lines);
    numbers = counted;
    going = moves.stop ∙ within.going;
    stands = λ good. by (within.stands (sym moves.good ∙ good));
  }
    where
      by : (w : World) × ScriptStands old w → (w : World) × ScriptStands (behind_ok moment) w
      by (w, stands) = ((done old.lanes.limits (at_line w) step).world, stands_ok moment is writes runs w stands)

  pub takes_ok : (moment : ℕ) → moment ≡ old.lines + 1 → Writing old mid step ow nw (Ok tt) → Running old mid (Ok tt) → (w : World) → ScriptStands old w
      → TookLine (refusal w step) (done old.lanes.limits (at_line w) step) old.speaks (behind_ok moment) ow nw
  takes_ok moment is writes runs w stands = record {
    accepted = not_refused step old accepted w stands;
    stands = stands_ok moment is writes runs w stands;
    waits = (writes w stands).waits;
  }

-- ---- a step writes

pub wrote : (told : Told) (speaks : Bool) (s : Scripting) (old mid new bytes : List ℕ) → StepTakes told s.lanes s.store s.names (Ok bytes) → mid ≡ old → new ≡ mid ++ spoken speaks bytes → Wrote told speaks s old new
wrote told speaks s old mid new bytes took same is = record { stands = took.stands; waits = is ∙ ap₂ (λ m b. m ++ spoken speaks b) same took.says }

-- what `take_step` asks for
pub may_step : (s : Scripting) → MayStand s → MayShow s.good s.lanes
may_step s may good = by (may good)
  where
    by : (w : World) × ScriptStands s w → (w : World) × DeskStands s.lanes w
    by (w, h) = (w, h.stands.desk)

pub few_steps : (s : Scripting) → IsWithin MOST_LINES s → (n : ℕ) × (AreBounded n s.names × (n < largest))
few_steps s h = (MOST_LINES, (h.numbers, omega arith))

-- want of memory for what a step writes
pub ran_short : (first steps : ℕ) (before now : Storing) (o : Opened) → HasRun first steps o → StopsForLinking first steps before now o NoMemory
ran_short first steps before now o run = record { shelves = run.shelves; few = run.few; ends = tt }

-- ---- a line

pub goes_same : (s : Scripting) → s.stop ≡ None → Goes s s
goes_same s going = record {
  limits = refl;
  speaks = refl;
  good = refl;
  counts = omega arith;
  few = λ few. few;
  runs = λ first run. subst (RanTo first s.store s) (sym going) run;
  stood = λ may. subst (StoodTo s) (sym going) may;
}

-- want of memory ended it
pub goes_wanting : (s : Scripting) → s.stop ≡ None → Goes s (record s { stop = Some NoMemory })
goes_wanting s going = record {
  limits = refl;
  speaks = refl;
  good = refl;
  counts = omega arith;
  few = λ few. few;
  runs = λ first run. record { shelves = run.shelves; few = few_more s.lines s.lanes run.few; ends = tt };
  stood = λ may. tt;
}

pub follows_by : (s t : Scripting) → s.stop ≡ None → Goes s t → Follows s t
follows_by s t going goes = by s.stop going goes
  where
    by : (o : Option Stop) → o ≡ None → Goes s t → FollowsBy o s t
    by None is goes = goes
    by (Some stop) is goes = absurd (cc)

-- an empty line
spoken_none : (speaks : Bool) → spoken speaks [] ≡ []
spoken_none true = refl
spoken_none false = refl

abbrev passed : Scripting → Scripting
passed s = record s { lines = s.lines + 1 }

passed_stands : (s : Scripting) (w : World) → ScriptStands s w → ScriptStands (passed s) (at_line w)
passed_stands s w h = record { good = h.good; stands = stands_at s.lanes s.store s.names w h.stands; moment = ap (λ n. n + 1) h.moment; owned = h.owned; run = run_more 0 s.lines s.lanes h.run; going = h.going }

pub passes : (s : Scripting) (w : World) (text waiting : List ℕ) → (length text == 0) ≡ true → ScriptStands s w
    → TookLine (text_refusal w text) (taken s.lanes.limits w text) s.speaks (passed s) waiting waiting
passes s w text waiting empty h =
    let refuses : text_refusal w text ≡ None = ap (λ b. if b then None else refused_as w (step_spelled text)) empty in
    let tells : taken s.lanes.limits w text ≡ record { world = at_line w; lines = [] } =
    ap (λ b. if b then (record { world = at_line w; lines = [] }) else done_as s.lanes.limits (at_line w) (step_spelled text)) empty in
    subst (λ r. TookLine r (taken s.lanes.limits w text) s.speaks (passed s) waiting waiting) (sym refuses)
    (subst (λ (t : Told). TookLine None t s.speaks (passed s) waiting waiting) (sym tells) (record {
      accepted = refl;
      stands = passed_stands s w h;
      waits = sym (ap (λ b. waiting ++ b) (spoken_none s.speaks) ∙ append-nil waiting);
    }))

pub goes_passed : (s : Scripting) → IsWithin MOST_LINES s → Goes s (passed s)
goes_passed s within = record {
  limits = refl;
  speaks = refl;
  good = refl;
  counts = omega arith;
  few = λ few. omega (arith, within.lines);
  runs = λ first run. subst (RanTo first s.store (passed s)) (sym within.going) (run_more first s.lines s.lanes run);
  stood = λ may. subst (StoodTo (passed s)) (sym within.going) (λ good. by (may good));
}
  where
    by : (w : World) × ScriptStands s w → (w : World) × ScriptStands (passed s) w
    by (w, h) = (at_line w, passed_stands s w h)

pub within_passed : (s : Scripting) (n : ℕ) → IsWithin n s → IsWithin (n + 1) (passed s)
within_passed s n h = record {
  lines = omega (arith, h.lines);
  numbers = bounded_more n (n + 1) s.names (omega arith) h.numbers;
  going = h.going;
  stands = λ good. by (h.stands good);
}
  where
    by : (w : World) × ScriptStands s w → (w : World) × ScriptStands (passed s) w
    by (w, h) = (at_line w, passed_stands s w h)

-- a line that spells a step
pub takes_spelled : (text : List ℕ) (step : Step) (old new : Scripting) (ow nw : List ℕ) (result : Result (Unit {0}) (Untaken LineWhy Halted)) → (length text == 0) ≡ false → step_spelled text ≡ Ok step
    → ((w : World) → ScriptStands old w → TakesBy (refusal w step) w (done old.lanes.limits (at_line w) step) old.speaks new ow nw result)
    → (w : World) → ScriptStands old w → TakesBy (text_refusal w text) w (taken old.lanes.limits w text) old.speaks new ow nw result
takes_spelled text step old new ow nw result some is takes w stands =
    let refuses : text_refusal w text ≡ refusal w step = ap (λ b. if b then None else refused_as w (step_spelled text)) some ∙ ap (refused_as w) is in
    let tells : taken old.lanes.limits w text ≡ done old.lanes.limits (at_line w) step =
    ap (λ b. if b then (record { world = at_line w; lines = [] }) else done_as old.lanes.limits (at_line w) (step_spelled text)) some ∙ ap (done_as old.lanes.limits (at_line w)) is in
    subst (λ r. TakesBy r w (taken old.lanes.limits w text) old.speaks new ow nw result) (sym refuses)
    (subst (λ t. TakesBy (refusal w step) w t old.speaks new ow nw result) (sym tells) (takes w stands))

pub leaves_own : OwnedStaysOwned → (text : List ℕ) (step : Step) → (length text == 0) ≡ false → step_spelled text ≡ Ok step → LeavesOwn step
leaves_own stays text step some is limits w owned =
    let tells : taken limits w text ≡ done limits (at_line w) step =
    ap (λ b. if b then (record { world = at_line w; lines = [] }) else done_as limits (at_line w) (step_spelled text)) some ∙ ap (done_as limits (at_line w)) is in
    subst (λ t. HoldsOwn t.world.store) tells (stays limits w text owned)

-- one that spells none
pub refuses_spelled : (text : List ℕ) (why : LineWhy) (w : World) → (length text == 0) ≡ false → step_spelled text ≡ Err why → text_refusal w text ≡ Some why
refuses_spelled text why w some is = ap (λ b. if b then None else refused_as w (step_spelled text)) some ∙ ap (refused_as w) is

-- ---- a script is a taker

refusal_means : (speaks : Bool) (limits : Limits) (w : World) (before : List (List ℕ)) (text : List ℕ) → (means speaks limits w).refusal before text ≡ text_refusal (behind limits w before) text
refusal_means true limits w before text = refl
refusal_means false limits w before text = refl

output_means : TranscriptGrows → (speaks : Bool) (limits : Limits) (w : World) (before : List (List ℕ)) (text : List ℕ)
    → (means speaks limits w).output (before ++ text ∷ []) ≡ (means speaks limits w).output before ++ spoken speaks (written (taken limits (behind limits w before) text).lines)
output_means grows true limits w before text = grows limits w before text
output_means grows false limits w before text = refl

module _ (told : Option World) (m : Meaning LineWhy) (before : List (List ℕ)) (text : List ℕ) (old new : Scripting) (ow nw : List ℕ) (world : WorldGrows) (output : TranscriptGrows) (goes : Goes old new) (b : StandsBehind told m before old) where
  abbrev limits : Limits
  limits = old.lanes.limits

  means_new : m ≡ means new.speaks new.lanes.limits b.first
  means_new = b.is ∙ ap₂ (λ s l. means s l b.first) (sym goes.speaks) (sym goes.limits)

  abbrev w : World
  w = behind limits b.first before

  takes_by : (result : Result (Unit {0}) (Untaken LineWhy Halted)) → TakesBy (text_refusal w text) w (taken limits w text) old.speaks new ow nw result
      → Takes (means old.speaks limits b.first) (λ ls. StandsBehind told m ls new) before text ow nw result
  takes_by (Ok done) h = record {
    accepted = refusal_means old.speaks limits b.first before text ∙ h.accepted;
    keeps = record {
      first = b.first;
      is_told = b.is_told;
      is = means_new;
      stands = subst (λ l. ScriptStands new (behind l b.first (before ++ text ∷ []))) (sym goes.limits) (subst (ScriptStands new) (sym (world limits b.first before text)) h.stands);
    };
    more = spoken old.speaks (written (taken limits w text).lines);
    waits = h.waits;
    output = output_means output old.speaks limits b.first before text;
  }
  takes_by (Err (Refused why)) h = (
    refusal_means old.speaks limits b.first before text ∙ h.0,
    record { first = b.first; is_told = b.is_told; is = means_new; stands = subst (λ l. ScriptStands new (behind l b.first before)) (sym goes.limits) h.1 },
  )
  takes_by (Err (Failed halted)) h = tt

  pub takes_line : (result : Result (Unit {0}) (Untaken LineWhy Halted)) → ((v : World) → ScriptStands old v → TakesBy (text_refusal v text) v (taken limits v text) old.speaks new ow nw result)
      → Takes m (λ ls. StandsBehind told m ls new) before text ow nw result
  takes_line result takes = subst (λ n. Takes n (λ ls. StandsBehind told m ls new) before text ow nw result) (sym b.is) (takes_by result (takes w b.stands))

  -- it failed at this line
  pub fails_line : (result : Result (Unit {0}) (Untaken LineWhy Halted)) → ((v : World) → ScriptStands old v → TakesBy (text_refusal v text) v (taken limits v text) old.speaks new ow nw result)
      → FailsBy (λ (halted : Halted). StoppedBehind told (before ++ text ∷ []) new) result
  fails_line (Ok done) takes = tt
  fails_line (Err (Refused why)) takes = tt
  fails_line (Err (Failed halted)) takes = record {
    first = b.first;
    is_told = b.is_told;
    ends = subst (λ l. IfSome new.stop (MayEnd (behind l b.first (before ++ text ∷ [])))) (sym goes.limits)
        (subst (λ v. IfSome new.stop (MayEnd v)) (sym (world limits b.first before text)) (takes w b.stands));
  }

pub goes_of : (s t : Scripting) → s.stop ≡ None → Follows s t → Goes s t
goes_of s t going follows = by s.stop going follows
  where
    by : (o : Option Stop) → o ≡ None → FollowsBy o s t → Goes s t
    by None is h = h
    by (Some stop) is h = absurd (cc)

pub fails_by : (new : Scripting) (result : Result (Unit {0}) (Untaken LineWhy Halted)) → HaltsBy new result → FailsBy (λ (halted : Halted). HasStopped new) result
fails_by new (Ok done) h = tt
fails_by new (Err (Refused why)) h = tt
fails_by new (Err (Failed halted)) h = h

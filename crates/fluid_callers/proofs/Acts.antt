-- Acts of a connection one after another, on the lane of their document.
use Rattle.std.proofs.Common.{◌≡◌, ℕ, ◌+◌, ◌≤◌, arith, Bool, true, false, if◌then◌else◌, List, [], ◌∷◌, ◌++◌, length, map, All, Some, option_map, is_some, Result, Ok, Err, refl, sym, ap, ap₂, subst, ◌∙◌, append_assoc, length-append}
use Rattle.std.specs.Prelude.{IsSome, MatchResult}
use Rattle.std.proofs.lemmas.List.Elements.{All-head, All-tail}
use Rattle.fluid_types.specs.declared.entries.Raw.{Raw}
use Rattle.fluid_types.specs.Ledger.{Ledger}
use Rattle.fluid_rules.specs.declared.limits.Limits.{Limits}
use Rattle.fluid_deltas.specs.declared.fault.DeltaFault.{DeltaFault}
use Rattle.fluid_deltas.specs.declared.fault.DeltaFault.TheVariants as delta
use Rattle.fluid_store.specs.Held.{Held}
use Rattle.fluid_store.specs.Storing.{Storing}
use Rattle.fluid_store.specs.declared.fault.StoreFault.{StoreFault}
use Rattle.fluid_store.specs.declared.fault.StoreFault.TheVariants as store
use Rattle.fluid_lane.specs.declared.fault.LaneFault.{LaneFault}
use Rattle.fluid_lane.specs.declared.fault.LaneFault.TheVariants as lane
use Rattle.fluid_lane.specs.declared.steps.Step.{Step}
use Rattle.fluid_types.specs.Forms.{largest}
use Rattle.fluid_lane.specs.Steps.{ledger, fault_steps, delta_steps}
use Rattle.fluid_lane.specs.Standing.{Standing, Goes, LaneStands, is_worn}
use Rattle.fluid_voice.specs.declared.refusals.ConnectRefusal.TheVariants.{TooManyDocuments}
use Rattle.fluid_voice.specs.declared.states.VoiceState.{VoiceState}
use Rattle.fluid_voice.specs.declared.actions.Act.{Act}
use Rattle.fluid_voice.specs.declared.actions.Act.TheVariants as act
use Rattle.fluid_voice.specs.declared.ends.ActEnd.{ActEnd}
use Rattle.fluid_voice.specs.declared.ends.ActEnd.TheVariants as end
use Rattle.fluid_voice.specs.Refusals.{refused}
use Rattle.fluid_voice.specs.Fitting.{IsFitting}
use Rattle.fluid_voice.specs.Ends.{Found, Outcome, outcome, connect_end, held_behind}
use Rattle.fluid_voice.specs.Ends.Outcome.{ends, clashes}
use Rattle.fluid_voice.specs.Replies.{replies_to, state_after}
use Rattle.fluid_ends.specs.declared.fault.TalkFault.{TalkFault}
use Rattle.fluid_ends.specs.declared.fault.TalkFault.TheVariants as talk
use Rattle.fluid_ends.specs.Asking.{found_in, is_asked_of_lane}
use Rattle.fluid_acts.specs.AtLane.{OnLane, is_entering, IsLaneCause, IsBadFor, IsDeltaCause}
use Rattle.fluid_acts.specs.AtStore.{OnStore}
use Rattle.fluid_acts.specs.Doing.{FindsTold, IsEndOf, IsTalkCause}
use Rattle.fluid_transcript.specs.World.{Document, ledger_of, with_entries, raws_added}
use Rattle.fluid_transcript.specs.Lines.{reply_line, clash_line}
use Rattle.fluid_transcript.specs.Connections.{Hearing, found_by, behind_act, hear_act, hear}
use Rattle.fluid_transcript.specs.Transcript.{written}
use Rattle.fluid_desk.specs.declared.stop.Stop.{Stop}
use Rattle.fluid_desk.specs.declared.stop.Stop.TheVariants.{StoreFault as StoreFailed, NoMemory}
use Rattle.fluid_desk.specs.Stands.{IsLaneOf}
use Rattle.fluid_desk.specs.Stopping.{stop_of, IsHonest, steps_on}
use Rattle.fluid_desk.proofs.Laned.{told_in}
use Rattle.fluid_desk.proofs.Honest.{honest_more, worn_steps}
use Rattle.fluid_callers.specs.Reaching.{IsWithin}
use Rattle.fluid_callers.specs.Ending.{delta_stop}
use Rattle.fluid_callers.specs.Hearing.{HasHeard, HearsOne, IsUnheard, IsUnstored}
use Rattle.fluid_callers.proofs.Bytes.{written_both}
use Rattle.fluid_callers.proofs.Acted.{leaves}

-- ---- what is found

-- which other documents are open is no matter of an act whose document is within the limit
outcome_is : (limits : Limits) (opened : List (List ℕ)) (l : Ledger) (held : Held) (a : Act) → IsWithin opened a
    → outcome (record { opened = opened; limits = limits; ledger = l; held = held }) a ≡ outcome (found_in limits l held) a
outcome_is limits opened l held (act.Say reply) within = refl
outcome_is limits opened l held (act.Connect name write scopes detail moment) within =
    ap (λ b. ends (if b then end.Given (refused TooManyDocuments) else connect_end limits l write scopes detail moment)) within
outcome_is limits opened l held (act.Enter raw) within = refl
outcome_is limits opened l held (act.Deltas from to) within = refl
outcome_is limits opened l held (act.Summary asked) within = refl
outcome_is limits opened l held (act.GetObject id) within = refl
outcome_is limits opened l held (act.PutObject bytes) within = refl

-- lane and store tell what they hold
finds : (a : Act) (s : Standing) (list : List Step) (store : Storing) (held : Held) → LaneStands s list → IsSome s.keeping.content → store.content ≡ Some held → FindsTold a s list store held
finds (act.Say reply) s list store held stands told is = (stands, told)
finds (act.Connect name write scopes detail moment) s list store held stands told is = (stands, told)
finds (act.Enter raw) s list store held stands told is = (stands, told)
finds (act.Deltas from to) s list store held stands told is = (stands, told)
finds (act.Summary asked) s list store held stands told is = (stands, told)
finds (act.GetObject id) s list store held stands told is = is
finds (act.PutObject bytes) s list store held stands told is = is

-- the end of an act is the one that it finds, in whatever lane and store
abbrev pub Says : Act → Standing → Storing → Result ActEnd TalkFault → Type 0
Says a s store result = (l : List Step) (held : Held) → FindsTold a s l store held → IsEndOf (outcome (found_in s.limits (ledger l) held) a) result

-- ---- faults that a lane that stands for a document doesn't have

-- a fault of a worn lane adds no step
abbrev pub EndsWorn : (steps : ℕ) → (old : Standing) → (added : List Step) → Type 0
EndsWorn steps old added = added ≡ [] → is_worn old ≡ true → largest ≤ steps + 1

pub lane_honest : (steps : ℕ) (old new : Standing) (added : List Step) (fault : LaneFault) → EndsWorn steps old added → added ≡ fault_steps fault → IsLaneCause old new fault → IsHonest steps (stop_of fault)
lane_honest steps old new added (lane.LogFailed note) worn adds cause = tt
lane_honest steps old new added (lane.DeltaFailed note) worn adds cause = tt
lane_honest steps old new added lane.Worn worn adds cause = worn adds cause
lane_honest steps old new added lane.NoMemory worn adds cause = tt
lane_honest steps old new added (lane.Full n) worn adds cause = absurd cause
lane_honest steps old new added lane.TooManyClients worn adds cause = absurd cause
lane_honest steps old new added (lane.BadRecord n) worn adds cause = absurd cause
lane_honest steps old new added (lane.NoCheckpoint k n) worn adds cause = absurd cause
lane_honest steps old new added lane.CheckpointsFull worn adds cause = absurd cause
lane_honest steps old new added (lane.BadCheckpoint n f) worn adds cause = absurd cause
lane_honest steps old new added (lane.TooLarge n) worn adds cause = absurd cause

never_bad : (limits : Limits) (s : Standing) (d : Document) (a : Act) (number : ℕ) → IsLaneOf limits s d → IsBadFor a s number → ⊥
never_bad limits s d (act.Deltas from to) number of bad = told_in (λ _. ⊥) s.keeping.content of.content of.told (bad.never of.list of.stands)
never_bad limits s d (act.Say reply) number of bad = bad
never_bad limits s d (act.Connect name write scopes detail moment) number of bad = bad
never_bad limits s d (act.Enter raw) number of bad = bad
never_bad limits s d (act.Summary asked) number of bad = bad
never_bad limits s d (act.GetObject id) number of bad = bad
never_bad limits s d (act.PutObject bytes) number of bad = bad

delta_honest : (limits : Limits) (steps : ℕ) (old new : Standing) (added : List Step) (d : Document) (a : Act) (fault : DeltaFault) → IsLaneOf limits old d → EndsWorn steps old added → added ≡ delta_steps fault → IsDeltaCause a old new fault
    → IsHonest steps (delta_stop fault)
delta_honest limits steps old new added d a (delta.DeltaFailed note) of worn adds cause = tt
delta_honest limits steps old new added d a (delta.BadDelta number) of worn adds cause = absurd (never_bad limits old d a number of cause)
delta_honest limits steps old new added d a delta.Worn of worn adds cause = worn adds cause
delta_honest limits steps old new added d a delta.NoMemory of worn adds cause = tt

-- ---- entries

-- an act takes none away
behind_more : (c : List ℕ) (f : Found) (a : Act) (h : Hearing) (o : Outcome) → length h.entries ≤ length (behind_act c f a h o).entries
behind_more c f a h (clashes id kept new) = omega arith
behind_more c f a h (ends e) = omega (arith, length-append h.entries (raws_added f.ledger a (ends e)))

act_more : (limits : Limits) (opened : List (List ℕ)) (c : List ℕ) (d : Document) (h : Hearing) (a : Act) → length h.entries ≤ length (hear_act limits opened c d h a).entries
act_more limits opened c d h a = behind_more c (found_by limits opened d h) a h (outcome (found_by limits opened d h) a)

acts_more : (limits : Limits) (opened : List (List ℕ)) (c : List ℕ) (d : Document) (h : Hearing) (acts : List Act) → length h.entries ≤ length (hear limits opened c d h acts).entries
acts_more limits opened c d h [] = omega arith
acts_more limits opened c d h (a ∷ acts) = omega (arith, act_more limits opened c d h a, acts_more limits opened c d (hear_act limits opened c d h a) acts)

entries_steps : (d : Document) (some more : List Raw) (s : Standing) → length some ≤ length more → steps_on (with_entries some d) s ≤ steps_on (with_entries more d) s
entries_steps d some more s le = omega (arith, le, length-append d.raws some, length-append d.raws more)

-- a lane without another step has no more side steps
same_sides : (old new : Standing) (added : List Step) → Goes old new added → added ≡ [] → new.sides ≡ old.sides
same_sides old new added goes none = let steps = subst (Goes old new) none goes in omega (arith, steps.sides)

pub worn_on : (limits : Limits) (old new : Standing) (added : List Step) (d : Document) → IsLaneOf limits old d → Goes old new added → EndsWorn (steps_on d new) old added
worn_on limits old new added d of goes none worn = omega (arith, worn_steps limits old d of worn, same_sides old new added goes none)

-- ---- one act

module _ (limits : Limits) (opened : List (List ℕ)) (c : List ℕ) (d : Document) (h : Hearing) (old : Standing) (before : Storing) (voice : VoiceState) (bytes : List ℕ)
    (heard : HasHeard limits d h old before voice bytes) (a : Act) (within : IsWithin opened a) where
  abbrev so_far : Document
  so_far = with_entries h.entries d

  named : (result : Result ActEnd TalkFault) → Says a old before result → IsEndOf (outcome (found_by limits opened d h) a) result
  named result says =
      let of = heard.stands in
      subst (λ o. IsEndOf o result) (sym (outcome_is limits opened (ledger_of so_far) h.store a within))
      (subst (λ l. IsEndOf (outcome (found_in limits l h.store) a) result) of.entries
      (subst (λ (t : Limits). IsEndOf (outcome (found_in t (ledger of.list) h.store) a) result) of.limits_are
      (says of.list h.store (finds a old of.list before h.store of.stands (ap is_some of.told) heard.held))))

  -- no cut is owed behind it
  levels : (new : Standing) (e : ActEnd) → OnLane a old new (Ok e) → new.owed ≡ false
  levels new e on_lane = by (is_entering a) refl
    where
      by : (b : Bool) → is_entering a ≡ b → new.owed ≡ false
      by true is = on_lane.owes is
      by false is = on_lane.level is ∙ heard.stands.level

  -- it ended
  ended : (new : Standing) (now : Storing) (e : ActEnd) → OnLane a old new (Ok e) → OnStore a before now (Ok e) → Says a old before (Ok e) → (after : VoiceState) (lines : List ℕ)
      → after ≡ state_after voice a e → lines ≡ bytes ++ written (map (reply_line c) (replies_to voice a e)) → HasHeard limits d (hear_act limits opened c d h a) new now after lines
  ended new now e on_lane on_store says after lines after_is lines_are =
      let is : hear_act limits opened c d h a ≡ behind_act c (found_by limits opened d h) a h (ends e) = ap (behind_act c (found_by limits opened d h) a h) (named (Ok e) says) in
      let of = leaves limits old new so_far heard.stands on_lane.added on_lane.goes (levels new e on_lane) a e on_lane.adds on_lane.ends in
      subst (λ k. HasHeard limits d k new now after lines) (sym is) (record {
        stands = subst (λ raws. IsLaneOf limits new (record { raws = raws; checkpoints = d.checkpoints })) (append_assoc d.raws h.entries (raws_added (ledger_of so_far) a (ends e))) of;
        held = on_store.holds ∙ ap (option_map (λ kept. held_behind kept a)) heard.held;
        voice_is = after_is ∙ ap (λ s. state_after s a e) heard.voice_is;
        says = lines_are ∙ ap₂ (λ b s. b ++ written (map (reply_line c) (replies_to s a e))) heard.says heard.voice_is ∙ sym (written_both h.lines (map (reply_line c) (replies_to h.voice a e)));
      })

  -- other bytes are held under the id of those that are put
  clashed : (new : Standing) (now : Storing) (id kept other : List ℕ) → OnLane a old new (Err (talk.Store (store.Clash id kept other))) → OnStore a before now (Err (talk.Store (store.Clash id kept other)))
      → a ≡ act.PutObject other → Says a old before (Err (talk.Store (store.Clash id kept other))) → (lines : List ℕ) → lines ≡ bytes ++ written (clash_line c id ∷ [])
      → HasHeard limits d (hear_act limits opened c d h a) new now voice lines
  clashed new now id kept other on_lane on_store put says lines lines_are =
      let is : hear_act limits opened c d h a ≡ behind_act c (found_by limits opened d h) a h (clashes id kept other) =
      ap (behind_act c (found_by limits opened d h) a h) (named (Err (talk.Store (store.Clash id kept other))) says) in
      let same : new ≡ old = on_lane.untouched (ap is_asked_of_lane put) in
      subst (λ k. HasHeard limits d k new now voice lines) (sym is) (record {
        stands = subst (λ s. IsLaneOf limits s so_far) (sym same) heard.stands;
        held = on_store.holds ∙ heard.held;
        voice_is = heard.voice_is;
        says = lines_are ∙ ap (λ b. b ++ written (clash_line c id ∷ [])) heard.says ∙ sym (written_both h.lines (clash_line c id ∷ []));
      })

  -- ---- by the answer of the call

  -- how many entries and side steps there are behind it
  abbrev steps_behind : Standing → ℕ
  steps_behind new = steps_on (with_entries (hear_act limits opened c d h a).entries d) new

  worn_behind : (new : Standing) (added : List Step) → Goes old new added → EndsWorn (steps_behind new) old added
  worn_behind new added goes none worn =
      omega (arith, worn_on limits old new added so_far heard.stands goes none worn, entries_steps d h.entries (hear_act limits opened c d h a).entries new (act_more limits opened c d h a))

  pub replied : (new : Standing) (now : Storing) (e : ActEnd) → OnLane a old new (Ok e) → OnStore a before now (Ok e) → Says a old before (Ok e) → (after : VoiceState) (lines : List ℕ) (result : Result (Unit {0}) Stop)
      → MatchResult result (λ done. (after ≡ state_after voice a e) × (lines ≡ bytes ++ written (map (reply_line c) (replies_to voice a e)))) (λ stop. stop ≡ NoMemory)
      → HearsOne limits d (hear_act limits opened c d h a) new now after lines result
  replied new now e on_lane on_store says after lines (Ok done) took = ended new now e on_lane on_store says after lines took.0 took.1
  replied new now e on_lane on_store says after lines (Err stop) took = subst (IsHonest (steps_behind new)) (sym took) tt

  clash_said : (new : Standing) (now : Storing) (id kept other : List ℕ) → OnLane a old new (Err (talk.Store (store.Clash id kept other))) → OnStore a before now (Err (talk.Store (store.Clash id kept other)))
      → a ≡ act.PutObject other → Says a old before (Err (talk.Store (store.Clash id kept other))) → (lines : List ℕ) (result : Result (Unit {0}) Stop)
      → MatchResult result (λ done. lines ≡ bytes ++ written (clash_line c id ∷ [])) (λ stop. stop ≡ NoMemory) → HearsOne limits d (hear_act limits opened c d h a) new now voice lines result
  clash_said new now id kept other on_lane on_store put says lines (Ok done) is = clashed new now id kept other on_lane on_store put says lines is
  clash_said new now id kept other on_lane on_store put says lines (Err stop) is = subst (IsHonest (steps_behind new)) (sym is) tt

  ends_so : (new : Standing) (now : Storing) (lines : List ℕ) (stop : Stop) (result : Result (Unit {0}) Stop) → IsHonest (steps_behind new) stop → result ≡ Err stop → HearsOne limits d (hear_act limits opened c d h a) new now voice lines result
  ends_so new now lines stop result honest is = subst (HearsOne limits d (hear_act limits opened c d h a) new now voice lines) (sym is) honest

  unstored : (new : Standing) (now : Storing) (fault : StoreFault) → OnLane a old new (Err (talk.Store fault)) → OnStore a before now (Err (talk.Store fault)) → IsTalkCause a old new before now (talk.Store fault)
      → Says a old before (Err (talk.Store fault)) → (lines : List ℕ) (result : Result (Unit {0}) Stop) → IsUnstored c fault bytes lines result → HearsOne limits d (hear_act limits opened c d h a) new now voice lines result
  unstored new now (store.Clash id kept other) on_lane on_store cause says lines result is = clash_said new now id kept other on_lane on_store cause.1.0.put says lines result is
  unstored new now (store.StoreFailed note) on_lane on_store cause says lines result is = ends_so new now lines (StoreFailed note) result tt is
  unstored new now store.NoMemory on_lane on_store cause says lines result is = absurd cause.1
  unstored new now (store.Missing id) on_lane on_store cause says lines result is = absurd cause.1
  unstored new now (store.BadObject id place) on_lane on_store cause says lines result is = absurd cause.1
  unstored new now (store.Tree fault) on_lane on_store cause says lines result is = absurd cause.1
  unstored new now (store.NoPath path) on_lane on_store cause says lines result is = absurd cause.1

  pub unheard : (new : Standing) (now : Storing) (fault : TalkFault) → OnLane a old new (Err fault) → OnStore a before now (Err fault) → IsTalkCause a old new before now fault → Says a old before (Err fault)
      → (lines : List ℕ) (result : Result (Unit {0}) Stop) → IsUnheard c fault bytes lines result → HearsOne limits d (hear_act limits opened c d h a) new now voice lines result
  unheard new now (talk.Lane fault) on_lane on_store cause says lines result is = ends_so new now lines (stop_of fault) result
      (lane_honest (steps_behind new) old new on_lane.added fault (worn_behind new on_lane.added on_lane.goes) on_lane.adds cause.1) is
  unheard new now (talk.Delta fault) on_lane on_store cause says lines result is =
      ends_so new now lines (delta_stop fault) result
      (delta_honest limits (steps_behind new) old new on_lane.added so_far a fault heard.stands (worn_behind new on_lane.added on_lane.goes) on_lane.adds cause.1) is
  unheard new now (talk.Store fault) on_lane on_store cause says lines result is = unstored new now fault on_lane on_store cause says lines result is
  unheard new now (talk.Door fault) on_lane on_store cause says lines result is = absurd cause
  unheard new now talk.NoMemory on_lane on_store cause says lines result is = ends_so new now lines NoMemory result tt is

-- ---- acts one after another

-- so many acts were heard: whatever comes of the rest from here is what comes of all of them
pub record HasHeardSome (c : List ℕ) (acts rest : List Act) (lane now : Standing) (before store : Storing) (voice after : VoiceState) (bytes : List ℕ) : Type 0 where
  pub fit : All IsFitting rest
  pub later : lane.keeping.faults ≤ now.keeping.faults
  pub sides : now.sides ≤ lane.sides
  pub counts : before.faults ≤ store.faults
  pub heard :
      (limits : Limits) (opened : List (List ℕ)) (d : Document) (h : Hearing) → All (IsWithin opened) acts → HasHeard limits d h lane before voice []
      → (k : Hearing) × (HasHeard limits d k now store after bytes × (All (IsWithin opened) rest × (hear limits opened c d k rest ≡ hear limits opened c d h acts)))

module _ (c : List ℕ) (acts : List Act) (lane : Standing) (before : Storing) (voice : VoiceState) where
  pub heard_none : All IsFitting acts → HasHeardSome c acts acts lane lane before before voice voice []
  heard_none fit = record { fit = fit; later = omega arith; sides = omega arith; counts = omega arith; heard = λ limits opened d h within is. (h, (is, (within, refl))) }

  abbrev pub DoesOne : (now new : Standing) (store held : Storing) (after last : VoiceState) (bytes lines : List ℕ) → Act → Result (Unit {0}) Stop → Type 0
  DoesOne now new store held after last bytes lines a result =
      (limits : Limits) (opened : List (List ℕ)) (d : Document) (h : Hearing) → IsWithin opened a → HasHeard limits d h now store after bytes
      → HearsOne limits d (hear_act limits opened c d h a) new held last lines result

  pub heard_more : (a : Act) (rest : List Act) (now new : Standing) (store held : Storing) (after last : VoiceState) (bytes lines : List ℕ) → HasHeardSome c acts (a ∷ rest) lane now before store voice after bytes
      → now.keeping.faults ≤ new.keeping.faults → new.sides ≤ now.sides → store.faults ≤ held.faults → DoesOne now new store held after last bytes lines a (Ok tt)
      → HasHeardSome c acts rest lane new before held voice last lines
  heard_more a rest now new store held after last bytes lines some later sides counts does = record {
    fit = All-tail IsFitting a rest some.fit;
    later = omega (arith, some.later, later);
    sides = omega (arith, some.sides, sides);
    counts = omega (arith, some.counts, counts);
    heard = λ limits opened d h within is.
        let k = some.heard limits opened d h within is in (
          hear_act limits opened c d k.0 a,
          (
            does limits opened d k.0 (All-head (IsWithin opened) a rest k.1.1.0) k.1.0,
            (All-tail (IsWithin opened) a rest k.1.1.0, k.1.1.1),
          ),
        );
  }

  pub heard_all : (now : Standing) (store : Storing) (after : VoiceState) (bytes : List ℕ) → HasHeardSome c acts [] lane now before store voice after bytes
      → (limits : Limits) (opened : List (List ℕ)) (d : Document) (h : Hearing) → All (IsWithin opened) acts → HasHeard limits d h lane before voice []
      → HasHeard limits d (hear limits opened c d h acts) now store after bytes
  heard_all now store after bytes some limits opened d h within is =
      let k = some.heard limits opened d h within is in subst (λ g. HasHeard limits d g now store after bytes) k.1.1.1 k.1.0

  -- one of them ended the script
  pub heard_honest : (a : Act) (rest : List Act) (now new : Standing) (store held : Storing) (after last : VoiceState) (bytes lines : List ℕ) (stop : Stop) → HasHeardSome c acts (a ∷ rest) lane now before store voice after bytes
      → DoesOne now new store held after last bytes lines a (Err stop)
      → (limits : Limits) (opened : List (List ℕ)) (d : Document) (h : Hearing) → All (IsWithin opened) acts → HasHeard limits d h lane before voice []
      → IsHonest (steps_on (with_entries (hear limits opened c d h acts).entries d) new) stop
  heard_honest a rest now new store held after last bytes lines stop some does limits opened d h within is =
      let k = some.heard limits opened d h within is in
      let one = hear_act limits opened c d k.0 a in
      let all = hear limits opened c d h acts in
      honest_more (steps_on (with_entries one.entries d) new) (steps_on (with_entries all.entries d) new) stop
      (entries_steps d one.entries all.entries new (subst (λ (g : Hearing). length one.entries ≤ length g.entries) k.1.1.1 (acts_more limits opened c d one rest)))
      (does limits opened d k.0 (All-head (IsWithin opened) a rest k.1.1.0) k.1.0)

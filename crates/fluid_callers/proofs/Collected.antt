-- A connection that is given the messages of its document, on a desk.
use Rattle.std.proofs.Common.{◌≡◌, ℕ, ◌+◌, ◌-◌, ◌<◌, ◌≤◌, arith, Bool, true, false, List, [], length, map, drop, Option, Some, None, is_some, Result, Ok, Err, refl, sym, ap, ap₂, subst, ◌∙◌, length-drop}
use Rattle.std.specs.Prelude.{max}
use Rattle.std.specs.FinMap.{get}
use Rattle.std.proofs.lemmas.List.{take_all, drop_all}
use Rattle.fluid_table.proofs.Places.{get_own}
use Rattle.fluid_types.specs.Ledger.{order, seq}
use Rattle.fluid_types.specs.Order.{AreNumberedFrom}
use Rattle.fluid_types.specs.declared.messages.Message.{Message}
use Rattle.fluid_deltas.specs.Ranges.{IsSlice}
use Rattle.fluid_deltas.specs.declared.fault.DeltaFault.{DeltaFault}
use Rattle.fluid_deltas.specs.declared.fault.DeltaFault.TheVariants as delta
use Rattle.fluid_rules.specs.declared.limits.Limits.{Limits}
use Rattle.fluid_deltas.specs.Pushed.{slice}
use Rattle.fluid_lane.specs.declared.steps.Step.{Step}
use Rattle.fluid_lane.specs.Steps.{ledger, range_steps}
use Rattle.fluid_io.specs.Causes.{Tells}
use Rattle.fluid_lane.specs.Standing.{Standing, LaneStands, Goes, is_worn}
use Rattle.fluid_lane.specs.Ranges.{Ranges}
use Rattle.fluid_lanes.specs.Opened.{Opened, with_lane}
use Rattle.fluid_lanes.specs.Using.{Uses, IsOneTooMany}
use Rattle.fluid_voice.specs.declared.states.VoiceState.{VoiceState}
use Rattle.fluid_voice.specs.declared.states.VoiceState.TheVariants.{Fresh, Reading, Writing, Used}
use Rattle.fluid_voice.specs.States.{document_name, with_next}
use Rattle.fluid_voice.specs.Feed as feed
use Rattle.fluid_steps.specs.declared.steps.Step.TheVariants as step
use Rattle.fluid_transcript.specs.World.{Document, World, new_document, document, is_open, Effect, grown, does, connection, ledger_of}
use Rattle.fluid_transcript.specs.Lines.{reply_line}
use Rattle.fluid_transcript.specs.Connections.{voice_of, delivered}
use Rattle.fluid_transcript.specs.Sound.{IsSoundVoice}
use Rattle.fluid_transcript.specs.Transcript.{done_in, done_on, done, written}
use Rattle.fluid_desk.specs.declared.stop.Stop.{Stop}
use Rattle.fluid_desk.specs.Stands.{IsLaneOf, DeskStands}
use Rattle.fluid_desk.specs.Stopping.{IsHonest, steps_on, MayStop}
use Rattle.fluid_desk.specs.Acting.{IsUnready}
use Rattle.fluid_desk.proofs.Desks.{acts as acts_desk, stays_desk}
use Rattle.fluid_desk.proofs.Laned.{told_in, says as lane_of, beside, same}
use Rattle.fluid_desk.proofs.Opening.{uses, open_is_no_more, readied_same}
use Rattle.fluid_desk.proofs.Honest.{honest_more, grown_steps, worn_same, may_act}
use Rattle.fluid_desk.proofs.Doing.{lane_of_desk, done_within, may_unready}
use Rattle.fluid_callers.specs.Ending.{delta_stop, EndsReading}
use Rattle.fluid_callers.specs.Hearing.{event_lines, IsNextOf, Fetched, Gathers, GathersBy}
use Rattle.fluid_callers.specs.Calling.{HasGathered, GatherDoes}
use Rattle.fluid_callers.proofs.Departing.{never_beyond}

-- ---- on a lane

-- what is collected of an order by who is given this one next
pub collected_of : (document : List ℕ) (next : ℕ) (voice : VoiceState) (messages : List Message) → IsNextOf document next voice → feed.collected messages voice ≡ feed.events document (drop (next - 1) messages)
collected_of document next Fresh messages is = absurd is
collected_of document next (Reading name number) messages is = ap₂ (λ n k. feed.events n (drop (k - 1) messages)) is.0 is.1
collected_of document next (Writing name id number) messages is = ap₂ (λ n k. feed.events n (drop (k - 1) messages)) is.0 is.1
collected_of document next Used messages is = absurd is

pub name_of_next : (document : List ℕ) (next : ℕ) (voice : VoiceState) → IsNextOf document next voice → document_name voice ≡ Some document
name_of_next document next Fresh is = absurd is
name_of_next document next (Reading name number) is = ap Some is.0
name_of_next document next (Writing name id number) is = ap Some is.0
name_of_next document next Used is = absurd is

-- the first message has no other before it
pub from_first : (next : ℕ) (messages : List Message) → drop (max next 1 - 1) messages ≡ drop (next - 1) messages
from_first next messages = ap (λ n. drop n messages) (by next)
  where
    by : (n : ℕ) → max n 1 - 1 ≡ n - 1
    by n = omega arith

-- ---- messages of a lane

abbrev order_of : Document → List Message
order_of d = order (ledger_of d)

-- the number of its last message
last_is : (limits : Limits) (s : Standing) (d : Document) → IsLaneOf limits s d → s.entries.state.sequencer.sequence ≡ length (order_of d)
unfolding seq
last_is limits s d of = (lane_of limits s d of).seq

pub next_is : (limits : Limits) (s : Standing) (d : Document) (behind : ℕ) → IsLaneOf limits s d → behind ≡ s.entries.state.sequencer.sequence + 1 → behind ≡ length (order_of d) + 1
next_is limits s d behind of is = omega (arith, is, last_is limits s d of)

-- none is behind the last
pub fetched_none : (limits : Limits) (s : Standing) (d : Document) (from behind : ℕ) (messages : List Message) → IsLaneOf limits s d → behind ≡ s.entries.state.sequencer.sequence + 1 → behind ≤ from → messages ≡ [] → Fetched limits d from s messages
fetched_none limits s d from behind messages of is le none = record {
  stands = of;
  are = none ∙ sym (drop_all (from - 1) (order_of d) (omega (arith, next_is limits s d behind of is, le)));
}

worn_or_not : {A : Type 0} (b : Bool) → (b ≡ true → A) → (b ≡ false → A) → A
worn_or_not true h k = h refl
worn_or_not false h k = k refl

module _ {V : Type 0} (read : V → List Message) (from to : ℕ) (old new : Standing) where
  abbrev pub IsRange : Result V DeltaFault → Type 0
  IsRange result = is_worn old ≡ false → Ranges read from to old new result

  abbrev pub IsSliceOf : Result V DeltaFault → Type 0
  IsSliceOf result = is_worn old ≡ false → (l : List Step) → LaneStands old l → Tells old.keeping.content (λ content. IsSlice read (slice (order (ledger l)) from to) result)

  abbrev pub IsWornSo : Result V DeltaFault → Type 0
  IsWornSo result = is_worn old ≡ true → (result ≡ Err delta.Worn) × (new ≡ old)

  same_fault : (a b : DeltaFault) → ◌≡◌ {A = Result V DeltaFault} (Err a) (Err b) → a ≡ b
  same_fault a b same = cc

  two_ends : (v : V) (f : DeltaFault) → ◌≡◌ {A = Result V DeltaFault} (Ok v) (Err f) → ⊥
  two_ends v f same = cc

  not_worn : (v : V) → IsWornSo (Ok v) → is_worn old ≡ false
  not_worn v worn = worn_or_not (is_worn old) (λ h. absurd (two_ends v delta.Worn (worn h).0)) (λ h. h)

  -- those that were given have the numbers of the range
  pub range_numbered : (v : V) → IsWornSo (Ok v) → IsRange (Ok v) → AreNumberedFrom from (read v)
  range_numbered v worn ranges = (ranges (not_worn v worn)).reads.numbers.numbered

  -- why messages weren't given
  reads_by : (f : DeltaFault) → Goes old new (range_steps {A = V} (Err f)) → IsRange (Err f) → IsSliceOf (Err f) → is_worn old ≡ false → EndsReading old new (delta_stop f)
  reads_by (delta.DeltaFailed note) on reads slice_is h = (reads h).reads.cause
  reads_by (delta.BadDelta number) on reads slice_is h = record {
    before = old;
    added = [];
    goes = on;
    range = Ok (from, to);
    bad = record { first = from; end = to; asked = refl; within = (reads h).reads.bad; bad = (reads h).answer; never = slice_is h };
  }
  reads_by delta.NoMemory on reads slice_is h = tt
  reads_by delta.Worn on reads slice_is h = absurd (reads h).reads.cause

  pub range_reads : (fault : DeltaFault) → Goes old new (range_steps {A = V} (Err fault)) → IsWornSo (Err fault) → IsRange (Err fault) → IsSliceOf (Err fault) → EndsReading old new (delta_stop fault)
  range_reads fault on worn ranges slices =
      worn_or_not (is_worn old)
      (λ h. subst (λ f. EndsReading old new (delta_stop f)) (sym (same_fault fault delta.Worn (worn h).0)) (ap is_worn (worn h).1 ∙ h))
      (λ h. reads_by fault on ranges slices h)

  module _ (limits : Limits) (d : Document) (of : IsLaneOf limits old d) where
    honest_by : (f : DeltaFault) → IsRange (Err f) → IsSliceOf (Err f) → is_worn old ≡ false → IsHonest (steps_on d new) (delta_stop f)
    honest_by (delta.DeltaFailed note) ranges slice_is h = tt
    honest_by (delta.BadDelta number) ranges slice_is h = absurd (told_in (λ _. ⊥) old.keeping.content of.content of.told (slice_is h of.list of.stands))
    honest_by delta.NoMemory ranges slice_is h = tt
    honest_by delta.Worn ranges slice_is h = absurd (ranges h).reads.cause

    pub range_honest : (fault : DeltaFault) → IsWornSo (Err fault) → IsRange (Err fault) → IsSliceOf (Err fault) → IsHonest (steps_on d new) (delta_stop fault)
    range_honest fault worn ranges slices =
        worn_or_not (is_worn old)
        (λ h. subst (λ f. IsHonest (steps_on d new) (delta_stop f)) (sym (same_fault fault delta.Worn (worn h).0)) (worn_same limits old new d of (h, (worn h).1)))
        (λ h. honest_by fault ranges slices h)

    pub range_fetched : (v : V) → Goes old new (range_steps (Ok v)) → IsWornSo (Ok v) → IsRange (Ok v) → IsSliceOf (Ok v) → to ≡ old.entries.state.sequencer.sequence + 1 → 0 < from → Fetched limits d from new (read v)
    range_fetched v on worn ranges slices last some =
        let h = not_worn v worn in
        let reads = ranges h in
        let cut = told_in (λ content. IsSlice read (slice (order (ledger of.list)) from to) (Ok v)) old.keeping.content of.content of.told (slices h of.list of.stands) in
        let count = next_is limits old d to of last in
        record {
          stands = beside limits old d of new [] on (reads.same.1.1 ∙ of.level) refl refl;
          are = cut ∙ ap (λ l. slice (order l) from to) of.entries
              ∙ take_all (to - from) (drop (from - 1) (order_of d)) (omega (arith, count, some, length-drop (from - 1) (order_of d)));
        }

-- what was fetched is what is gathered for a connection
pub gathered : (limits : Limits) (d : Document) (c document : List ℕ) (next from behind : ℕ) (voice : VoiceState) (old new : Standing) (messages : List Message) (lines : List ℕ) → IsNextOf document next voice → IsLaneOf limits old d
    → behind ≡ old.entries.state.sequencer.sequence + 1 → from ≡ max next 1 → Fetched limits d from new messages → lines ≡ event_lines c document messages → Gathers limits d c voice new (lines, behind)
gathered limits d c document next from behind voice old new messages lines next_of of last from_is fetched lines_are = record {
  stands = fetched.stands;
  says =
      lines_are
      ∙ ap (event_lines c document) (fetched.are ∙ ap (λ n. drop (n - 1) (order_of d)) from_is ∙ from_first next (order_of d))
      ∙ ap (λ replies. written (map (reply_line c) replies)) (sym (collected_of document next voice (order_of d) next_of));
  next = next_is limits old d behind of last;
}

-- ---- on a desk

-- what is delivered to one that stands there
abbrev given_to : World → Document → (c : List ℕ) → VoiceState → Effect
given_to w d c voice = delivered w (ledger_of d) c voice

-- the document of a connection is open
abbrev IsOpenFor : World → VoiceState → Type 0
IsOpenFor w voice = (name : List ℕ) → document_name voice ≡ Some name → is_open w name ≡ true

some_name : (a b : List ℕ) → ◌≡◌ {A = Option (List ℕ)} (Some a) (Some b) → a ≡ b
some_name a b same = cc

none_name : (a : List ℕ) → ◌≡◌ {A = Option (List ℕ)} None (Some a) → ⊥
none_name a same = cc

sound_open : (w : World) (voice : VoiceState) → IsSoundVoice w voice → IsOpenFor w voice
sound_open w Fresh sound name is = absurd (none_name name is)
sound_open w (Reading own next) sound name is = ap (is_open w) (sym (some_name own name is)) ∙ sound.open_is
sound_open w (Writing own id next) sound name is = ap (is_open w) (sym (some_name own name is)) ∙ sound.0.open_is
sound_open w Used sound name is = absurd sound

collect_is : (limits : Limits) (w : World) (c name : List ℕ) (voice : VoiceState) → voice_of w c ≡ voice → document_name voice ≡ Some name → is_open w name ≡ true
    → done limits w (step.Collect c) ≡ does (given_to w (document w name) c voice) (Some name) w
collect_is limits w c name voice is named opened =
    done_within limits w name (step.Collect c) (ap document_name is ∙ named) (open_is_no_more w name opened)
    ∙ ap (λ v. done_in limits v name (step.Collect c)) (readied_same w name opened)
    ∙ ap (λ v. does (given_to w (document w name) c v) (Some name) w) is

gathered_desk : (limits : Limits) (o : Opened) (w : World) (c name : List ℕ) (voice : VoiceState) (one other : Standing) (result : Result (List ℕ × ℕ) Stop) → DeskStands o w → is_open w name ≡ true → get o.lanes name ≡ Some one
    → o.limits ≡ limits → GathersBy limits (document w name) c voice other result → GatherDoes (does (given_to w (document w name) c voice) (Some name) w) c (with_lane o name other) voice result
gathered_desk limits o w c name voice one other (Err stop) desk opened there limits_are gathers =
    let d = document w name in
    let e = given_to w d c voice in
    may_act w o name other e stop (honest_more (steps_on d other) (steps_on (grown e d) other) stop (grown_steps e d other) gathers)
gathered_desk limits o w c name voice one other (Ok gathered) desk opened there limits_are gathers =
    let d = document w name in
    let e = given_to w d c voice in
    record {
      stands = acts_desk o w name other e desk (ap is_some there) opened (same o.limits other d (subst (λ l. IsLaneOf l other d) (sym limits_are) gathers.stands));
      name = get_own w.names c _ ∙ ap (λ n. Some (connection (with_next n voice))) (sym gathers.next);
      says = gathers.says;
    }

pub gathers_on : (old mid : Opened) (w : World) (c name : List ℕ) (moment : ℕ) (voice : VoiceState) (one other : Standing) (result : Result (List ℕ × ℕ) Stop) → DeskStands old w → IsSoundVoice w voice → voice_of w c ≡ voice
    → w.moment ≡ moment → document_name voice ≡ Some name → Uses {A = Unit {0}} name moment old mid (Ok tt) → mid.limits ≡ old.limits → get mid.lanes name ≡ Some one
    → ((limits : Limits) (d : Document) → IsLaneOf limits one d → GathersBy limits d c voice other result) → GatherDoes (done old.limits w (step.Collect c)) c (with_lane mid name other) voice result
gathers_on old mid w c name moment voice one other result desk sound is at named used limits there gathers =
    let opened = sound_open w voice sound name named in
    let ready = subst (DeskStands mid) (readied_same w name opened) (uses old mid w name moment desk at used).stands in
    let own = lane_of_desk mid w name one ready there in
    subst (λ t. GatherDoes t c (with_lane mid name other) voice result) (sym (collect_is old.limits w c name voice is named opened))
    (gathered_desk old.limits mid w c name voice one other result ready opened there limits (gathers old.limits (document w name) (subst (λ l. IsLaneOf l one (document w name)) limits own.1)))

-- its document wasn't opened
pub ungathered : (limits : Limits) (o : Opened) (w : World) (c name : List ℕ) (voice : VoiceState) (stop : Stop) → voice_of w c ≡ voice → document_name voice ≡ Some name → IsUnready w name o stop
    → MayStop (done limits w (step.Collect c)).world o stop
ungathered limits o w c name voice stop is named unready = may_unready limits w name o (step.Collect c) stop (ap document_name is ∙ named) unready

-- its document is never one too many
pub gathers_never : (old mid : Opened) (w : World) (name : List ℕ) (voice : VoiceState) (count : ℕ) → DeskStands old w → IsSoundVoice w voice → document_name voice ≡ Some name → IsOneTooMany name old mid count → ⊥
gathers_never old mid w name voice count desk sound named many = never_beyond old mid w name count desk (sound_open w voice sound name named) many

-- one without a document is given nothing
pub gathers_none : (o : Opened) (w : World) (c : List ℕ) (voice : VoiceState) → DeskStands o w → voice_of w c ≡ voice → voice ≡ Fresh → HasGathered (done o.limits w (step.Collect c)) c o voice ([], 0)
gathers_none o w c voice desk is fresh =
    let now = is ∙ fresh in
    let table : done o.limits w (step.Collect c) ≡ does (given_to w new_document c Fresh) None w =
    ap (λ v. done_on o.limits w (document_name v) (step.Collect c)) now ∙ ap (λ v. does (given_to w new_document c v) None w) now in
    subst (λ v. HasGathered (done o.limits w (step.Collect c)) c o v ([], 0)) (sym fresh)
    (subst (λ t. HasGathered t c o Fresh ([], 0)) (sym table) (record { stands = stays_desk o w (given_to w new_document c Fresh) desk; name = get_own w.names c _; says = refl }))

-- ---- where a connection stands

pub next_reading : (voice : VoiceState) (name : List ℕ) (next : ℕ) → voice ≡ Reading name next → IsNextOf name next voice
next_reading voice name next is = subst (IsNextOf name next) (sym is) (refl, refl)

pub next_writing : (voice : VoiceState) (name id : List ℕ) (next : ℕ) → voice ≡ Writing name id next → IsNextOf name next voice
next_writing voice name id next is = subst (IsNextOf name next) (sym is) (refl, refl)

-- one that has left hears nothing, and no sound world has it
pub left_unsound : (w : World) (voice : VoiceState) → voice ≡ Used → IsSoundVoice w voice → ⊥
left_unsound w voice is sound = subst (IsSoundVoice w) is sound

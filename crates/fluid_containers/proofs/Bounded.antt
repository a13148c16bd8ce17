-- A container's call over a link adds one entry at most.
use Rattle.std.proofs.Common.{◌≡◌, inl, inr, ℕ, ◌+◌, ◌≤◌, arith, Bool, true, List, [], ◌∷◌, ◌++◌, length, Option, Some, None, option_map, Result, Ok, Err, sym, ap, subst, ◌∙◌, length-append}
use Rattle.std.specs.Option.{option_map_or}
use Rattle.std.proofs.lemmas.Bool.{leb-true}
use Rattle.fluid_edits.specs.declared.edit.Edit.{Edit}
use Rattle.fluid_types.specs.declared.entries.Raw.{Raw}
use Rattle.fluid_types.specs.declared.entries.Submission.{Submission}
use Rattle.fluid_types.specs.declared.verdicts.Verdict.{Verdict}
use Rattle.fluid_types.specs.Ledger.{Ledger}
use Rattle.fluid_rules.specs.declared.limits.Limits.{Limits}
use Rattle.fluid_store.specs.Held.{Held}
use Rattle.fluid_store.specs.Storing.{Storing}
use Rattle.fluid_runtime.specs.AppTree.{tree_since}
use Rattle.fluid_tree.specs.Summary.{Summary}
use Rattle.fluid_types.specs.Forms.{largest}
use Rattle.fluid_document.specs.Entries.{Entries}
use Rattle.fluid_document.proofs.Foldings.{entered-entries_of}
use Rattle.fluid_lane.specs.Steps.{ledger}
use Rattle.fluid_lane.specs.Standing.{Standing, IsTold, is_worn}
use Rattle.fluid_loader.specs.Link as link
use Rattle.fluid_loader.specs.Link.{Linked, BothTell, MayEnter, with_entry, entry_of, PutsTree, PutsSome}
use Rattle.fluid_loader.specs.Calls as calls
use Rattle.fluid_loader.specs.Calls.{EditDoes, Edits, PumpReads, LoadsOnly, Proposes, SummarizeDoes, since, summarize_of}
use Rattle.fluid_loader.specs.Container.{AContainer}
use Rattle.fluid_loader.specs.declared.link.Given.{Given}
use Rattle.fluid_loader.specs.declared.link.Given.TheVariants.{Taken, Nacked}
use Rattle.fluid_loader.specs.declared.link.LinkFault.{LinkFault}
use Rattle.fluid_loader.specs.declared.link.LinkFault.TheVariants as faults
use Rattle.fluid_loader.specs.declared.fault.LoadFault.{LoadFault}
use Rattle.fluid_loader.specs.declared.fault.LoadFault.TheVariants as loads
use Rattle.fluid_transcript.specs.World.{Document}
use Rattle.fluid_desk.specs.declared.stop.Stop.{Stop}
use Rattle.fluid_desk.specs.Stands.{IsLaneOf}
use Rattle.fluid_desk.specs.Stopping.{IsHonest, steps_on}
use Rattle.fluid_desk.proofs.Laned.{told_in, says}
use Rattle.fluid_desk.proofs.Honest.{length_ledger}
use Rattle.fluid_door_link.specs.Coursing.{Along, IsAlong}
use Rattle.fluid_door_link.specs.Failing.{IsTreeCounted}
use Rattle.fluid_door_link.specs.Telling.{told_by}
use Rattle.fluid_door_link.specs.declared.fault.LentFault.{LentFault}
use Rattle.fluid_door_link.proofs.Told.{IsKnown, document_of, known_on, told_of}
use Rattle.fluid_containers.specs.Ending.{stop_for}
use Rattle.fluid_containers.proofs.Ends.{left_so, left_honest}
use Rattle.fluid_containers.proofs.Lanes.{known_of, told_as, tells, some_same}

-- ---- a told ledger

abbrev entries_in : link.Document → ℕ
entries_in d = option_map_or length d.ledger 0

abbrev pub OneMore : Option link.Document → Option link.Document → Type 0
OneMore before after = BothTell (λ d e. entries_in e ≤ entries_in d + 1) before after

abbrev NoMore : Option link.Document → Option link.Document → Type 0
NoMore before after = BothTell (λ d e. entries_in e ≤ entries_in d) before after

both_so : (F G : link.Document → link.Document → Type 0) → ((d e : link.Document) → F d e → G d e) → (a b : Option link.Document) → BothTell F a b → BothTell G a b
both_so F G turns None None both = tt
both_so F G turns None (Some e) both = absurd both
both_so F G turns (Some d) None both = absurd both
both_so F G turns (Some d) (Some e) both = turns d e both

same_none : (a : Option link.Document) → NoMore a a
same_none None = tt
same_none (Some d) = omega arith

none_one : (a b : Option link.Document) → NoMore a b → OneMore a b
none_one a b none = both_so (λ d e. entries_in e ≤ entries_in d) (λ d e. entries_in e ≤ entries_in d + 1) (λ d e le. omega (arith, le)) a b none

then_one : (a b c : Option link.Document) → NoMore a b → OneMore b c → OneMore a c
then_one None None None none one = tt
then_one None None (Some z) none one = absurd one
then_one None (Some y) c none one = absurd none
then_one (Some x) None c none one = absurd none
then_one (Some x) (Some y) None none one = absurd one
then_one (Some x) (Some y) (Some z) none one = omega (arith, none, one)

pub same_one : (linked after : Linked) → after.told ≡ linked.told → OneMore linked.told after.told
same_one linked after same = subst (OneMore linked.told) (sym same) (none_one linked.told linked.told (same_none linked.told))

-- ---- an entry

pushed : (raw : Raw) (said : Verdict) (l : Option Ledger) → option_map_or length (option_map (λ (ledger : Ledger). ledger ++ (raw, said) ∷ []) l) 0 ≤ option_map_or length l 0 + 1
pushed raw said None = omega arith
pushed raw said (Some l) = omega (arith, length-append l ((raw, said) ∷ []))

may_one : (raw : Raw) (d e : link.Document) → MayEnter raw d e → entries_in e ≤ entries_in d + 1
may_one raw d e (inl same) = subst (λ (x : link.Document). entries_in x ≤ entries_in d + 1) (sym same) (omega arith)
may_one raw d e (inr (said, is)) = subst (λ (x : link.Document). entries_in x ≤ entries_in d + 1) (sym is) (pushed raw said d.ledger)

enters_one : (raw : Raw) (answer : Given) (d e : link.Document) → link.Enters raw answer d e → entries_in e ≤ entries_in d + 1
enters_one raw answer d e (inl (room, (said, (answers, is)))) = may_one raw d e (inr (said, is))
enters_one raw answer d e (inr (full, (answers, same))) = may_one raw d e (inl same)

abbrev IsOne : link.Document → link.Document → Type 0
IsOne d e = entries_in e ≤ entries_in d + 1

submits_one : (s : Submission) (linked after : Linked) (given : Result Given LinkFault) → link.Submits s linked after given → OneMore linked.told after.told
submits_one s linked after (Ok Taken) submits = both_so (link.Enters (entry_of linked s) Taken) IsOne (enters_one (entry_of linked s) Taken) linked.told after.told submits.says.1
submits_one s linked after (Ok (Nacked nack)) submits = both_so (link.Enters (entry_of linked s) (Nacked nack)) IsOne (enters_one (entry_of linked s) (Nacked nack)) linked.told after.told submits.says.1.1
submits_one s linked after (Err faults.Failed) submits = both_so (MayEnter (entry_of linked s)) IsOne (may_one (entry_of linked s)) linked.told after.told submits.says.1.document
submits_one s linked after (Err (faults.Clash id kept bytes)) submits = absurd submits.says
submits_one s linked after (Err faults.NoMemory) submits = both_so (MayEnter (entry_of linked s)) IsOne (may_one (entry_of linked s)) linked.told after.told submits.says.document

pub beat_one : (s : Submission) (linked after : Linked) (answer : Result (Unit {0}) LoadFault) → calls.Submits s linked after answer → OneMore linked.told after.told
beat_one s linked after answer submits = submits_one s linked after submits.given submits.submitted

undone_one : (linked after : Linked) → after ≡ linked → OneMore linked.told after.told
undone_one linked after same = same_one linked after (ap (λ (x : Linked). x.told) same)

module _ (old new : AContainer) (edit : Edit) (linked after : Linked) where
  edits_one : (answer : Result (Unit {0}) LoadFault) → Edits old new edit linked after answer → OneMore linked.told after.told
  edits_one answer edits = beat_one (calls.op_of old edit) linked after answer edits.submits

  pub edit_one : (answer : Result (Unit {0}) LoadFault) → EditDoes old new edit linked after answer → OneMore linked.told after.told
  edit_one (Ok done) does = edits_one (Ok done) does
  edit_one (Err (loads.Edit fault)) does = undone_one linked after does.1.link
  edit_one (Err loads.NoMemory) (inl undone) = undone_one linked after undone.link
  edit_one (Err loads.NoMemory) (inr edits) = edits_one (Err loads.NoMemory) edits
  edit_one (Err (loads.Refused nack)) does = edits_one (Err (loads.Refused nack)) does
  edit_one (Err (loads.LinkFailed note)) does = edits_one (Err (loads.LinkFailed note)) does
  edit_one (Err loads.NoSummary) does = edits_one (Err loads.NoSummary) does
  edit_one (Err (loads.BadSummary path)) does = edits_one (Err (loads.BadSummary path)) does
  edit_one (Err (loads.Clash id kept bytes)) does = edits_one (Err (loads.Clash id kept bytes)) does

-- ---- a summarize

-- the ledger stays where objects are put
module _ (node : Summary) (base : Option (List ℕ)) where
  put_none : (r : Result (List ℕ) LinkFault) (d e : link.Document) → PutsTree node base r d e → entries_in e ≤ entries_in d
  put_none r d e puts = subst (λ (x : link.Document). entries_in x ≤ entries_in d) (sym puts.held) (omega arith)

  some_none : (d e : link.Document) → PutsSome node base d e → entries_in e ≤ entries_in d
  some_none d e puts = subst (λ (x : link.Document). entries_in x ≤ entries_in d) (sym puts.held) (omega arith)

  abbrev IsNone : link.Document → link.Document → Type 0
  IsNone d e = entries_in e ≤ entries_in d

  uploads_none : (linked after : Linked) (put : Result (List ℕ) LinkFault) → link.Uploads node base linked after put → NoMore linked.told after.told
  uploads_none linked after (Ok id) uploads = both_so (PutsTree node base (Ok id)) IsNone (put_none (Ok id)) linked.told after.told uploads.says.1.0
  uploads_none linked after (Err faults.Failed) uploads = both_so (PutsSome node base) IsNone some_none linked.told after.told uploads.says.1
  uploads_none linked after (Err (faults.Clash id kept bytes)) uploads = both_so (PutsTree node base (Err (faults.Clash id kept bytes))) IsNone (put_none (Err (faults.Clash id kept bytes))) linked.told after.told uploads.says.1
  uploads_none linked after (Err faults.NoMemory) uploads = both_so (PutsSome node base) IsNone some_none linked.told after.told uploads.says

proposes_one : (old new : AContainer) (s : Submission) (between after : Linked) (answer : Result (Unit {0}) LoadFault) → Proposes old new s between after answer → OneMore between.told after.told
proposes_one old new s between after (Ok done) does = beat_one s between after (Ok done) does.submits
proposes_one old new s between after (Err loads.NoMemory) (inl undone) = undone_one between after undone.link
proposes_one old new s between after (Err loads.NoMemory) (inr made) = beat_one s between after (Err loads.NoMemory) made.submits
proposes_one old new s between after (Err (loads.Edit fault)) does = beat_one s between after (Err (loads.Edit fault)) does.submits
proposes_one old new s between after (Err (loads.Refused nack)) does = beat_one s between after (Err (loads.Refused nack)) does.submits
proposes_one old new s between after (Err (loads.LinkFailed note)) does = beat_one s between after (Err (loads.LinkFailed note)) does.submits
proposes_one old new s between after (Err loads.NoSummary) does = beat_one s between after (Err loads.NoSummary) does.submits
proposes_one old new s between after (Err (loads.BadSummary path)) does = beat_one s between after (Err (loads.BadSummary path)) does.submits
proposes_one old new s between after (Err (loads.Clash id kept bytes)) does = beat_one s between after (Err (loads.Clash id kept bytes)) does.submits

pub summarize_one : (old new : AContainer) (linked after : Linked) (answer : Result (List ℕ) LoadFault) → SummarizeDoes old new linked after answer → OneMore linked.told after.told
summarize_one old new linked after (Ok id) does =
    then_one linked.told does.between.told after.told (uploads_none (tree_since old.changed old.channels) old.base linked does.between does.uploaded.put does.uploaded.uploads)
    (beat_one (summarize_of old id) does.between after (Ok tt) does.submitted)
summarize_one old new linked after (Err fault) (inl undone) = undone_one linked after undone.1.link
summarize_one old new linked after (Err fault) (inr (inl unput)) =
    none_one linked.told after.told (uploads_none (tree_since old.changed old.channels) old.base linked after unput.failed.put unput.failed.uploads)
summarize_one old new linked after (Err fault) (inr (inr alone)) =
    then_one linked.told alone.between.told after.told (uploads_none (tree_since old.changed old.channels) old.base linked alone.between alone.uploaded.put alone.uploaded.uploads)
    (proposes_one (since old alone.id) new (summarize_of old alone.id) alone.between after (Err fault) alone.ends)

-- ---- the lane then

none_some : (a : link.Document) → ◌≡◌ {A = Option link.Document} None (Some a) → ⊥
none_some a same = cc

-- it has as many entries as are told
told_entries : (s : Standing) (known : IsKnown s) (store : Storing) (e : link.Document) → told_by true s store ≡ Some e → s.entries.entered ≡ entries_in e
told_entries s known store e told = by store.content (sym (told_of s known store) ∙ told)
  where
    entered : s.entries.entered ≡ length (ledger known.list)
    entered = ap (λ (x : Entries). x.entered) (told_in (IsTold s known.list) s.keeping.content known.content known.told known.stands.told).stands.entries ∙ entered-entries_of (ledger known.list)

    by : (o : Option Held) → option_map (document_of (ledger known.list) s.limits.entries) o ≡ Some e → s.entries.entered ≡ entries_in e
    by None there = absurd (none_some e there)
    by (Some held) there = entered ∙ ap entries_in (some_same (document_of (ledger known.list) s.limits.entries held) e there)

module _ (limits : Limits) (old new : Standing) (d : Document) (of : IsLaneOf limits old d) (store now : Storing) (held : Held) (holds : store.content ≡ Some held) (stop : Option LentFault)
    (along : IsAlong true old store (record { lane = new; store = now; stop = stop })) where
  then_known : IsKnown new
  then_known = known_on old new along.gone.added (known_of limits old d of) along.gone.goes

  bounded_by : (a b : Option link.Document) → told_by true old store ≡ a → told_by true new now ≡ b → OneMore a b → new.entries.entered ≤ length d.raws + 1
  bounded_by None b before after one = absurd (none_some (told_as limits d held) (sym before ∙ tells limits old d store held of holds))
  bounded_by (Some x) None before after one = absurd one
  bounded_by (Some x) (Some y) before after one =
      omega (
        arith,
        one,
        told_entries old (known_of limits old d of) store x before,
        told_entries new then_known now y after,
        (says limits old d of).entered,
        length_ledger d.raws,
      )

  worn_then : (linked after : Linked) → linked.told ≡ told_by true old store → after.told ≡ told_by true new now → OneMore linked.told after.told → is_worn new ≡ true → largest ≤ steps_on d new + 1
  worn_then linked after told told_now one worn =
      omega (arith, leb-true largest (new.entries.entered + new.sides) worn, bounded_by linked.told after.told (sym told) (sym told_now) one)

-- where the lane stood for a document, a call ends so as it may over a desk that stands for a world
pub left_ends : (good : Bool) (began old new : Standing) (first before now : Storing) (a : Along) (stop : Option LentFault) (trees : ℕ) (fault : LentFault) (result : Stop) → old ≡ began → before ≡ first
    → a ≡ record { lane = new; store = now; stop = a.stop } → stop ≡ a.stop → IsAlong good began first a → good ≡ true → IsTreeCounted a.stop trees → trees ≡ 0 → stop ≡ Some fault → result ≡ stop_for fault
    → (limits : Limits) (d : Document) → IsLaneOf limits old d → (held : Held) → before.content ≡ Some held → (linked after : Linked) → linked.told ≡ told_by true old before
    → (lane_then : Standing) (store_then : Storing) → after.told ≡ told_by good lane_then store_then → lane_then ≡ new → store_then ≡ now → OneMore linked.told after.told → (last : Standing) → new ≡ last → IsHonest (steps_on d last) result
left_ends good began old new first before now a stop trees fault result at_first at_before at is along holds counted none there same limits d of held holds_now linked after told lane_then store_then told_then lanes_are stores_are one last last_is =
    let so = subst (λ g. IsAlong g old before (record { lane = new; store = now; stop = stop })) holds (left_so good began old new first before now a stop at_first at_before at is along) in
    let told_now : after.told ≡ told_by true new now = told_then ∙ ap (λ g. told_by g lane_then store_then) holds ∙ ap (λ s. told_by true s store_then) lanes_are ∙ ap (told_by true new) stores_are in
    subst (λ s. IsHonest (steps_on d s) result) last_is
    (left_honest good began old new first before now a stop trees fault result at_first at_before at is along holds counted none there same (steps_on d new)
    (worn_then limits old new d of before now held holds_now stop so linked after told told_now one))

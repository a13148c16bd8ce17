-- A container that is loaded behind its client's join, on the lane of its document.
use Rattle.std.proofs.Common.{◌≡◌, ◌==◌, ℕ, Bool, true, false, if◌then◌else◌, List, [], ◌∷◌, ◌++◌, length, drop, Option, Some, None, is_some, Result, Ok, Err, refl, sym, ap, ap₂, subst, ◌∙◌, append-nil, length-append, arith, suc, ne_eqb}
use Rattle.std.specs.Prelude.{IfOk, IfErr}
use Rattle.std.specs.List.{last_or}
use Rattle.fluid_io.specs.Causes.{Tells}
use Rattle.fluid_types.specs.Ledger.{Ledger, order, seq}
use Rattle.fluid_rules.specs.Rules.{ledger as ledger_by_rules}
use Rattle.fluid_rules.specs.declared.limits.Limits.{Limits}
use Rattle.fluid_edits.specs.Replay.{Channels, no_channels, replay_edits}
use Rattle.fluid_runtime.specs.Shown.{shown}
use Rattle.fluid_store.specs.Held.{Held}
use Rattle.fluid_store.specs.Storing.{Storing}
use Rattle.fluid_tree.specs.declared.id.SummaryRef.{SummaryRef}
use Rattle.fluid_lane.specs.Standing.{Standing}
use Rattle.fluid_loader.specs.Link as link
use Rattle.fluid_loader.specs.Link.{Linked, picked}
use Rattle.fluid_loader.specs.declared.link.Pick.{Pick}
use Rattle.fluid_loader.specs.declared.link.Pick.TheVariants.{Empty, Latest, Handle}
use Rattle.fluid_loader.specs.declared.fault.LoadFault.{LoadFault}
use Rattle.fluid_loader.specs.declared.fault.LoadFault.TheVariants as loads
use Rattle.fluid_loader.specs.Calls as calls
use Rattle.fluid_loader.specs.Calls.{begun_in, shown_channels, LoadDoes, LoadsOnly}
use Rattle.fluid_loader.specs.Container.{AContainer, behind}
use Rattle.fluid_loader.specs.Laws.{IsBased, IsBehind}
use Rattle.fluid_loader.specs.Version.{AVersion, version_at}
use Rattle.fluid_voice.specs.declared.refusals.ConnectRefusal.{ConnectRefusal}
use Rattle.fluid_transcript.specs.World.{World, Document, Container, ledger_of}
use Rattle.fluid_transcript.specs.Lines as lines
use Rattle.fluid_transcript.specs.Containers as steps
use Rattle.fluid_transcript.specs.Containers.{Loading, turned_away, no_summary, bad_summary, loaded, loading, loading_by, begun, begun_at, begun_from, begun_with, join_refusal, joining, joined_for, join_for, visible}
use Rattle.fluid_transcript.specs.Transcript.{last_pick}
use Rattle.fluid_holding.specs.Holding.{IsContainerOf}
use Rattle.fluid_holding.specs.Laws.{LoadsAs, LoadsAsDefined, joined_in}
use Rattle.fluid_desk.specs.declared.stop.Stop.{Stop}
use Rattle.fluid_desk.specs.declared.stop.Stop.TheVariants.{NoMemory}
use Rattle.fluid_desk.specs.Acting.{IsLine}
use Rattle.fluid_desk.specs.Stands.{IsLaneOf}
use Rattle.fluid_desk.specs.Stopping.{IsHonest, steps_on}
use Rattle.fluid_desk.proofs.Honest.{honest_more}
use Rattle.fluid_desk.proofs.Laned.{says}
use Rattle.fluid_door_link.specs.Coursing.{IsAlong}
use Rattle.fluid_door_link.specs.Telling.{told_by}
use Rattle.fluid_containers.specs.declared.holder.Holder.{Holder}
use Rattle.fluid_containers.specs.declared.loading.Loaded.TheVariants as made
use Rattle.fluid_containers.specs.declared.loading.Loaded.{Loaded}
use Rattle.fluid_containers.specs.Joining.{joined_to, HasJoined}
use Rattle.fluid_containers.specs.Loading.{Becomes, LaneEndsIn, LaneLoaded, LaneLoads, end_line}
use Rattle.fluid_containers.specs.Saying.{IsHeldBy}
use Rattle.fluid_containers.specs.Stepping.{IsFresh}
use Rattle.fluid_containers.proofs.Lanes.{told_as, with_raws, tells, unchanged}
use Rattle.fluid_containers.proofs.Stored.{told_good}

-- ---- the document of a container that is loaded

same_loaded : (a b : Container) → ◌≡◌ {A = Loading} (loaded a) (loaded b) → a ≡ b
same_loaded a b same = cc

turned_loaded : (r : ConnectRefusal) (k : Container) → ◌≡◌ {A = Loading} (turned_away r) (loaded k) → ⊥
turned_loaded r k same = cc

none_loaded : (k : Container) → ◌≡◌ {A = Loading} no_summary (loaded k) → ⊥
none_loaded k same = cc

bad_loaded : (path : List ℕ) (k : Container) → ◌≡◌ {A = Loading} (bad_summary path) (loaded k) → ⊥
bad_loaded path k same = cc

module _ (held : Held) (name : List ℕ) (entries : ℕ) (l : Ledger) (k : Container) where
  abbrev made_with : Channels → ℕ → Container
  made_with from base = record { document = name; entries = entries; from = from; base = base; number = seq l; pending = [] }

  of_version : (base : ℕ) (v : Result AVersion (List ℕ)) → begun_with name entries l base v ≡ loaded k → k.document ≡ name
  of_version base (Ok v) is = ap (λ (c : Container). c.document) (sym (same_loaded (made_with v.channels base) k is))
  of_version base (Err path) is = absurd (bad_loaded path k is)

  of_picked : (s : Option SummaryRef) → begun_from held name entries l s ≡ loaded k → k.document ≡ name
  of_picked None is = absurd (none_loaded k is)
  of_picked (Some s) is = of_version s.number (version_at held s) is

  of_pick : (pick : Pick) → begun_at held name entries l pick ≡ loaded k → k.document ≡ name
  of_pick Empty is = ap (λ (c : Container). c.document) (sym (same_loaded (made_with no_channels 0) k is))
  of_pick Latest is = of_picked (picked Latest (order l)) is
  of_pick (Handle id) is = of_picked (picked (Handle id) (order l)) is

by_refusal : (w : World) (d : Document) (name : List ℕ) (pick : Pick) (k : Container) (refusal : Option ConnectRefusal) → loading_by w d name pick refusal ≡ loaded k → k.document ≡ name
by_refusal w d name pick k (Some r) is = absurd (turned_loaded r k is)
by_refusal w d name pick k None is = of_pick w.store name (length d.raws) (ledger_of (joined_in w d)) k pick is

pub loaded_name : (limits : Limits) (w : World) (d : Document) (name : List ℕ) (pick : Pick) (k : Container) → loading limits w d name pick ≡ loaded k → k.document ≡ name
loaded_name limits w d name pick k is = by_refusal w d name pick k (join_refusal (joining limits w (ledger_of d))) is

-- ---- on the lane

no_raws : (d : Document) → with_raws d [] ≡ d
no_raws d = ap₂ (λ raws checkpoints. record { raws = raws; checkpoints = checkpoints }) (append-nil d.raws) (append-nil d.checkpoints)

module _ (limits : Limits) (w : World) (d : Document) (client : List ℕ) (joined : HasJoined limits w d client) (old : Standing) (of : IsLaneOf limits old (joined_to limits w d)) (store : Storing) (holds : store.content ≡ Some w.store)
    (new : Standing) (now : Storing) (along : IsAlong true old store (record { lane = new; store = now; stop = None })) (name : List ℕ) (pick : Pick) (law : LoadsAsDefined)
    (linked after : Linked) (own : linked.client ≡ client) (told : linked.told ≡ told_by true old store) (told_now : after.told ≡ told_by true new now) (reads : LoadsOnly linked after) where
  abbrev doc : link.Document
  doc = told_as limits (joined_to limits w d) w.store

  raws_is : joined_for limits w d ≡ join_for w (ledger_of d) ∷ []
  raws_is = ap (λ (o : Option ConnectRefusal). if is_some o then [] else join_for w (ledger_of d) ∷ []) joined.taken

  ledger_is : ledger_of (joined_to limits w d) ≡ ledger_of (joined_in w d)
  ledger_is = ap (λ raws. ledger_by_rules (d.raws ++ raws)) raws_is

  told_doc : linked.told ≡ Some doc
  told_doc = told ∙ tells limits old (joined_to limits w d) store w.store of holds

  same_lane : (now.content ≡ Some w.store) × IsLaneOf limits new (joined_to limits w d)
  same_lane =
      let done = unchanged limits old (joined_to limits w d) of store new now along w.store (sym told_now ∙ ap (λ (x : Linked). x.told) reads.same ∙ told_doc) in
      (done.0, subst (IsLaneOf limits new) (no_raws (joined_to limits w d)) done.1)

  -- what a load comes to, as the world says
  loads_as : (answer : Result AContainer LoadFault) → begun_in pick doc ≡ answer → LoadsAs (ledger_of (joined_to limits w d)) client (loading limits w d name pick) answer
  loads_as answer is =
      subst (LoadsAs (ledger_of (joined_to limits w d)) client (loading limits w d name pick)) is
      (subst (λ l. LoadsAs l client (loading limits w d name pick) (begun_in pick doc)) (sym ledger_is)
      (subst (λ id. LoadsAs (ledger_of (joined_in w d)) id (loading limits w d name pick) (begun_in pick doc)) (sym joined.client_is)
      (law limits w d name pick doc joined.message joined.taken joined.sequenced (ap order ledger_is) refl)))

  becomes_so : (load : Loading) (result : Loaded) → loading limits w d name pick ≡ load → Becomes (ledger_of (joined_to limits w d)) w.store load result → LaneLoaded limits w d name pick new now result
  becomes_so load result is becomes = record {
    stands = same_lane.1;
    held = same_lane.0;
    becomes = subst (λ x. Becomes (ledger_of (joined_to limits w d)) w.store x result) (sym is) becomes;
  }

  in_doc : (P : link.Document → Type 0) → Tells linked.told P → P doc
  in_doc P fact = subst (λ o. Tells o P) told_doc fact

  held_so : (c : AContainer) → calls.Loaded pick linked after c → Tells linked.told (λ document. (first : AContainer) → begun_in pick document ≡ Ok first → IsBehind linked.client first document c × (c.number ≡ length document.order))
      → LaneLoaded limits w d name pick new now (made.Held (record { document = name; client = client; container = c }))
  held_so c is begins =
      let begun_is : begun_in pick doc ≡ Ok is.first = in_doc (λ document. begun_in pick document ≡ Ok is.first) is.begins in
      let all : drop is.first.number doc.order ≡ is.messages = in_doc (λ document. drop is.first.number document.order ≡ is.messages) is.all in
      let is_so = loads_as (Ok is.first) begun_is in
      let container_is : c ≡ behind client is.first (drop is.first.number doc.order) = is.taken ∙ ap (λ id. behind id is.first is.messages) own ∙ ap (behind client is.first) (sym all) in
      let based : IsBased w.store c = (in_doc (λ document. (first : AContainer) → begun_in pick document ≡ Ok first → IsBehind linked.client first document c × (c.number ≡ length document.order)) begins is.first begun_is).0.based in
      becomes_so (loaded is_so.now) (made.Held (record { document = name; client = client; container = c })) is_so.is (record {
        document = sym (loaded_name limits w d name pick is_so.now is_so.is);
        container = subst (λ x. IsContainerOf (ledger_of (joined_to limits w d)) client x is_so.now) (sym container_is) is_so.held;
        based = based;
      })

  wanting : (result : Result Loaded Stop) → result ≡ Err NoMemory → LaneLoads limits w d name pick new now result
  wanting result says = subst (LaneLoads limits w d name pick new now) (sym says) tt

  pub loads_so : (answer : Result AContainer LoadFault) (result : Result Loaded Stop) → LoadDoes pick linked after answer
      → IfOk answer (λ c. Tells linked.told (λ document. (first : AContainer) → begun_in pick document ≡ Ok first → IsBehind linked.client first document c × (c.number ≡ length document.order)))
      → IsHeldBy name client answer result → LaneLoads limits w d name pick new now result
  loads_so (Ok c) result does begins says = subst (LaneLoads limits w d name pick new now) (sym says) (held_so c does begins)
  loads_so (Err loads.NoSummary) result does begins says =
      subst (LaneLoads limits w d name pick new now) (sym says)
      (becomes_so no_summary made.NoSummary (loads_as (Err loads.NoSummary) (in_doc (λ document. begun_in pick document ≡ Err loads.NoSummary) does)) tt)
  loads_so (Err (loads.BadSummary path)) result does begins says =
      subst (LaneLoads limits w d name pick new now) (sym says)
      (becomes_so (bad_summary path) (made.BadSummary path) (loads_as (Err (loads.BadSummary path)) (in_doc (λ document. begun_in pick document ≡ Err (loads.BadSummary path)) does)) refl)
  loads_so (Err (loads.LinkFailed note)) result does begins says = wanting result says
  loads_so (Err (loads.Edit fault)) result does begins says = wanting result says
  loads_so (Err (loads.Refused nack)) result does begins says = wanting result says
  loads_so (Err loads.NoMemory) result does begins says = wanting result says
  loads_so (Err (loads.Clash id kept bytes)) result does begins says = wanting result says

-- ---- behind a link

-- lane and store as the link has them are those that are left
pub loads_left : (good : Bool) → good ≡ true → (limits : Limits) (w : World) (d : Document) (client : List ℕ) (joined : HasJoined limits w d client) (old : Standing) (of : IsLaneOf limits old (joined_to limits w d)) (store : Storing) (holds : store.content ≡ Some w.store)
    (new : Standing) (now : Storing) (along : IsAlong true old store (record { lane = new; store = now; stop = None })) (name : List ℕ) (pick : Pick) (law : LoadsAsDefined)
    (linked after : Linked) (own : linked.client ≡ client) (told : linked.told ≡ told_by true old store) (one : Standing) (kept : Storing) → after.told ≡ told_by good one kept → one ≡ new → kept ≡ now → LoadsOnly linked after
    → (answer : Result AContainer LoadFault) (result : Result Loaded Stop) → LoadDoes pick linked after answer
    → IfOk answer (λ c. Tells linked.told (λ document. (first : AContainer) → begun_in pick document ≡ Ok first → IsBehind linked.client first document c × (c.number ≡ length document.order)))
    → IsHeldBy name client answer result → LaneLoads limits w d name pick new now result
loads_left good is_good limits w d client joined old of store holds new now along name pick law linked after own told one kept shows lanes stores reads answer result does begins says =
    loads_so limits w d client joined old of store holds new now along name pick law linked after own told (shows ∙ told_good good is_good one new kept now lanes stores) reads answer result does begins says

-- nobody joined
pub turned_so : (limits : Limits) (w : World) (d : Document) (name : List ℕ) (pick : Pick) (new : Standing) (now : Storing) (refusal : ConnectRefusal) → IsLaneOf limits new (joined_to limits w d) → now.content ≡ Some w.store
    → join_refusal (joining limits w (ledger_of d)) ≡ Some refusal → LaneLoads limits w d name pick new now (Ok (made.TurnedAway refusal))
turned_so limits w d name pick new now refusal stands holds is = record {
  stands = stands;
  held = holds;
  becomes = subst (λ x. Becomes (ledger_of (joined_to limits w d)) w.store x (made.TurnedAway refusal)) (sym (ap (loading_by w d name pick) is)) refl;
}

-- ---- a container that was just loaded

pub fresh_by : (name client : List ℕ) (answer : Result AContainer LoadFault) (result : Result Loaded Stop) → IfOk answer (λ c. c.last ≡ 0) → IsHeldBy name client answer result → IfOk result IsFresh
fresh_by name client (Ok c) result fresh says = subst (λ r. IfOk r IsFresh) (sym says) fresh
fresh_by name client (Err loads.NoSummary) result fresh says = subst (λ r. IfOk r IsFresh) (sym says) tt
fresh_by name client (Err (loads.BadSummary path)) result fresh says = subst (λ r. IfOk r IsFresh) (sym says) tt
fresh_by name client (Err (loads.LinkFailed note)) result fresh says = subst (λ r. IfOk r IsFresh) (sym says) tt
fresh_by name client (Err (loads.Edit fault)) result fresh says = subst (λ r. IfOk r IsFresh) (sym says) tt
fresh_by name client (Err (loads.Refused nack)) result fresh says = subst (λ r. IfOk r IsFresh) (sym says) tt
fresh_by name client (Err loads.NoMemory) result fresh says = subst (λ r. IfOk r IsFresh) (sym says) tt
fresh_by name client (Err (loads.Clash id kept bytes)) result fresh says = subst (λ r. IfOk r IsFresh) (sym says) tt

-- want of memory alone where nothing failed
pub held_wants : (name client : List ℕ) (answer : Result AContainer LoadFault) (result : Result Loaded Stop) → IsHeldBy name client answer result → IfErr result (λ stop. stop ≡ NoMemory)
held_wants name client (Ok c) result says = subst (λ r. IfErr r (λ stop. stop ≡ NoMemory)) (sym says) tt
held_wants name client (Err loads.NoSummary) result says = subst (λ r. IfErr r (λ stop. stop ≡ NoMemory)) (sym says) tt
held_wants name client (Err (loads.BadSummary path)) result says = subst (λ r. IfErr r (λ stop. stop ≡ NoMemory)) (sym says) tt
held_wants name client (Err (loads.LinkFailed note)) result says = subst (λ r. IfErr r (λ stop. stop ≡ NoMemory)) (sym says) refl
held_wants name client (Err (loads.Edit fault)) result says = subst (λ r. IfErr r (λ stop. stop ≡ NoMemory)) (sym says) refl
held_wants name client (Err (loads.Refused nack)) result says = subst (λ r. IfErr r (λ stop. stop ≡ NoMemory)) (sym says) refl
held_wants name client (Err loads.NoMemory) result says = subst (λ r. IfErr r (λ stop. stop ≡ NoMemory)) (sym says) refl
held_wants name client (Err (loads.Clash id kept bytes)) result says = subst (λ r. IfErr r (λ stop. stop ≡ NoMemory)) (sym says) refl

-- ---- what is written of it

module _ (l : Ledger) (held : Held) (p name : List ℕ) where
  pub held_line : (h : Holder) (load : Loading) → Becomes l held load (made.Held h) → lines.loaded_line p name h.container.number ≡ steps.load_line p name load
  held_line h (loaded k) is = ap (lines.loaded_line p name) is.container.number
  held_line h (turned_away r) is = absurd is
  held_line h no_summary is = absurd is
  held_line h (bad_summary path) is = absurd is

  pub turned_line : (r : ConnectRefusal) (load : Loading) → Becomes l held load (made.TurnedAway r) → lines.turned_away_line p r ≡ steps.load_line p name load
  turned_line r (turned_away s) is = ap (lines.turned_away_line p) is
  turned_line r (loaded k) is = absurd is
  turned_line r no_summary is = absurd is
  turned_line r (bad_summary path) is = absurd is

  pub none_line : (load : Loading) → Becomes l held load made.NoSummary → lines.no_summary_line p ≡ steps.load_line p name load
  none_line no_summary is = refl
  none_line (turned_away s) is = absurd is
  none_line (loaded k) is = absurd is
  none_line (bad_summary path) is = absurd is

  pub bad_line : (told : List ℕ) (load : Loading) → Becomes l held load (made.BadSummary told) → lines.bad_summary_line p told ≡ steps.load_line p name load
  bad_line told (bad_summary path) is = ap (lines.bad_summary_line p) is
  bad_line told (turned_away s) is = absurd is
  bad_line told (loaded k) is = absurd is
  bad_line told no_summary is = absurd is

  -- and at the end
  pub held_end : (h : Holder) (load : Loading) → Becomes l held load (made.Held h) → lines.shown_line name h.container.number (shown (shown_channels h.container)) ≡ end_line l name load
  held_end h (loaded k) is =
      ap (λ n. lines.shown_line name n (shown (shown_channels h.container))) is.container.number
      ∙ ap (λ c. lines.shown_line name k.number (shown (replay_edits c h.container.pending))) is.container.channels_are
      ∙ ap (λ pending. lines.shown_line name k.number (shown (replay_edits (steps.channels l k) pending))) is.container.pending
  held_end h (turned_away r) is = absurd is
  held_end h no_summary is = absurd is
  held_end h (bad_summary path) is = absurd is

  pub turned_end : (r : ConnectRefusal) (load : Loading) → Becomes l held load (made.TurnedAway r) → lines.turned_away_line name r ≡ end_line l name load
  turned_end r (turned_away s) is = ap (lines.turned_away_line name) is
  turned_end r (loaded k) is = absurd is
  turned_end r no_summary is = absurd is
  turned_end r (bad_summary path) is = absurd is

  pub none_end : (load : Loading) → Becomes l held load made.NoSummary → lines.no_summary_line name ≡ end_line l name load
  none_end no_summary is = refl
  none_end (turned_away s) is = absurd is
  none_end (loaded k) is = absurd is
  none_end (bad_summary path) is = absurd is

  pub bad_end : (told : List ℕ) (load : Loading) → Becomes l held load (made.BadSummary told) → lines.bad_summary_line name told ≡ end_line l name load
  bad_end told (bad_summary path) is = ap (lines.bad_summary_line name) is
  bad_end told (turned_away s) is = absurd is
  bad_end told (loaded k) is = absurd is
  bad_end told no_summary is = absurd is

-- a join that failed
pub joins_more : (limits : Limits) (w : World) (d : Document) (s : Standing) (stop : Stop) → IsHonest (steps_on d s) stop → IsHonest (steps_on (joined_to limits w d) s) stop
joins_more limits w d s stop h = honest_more (steps_on d s) (steps_on (joined_to limits w d) s) stop (omega (arith, length-append d.raws (joined_for limits w d))) h

-- on the lane
pub ends_in : (limits : Limits) (w : World) (d : Document) (name : List ℕ) (pick : Pick) (new : Standing) (now : Storing) (result : Loaded) (line : Result (List ℕ) Stop) → LaneLoaded limits w d name pick new now result
    → ((l : Ledger) (held : Held) (load : Loading) → Becomes l held load result → IsLine (end_line l name load) line) → LaneEndsIn limits w d name pick new now line
ends_in limits w d name pick new now result (Ok line) is says = record { stands = is.stands; held = is.held; says = says (ledger_of (joined_to limits w d)) w.store (loading limits w d name pick) is.becomes }
ends_in limits w d name pick new now result (Err stop) is says = subst (IsHonest (steps_on (joined_to limits w d) new)) (sym (says (ledger_of (joined_to limits w d)) w.store (loading limits w d name pick) is.becomes)) tt

-- ---- the last acknowledged summary

some_last : (ack : SummaryRef) (acks : List SummaryRef) → is_some (last_or (Some ack) acks) ≡ true
some_last ack [] = refl
some_last ack (next ∷ acks) = some_last next acks

abbrev pick_of : List SummaryRef → Pick
pick_of acks = if is_some (last_or None acks) then Latest else Empty

differ : ◌≡◌ {A = Bool} true false → ⊥
differ same = cc

none_is : (acks : List SummaryRef) → (length acks == 0) ≡ true → Empty ≡ pick_of acks
none_is [] none = refl
none_is (ack ∷ acks) none = let some : (suc (length acks) == 0) ≡ false = ne_eqb (suc (length acks)) 0 (λ e. omega (arith, e)) in absurd (differ (sym none ∙ some))

some_is : (acks : List SummaryRef) → (length acks == 0) ≡ false → Latest ≡ pick_of acks
some_is [] some = absurd (differ some)
some_is (ack ∷ acks) some = sym (ap (λ (b : Bool). if b then Latest else Empty) (some_last ack acks))

module _ (limits : Limits) (s : Standing) (d : Document) (of : IsLaneOf limits s d) (acks : List SummaryRef) (empty : Bool) (is : acks ≡ s.entries.state.scribe.acks) (same : empty ≡ (length acks == 0)) where
  picks : pick_of acks ≡ last_pick d
  picks = ap pick_of (is ∙ (says limits s d of).acks)

  pub picks_none : empty ≡ true → Empty ≡ last_pick d
  picks_none none = none_is acks (sym same ∙ none) ∙ picks

  pub picks_last : empty ≡ false → Latest ≡ last_pick d
  picks_last some = some_is acks (sym same ∙ some) ∙ picks

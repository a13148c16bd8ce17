-- A summarize, on the lane of its document, where neither lane nor store failed.
use Rattle.std.proofs.Common.{◌≡◌, inl, inr, ℕ, Bool, true, List, [], ◌∷◌, Option, Some, None, Result, Ok, Err, refl, sym, ap, subst, ◌∙◌, append-nil}
use Rattle.fluid_json.specs.Tree.{Tree}
use Rattle.fluid_types.specs.Ledger.{Ledger}
use Rattle.fluid_types.specs.declared.entries.Offered.TheVariants.{Summarize}
use Rattle.fluid_types.specs.declared.entries.Raw.{Raw}
use Rattle.fluid_types.specs.declared.entries.Submission.{Submission}
use Rattle.fluid_types.specs.declared.nacks.Nack.{Nack}
use Rattle.fluid_types.specs.declared.nacks.NackRule.{NackRule}
use Rattle.fluid_rules.specs.Rules.{ledger as ledger_by_rules}
use Rattle.fluid_rules.specs.declared.limits.Limits.{Limits}
use Rattle.fluid_runtime.specs.AppTree.{app_tree, tree_since}
use Rattle.fluid_store.specs.Listed.{objects}
use Rattle.fluid_store.specs.Parts.{objects_over}
use Rattle.fluid_store.specs.Putting.{Putting, Clashing, putting}
use Rattle.fluid_store.specs.Storing.{Storing}
use Rattle.fluid_store.specs.declared.listing.StoredObject.{StoredObject}
use Rattle.fluid_store.specs.declared.fault.StoreFault.{StoreFault}
use Rattle.fluid_tree.specs.Summary.{Summary}
use Rattle.fluid_lane.specs.Standing.{Standing}
use Rattle.fluid_loader.specs.Link as link
use Rattle.fluid_loader.specs.Link.{Linked, BothTell, PutsTree, IsTreeRefused}
use Rattle.fluid_loader.specs.declared.link.Given.{Given}
use Rattle.fluid_loader.specs.declared.link.Given.TheVariants.{Taken, Nacked}
use Rattle.fluid_loader.specs.declared.link.LinkFault.{LinkFault}
use Rattle.fluid_loader.specs.declared.link.LinkFault.TheVariants as faults
use Rattle.fluid_loader.specs.declared.fault.LoadFault.{LoadFault}
use Rattle.fluid_loader.specs.declared.fault.LoadFault.TheVariants as loads
use Rattle.fluid_loader.specs.Calls as calls
use Rattle.fluid_loader.specs.Calls.{counted, since, summarize_of, or_failed, or_refused, failure, SummarizeDoes, Summarized, NotPut, PutAlone, Proposes, IsProposed, UploadsOver, UploadsTree}
use Rattle.fluid_loader.specs.Container.{AContainer}
use Rattle.fluid_loader.specs.Laws.{IsBased, StaysBehind}
use Rattle.fluid_loader.specs.Submitting.{summarize_tree}
use Rattle.fluid_transcript.specs.World.{World, Document, Container, ledger_of}
use Rattle.fluid_transcript.specs.Lines as lines
use Rattle.fluid_transcript.specs.Containers as steps
use Rattle.fluid_transcript.specs.Containers.{app_id, channels, head, submitted, submitting, summarized_by, proposed}
use Rattle.fluid_holding.specs.Holding.{IsContainerOf, HoldsOwn}
use Rattle.fluid_holding.specs.Laws.{Stands, SubmitsAsDefined, BasedTreesAreTaken, IsTaken, BasedTreesAreWhole}
use Rattle.fluid_desk.specs.declared.stop.Stop.{Stop}
use Rattle.fluid_desk.specs.declared.stop.Stop.TheVariants.{NoMemory}
use Rattle.fluid_desk.specs.Stands.{IsLaneOf}
use Rattle.fluid_door_link.specs.Coursing.{IsAlong}
use Rattle.fluid_door_link.specs.Telling.{told_by}
use Rattle.fluid_containers.specs.declared.holder.Holder.{Holder}
use Rattle.fluid_containers.specs.Holders.{IsHolderIn}
use Rattle.fluid_containers.specs.Saying.{SaysProposed}
use Rattle.fluid_containers.specs.Stepping.{LaneStepped, LaneSteps}
use Rattle.fluid_containers.proofs.Lanes.{told_as, with_raws, tells, both_told, left as left_lane}
use Rattle.fluid_containers.proofs.Submitted.{Sent, sent_taken, sent_nacked}
use Rattle.fluid_containers.proofs.Stored.{told_good}
use Rattle.fluid_containers.proofs.Stepped.{based_behind, wanting_honest, within_order}

-- ---- answers

ok_err : {A : Type 0} (a : A) (fault : LoadFault) → ◌≡◌ {A = Result A LoadFault} (Ok a) (Err fault) → ⊥
ok_err a fault same = cc

same_ok : (a b : List ℕ) → ◌≡◌ {A = Result (List ℕ) LoadFault} (Ok a) (Ok b) → a ≡ b
same_ok a b same = cc

-- a tree was put
put_ok : (before after : ℕ) (id : List ℕ) (g : Result (List ℕ) LinkFault) → Ok id ≡ or_failed before after g → g ≡ Ok id
put_ok before after id (Ok own) is = ap Ok (sym (same_ok id own is))
put_ok before after id (Err fault) is = absurd (ok_err id (failure before after fault) is)

same_clash : (id kept bytes one two three : List ℕ) → ◌≡◌ {A = Result (List ℕ) LoadFault} (Err (loads.Clash id kept bytes)) (Err (loads.Clash one two three)) → (one ≡ id) × ((two ≡ kept) × (three ≡ bytes))
same_clash id kept bytes one two three same = (cc, (cc, cc))

clash_ok : (id kept bytes own : List ℕ) → ◌≡◌ {A = Result (List ℕ) LoadFault} (Err (loads.Clash id kept bytes)) (Ok own) → ⊥
clash_ok id kept bytes own same = cc

clash_failed : (before after : ℕ) (id kept bytes : List ℕ) → ◌≡◌ {A = Result (List ℕ) LoadFault} (Err (loads.Clash id kept bytes)) (Err (failure before after faults.Failed)) → ⊥
clash_failed before after id kept bytes same = cc

clash_memory : (id kept bytes : List ℕ) → ◌≡◌ {A = Result (List ℕ) LoadFault} (Err (loads.Clash id kept bytes)) (Err loads.NoMemory) → ⊥
clash_memory id kept bytes same = cc

-- other bytes are held under an id
put_clash : (before after : ℕ) (id kept bytes : List ℕ) (g : Result (List ℕ) LinkFault) → Err (loads.Clash id kept bytes) ≡ or_failed before after g → g ≡ Err (faults.Clash id kept bytes)
put_clash before after id kept bytes (Ok own) is = absurd (clash_ok id kept bytes own is)
put_clash before after id kept bytes (Err faults.Failed) is = absurd (clash_failed before after id kept bytes is)
put_clash before after id kept bytes (Err faults.NoMemory) is = absurd (clash_memory id kept bytes is)
put_clash before after id kept bytes (Err (faults.Clash one two three)) is =
    let same = same_clash id kept bytes one two three is in
    ap (λ i. Err (faults.Clash i two three)) same.0 ∙ ap (λ j. Err (faults.Clash id j three)) same.1.0 ∙ ap (λ b. Err (faults.Clash id kept b)) same.1.1

refused_ok : (nack : Nack) (own : List ℕ) → ◌≡◌ {A = Result (List ℕ) LoadFault} (Err (loads.Refused nack)) (Ok own) → ⊥
refused_ok nack own same = cc

refused_failure : (before after : ℕ) (nack : Nack) (f : LinkFault) → ◌≡◌ {A = Result (List ℕ) LoadFault} (Err (loads.Refused nack)) (Err (failure before after f)) → ⊥
refused_failure before after nack faults.Failed is = cc
refused_failure before after nack (faults.Clash id kept bytes) is = cc
refused_failure before after nack faults.NoMemory is = cc

-- no upload is refused by a rule
never_refused : (before after : ℕ) (nack : Nack) (g : Result (List ℕ) LinkFault) → Err (loads.Refused nack) ≡ or_failed before after g → ⊥
never_refused before after nack (Ok own) is = refused_ok nack own is
never_refused before after nack (Err f) is = refused_failure before after nack f is

clash_done : (id kept bytes : List ℕ) → ◌≡◌ {A = Result (Unit {0}) LoadFault} (Err (loads.Clash id kept bytes)) (Ok tt) → ⊥
clash_done id kept bytes same = cc

clash_refused : (id kept bytes : List ℕ) (nack : Nack) → ◌≡◌ {A = Result (Unit {0}) LoadFault} (Err (loads.Clash id kept bytes)) (Err (loads.Refused nack)) → ⊥
clash_refused id kept bytes nack same = cc

clash_fails : (before after : ℕ) (id kept bytes : List ℕ) → ◌≡◌ {A = Result (Unit {0}) LoadFault} (Err (loads.Clash id kept bytes)) (Err (failure before after faults.Failed)) → ⊥
clash_fails before after id kept bytes same = cc

clash_wants : (id kept bytes : List ℕ) → ◌≡◌ {A = Result (Unit {0}) LoadFault} (Err (loads.Clash id kept bytes)) (Err loads.NoMemory) → ⊥
clash_wants id kept bytes same = cc

-- and no submission clashes
never_clashes : (submission : Submission) (linked after : Linked) (id kept bytes : List ℕ) (g : Result Given LinkFault)
    → Err (loads.Clash id kept bytes) ≡ or_refused linked.faults after.faults g → link.SubmitSays submission linked after g → ⊥
never_clashes submission linked after id kept bytes (Ok Taken) is says = clash_done id kept bytes is
never_clashes submission linked after id kept bytes (Ok (Nacked nack)) is says = clash_refused id kept bytes nack is
never_clashes submission linked after id kept bytes (Err faults.Failed) is says = clash_fails linked.faults after.faults id kept bytes is
never_clashes submission linked after id kept bytes (Err faults.NoMemory) is says = clash_wants id kept bytes is
never_clashes submission linked after id kept bytes (Err (faults.Clash one two three)) is says = says

-- ---- trees that are refused: none

taken_ok : (o : Result (List ℕ × List StoredObject) StoreFault) (fault : StoreFault) → o ≡ Err fault → IsTaken o → ⊥
taken_ok o fault is taken = subst IsTaken is taken

module _ (law : BasedTreesAreTaken) (c : AContainer) (linked after : Linked) (doc : link.Document) (told : linked.told ≡ Some doc) (based : IsBased doc.held c) where
  never_a_tree : BothTell (IsTreeRefused (tree_since c.changed c.channels) c.base) linked.told after.told → ⊥
  never_a_tree both =
      let found = both_told (IsTreeRefused (tree_since c.changed c.channels) c.base) doc linked.told after.told told both in
      taken_ok (objects_over doc.held c.base (tree_since c.changed c.channels)) found.1.1.fault found.1.1.refused (law doc.held c based)

  upload_trees : (g : Result (List ℕ) LinkFault) → link.CountsTrees (tree_since c.changed c.channels) c.base linked after g → after.bad_trees ≡ linked.bad_trees
  upload_trees (Ok id) counts = counts
  upload_trees (Err faults.Failed) (inl same) = same
  upload_trees (Err faults.Failed) (inr refused) = absurd (never_a_tree refused)
  upload_trees (Err (faults.Clash id kept bytes)) counts = counts
  upload_trees (Err faults.NoMemory) counts = counts

proposes_trees : (old new : AContainer) (submission : Submission) (between after : Linked) (answer : Result (Unit {0}) LoadFault) → Proposes old new submission between after answer
    → after.bad_trees ≡ between.bad_trees
proposes_trees old new s between after (Ok done) does = does.submits.submitted.trees
proposes_trees old new s between after (Err loads.NoMemory) (inl undone) = ap (λ (x : Linked). x.bad_trees) undone.link
proposes_trees old new s between after (Err loads.NoMemory) (inr made) = made.submits.submitted.trees
proposes_trees old new s between after (Err (loads.Edit fault)) does = does.submits.submitted.trees
proposes_trees old new s between after (Err (loads.Refused nack)) does = does.submits.submitted.trees
proposes_trees old new s between after (Err (loads.LinkFailed note)) does = does.submits.submitted.trees
proposes_trees old new s between after (Err loads.NoSummary) does = does.submits.submitted.trees
proposes_trees old new s between after (Err (loads.BadSummary path)) does = does.submits.submitted.trees
proposes_trees old new s between after (Err (loads.Clash id kept bytes)) does = does.submits.submitted.trees

pub summarize_trees : BasedTreesAreTaken → (old new : AContainer) (linked after : Linked) (doc : link.Document) (answer : Result (List ℕ) LoadFault) → linked.told ≡ Some doc → IsBased doc.held old → SummarizeDoes old new linked after answer
    → after.bad_trees ≡ linked.bad_trees
summarize_trees law old new linked after doc (Ok id) told based does =
    does.submitted.submitted.trees ∙ upload_trees law old linked does.between doc told based does.uploaded.put does.uploaded.uploads.trees
summarize_trees law old new linked after doc (Err fault) told based (inl undone) = ap (λ (x : Linked). x.bad_trees) undone.1.link
summarize_trees law old new linked after doc (Err fault) told based (inr (inl unput)) = upload_trees law old linked after doc told based unput.failed.put unput.failed.uploads.trees
summarize_trees law old new linked after doc (Err fault) told based (inr (inr alone)) =
    proposes_trees (since old alone.id) new (summarize_of old alone.id) alone.between after (Err fault) alone.ends
    ∙ upload_trees law old linked alone.between doc told based alone.uploaded.put alone.uploaded.uploads.trees

-- ---- the step

module _ (limits : Limits) (w : World) (old : Standing) (d : Document) (of : IsLaneOf limits old d) (store : Storing) (holds : store.content ≡ Some w.store) (new : Standing) (now : Storing)
    (along : IsAlong true old store (record { lane = new; store = now; stop = None })) (k : Container) (h : Holder) (is : IsHolderIn (ledger_of d) w.store h k) (stands : Stands (ledger_of d) k) (p : List ℕ) (owned : HoldsOwn w.store)
    (law : SubmitsAsDefined) (whole : BasedTreesAreWhole) (linked after : Linked) (client : linked.client ≡ h.client) (moment : linked.moment ≡ w.moment) (told : linked.told ≡ told_by true old store)
    (told_now : after.told ≡ told_by true new now) (left : AContainer) (stays : StaysBehind h.container left linked after) where
  abbrev l : Ledger
  l = ledger_of d

  abbrev c : AContainer
  c = h.container

  abbrev doc : link.Document
  doc = told_as limits d w.store

  abbrev node : Summary
  node = tree_since c.changed c.channels

  -- what the world puts
  abbrev put : Putting
  put = putting w.store (objects (app_tree (channels l k)))

  told_doc : linked.told ≡ Some doc
  told_doc = told ∙ tells limits old d store w.store of holds

  -- what a link put is what the world puts, under its id
  record IsWhole (own : List ℕ) (some : List StoredObject) : Type 0 where
    id_is : own ≡ app_id (channels l k)
    held_is : (putting w.store some).held ≡ put.held
    clash_is : (putting w.store some).clash ≡ put.clash

  whole_of : (own : List ℕ) (some : List StoredObject) → objects_over w.store c.base node ≡ Ok (own, some) → IsWhole own some
  whole_of own some over =
      let is_so = whole w.store c own some owned is.based over in
      record {
        id_is = is_so.own_id ∙ ap app_id is.container.channels_are;
        held_is = sym is_so.same.held ∙ ap (λ x. (putting w.store (objects (app_tree x))).held) is.container.channels_are;
        clash_is = sym is_so.same.clash ∙ ap (λ x. (putting w.store (objects (app_tree x))).clash) is.container.channels_are;
      }

  -- a tree that was put: its id and what is told then
  record WasPut (id : List ℕ) (between : Linked) : Type 0 where
    id_is : id ≡ app_id (channels l k)
    no_clash : put.clash ≡ None
    told_is : between.told ≡ Some (told_as limits d put.held)

  was_put : (id : List ℕ) (between : Linked) → UploadsTree c linked between (Ok id) → WasPut id between
  was_put id between uploads =
      let says : link.UploadSays node c.base linked between (Ok id) =
      subst (link.UploadSays node c.base linked between) (put_ok linked.faults between.faults id uploads.put uploads.answer) uploads.uploads.says in
      let found = both_told (PutsTree node c.base (Ok id)) doc linked.told between.told told_doc says.1.0 in
      let puts = found.1.1 in
      let is_so = whole_of puts.own puts.objects puts.of_tree in
      record {
        id_is = puts.answer.0 ∙ is_so.id_is;
        no_clash = sym is_so.clash_is ∙ puts.answer.1;
        told_is = found.1.0 ∙ ap Some puts.held ∙ ap (λ held. Some (told_as limits d held)) is_so.held_is;
      }

  -- the contents of the summarize are the world's
  contents_is : (id : List ℕ) → id ≡ app_id (channels l k) → summarize_tree id c.head c.number ≡ summarize_tree (app_id (channels l k)) (head l k) k.number
  contents_is id same =
      ap (λ i. summarize_tree i c.head c.number) same ∙ ap (λ o. summarize_tree (app_id (channels l k)) o c.number) is.container.head_is
      ∙ ap (summarize_tree (app_id (channels l k)) (head l k)) is.container.number

  abbrev own_contents : List ℕ → Tree
  own_contents id = summarize_tree id c.head c.number

  IsSent : List ℕ → Option NackRule → AContainer → Type 0
  IsSent id refused c0 = Sent limits w d new now put.held k h.client Summarize (own_contents id) refused c0

  -- the world's proposal
  proposed_is : (id : List ℕ) (entries : List Raw) (refused : Option NackRule) → id ≡ app_id (channels l k)
      → submitting limits w l k Summarize (own_contents id) ≡ record { entries = entries; refused = refused } → proposed limits w l k ≡ record { entries = entries; refused = refused }
  proposed_is id entries refused same sent = ap (λ t. submitting limits w l k Summarize t) (sym (contents_is id same)) ∙ sent

  based_now : (e : link.Document) → after.told ≡ Some e → e.held ≡ put.held → IsBased put.held left
  based_now e there same = subst (λ held. IsBased held left) same (based_behind c left linked after doc e told_doc there (within_order l k c is.container stands) is.based stays)

  abbrev Steps : List ℕ → Type 0
  Steps line = LaneStepped limits (steps.summarized limits w d p k) d k p new now (record h { container = left }) line

  -- by whether the world's objects clash
  by_clash : (clash : Option Clashing) → put.clash ≡ clash → (line : List ℕ) → LaneStepped limits (summarized_by limits w l p k put clash) d k p new now (record h { container = left }) line → Steps line
  by_clash clash same line stepped = subst (λ o. LaneStepped limits (summarized_by limits w l p k put o) d k p new now (record h { container = left }) line) (sym same) stepped

  -- the base isn't a part of what the world knows
  since_is : (m : Ledger) (id : List ℕ) (c0 : AContainer) → IsContainerOf m h.client c0 k → IsContainerOf m h.client (since c0 id) k
  since_is m id c0 is_so = record { client_is = is_so.client_is; number = is_so.number; channels_are = is_so.channels_are; pending = is_so.pending; last_is = is_so.last_is; head_is = is_so.head_is; known = is_so.known }

  -- a submission, whatever became of it
  step_of : (refused : Option NackRule) (entries : List Raw) (line : List ℕ) → put.clash ≡ None → proposed limits w l k ≡ record { entries = entries; refused = refused }
      → IsLaneOf limits new (with_raws d entries) → now.content ≡ Some put.held → IsContainerOf (ledger_of (with_raws d entries)) h.client left k → IsBased put.held left
      → line ≡ steps.line_for p (lines.summarized_line p k.number) refused → Steps line
  step_of None entries line clash same lane held_now is_so based says =
      by_clash None clash line
      (subst (λ s. LaneStepped limits (record (submitted w p k k (lines.summarized_line p k.number) s) { store = put.held }) d k p new now (record h { container = left }) line) (sym same) (record {
        stands = lane;
        held = held_now;
        now = k;
        name = inl refl;
        same = refl;
        holder = record { document = is.document; container = is_so; based = based };
        says = ap (λ t. t ∷ []) (sym says);
      }))
  step_of (Some rule) entries line clash same lane held_now is_so based says =
      by_clash None clash line
      (subst (λ s. LaneStepped limits (record (submitted w p k k (lines.summarized_line p k.number) s) { store = put.held }) d k p new now (record h { container = left }) line) (sym same) (record {
        stands = lane;
        held = held_now;
        now = k;
        name = inl refl;
        same = refl;
        holder = record { document = is.document; container = is_so; based = based };
        says = ap (λ t. t ∷ []) (sym says);
      }))

  module _ (id : List ℕ) (between : Linked) (uploaded : UploadsTree c linked between (Ok id)) where
    abbrev was : WasPut id between
    was = was_put id between uploaded

    client_then : between.client ≡ h.client
    client_then = uploaded.uploads.changes.client ∙ client

    moment_then : between.moment ≡ w.moment
    moment_then = uploaded.uploads.changes.moment ∙ moment

    taken_step : calls.Submits (summarize_of c id) between after (Ok tt) → left ≡ counted (since c id) → (line : List ℕ) → line ≡ lines.summarized_line p left.number → Steps line
    taken_step submits leaves line says =
        let sent = sent_taken limits w old d of store new now along put.held k c h.client is.container stands law Summarize (own_contents id) between after client_then moment_then was.told_is told_now submits in
        let m : Ledger = ledger_of (with_raws d sent.entries) in
        let is_so : IsContainerOf m h.client left k = subst (λ x. IsContainerOf m h.client x k) (sym leaves) (since_is m id (counted c) sent.container) in
        step_of None sent.entries line was.no_clash (proposed_is id sent.entries None was.id_is sent.is) sent.stands sent.held_now is_so (based_now sent.document (told_now ∙ sent.tells) sent.same_held)
        (says ∙ ap (lines.summarized_line p) is_so.number)

    refused_step : (nack : Nack) → calls.Submits (summarize_of c id) between after (Err (loads.Refused nack)) → left ≡ since c id → (line : List ℕ) → line ≡ lines.refused_line p nack.rule → Steps line
    refused_step nack submits leaves line says =
        let sent = sent_nacked limits w old d of store new now along put.held k c h.client is.container stands law Summarize (own_contents id) between after client_then moment_then was.told_is told_now nack submits in
        let m : Ledger = ledger_of (with_raws d sent.entries) in
        let is_so : IsContainerOf m h.client left k = subst (λ x. IsContainerOf m h.client x k) (sym leaves) (since_is m id c sent.container) in
        step_of (Some nack.rule) sent.entries line was.no_clash (proposed_is id sent.entries (Some nack.rule) was.id_is sent.is) sent.stands sent.held_now is_so (based_now sent.document (told_now ∙ sent.tells) sent.same_held) says

  -- other bytes are held under the id of one of the objects
  clash_step : (one kept bytes : List ℕ) → UploadsTree c linked after (Err (loads.Clash one kept bytes)) → left ≡ c → (line : List ℕ) → line ≡ lines.clash_line p one → Steps line
  clash_step one kept bytes uploads leaves line says =
      let told_says : link.UploadSays node c.base linked after (Err (faults.Clash one kept bytes)) =
      subst (link.UploadSays node c.base linked after) (put_clash linked.faults after.faults one kept bytes uploads.put uploads.answer) uploads.uploads.says in
      let found = both_told (PutsTree node c.base (Err (faults.Clash one kept bytes))) doc linked.told after.told told_doc told_says.1 in
      let puts = found.1.1 in
      let is_so = whole_of puts.own puts.objects puts.of_tree in
      let told_then : after.told ≡ Some (told_as limits d put.held) = found.1.0 ∙ ap Some puts.held ∙ ap (λ held. Some (told_as limits d held)) is_so.held_is in
      let lane = left_lane limits old d of store new now along (told_as limits d put.held) [] (sym told_now ∙ told_then) (ap (λ raws. Some (ledger_by_rules raws)) (sym (append-nil d.raws))) in
      let same : IsContainerOf l h.client left k = subst (λ x. IsContainerOf l h.client x k) (sym leaves) is.container in
      by_clash (Some (record { id = one; kept = kept; bytes = bytes })) (sym is_so.clash_is ∙ puts.answer) line (record {
        stands = lane.1;
        held = lane.0;
        now = k;
        name = inr (refl, refl);
        same = refl;
        holder = record {
          document = is.document;
          container = subst (λ raws. IsContainerOf (ledger_by_rules raws) h.client left k) (sym (append-nil d.raws)) same;
          based = based_now (told_as limits d put.held) told_then refl;
        };
        says = ap (λ t. t ∷ []) (sym says);
      })

  abbrev All : Result (List ℕ) Stop → Type 0
  All result = LaneSteps limits (steps.summarized limits w d p k) d k p new now (record h { container = left }) result

  wants : (result : Result (List ℕ) Stop) → result ≡ Err NoMemory → All result
  wants result says = subst All (sym says) tt

  fault_memory : (fault : LoadFault) → fault ≡ loads.NoMemory → (result : Result (List ℕ) Stop) → SaysProposed p left.number (Err fault) result → All result
  fault_memory fault is_memory result says = wants result (subst (λ f. SaysProposed p left.number (Err f) result) is_memory says)

  pub summarizes : (answer : Result (List ℕ) LoadFault) (result : Result (List ℕ) Stop) → SummarizeDoes c left linked after answer → SaysProposed p left.number answer result → All result
  summarizes (Ok id) (Ok line) does says = taken_step id does.between does.uploaded does.submitted does.leaves line says
  summarizes (Ok id) (Err stop) does says = wanting_honest _ stop says
  summarizes (Err (loads.Refused nack)) (Ok line) (inr (inr alone)) says = refused_step alone.id alone.between alone.uploaded nack alone.ends.submits alone.ends.leaves line says
  summarizes (Err (loads.Refused nack)) (Ok line) (inr (inl unput)) says = absurd (never_refused linked.faults after.faults nack unput.failed.put unput.failed.answer)
  summarizes (Err (loads.Refused nack)) (Ok line) (inl undone) says = fault_memory (loads.Refused nack) undone.0 (Ok line) says
  summarizes (Err (loads.Refused nack)) (Err stop) does says = wanting_honest _ stop says
  summarizes (Err (loads.Clash one kept bytes)) (Ok line) (inr (inl unput)) says = clash_step one kept bytes unput.failed unput.leaves line says
  summarizes (Err (loads.Clash one kept bytes)) (Ok line) (inr (inr alone)) says =
      absurd (never_clashes (summarize_of c alone.id) alone.between after one kept bytes alone.ends.submits.given alone.ends.submits.answer alone.ends.submits.submitted.says)
  summarizes (Err (loads.Clash one kept bytes)) (Ok line) (inl undone) says = fault_memory (loads.Clash one kept bytes) undone.0 (Ok line) says
  summarizes (Err (loads.Clash one kept bytes)) (Err stop) does says = wanting_honest _ stop says
  summarizes (Err (loads.LinkFailed note)) result does says = wants result says
  summarizes (Err loads.NoSummary) result does says = wants result says
  summarizes (Err (loads.BadSummary path)) result does says = wants result says
  summarizes (Err (loads.Edit fault)) result does says = wants result says
  summarizes (Err loads.NoMemory) result does says = wants result says

-- ---- behind a link

-- lane and store as the link has them are those that are left
pub summarizes_left : (good : Bool) → good ≡ true → (limits : Limits) (w : World) (old : Standing) (d : Document) (of : IsLaneOf limits old d) (store : Storing) (holds : store.content ≡ Some w.store) (new : Standing) (now : Storing)
    (along : IsAlong true old store (record { lane = new; store = now; stop = None })) (k : Container) (h : Holder) (is : IsHolderIn (ledger_of d) w.store h k) (stands : Stands (ledger_of d) k) (p : List ℕ) (owned : HoldsOwn w.store)
    (law : SubmitsAsDefined) (whole : BasedTreesAreWhole) (linked after : Linked) (client : linked.client ≡ h.client) (moment : linked.moment ≡ w.moment) (told : linked.told ≡ told_by true old store)
    (one : Standing) (kept : Storing) → after.told ≡ told_by good one kept → one ≡ new → kept ≡ now → (left : AContainer) (stays : StaysBehind h.container left linked after)
    (answer : Result (List ℕ) LoadFault) (result : Result (List ℕ) Stop) → SummarizeDoes h.container left linked after answer → SaysProposed p left.number answer result
    → LaneSteps limits (steps.summarized limits w d p k) d k p new now (record h { container = left }) result
summarizes_left good is_good limits w old d of store holds new now along k h is stands p owned law whole linked after client moment told one kept shows lanes stores left stays answer result does says =
    summarizes limits w old d of store holds new now along k h is stands p owned law whole linked after client moment told (shows ∙ told_good good is_good one new kept now lanes stores) left stays answer result does says

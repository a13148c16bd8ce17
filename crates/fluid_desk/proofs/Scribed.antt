-- What the scribe's step makes of the document for which the lane stands, and of the store.
use Rattle.std.proofs.Common.{◌≡◌, ℕ, ◌+◌, Bool, true, false, if◌then◌else◌, List, [], ◌∷◌, ◌++◌, map, Option, Some, None, option_map, is_some, Result, Ok, Err, refl, sym, ap, subst, ◌∙◌, append_assoc}
use Rattle.std.specs.Prelude.{IfOk, codes, decimal}
use Rattle.std.specs.Option.{option_map_or}
use Rattle.fluid_io.specs.Causes.{Tells}
use Rattle.fluid_types.specs.Texts.{name_of}
use Rattle.fluid_types.specs.Quorum.{Quorum, quorum}
use Rattle.fluid_types.specs.Blobs.{blob_text, blobs_of, blobs}
use Rattle.fluid_types.specs.declared.quorum.QuorumBlob.TheVariants.{Attributes, Members, Proposals, Values}
use Rattle.fluid_types.specs.declared.entries.Raw.TheVariants.{Report}
use Rattle.fluid_json.specs.Tree.{Tree as Json}
use Rattle.fluid_types.specs.declared.messages.Kind.{Kind}
use Rattle.fluid_types.specs.declared.messages.Kind.TheVariants as kinds
use Rattle.fluid_types.specs.declared.messages.Message.{Message}
use Rattle.fluid_types.specs.declared.verdicts.Verdict.{Verdict}
use Rattle.fluid_types.specs.Ledger.{Ledger, order, seq}
use Rattle.fluid_tree.specs.Object.{object_bytes}
use Rattle.fluid_tree.specs.declared.object.Object.TheVariants.{Blob, Tree}
use Rattle.fluid_rules.specs.Rules.{verdict, message, unsettled, sequenced, settled, answer_message}
use Rattle.fluid_rules.specs.Scribe.{answer, reported, ack_contents, refusal_contents, rule_text, reference_of, pending, protocol, blob_entry}
use Rattle.fluid_rules.specs.declared.answers.Answer.{Answer}
use Rattle.fluid_rules.specs.declared.answers.Answer.TheVariants as said
use Rattle.fluid_rules.specs.declared.answers.SummaryRule.{SummaryRule}
use Rattle.fluid_rules.specs.declared.limits.Limits.{Limits}
use Rattle.fluid_scribe.specs.Jobs.{job, job_of}
use Rattle.fluid_scribe.specs.declared.job.Job.{Job}
use Rattle.fluid_store.specs.Held.{Held}
use Rattle.fluid_store.specs.Listed.{own_bytes, own_entries, objects, keyed, object_of}
use Rattle.fluid_store.specs.declared.listing.StoredObject.{StoredObject}
use Rattle.fluid_versions.specs.Versions as versions
use Rattle.fluid_transcript.specs.World.{Document, World, Effect, ledger_of, grown}
use Rattle.fluid_store.specs.Putting.{Putting, Clashing, putting, IsPutting}
use Rattle.fluid_store.specs.Keeping.{with_all, Adds}
use Rattle.fluid_store.specs.Storing.{Storing}
use Rattle.fluid_store.specs.declared.fault.StoreFault.{StoreFault}
use Rattle.fluid_store.specs.declared.fault.StoreFault.TheVariants as store
use Rattle.fluid_versions.specs.Versions.{PutsTold, PutsVersion, version_tree, is_found}
use Rattle.fluid_core.specs.Entering.{verdict_in}
use Rattle.fluid_lane.specs.declared.fault.LaneFault.{LaneFault}
use Rattle.fluid_lane.specs.Faults.{IsOutside}
use Rattle.fluid_lane.specs.Steps.{entered_by}
use Rattle.fluid_lane.specs.Standing.{Standing, Goes}
use Rattle.fluid_lane.specs.Refusals.{IsGated}
use Rattle.fluid_transcript.specs.Documents.{version_objects, objects_for, reported as reported_as, scribed_by, scribed}
use Rattle.fluid_transcript.specs.Lines as lines
use Rattle.fluid_desk.specs.declared.stop.Stop.{Stop}
use Rattle.fluid_desk.specs.Stands.{IsLaneOf}
use Rattle.fluid_desk.specs.Stopping.{stop_of, IsHonest, steps_on}
use Rattle.fluid_desk.specs.Acting.{IsLine}
use Rattle.fluid_desk.specs.Scribing.{message_in, IsReplied, SaysUnput, ActDoesWith, Concludes, EndsWith, EndsWithBy}
use Rattle.fluid_desk.proofs.Laned.{says as lane_of, entered, same}
use Rattle.fluid_desk.proofs.Honest.{honest_more, grown_steps, worn_same}
use Rattle.fluid_desk.proofs.Steps.{unruled_honest}

-- ---- what a verdict on a report says

-- the verdict that an answer gives a report
abbrev verdict_by : Ledger → (summary : ℕ) (found : Bool) (moment : ℕ) → Answer → Verdict
verdict_by l summary found moment a = sequenced (option_map (settled l (Report summary found moment)) (option_map (answer_message (seq l + 1) moment) (reported summary a)))

verdict_is : (l : Ledger) (summary : ℕ) (found : Bool) (moment : ℕ) → verdict l (Report summary found moment) ≡ verdict_by l summary found moment (answer (order l) summary found)
unfolding verdict message unsettled
verdict_is l summary found moment = refl

by_answer : (l : Ledger) (summary : ℕ) (found : Bool) (moment : ℕ) (a : Answer) → IsReplied summary a (verdict_by l summary found moment a)
by_answer l summary found moment said.Dropped = refl
by_answer l summary found moment (said.Ack handle) = refl
by_answer l summary found moment (said.Refused rule) = refl

-- the verdict on a report is that of the scribe's answer
pub replied : (l : Ledger) (summary : ℕ) (found : Bool) (moment : ℕ) → IsReplied summary (answer (order l) summary found) (verdict l (Report summary found moment))
replied l summary found moment =
    subst (IsReplied summary (answer (order l) summary found)) (sym (verdict_is l summary found moment)) (by_answer l summary found moment (answer (order l) summary found))

-- a nack's contents have the text of its rule
pub rule_is : (summary : ℕ) (rule : SummaryRule) → message_in (refusal_contents summary rule) ≡ rule_text rule
unfolding rule_text name_of
rule_is summary rule = refl

-- a message that answers is a nack, or an ack
same_said : (a b : Kind × Json) → ◌≡◌ {A = Option (Kind × Json)} (Some a) (Some b) → a ≡ b
same_said a b same = cc

no_said : (a : Kind × Json) → ◌≡◌ {A = Option (Kind × Json)} None (Some a) → ⊥
no_said a same = cc

pub nacked : {E : Type 0} (name : List ℕ) (summary : ℕ) (kind : Kind) (contents : Json) (text : List ℕ) (result : Result (List ℕ) E) → kind ≡ kinds.SummaryNack → text ≡ message_in contents
    → IfOk result (λ line. line ≡ lines.of_name name (codes "scribe nack " ++ (decimal summary ++ (codes ": " ++ text)))) → (a : Answer) → reported summary a ≡ Some (kind, contents)
    → IfOk result (λ line. line ≡ lines.answer_line name summary a)
nacked name summary kind contents text (Err e) nack text_is line a is = tt
nacked name summary kind contents text (Ok made) nack text_is line said.Dropped is = absurd (no_said (kind, contents) is)
nacked name summary kind contents text (Ok made) nack text_is line (said.Ack handle) is =
    let other : kinds.SummaryAck ≡ kinds.SummaryNack = ap (λ p. p.0) (same_said (kinds.SummaryAck, ack_contents summary handle) (kind, contents) is) ∙ nack in absurd (cc)
nacked name summary kind contents text (Ok made) nack text_is line (said.Refused rule) is =
    line
    ∙ ap (λ t. lines.of_name name (codes "scribe nack " ++ (decimal summary ++ (codes ": " ++ t))))
    (text_is ∙ ap message_in (sym (ap (λ p. p.1) (same_said (kinds.SummaryNack, refusal_contents summary rule) (kind, contents) is))) ∙ rule_is summary rule)

pub acked : {E : Type 0} (name : List ℕ) (summary : ℕ) (kind : Kind) (contents : Json) (result : Result (List ℕ) E) → (kind ≡ kinds.SummaryNack → ⊥)
    → IfOk result (λ line. line ≡ lines.of_name name (codes "scribe ack " ++ decimal summary)) → (a : Answer) → reported summary a ≡ Some (kind, contents)
    → IfOk result (λ line. line ≡ lines.answer_line name summary a)
acked name summary kind contents (Err e) other line a is = tt
acked name summary kind contents (Ok made) other line said.Dropped is = absurd (no_said (kind, contents) is)
acked name summary kind contents (Ok made) other line (said.Ack handle) is = line
acked name summary kind contents (Ok made) other line (said.Refused rule) is = absurd (other (sym (ap (λ p. p.0) (same_said (kinds.SummaryNack, refusal_contents summary rule) (kind, contents) is))))

-- ---- the objects of a version

abbrev blob_objects : List (List ℕ × List ℕ) → List StoredObject
blob_objects bs = map (λ b. object_of (object_bytes (Blob b.1))) bs

four : (a b c e : List ℕ) →
    objects (protocol ((codes "attributes", a) ∷ (codes "quorumMembers", b) ∷ (codes "quorumProposals", c) ∷ (codes "quorumValues", e) ∷ []))
    ≡ blob_objects ((codes "attributes", a) ∷ (codes "quorumMembers", b) ∷ (codes "quorumProposals", c) ∷ (codes "quorumValues", e) ∷ [])
    ++ object_of (object_bytes (Tree (map blob_entry ((codes "attributes", a) ∷ (codes "quorumMembers", b) ∷ (codes "quorumProposals", c) ∷ (codes "quorumValues", e) ∷ [])))) ∷ []
unfolding objects keyed own_bytes own_entries object_bytes
four a b c e = refl

-- the four blobs stand in byte order of their names
objects_are : (q : Quorum) → objects (protocol (blobs_of q)) ≡ blob_objects (blobs_of q) ++ object_of (object_bytes (Tree (map blob_entry (blobs_of q)))) ∷ []
unfolding blobs_of
objects_are q = four (blob_text q Attributes) (blob_text q Members) (blob_text q Proposals) (blob_text q Values)

contents_of : (bs : List (List ℕ × List ℕ)) → versions.blobs_in (protocol bs) ≡ bs
contents_of [] = refl
contents_of (b ∷ bs) = ap (λ rest. b ∷ rest) (contents_of bs)

-- the objects of the version that a job of this order asks for
version_is : (l : Ledger) (j : Job) (m : Message) (app : List ℕ) → j ≡ job_of (order l) m → versions.version_objects app (versions.blobs_in j.protocol) ≡ version_objects l j app
unfolding job_of
version_is l j m app is =
    let bs = blobs (order l) (reference_of m) in
    ap (λ (k : Job). versions.version_objects app (versions.blobs_in k.protocol)) is
    ∙ ap (versions.version_objects app) (contents_of bs)
    ∙ sym (append_assoc (blob_objects bs) (object_of (object_bytes (Tree (map blob_entry bs))) ∷ []) (object_of (object_bytes (version_tree app bs)) ∷ []))
    ∙ ap (λ os. os ++ object_of (object_bytes (version_tree app bs)) ∷ []) (sym (objects_are (quorum (order l) (reference_of m))))
    ∙ ap (λ (k : Job). version_objects l k app) (sym is)

some_job : (a b : Job) → ◌≡◌ {A = Option Job} (Some a) (Some b) → a ≡ b
some_job a b same = cc

no_job : (a : Job) → ◌≡◌ {A = Option Job} None (Some a) → ⊥
no_job a same = cc

-- the objects that are put for the pending summarize are those of the world's table
pub same_objects : (l : Ledger) (held : Held) (j : Job) → job (order l) ≡ Some j → versions.objects_for held j ≡ objects_for l (is_found held j) j
same_objects l held j is = by (pending (order l)) is
  where
    by_app : (m : Message) → j ≡ job_of (order l) m → (app : Option (List ℕ))
        → option_map_or (λ a. versions.version_objects a (versions.blobs_in j.protocol)) app [] ≡ option_map_or (version_objects l j) app []
    by_app m job_is None = refl
    by_app m job_is (Some app) = version_is l j m app job_is

    by : (p : Option Message) → option_map (job_of (order l)) p ≡ Some j → versions.objects_for held j ≡ objects_for l (is_found held j) j
    by None none = absurd (no_job j none)
    by (Some m) some = ap (λ os. if is_found held j then os else []) (by_app m (sym (some_job (job_of (order l) m) j some)) j.app)

-- ---- the report

concludes_by : (limits : Limits) (d : Document) (name : List ℕ) (summary : ℕ) (found : Bool) (moment : ℕ) (new : Standing) (result : Result (List ℕ) Stop)
    → IsLaneOf limits new (record { raws = d.raws ++ Report summary found moment ∷ []; checkpoints = d.checkpoints ++ [] })
    → IsLine (lines.answer_line name summary (answer (order (ledger_of d)) summary found)) result → Concludes limits d name summary found moment new result
concludes_by limits d name summary found moment new (Ok text) stands line = record { stands = stands; says = line }
concludes_by limits d name summary found moment new (Err stop) stands line = subst (IsHonest (steps_on d new)) (sym line) tt

pub concluded : (limits : Limits) (old new : Standing) (d : Document) (name : List ℕ) (summary : ℕ) (found : Bool) (moment : ℕ) (v : Verdict) (result : Result (List ℕ) Stop) → IsLaneOf limits old d
    → Goes old new (entered_by (Report summary found moment) v) → new.owed ≡ false → v ≡ verdict_in old.entries.state (Report summary found moment)
    → ((a : Answer) → IsReplied summary a v → IsLine (lines.answer_line name summary a) result) → Concludes limits d name summary found moment new result
concluded limits old new d name summary found moment v result of goes level said_in line =
    let v_is : v ≡ verdict (ledger_of d) (Report summary found moment) = said_in ∙ (lane_of limits old d of).verdict (Report summary found moment) in
    concludes_by limits d name summary found moment new result (entered limits old d of new (Report summary found moment) v goes level v_is)
    (line (answer (order (ledger_of d)) summary found) (subst (IsReplied summary (answer (order (ledger_of d)) summary found)) (sym v_is) (replied (ledger_of d) summary found moment)))

-- it wasn't entered
pub unconcluded : {A : Type 0} (limits : Limits) (old new : Standing) (d : Document) (fault : LaneFault) → IsLaneOf limits old d → IsGated {A = A} old new [] IsOutside (Err fault) → IsHonest (steps_on d new) (stop_of fault)
unconcluded limits old new d fault of gate = unruled_honest (steps_on d new) old new fault gate (worn_same limits old new d of)

-- ---- the step

put_of : (os : List StoredObject) (old new : Option Held) (h : Held) → old ≡ Some h → Adds os old new → new ≡ Some (with_all h os)
put_of os old new h is adds = adds.content ∙ ap (option_map (λ held. with_all held os)) is

-- a store that tells what it holds still tells it
held_is : (o : Option Held) (h : Held) → is_some o ≡ true → Tells o (λ held. held ≡ h) → o ≡ Some h
held_is None h told is = absurd (cc)
held_is (Some held) h told is = ap Some is

module _ (limits : Limits) (w : World) (d : Document) (name : List ℕ) (before now : Storing) (held : before.content ≡ Some w.store) where
  with_line : (e : Effect) (new : Standing) (line : List ℕ) (result : Result (List ℕ) Stop) → IsLaneOf limits new (grown e d) → e.lines ≡ line ∷ [] → now.content ≡ Some e.store → IsLine line result
      → ActDoesWith limits e d new now result
  with_line e new line (Ok text) stands says_it after is = record { acts = record { stands = stands; says = says_it ∙ ap (λ t. t ∷ []) (sym is) }; held = after }
  with_line e new line (Err stop) stands says_it after is = subst (IsHonest (steps_on (grown e d) new)) (sym is) tt

  scribed_as : (j : Option Job) → job (order (ledger_of d)) ≡ j → (new : Standing) (result : Result (List ℕ) Stop) → ActDoesWith limits (scribed_by w (ledger_of d) name j) d new now result
      → ActDoesWith limits (scribed w d name) d new now result
  scribed_as j is new result h = subst (λ k. ActDoesWith limits (scribed_by w (ledger_of d) name k) d new now result) (sym is) h

  pub idles : (s : Standing) (result : Result (List ℕ) Stop) → IsLaneOf limits s d → job (order (ledger_of d)) ≡ None → now.content ≡ before.content → IsLine (lines.idle_line name) result
      → ActDoesWith limits (scribed w d name) d s now result
  idles s result of none after line =
      scribed_as None none s result (with_line (scribed_by w (ledger_of d) name None) s (lines.idle_line name) result (same limits s d of) refl (after ∙ held) line)

  module _ (j : Job) (is : job (order (ledger_of d)) ≡ Some j) where
    abbrev found_it : Bool
    found_it = is_found w.store j

    abbrev puts : Putting
    puts = putting w.store (objects_for (ledger_of d) found_it j)

    told_put : (result : Result Bool StoreFault) → PutsVersion j before now result → PutsTold j before now result w.store
    told_put result puts_it = subst (λ o. Tells o (PutsTold j before now result)) held puts_it.told

    same_puts : putting w.store (versions.objects_for w.store j) ≡ puts
    same_puts = ap (putting w.store) (same_objects (ledger_of d) w.store j is)

    by_clash : (clash : Option Clashing) → puts.clash ≡ clash → (new : Standing) (result : Result (List ℕ) Stop) → ActDoesWith limits (reported_as w (ledger_of d) name j found_it puts clash) d new now result
        → ActDoesWith limits (scribed w d name) d new now result
    by_clash clash at new result h =
        scribed_as (Some j) is new result (subst (λ c. ActDoesWith limits (reported_as w (ledger_of d) name j found_it puts c) d new now result) (sym at) h)

    -- the objects were put, and the report was entered
    pub reports : (found : Bool) (new : Standing) (result : Result (List ℕ) Stop) → PutsVersion j before now (Ok found) → Concludes limits d name j.summary found w.moment new result → ActDoesWith limits (scribed w d name) d new now result
    reports found new result puts_it done =
        let told = told_put (Ok found) puts_it in
        let put = subst (λ p. IsPutting {A = Bool} p now.content (Ok found)) same_puts told.put in
        let there : is_some now.content ≡ true = ap is_some (put_of (versions.objects_for w.store j) before.content now.content w.store held told.stores) in
        by_clash None put.0 new result (by result (subst (λ f. Concludes limits d name j.summary f w.moment new result) told.found done) (held_is now.content puts.held there put.1))
      where
        by : (r : Result (List ℕ) Stop) → Concludes limits d name j.summary found_it w.moment new r → now.content ≡ Some puts.held
            → ActDoesWith limits (reported_as w (ledger_of d) name j found_it puts None) d new now r
        by (Ok text) done after = record { acts = record { stands = done.stands; says = ap (λ t. t ∷ []) (sym done.says) }; held = after }
        by (Err stop) done after =
            let e = reported_as w (ledger_of d) name j found_it puts None in honest_more (steps_on d new) (steps_on (grown e d) new) stop (grown_steps e d new) done

    -- other bytes are held under the id of one of them
    clashed : (id kept bytes : List ℕ) (s : Standing) (result : Result (List ℕ) Stop) → PutsVersion j before now (Err (store.Clash id kept bytes)) → IsLaneOf limits s d → IsLine (lines.scribe_clash_line name id) result
        → ActDoesWith limits (scribed w d name) d s now result
    clashed id kept bytes s result puts_it of line =
        let told = told_put (Err (store.Clash id kept bytes)) puts_it in
        let put = subst (λ p. IsPutting {A = Bool} p now.content (Err (store.Clash id kept bytes))) same_puts told.put in
        let there : is_some now.content ≡ true = ap is_some (put_of told.stores.prefix before.content now.content w.store held told.stores.adds) in
        let clash : Clashing = record { id = id; kept = kept; bytes = bytes } in
        by_clash (Some clash) put.0 s result
        (with_line (reported_as w (ledger_of d) name j found_it puts (Some clash)) s (lines.scribe_clash_line name id) result (same limits s d of) refl (held_is now.content puts.held there put.1) line)

    pub unputs : (fault : StoreFault) (s : Standing) (result : Result (List ℕ) Stop) → PutsVersion j before now (Err fault) → IsLaneOf limits s d → SaysUnput name fault result → ActDoesWith limits (scribed w d name) d s now result
    unputs (store.Clash id kept bytes) s result puts_it of line = clashed id kept bytes s result puts_it of line
    unputs (store.StoreFailed note) s result puts_it of same_result = subst (ActDoesWith limits (scribed w d name) d s now) (sym same_result) tt
    unputs store.NoMemory s result puts_it of same_result = subst (ActDoesWith limits (scribed w d name) d s now) (sym same_result) tt
    unputs (store.Missing id) s result puts_it of same_result = absurd puts_it.cause
    unputs (store.BadObject id place) s result puts_it of same_result = absurd puts_it.cause
    unputs (store.Tree fault) s result puts_it of same_result = absurd puts_it.cause
    unputs (store.NoPath path) s result puts_it of same_result = absurd puts_it.cause

-- ---- ends

pub told_ends_with : {E : Type 0} (old new : Standing) (before now : Storing) (line : Result (List ℕ) E) (result : Result (List ℕ) Stop) → ((made : List ℕ) → IfOk line (λ text. text ≡ made) → IsLine made result)
    → EndsWithBy old new before now result
told_ends_with old new before now (Ok text) result told = by result (told text refl)
  where
    by : (r : Result (List ℕ) Stop) → IsLine text r → EndsWithBy old new before now r
    by (Ok made) is = tt
    by (Err stop) is = subst (EndsWith old new before now) (sym is) tt
told_ends_with old new before now (Err e) result told = by result (told [] tt)
  where
    by : (r : Result (List ℕ) Stop) → IsLine [] r → EndsWithBy old new before now r
    by (Ok made) is = tt
    by (Err stop) is = subst (EndsWith old new before now) (sym is) tt

-- The scribe acknowledges honest summaries alone.
use Rattle.std.proofs.Common.{◌≡◌, ℕ, ◌+◌, ◌==◌, arith, Bool, true, false, not, List, [], ◌∷◌, ◌++◌, length, find, slice_get, All, Option, Some, None, Ok, option_map, option_to_list, codes, refl, sym, ap, subst, ◌∙◌, append-nil, eq-eqb}
use Rattle.std.specs.Prelude.{if◌then◌else◌}
use Rattle.std.specs.Option.{option_map_or}
use Rattle.std.specs.FinMap.{get}
use Rattle.std.proofs.lemmas.Bool.{and_parts}
use Rattle.std.proofs.lemmas.List.Elements.{All-nil, All-cons, All-contains}
use Rattle.hex.specs.Hex.{IsBytes}
use Rattle.fluid_types.specs.Blobs.{blobs, blobs_of}
use Rattle.fluid_types.specs.Quorum.{Quorum, quorum}
use Rattle.fluid_types.specs.Ledger.{Ledger, order, seq, messages_of}
use Rattle.fluid_types.proofs.Ledgers.{order-push}
use Rattle.fluid_types.specs.declared.entries.Raw.{Raw}
use Rattle.fluid_types.specs.declared.entries.Raw.TheVariants.{Report}
use Rattle.fluid_types.specs.declared.messages.Kind.TheVariants as kind
use Rattle.fluid_types.specs.declared.messages.Message.{Message}
use Rattle.fluid_types.specs.declared.verdicts.Verdict.{Verdict}
use Rattle.fluid_types.specs.declared.verdicts.Verdict.TheVariants.{Sequenced, Nacked, Dropped, Absorbed}
use Rattle.fluid_tree.specs.Identity.{id_within, entries_within, id_answer}
use Rattle.fluid_tree.specs.Names.{first_refused}
use Rattle.fluid_tree.specs.Object.{object_bytes, tree_bytes}
use Rattle.fluid_tree.specs.declared.id.SummaryRef.{SummaryRef}
use Rattle.fluid_rules.specs.Cases.{first_case}
use Rattle.fluid_rules.specs.Rules.{message, unsettled, settled, answer_message, verdict, ledger, IsLegal}
use Rattle.fluid_rules.specs.Scribe.{is_summarize, is_ack, is_answer, handling, naming, answered_by, proposed_by, reference_of, unanswered, pending, acknowledged, ack_of, protocol, protocol_id, version, tree_entry, is_stale, is_old, last_ack, judged, answer_to, answer_by, answer, reported, ack_contents}
use Rattle.fluid_rules.specs.ScribeLaws.{AcksGrow, waits, PendingIsLeast, IsLeastOrNone, OrdersAreAnsweredInTurn, AnswersSayWhatIsMeant}
use Rattle.fluid_rules.specs.declared.answers.Answer.{Answer}
use Rattle.fluid_rules.specs.declared.answers.Answer.TheVariants as said
use Rattle.fluid_rules.specs.declared.answers.SummaryRule.TheVariants.{StaleHead, OldReference, Missing}
use Rattle.fluid_rules.specs.declared.answers.Proposed.{Proposed}
use Rattle.fluid_rules.specs.declared.limits.Limits.{Limits}
use Rattle.fluid_rules.proofs.Legal.{ledger-push, ledger-legal}
use Rattle.fluid_rules.proofs.Verdicts.{some_message, verdict-is_message}
use Rattle.fluid_rules.proofs.Handles.{version-size, version-bytes}
use Rattle.fluid_scribe.specs.Jobs.{job_of}
use Rattle.fluid_scribe.specs.declared.job.Job.{Job}
use Rattle.fluid_runtime.specs.AppTree.{app_tree}
use Rattle.fluid_store.specs.Held.{Held, Keeps}
use Rattle.fluid_store.specs.Laws.{GoesOnStanding}
use Rattle.fluid_store.specs.Keeping.{Holds}
use Rattle.fluid_store.specs.Listed.{own_bytes, object_of, objects}
use Rattle.fluid_store.specs.Putting.{Putting, Clashing, putting}
use Rattle.fluid_store.specs.Standing.{Stands}
use Rattle.fluid_store.specs.declared.listing.StoredObject.{StoredObject}
use Rattle.fluid_store.proofs.Sized.{id_size}
use Rattle.fluid_loader.specs.Laws.{replayed, IsHonest, IsHonestVersion}
use Rattle.fluid_steps.specs.declared.steps.Step.TheVariants as step
use Rattle.fluid_transcript.specs.World.{World, document, is_open, says, changed}
use Rattle.fluid_transcript.specs.Sound.{ledger_in}
use Rattle.fluid_versions.specs.Versions.{version_tree, is_found}
use Rattle.fluid_transcript.specs.Documents.{version_objects, objects_for, reported as report_of, scribed_by}
use Rattle.fluid_transcript.proofs.Fitting.{putting_keeps}
use Rattle.fluid_workload.specs.Working.{work, behind_step}
use Rattle.fluid_alike.proofs.Held.{both_hold, id_is, stands}
use Rattle.fluid_alike.proofs.Put.{putting_holds}
use Rattle.fluid_alike.proofs.Honest.{AllHonest, IsProposal, IsProposed, IsAckHonest, ack_on, kept_honest, one_more, one_plain_more}
use Rattle.fluid_alike.proofs.Mild.{IsNamedJoin}
use Rattle.fluid_alike.proofs.Doing.{IsHonestIn, Goes, step_done, effect_goes}

-- ---- the message of a report

data Reports (ms : List Message) (n : ℕ) (found : Bool) (m : Message) : Type 0 where
  acks : (handle : List ℕ) → answer ms n found ≡ said.Ack handle → m.kind ≡ kind.SummaryAck → m.contents ≡ ack_contents n handle → Reports ms n found m
  nacks : m.kind ≡ kind.SummaryNack → Reports ms n found m

says_by : (l : Ledger) (n : ℕ) (found : Bool) (moment : ℕ) (m : Message) (a : Answer) → answer (order l) n found ≡ a
    → option_map (settled l (Report n found moment)) (option_map (answer_message (seq l + 1) moment) (reported n a)) ≡ Some m → Reports (order l) n found m
says_by l n found moment m said.Dropped at is = absurd (cc)
says_by l n found moment m (said.Ack handle) at is = rw (sym (some_message _ m is)) (acks handle at refl refl)
says_by l n found moment m (said.Refused rule) at is = rw (sym (some_message _ m is)) (nacks refl)

says_report : (l : Ledger) (n : ℕ) (found : Bool) (moment : ℕ) (m : Message) → message l (Report n found moment) ≡ Some m → Reports (order l) n found m
unfolding message unsettled
says_report l n found moment m is = says_by l n found moment m (answer (order l) n found) refl is

-- ---- what an acknowledgement rests on

record RestsOn (ms : List Message) (r : ℕ) (found : Bool) (asked : Option Proposed) (handle : List ℕ) : Type 0 where
  proposed : Proposed
  is : asked ≡ Some proposed
  found_is : found ≡ true
  handle_is : handle ≡ version proposed.app (blobs ms r)

chain : (ms : List Message) (r : ℕ) (found : Bool) (asked : Proposed) (handle : List ℕ) (stale old : Bool)
    → first_case ((stale, said.Refused StaleHead) ∷ (old, said.Refused OldReference) ∷ (not found, said.Refused Missing) ∷ []) (said.Ack (version asked.app (blobs ms r))) ≡ said.Ack handle → RestsOn ms r found (Some asked) handle
chain ms r found asked handle true old h = absurd (cc)
chain ms r found asked handle false true h = absurd (cc)
chain ms r false asked handle false false h = absurd (cc)
chain ms r true asked handle false false h = let same : version asked.app (blobs ms r) ≡ handle = cc in record { proposed = asked; is = refl; found_is = refl; handle_is = sym same }

judged_so : (ms : List Message) (r : ℕ) (found : Bool) (asked : Option Proposed) (handle : List ℕ) → judged ms r found asked ≡ said.Ack handle → RestsOn ms r found asked handle
judged_so ms r found None handle h = absurd (cc)
judged_so ms r found (Some asked) handle h = chain ms r found asked handle (is_stale (last_ack ms) asked) (is_old (last_ack ms) r) h

-- the answer to the pending summarize
pending_so : (ms : List Message) (found : Bool) (m : Message) (handle : List ℕ) → pending ms ≡ Some m → answer ms m.number found ≡ said.Ack handle → RestsOn ms (reference_of m) found (proposed_by m) handle
unfolding answer answer_to
pending_so ms found m handle there h =
    judged_so ms (reference_of m) found (proposed_by m) handle
    (sym (ap (answer_by ms m.number found) there ∙ ap (λ b. if b then answer_to ms found m else said.Dropped) (eq-eqb m.number m.number refl)) ∙ h)

-- ---- what it acknowledges

find_first : (ws : List Message) (m : Message) → slice_get ws 0 ≡ Some m → find (λ s. s.number == m.number) ws ≡ Some m
find_first [] m is = absurd (cc)
find_first (w ∷ ws) m is =
    let same : w ≡ m = some_message w m is in
    let equal : (w.number == m.number) ≡ true = rw same (eq-eqb m.number m.number refl) in
    rw equal (ap Some same)

acknowledged_so : (ms : List Message) (m waiting : Message) (handle : List ℕ) → handling m.contents ≡ Some handle → answered_by m ≡ Some waiting.number → pending ms ≡ Some waiting
    → acknowledged ms m ≡ Some (record { handle = handle; number = reference_of waiting })
acknowledged_so ms m waiting handle handled named there = rw (handled, named, find_first (unanswered ms) waiting there) refl

ack_so : (says : AnswersSayWhatIsMeant) (ms : List Message) (m waiting : Message) (handle : List ℕ) → length handle ≡ 20 → (app : List ℕ) (texts : List (List ℕ × List ℕ)) → handle ≡ version app texts → m.kind ≡ kind.SummaryAck
    → m.contents ≡ ack_contents waiting.number handle → pending ms ≡ Some waiting → ack_of ms m ≡ Some (record { handle = handle; number = reference_of waiting })
unfolding ack_of answered_by
ack_so says ms m waiting handle size app texts made kind_is contents there =
    let meant = says waiting.number in
    ap (λ k. if is_ack k then acknowledged ms m else None) kind_is
    ∙ acknowledged_so ms m waiting handle (ap handling contents ∙ meant.handled handle size (subst IsBytes (sym made) (version-bytes app texts)))
    (ap (λ k. if is_answer k then naming m.contents else None) kind_is ∙ ap naming contents ∙ meant.named handle) there

-- ---- a summarize that waits

-- the pending one is honest
pending_honest : PendingIsLeast → OrdersAreAnsweredInTurn → (held : Held) (l : Ledger) (m : Message) → IsLegal l → AllHonest held (order l) → pending (order l) ≡ Some m → IsProposal held (order l) m
pending_honest least turn held l m legal was there =
    let in_turn = turn l legal in
    let is = subst (IsLeastOrNone (waits (order l)) (order l)) there (least (order l) in_turn.rising in_turn.behind) in
    All-contains (IsProposed held (order l)) (order l) m was.proposed is.is_there (and_parts (is_summarize m.kind) _ is.does_pass).0

-- ---- a version

-- the id of the tree of the four blobs
state_id : (q : Quorum) → id_answer (protocol (blobs_of q)) ≡ Ok (protocol_id (blobs_of q))
unfolding blobs_of protocol_id id_within entries_within first_refused object_bytes
state_id q = refl

-- where its objects are held and its channels' tree stands, it is honest
module _ (versions : IsHonestVersion) (held : Held) (ms : List Message) (r : ℕ) (app : List ℕ) where
  abbrev texts : List (List ℕ × List ℕ)
  texts = blobs ms r

  abbrev its_objects : List StoredObject
  its_objects = objects (protocol texts) ++ object_of (object_bytes (version_tree app texts)) ∷ []

  state_stands : Holds held (objects (protocol texts)) → Stands held (protocol_id texts) (protocol texts)
  state_stands holds =
      let own = state_id (quorum ms r) in
      subst (λ i. Stands held i (protocol texts)) (sym (id_is 32 (protocol texts) (protocol_id texts) own)) (stands held 32 (protocol texts) (protocol_id texts) own holds)

  root_held : (handle : List ℕ) → handle ≡ version app texts → Holds held (object_of (object_bytes (version_tree app texts)) ∷ [])
      → get held handle ≡ Some (tree_bytes (tree_entry (codes ".app") app ∷ tree_entry (codes ".protocol") (protocol_id texts) ∷ []))
  unfolding version object_bytes
  root_held handle made holds = subst (λ h. get held h ≡ Some (tree_bytes (tree_entry (codes ".app") app ∷ tree_entry (codes ".protocol") (protocol_id texts) ∷ []))) (sym made) holds.0

  version_honest : (handle : List ℕ) → handle ≡ version app texts → length app ≡ 20 → Stands held app (app_tree (replayed ms r)) → Holds held its_objects → IsHonest held ms (record { handle = handle; number = r })
  version_honest handle made size app_stands holds =
      let parts = both_hold held (objects (protocol texts)) (object_of (object_bytes (version_tree app texts)) ∷ []) holds in
      versions held ms (record { handle = handle; number = r }) app (protocol_id texts) size (ap length (id_is 32 (protocol texts) (protocol_id texts) (state_id (quorum ms r))) ∙ id_size (own_bytes (protocol texts)))
      app_stands (state_stands parts.0) (root_held handle made parts.1)

-- ---- a scribe's step

module _ (standing : GoesOnStanding) (grow : AcksGrow) (says : AnswersSayWhatIsMeant) (least : PendingIsLeast) (turn : OrdersAreAnsweredInTurn) (versions : IsHonestVersion) (w : World) where
  abbrev l : Ledger
  l = ledger_in w work

  abbrev Placed : Raw → Type 0
  Placed = IsNamedJoin (length (document w work).raws)

  legal : IsLegal l
  legal = ledger-legal (document w work).raws

  kept : (put : Held) → Keeps w.store put → IsHonestIn w → AllHonest put (order l)
  kept put keeps was = kept_honest standing w.store put keeps (order l) was

  module _ (m : Message) (there : pending (order l) ≡ Some m) where
    abbrev j : Job
    j = job_of (order l) m

    abbrev found : Bool
    found = is_found w.store j

    abbrev put : Putting
    put = putting w.store (objects_for l found j)

    keeps : Keeps w.store put.held
    keeps = putting_keeps w.store (objects_for l found j)

    -- what was put where it is found
    held_then : (asked : Proposed) → proposed_by m ≡ Some asked → found ≡ true → put.clash ≡ None → Holds put.held (its_objects versions put.held (order l) (reference_of m) asked.app)
    unfolding job_of
    held_then asked is was_found none =
        subst (Holds put.held)
        (ap (λ b. if b then option_map_or (version_objects l j) j.app [] else []) was_found ∙ ap (λ o. option_map_or (version_objects l j) (option_map (λ (x : Proposed). x.app) o) []) is)
        (putting_holds w.store (objects_for l found j) none)

    acked : IsHonestIn w → put.clash ≡ None → (new : Message) (handle : List ℕ) → answer (order l) m.number found ≡ said.Ack handle → new.kind ≡ kind.SummaryAck → new.contents ≡ ack_contents m.number handle
        → AllHonest put.held (order l ++ new ∷ [])
    acked was none new handle at kind_is contents =
        let rests = pending_so (order l) found m handle there at in
        let size : length handle ≡ 20 = ap length rests.handle_is ∙ version-size rests.proposed.app (blobs (order l) (reference_of m)) in
        let proposal = pending_honest least turn w.store l m legal was there in
        let stood = proposal.stands rests.proposed rests.is in
        let honest = version_honest versions put.held (order l) (reference_of m) rests.proposed.app handle rests.handle_is stood.0
        (standing w.store put.held rests.proposed.app (app_tree (replayed (order l) (reference_of m))) keeps stood.1) (held_then rests.proposed rests.is rests.found_is none) in
        let own = ack_so says (order l) new m handle size rests.proposed.app (blobs (order l) (reference_of m)) rests.handle_is kind_is contents there in
        let s : SummaryRef = record { handle = handle; number = reference_of m } in
        let is : IsAckHonest put.held (order l ++ new ∷ []) s = ack_on standing put.held put.held (λ id bytes has. has) (order l) (new ∷ []) s (record { within = proposal.within; honest = honest }) in
        one_more standing grow w.store put.held keeps (order l) new was (λ asks. absurd (let two : true ≡ false = sym asks ∙ ap is_summarize kind_is in cc))
        (subst (λ o. All (IsAckHonest put.held (order l ++ new ∷ [])) (option_to_list o)) (sym own)
        (All-cons (IsAckHonest put.held (order l ++ new ∷ [])) s [] is (All-nil (IsAckHonest put.held (order l ++ new ∷ [])))))

    reported_as : IsHonestIn w → put.clash ≡ None → (new : Message) → Reports (order l) m.number found new → AllHonest put.held (order l ++ new ∷ [])
    reported_as was none new (acks handle at kind_is contents) = acked was none new handle at kind_is contents
    reported_as was none new (nacks kind_is) = one_plain_more standing grow put.held (order l) new (kept put.held keeps was) (ap is_summarize kind_is) (ap is_ack kind_is)

    abbrev raw : Raw
    raw = Report j.summary found w.moment

    reported_verdict : IsHonestIn w → put.clash ≡ None → (v : Verdict) → verdict l raw ≡ v → AllHonest put.held (order l ++ messages_of v)
    unfolding job_of
    reported_verdict was none (Sequenced new) at = reported_as was none new (says_report l m.number found w.moment new (verdict-is_message l raw new at))
    reported_verdict was none (Nacked nack) at = subst (AllHonest put.held) (sym (append-nil (order l))) (kept put.held keeps was)
    reported_verdict was none Dropped at = subst (AllHonest put.held) (sym (append-nil (order l))) (kept put.held keeps was)
    reported_verdict was none Absorbed at = subst (AllHonest put.held) (sym (append-nil (order l))) (kept put.held keeps was)

    reported_honest : IsHonestIn w → put.clash ≡ None → AllHonest put.held (order (ledger ((document w work).raws ++ raw ∷ [])))
    reported_honest was none =
        subst (λ l. AllHonest put.held (order l)) (sym (ledger-push (document w work).raws raw))
        (subst (AllHonest put.held) (sym (order-push l (raw, verdict l raw))) (reported_verdict was none (verdict l raw) refl))

    nothing_more : IsHonestIn w → AllHonest put.held (order (ledger ((document w work).raws ++ [])))
    nothing_more was = subst (λ rs. AllHonest put.held (order (ledger rs))) (sym (append-nil (document w work).raws)) (kept put.held keeps was)

    by_clash : (clash : Option Clashing) → put.clash ≡ clash → Goes [] 0 w (changed (report_of w l work j found put clash) (Some work) w)
    by_clash None none = effect_goes [] 0 w (report_of w l work j found put None) (omega arith) (omega arith) (All-cons Placed raw [] tt (All-nil Placed)) tt keeps (λ readable was. reported_honest was none)
    by_clash (Some clash) is = effect_goes [] 0 w (report_of w l work j found put (Some clash)) (omega arith) (omega arith) (All-nil Placed) tt keeps (λ readable was. nothing_more was)

  by_pending : (o : Option Message) → pending (order l) ≡ o → Goes [] 0 w (changed (scribed_by w l work (option_map (job_of (order l)) o)) (Some work) w)
  by_pending None there =
      effect_goes [] 0 w (scribed_by w l work None) (omega arith) (omega arith) (All-nil Placed) tt (λ id bytes has. has) (λ readable was. subst (λ rs. AllHonest w.store (order (ledger rs))) (sym (append-nil (document w work).raws)) was)
  by_pending (Some m) there = by_clash m there (put m there).clash refl

  pub scribe_goes : (limits : Limits) → is_open w work ≡ true → Goes [] 0 w (behind_step limits w (step.Scribe work))
  scribe_goes limits open_is = subst (Goes [] 0 w) (sym (step_done limits w (step.Scribe work) open_is refl refl)) (by_pending (pending (order l)) refl)

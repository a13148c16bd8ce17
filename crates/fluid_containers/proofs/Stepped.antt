-- The steps of a container on the lane of its document, where neither lane nor store failed.
use Rattle.std.proofs.Common.{◌≡◌, inl, inr, ℕ, ◌+◌, ◌-◌, ◌≤◌, arith, Bool, true, List, [], ◌∷◌, ◌++◌, length, take, drop, Option, Some, None, Result, Ok, Err, refl, sym, ap, subst, ◌∙◌, append-nil}
use Rattle.fluid_io.specs.Causes.{Tells}
use Rattle.fluid_json.specs.Tree.{Tree, null}
use Rattle.fluid_types.specs.Ledger.{Ledger, order, seq}
use Rattle.fluid_types.specs.declared.entries.Offered.{Offered}
use Rattle.fluid_types.specs.declared.entries.Submission.{Submission}
use Rattle.fluid_types.specs.declared.entries.Offered.TheVariants as offered
use Rattle.fluid_types.specs.declared.messages.Message.{Message}
use Rattle.fluid_types.specs.declared.nacks.Nack.{Nack}
use Rattle.fluid_types.specs.declared.nacks.NackRule.{NackRule}
use Rattle.fluid_rules.specs.Rules.{ledger as ledger_by_rules}
use Rattle.fluid_rules.specs.declared.limits.Limits.{Limits}
use Rattle.fluid_rules.proofs.Legal.{ledger-legal}
use Rattle.fluid_edits.specs.declared.edit.Edit.{Edit}
use Rattle.fluid_edits.specs.Forms.{contents_of}
use Rattle.fluid_edits.specs.Replay.{replay_edits}
use Rattle.fluid_runtime.specs.Refused as refused
use Rattle.fluid_runtime.specs.declared.fault.EditFault.{EditFault}
use Rattle.fluid_store.specs.Storing.{Storing}
use Rattle.fluid_lane.specs.Standing.{Standing}
use Rattle.fluid_loader.specs.Link as link
use Rattle.fluid_loader.specs.Link.{Linked, BothTell}
use Rattle.fluid_loader.specs.declared.fault.LoadFault.{LoadFault}
use Rattle.fluid_loader.specs.declared.fault.LoadFault.TheVariants as loads
use Rattle.fluid_loader.specs.Calls as calls
use Rattle.fluid_loader.specs.Calls.{counted, counted_by, noop_of, op_of, shown_channels, with_edit, PumpDoes, EditDoes, Edits, IsUndone}
use Rattle.fluid_loader.specs.Container.{AContainer, behind}
use Rattle.fluid_loader.specs.Submitting.{numbered}
use Rattle.fluid_loader.specs.Laws.{IsBased, IsBehind, AreAbreast, StaysBehind, between}
use Rattle.fluid_transcript.specs.World.{World, Document, Container, ledger_of}
use Rattle.fluid_transcript.specs.Lines as lines
use Rattle.fluid_transcript.specs.Containers as steps
use Rattle.fluid_transcript.specs.Containers.{caught_up, visible, submitted, submitting}
use Rattle.fluid_holding.specs.Holding.{IsContainerOf}
use Rattle.fluid_holding.specs.Laws.{Stands, TakesInAsDefined, SubmitsAsDefined}
use Rattle.fluid_desk.specs.declared.stop.Stop.{Stop}
use Rattle.fluid_desk.specs.declared.stop.Stop.TheVariants.{NoMemory}
use Rattle.fluid_desk.specs.Stands.{IsLaneOf}
use Rattle.fluid_desk.specs.Stopping.{IsHonest}
use Rattle.fluid_door_link.specs.Coursing.{IsAlong}
use Rattle.fluid_door_link.specs.Telling.{told_by}
use Rattle.fluid_containers.specs.declared.holder.Holder.{Holder}
use Rattle.fluid_containers.specs.Holders.{IsHolderIn}
use Rattle.fluid_containers.specs.Saying.{SaysPumped, SaysEdited, SaysBeaten}
use Rattle.fluid_containers.specs.Stepping.{LaneStepped, LaneSteps}
use Rattle.fluid_containers.proofs.Lanes.{told_as, with_raws, tells, unchanged}
use Rattle.fluid_containers.proofs.Submitted.{Sent, sent_taken, sent_nacked}
use Rattle.fluid_containers.proofs.Stored.{told_good}

-- ---- what is held of a container's tree

between_none : (n : ℕ) (messages : List Message) → between n n messages ≡ []
between_none n messages = ap (λ m. take m (drop n messages)) (none n)
  where
    none : (m : ℕ) → m - m ≡ 0
    none m = omega arith

own_behind : (client : List ℕ) (c : AContainer) (messages : List Message) → AreAbreast c (behind client c (between c.number c.number messages))
own_behind client c messages = subst (λ some. AreAbreast c (behind client c some)) (sym (between_none c.number messages)) (record { channels = refl; quorum = refl; number = refl; head = refl })

-- a call leaves a container based
pub based_behind : (c left : AContainer) (linked after : Linked) (doc e : link.Document) → linked.told ≡ Some doc → after.told ≡ Some e → c.number ≤ length doc.order → IsBased doc.held c → StaysBehind c left linked after → IsBased e.held left
based_behind c left linked after doc e told told_now within based stays =
    let fact : link.Document → link.Document → Type 0 = λ d f. IsBehind linked.client c d c → IsBehind linked.client c f left in
    let both : BothTell fact (Some doc) (Some e) = subst (BothTell fact (Some doc)) told_now (subst (λ o. BothTell fact o after.told) told (stays c)) in
    (both (record { begins = omega arith; within = within; abreast = own_behind linked.client c doc.order; based = based })).based

-- its number is one of the order
pub within_order : (l : Ledger) (k : Container) (c : AContainer) {own : List ℕ} → IsContainerOf l own c k → Stands l k → c.number ≤ length (order l)
unfolding seq
within_order l k c is stands = omega (arith, is.number, stands.number)

-- ---- lines

pub wanting_honest : (steps : ℕ) (stop : Stop) → stop ≡ NoMemory → IsHonest steps stop
wanting_honest steps stop is = subst (IsHonest steps) (sym is) tt

module _ (limits : Limits) (w : World) (old : Standing) (d : Document) (of : IsLaneOf limits old d) (store : Storing) (holds : store.content ≡ Some w.store) (new : Standing) (now : Storing)
    (along : IsAlong true old store (record { lane = new; store = now; stop = None })) (k : Container) (h : Holder) (is : IsHolderIn (ledger_of d) w.store h k) (stands : Stands (ledger_of d) k) (p : List ℕ) where
  abbrev l : Ledger
  l = ledger_of d

  -- a fact on the ledger holds of it with no entries more
  none_more : (P : Ledger → Type 0) → P l → P (ledger_of (with_raws d []))
  none_more P fact = subst (λ raws. P (ledger_by_rules raws)) (sym (append-nil d.raws)) fact

  module _ (linked after : Linked) (client : linked.client ≡ h.client) (told : linked.told ≡ told_by true old store) (told_now : after.told ≡ told_by true new now) (left : AContainer) (stays : StaysBehind h.container left linked after) where
    told_doc : linked.told ≡ Some (told_as limits d w.store)
    told_doc = told ∙ tells limits old d store w.store of holds

    within : h.container.number ≤ length (order l)
    within = within_order l k h.container is.container stands

    based_then : (e : link.Document) → after.told ≡ Some e → IsBased e.held left
    based_then e there = based_behind h.container left linked after (told_as limits d w.store) e told_doc there within is.based stays

    -- the same document is told then
    module _ (same : after.told ≡ linked.told) where
      told_same : told_by true new now ≡ Some (told_as limits d w.store)
      told_same = sym told_now ∙ same ∙ told_doc

      same_lane : (now.content ≡ Some w.store) × IsLaneOf limits new (with_raws d [])
      same_lane = unchanged limits old d of store new now along w.store told_same

      same_based : IsBased w.store left
      same_based = based_then (told_as limits d w.store) (same ∙ told_doc)

    -- ---- pump

    pumped_is : TakesInAsDefined → (messages : List Message) → calls.Fetched h.container.number linked after messages → left ≡ behind linked.client h.container messages → IsContainerOf l h.client left (caught_up l k)
    pumped_is law messages fetched taken =
        let all : drop h.container.number (order l) ≡ messages = subst (λ o. Tells o (λ document. drop h.container.number document.order ≡ messages)) told_doc fetched.told in
        let is_so : left ≡ behind h.client h.container (drop k.number (order l)) =
        taken ∙ ap (λ id. behind id h.container messages) client ∙ ap (behind h.client h.container) (sym all) ∙ ap (λ n. behind h.client h.container (drop n (order l))) is.container.number in
        subst (λ c. IsContainerOf l h.client c (caught_up l k)) (sym is_so) (law l h.client h.container k (ledger-legal d.raws) stands is.container)

    pub pumps : TakesInAsDefined → (answer : Result ℕ LoadFault) (result : Result (List ℕ) Stop) → PumpDoes h.container left linked after answer → SaysPumped p answer result
        → LaneSteps limits (steps.pumped w d p k) d k p new now (record h { container = left }) result
    pumps law (Ok number) (Ok line) does says =
        let messages = does.1.0 in
        let fetched = does.1.1.0 in
        let same : after.told ≡ linked.told = ap (λ (x : Linked). x.told) fetched.fetched in
        let lane = same_lane same in
        let is_so = pumped_is law messages fetched does.1.1.1 in
        record {
          stands = lane.1;
          held = lane.0;
          now = caught_up l k;
          name = inl refl;
          same = refl;
          holder = record { document = is.document; container = none_more (λ m. IsContainerOf m h.client left (caught_up l k)) is_so; based = same_based same };
          says = ap (λ text. text ∷ []) (sym (says ∙ ap (lines.pumped_line p) (does.0 ∙ is_so.number)));
        }
    pumps law (Ok number) (Err stop) does says = wanting_honest _ stop says
    pumps law (Err fault) result does says = subst (LaneSteps limits (steps.pumped w d p k) d k p new now (record h { container = left })) (sym says) tt

    -- ---- submissions

    module _ (kind : Offered) (contents : Tree) where
      abbrev IsSent : Option NackRule → AContainer → Type 0
      IsSent refused c = Sent limits w d new now w.store k h.client kind contents refused c

      abbrev submission_on : Submission
      submission_on = numbered (h.container.last + 1) h.container.number kind contents

      sent_on : SubmitsAsDefined → linked.moment ≡ w.moment → calls.Submits submission_on linked after (Ok tt) → IsSent None (counted h.container)
      sent_on law moment submits = sent_taken limits w old d of store new now along w.store k h.container h.client is.container stands law kind contents linked after client moment told_doc told_now submits

      refused_on : SubmitsAsDefined → linked.moment ≡ w.moment → (nack : Nack) → calls.Submits submission_on linked after (Err (loads.Refused nack)) → IsSent (Some nack.rule) h.container
      refused_on law moment nack submits = sent_nacked limits w old d of store new now along w.store k h.container h.client is.container stands law kind contents linked after client moment told_doc told_now nack submits

      based_sent : (refused : Option NackRule) (c : AContainer) → IsSent refused c → IsBased w.store left
      based_sent refused c sent = subst (λ held. IsBased held left) sent.same_held (based_then sent.document (told_now ∙ sent.tells))

      -- the step of a submission that was taken, by how the container is then
      taken_steps : (after_k : Container) (counts : AContainer) (line text : List ℕ) (sent : IsSent None counts) → after_k.document ≡ k.document → IsContainerOf (ledger_of (with_raws d sent.entries)) h.client left after_k → text ≡ line
          → LaneStepped limits (submitted w p k after_k line (submitting limits w l k kind contents)) d k p new now (record h { container = left }) text
      taken_steps after_k counts line text sent document is_so says =
          subst (λ s. LaneStepped limits (submitted w p k after_k line s) d k p new now (record h { container = left }) text) (sym sent.is) (record {
            stands = sent.stands;
            held = sent.held_now;
            now = after_k;
            name = inl refl;
            same = document;
            holder = record { document = is.document ∙ sym document; container = is_so; based = based_sent None counts sent };
            says = ap (λ t. t ∷ []) (sym says);
          })

      -- and of one that was refused
      refused_steps : (after_k : Container) (rule : NackRule) (line text : List ℕ) (sent : IsSent (Some rule) h.container) → left ≡ h.container → text ≡ lines.refused_line p rule
          → LaneStepped limits (submitted w p k after_k line (submitting limits w l k kind contents)) d k p new now (record h { container = left }) text
      refused_steps after_k rule line text sent leaves says =
          subst (λ s. LaneStepped limits (submitted w p k after_k line s) d k p new now (record h { container = left }) text) (sym sent.is) (record {
            stands = sent.stands;
            held = sent.held_now;
            now = k;
            name = inl refl;
            same = refl;
            holder = record {
              document = is.document;
              container = subst (λ c. IsContainerOf (ledger_of (with_raws d sent.entries)) h.client c k) (sym leaves) sent.container;
              based = based_sent (Some rule) h.container sent;
            };
            says = ap (λ t. t ∷ []) (sym says);
          })

    -- ---- beat

    abbrev Beats : Result (List ℕ) Stop → Type 0
    Beats result = LaneSteps limits (steps.beaten limits w d p k) d k p new now (record h { container = left }) result

    -- only want of memory is left
    wants_beat : (result : Result (List ℕ) Stop) → result ≡ Err NoMemory → Beats result
    wants_beat result says = subst Beats (sym says) tt

    pub beats : SubmitsAsDefined → linked.moment ≡ w.moment → (answer : Result (Unit {0}) LoadFault) (result : Result (List ℕ) Stop) → left ≡ counted_by h.container answer → calls.Submits (noop_of h.container) linked after answer
        → SaysBeaten p left.number answer result → Beats result
    beats law moment (Ok done) (Ok line) leaves submits says =
        let sent = sent_on offered.Noop null law moment submits in
        let is_so = subst (λ c. IsContainerOf (ledger_of (with_raws d sent.entries)) h.client c k) (sym leaves) sent.container in
        taken_steps offered.Noop null k (counted h.container) (lines.beat_line p k.number) line sent refl is_so (says ∙ ap (lines.beat_line p) is_so.number)
    beats law moment (Ok done) (Err stop) leaves submits says = wanting_honest _ stop says
    beats law moment (Err (loads.Refused nack)) (Ok line) leaves submits says =
        refused_steps offered.Noop null k nack.rule (lines.beat_line p k.number) line (refused_on offered.Noop null law moment nack submits) leaves says
    beats law moment (Err (loads.Refused nack)) (Err stop) leaves submits says = wanting_honest _ stop says
    beats law moment (Err (loads.LinkFailed note)) result leaves submits says = wants_beat result says
    beats law moment (Err loads.NoSummary) result leaves submits says = wants_beat result says
    beats law moment (Err (loads.BadSummary path)) result leaves submits says = wants_beat result says
    beats law moment (Err (loads.Edit fault)) result leaves submits says = wants_beat result says
    beats law moment (Err loads.NoMemory) result leaves submits says = wants_beat result says
    beats law moment (Err (loads.Clash id kept bytes)) result leaves submits says = wants_beat result says

    -- ---- edit

    module _ (edit : Edit) where
      abbrev EditsSo : Result (List ℕ) Stop → Type 0
      EditsSo result = LaneSteps limits (steps.edited limits w d p k edit) d k p new now (record h { container = left }) result

      wants_edit : (result : Result (List ℕ) Stop) → result ≡ Err NoMemory → EditsSo result
      wants_edit result says = subst EditsSo (sym says) tt

      -- the container shows what the world's does
      shown_is : shown_channels h.container ≡ visible l k
      shown_is = ap (λ c. replay_edits c h.container.pending) is.container.channels_are ∙ ap (replay_edits (steps.channels l k)) is.container.pending

      -- the answer to the edit is the world's
      by_answer : (answer : Result Tree EditFault) (text : List ℕ) → refused.answer (shown_channels h.container) edit ≡ answer
          → LaneStepped limits (steps.edited_by limits w l p k edit answer) d k p new now (record h { container = left }) text
          → LaneStepped limits (steps.edited limits w d p k edit) d k p new now (record h { container = left }) text
      by_answer answer text said stepped =
          subst (λ a. LaneStepped limits (steps.edited_by limits w l p k edit a) d k p new now (record h { container = left }) text) (sym said ∙ ap (λ c. refused.answer c edit) shown_is) stepped

      refused_edit : (fault : EditFault) (line : List ℕ) → refused.answer (shown_channels h.container) edit ≡ Err fault → IsUndone h.container left linked after → line ≡ lines.edit_fault_line p fault
          → LaneStepped limits (steps.edited limits w d p k edit) d k p new now (record h { container = left }) line
      refused_edit fault line said undone says =
          let same : after.told ≡ linked.told = ap (λ (x : Linked). x.told) undone.link in
          let lane = same_lane same in
          by_answer (Err fault) line said (record {
            stands = lane.1;
            held = lane.0;
            now = k;
            name = inr (refl, refl);
            same = refl;
            holder = record {
              document = is.document;
              container = none_more (λ m. IsContainerOf m h.client left k) (subst (λ c. IsContainerOf l h.client c k) (sym undone.container) is.container);
              based = same_based same;
            };
            says = ap (λ t. t ∷ []) (sym says);
          })

      -- its edit is on its way in both
      laid_over : (m : Ledger) → IsContainerOf m h.client (counted h.container) k → IsContainerOf m h.client (with_edit h.container edit) (record k { pending = k.pending ++ edit ∷ [] })
      laid_over m is_so = record {
        client_is = is_so.client_is;
        number = is_so.number;
        channels_are = is_so.channels_are;
        pending = ap (λ pending. pending ++ edit ∷ []) is_so.pending;
        last_is = is_so.last_is;
        head_is = is_so.head_is;
        known = is_so.known;
      }

      taken_edit : SubmitsAsDefined → linked.moment ≡ w.moment → (line : List ℕ) → Edits h.container left edit linked after (Ok tt) → line ≡ lines.edited_line p
          → LaneStepped limits (steps.edited limits w d p k edit) d k p new now (record h { container = left }) line
      taken_edit law moment line edits says =
          let contents = contents_of edit in
          let sent = sent_on offered.Op contents law moment edits.submits in
          let after_k : Container = record k { pending = k.pending ++ edit ∷ [] } in
          let m : Ledger = ledger_of (with_raws d sent.entries) in
          let is_so : IsContainerOf m h.client left after_k = subst (λ c. IsContainerOf m h.client c after_k) (sym edits.leaves) (laid_over m sent.container) in
          by_answer (Ok contents) line edits.allowed (taken_steps offered.Op contents after_k (counted h.container) (lines.edited_line p) line sent refl is_so says)

      nacked_edit : SubmitsAsDefined → linked.moment ≡ w.moment → (nack : Nack) (line : List ℕ) → Edits h.container left edit linked after (Err (loads.Refused nack)) → line ≡ lines.refused_line p nack.rule
          → LaneStepped limits (steps.edited limits w d p k edit) d k p new now (record h { container = left }) line
      nacked_edit law moment nack line edits says =
          let contents = contents_of edit in
          by_answer (Ok contents) line edits.allowed
          (refused_steps offered.Op contents (record k { pending = k.pending ++ edit ∷ [] }) nack.rule (lines.edited_line p) line (refused_on offered.Op contents law moment nack edits.submits) edits.leaves says)

      pub edits_so : SubmitsAsDefined → linked.moment ≡ w.moment → (answer : Result (Unit {0}) LoadFault) (result : Result (List ℕ) Stop) → EditDoes h.container left edit linked after answer → SaysEdited p answer result → EditsSo result
      edits_so law moment (Ok done) (Ok line) does says = taken_edit law moment line does says
      edits_so law moment (Ok done) (Err stop) does says = wanting_honest _ stop says
      edits_so law moment (Err (loads.Edit fault)) (Ok line) does says = refused_edit fault line does.0 does.1 says
      edits_so law moment (Err (loads.Edit fault)) (Err stop) does says = wanting_honest _ stop says
      edits_so law moment (Err (loads.Refused nack)) (Ok line) does says = nacked_edit law moment nack line does says
      edits_so law moment (Err (loads.Refused nack)) (Err stop) does says = wanting_honest _ stop says
      edits_so law moment (Err (loads.LinkFailed note)) result does says = wants_edit result says
      edits_so law moment (Err loads.NoSummary) result does says = wants_edit result says
      edits_so law moment (Err (loads.BadSummary path)) result does says = wants_edit result says
      edits_so law moment (Err loads.NoMemory) result does says = wants_edit result says
      edits_so law moment (Err (loads.Clash id kept bytes)) result does says = wants_edit result says

-- ---- behind a link

-- lane and store as the link has them are those that are left
module _ (good : Bool) (is_good : good ≡ true) (limits : Limits) (w : World) (old : Standing) (d : Document) (of : IsLaneOf limits old d) (store : Storing) (holds : store.content ≡ Some w.store) (new : Standing) (now : Storing)
    (along : IsAlong true old store (record { lane = new; store = now; stop = None })) (k : Container) (h : Holder) (is : IsHolderIn (ledger_of d) w.store h k) (stands : Stands (ledger_of d) k) (p : List ℕ)
    (linked after : Linked) (client : linked.client ≡ h.client) (told : linked.told ≡ told_by true old store) (one : Standing) (kept : Storing) (shows : after.told ≡ told_by good one kept) (lanes : one ≡ new) (stores : kept ≡ now)
    (left : AContainer) (stays : StaysBehind h.container left linked after) where
  told_then : after.told ≡ told_by true new now
  told_then = shows ∙ told_good good is_good one new kept now lanes stores

  pub pumps_left : TakesInAsDefined → (answer : Result ℕ LoadFault) (result : Result (List ℕ) Stop) → PumpDoes h.container left linked after answer → SaysPumped p answer result
      → LaneSteps limits (steps.pumped w d p k) d k p new now (record h { container = left }) result
  pumps_left law answer result does says = pumps limits w old d of store holds new now along k h is stands p linked after client told told_then left stays law answer result does says

  pub beats_left : SubmitsAsDefined → linked.moment ≡ w.moment → (answer : Result (Unit {0}) LoadFault) (result : Result (List ℕ) Stop) → left ≡ counted_by h.container answer → calls.Submits (noop_of h.container) linked after answer
      → SaysBeaten p left.number answer result → LaneSteps limits (steps.beaten limits w d p k) d k p new now (record h { container = left }) result
  beats_left law moment answer result leaves submits says = beats limits w old d of store holds new now along k h is stands p linked after client told told_then left stays law moment answer result leaves submits says

  pub edits_left : (edit : Edit) → SubmitsAsDefined → linked.moment ≡ w.moment → (answer : Result (Unit {0}) LoadFault) (result : Result (List ℕ) Stop) → EditDoes h.container left edit linked after answer → SaysEdited p answer result
      → LaneSteps limits (steps.edited limits w d p k edit) d k p new now (record h { container = left }) result
  edits_left edit law moment answer result does says = edits_so limits w old d of store holds new now along k h is stands p linked after client told told_then left stays edit law moment answer result does says

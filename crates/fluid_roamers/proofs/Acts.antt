-- The steps of a roamer on the lane of its document: what they do is what the world's table says.
use Rattle.std.proofs.Common.{◌≡◌, inl, inr, ℕ, ◌+◌, Bool, true, false, if◌then◌else◌, List, [], ◌∷◌, ◌++◌, length, drop, Option, Some, None, is_some, Result, Ok, Err, refl, sym, ap, subst, ◌∙◌, append-nil}
use Rattle.fluid_types.specs.Ledger.{Ledger, order}
use Rattle.fluid_types.specs.Names.{entry_name}
use Rattle.fluid_types.specs.declared.entries.Raw.{Raw}
use Rattle.fluid_types.specs.declared.entries.Raw.TheVariants.{Leave}
use Rattle.fluid_types.specs.declared.nacks.NackRule.{NackRule}
use Rattle.fluid_rules.specs.Past.{has_id}
use Rattle.fluid_rules.specs.Rules.{verdict, client, ledger as ledger_by_rules}
use Rattle.fluid_rules.specs.declared.limits.Limits.{Limits}
use Rattle.fluid_rules.proofs.Legal.{ledger-legal}
use Rattle.fluid_edits.specs.declared.edit.Edit.{Edit}
use Rattle.fluid_edits.specs.Forms.{contents_of}
use Rattle.fluid_edits.specs.Replay.{replay_edits}
use Rattle.fluid_json.specs.Tree.{Tree}
use Rattle.fluid_runtime.specs.Refused.{answer}
use Rattle.fluid_runtime.specs.declared.fault.EditFault.{EditFault}
use Rattle.fluid_runtime.specs.declared.fault.EditFault.TheVariants as edits
use Rattle.fluid_voice.specs.declared.ends.ActEnd.TheVariants.{Entered}
use Rattle.fluid_lane.specs.Standing.{Standing}
use Rattle.fluid_outbox.specs.Past.{Past, heard_to, ids}
use Rattle.fluid_outbox.specs.Kept.{Stands as OutboxStands}
use Rattle.fluid_transcript.specs.World.{World, Document, Roamer as ARoamer, Effect, grown, ledger_of, with_entries, says}
use Rattle.fluid_transcript.specs.Lines as lines
use Rattle.fluid_transcript.specs.Containers.{channels as channels_of, visible, refusal_in, join_for, joining, join_refusal, joined_for, line_for, Submitted}
use Rattle.fluid_transcript.specs.Roamers as steps
use Rattle.fluid_transcript.specs.Roamers.{heard_all, begun, behind_join}
use Rattle.fluid_voice.specs.declared.refusals.ConnectRefusal.{ConnectRefusal}
use Rattle.fluid_holding.specs.Laws.{Stands, TakesInAsDefined, LoadsAsDefined}
use Rattle.fluid_desk.specs.declared.stop.Stop.{Stop}
use Rattle.fluid_desk.specs.declared.stop.Stop.TheVariants.{NoMemory}
use Rattle.fluid_desk.specs.Acting.{IsLine}
use Rattle.fluid_desk.specs.Stands.{IsLaneOf}
use Rattle.fluid_desk.specs.Stopping.{IsHonest, steps_on}
use Rattle.fluid_desk.proofs.Honest.{grown_steps, honest_more}
use Rattle.fluid_desk.proofs.Laned.{same as same_lane}
use Rattle.fluid_containers.specs.Joining.{HasJoined, joined_to}
use Rattle.fluid_roamers.specs.Roaming.{IsRoaming, IsRoamerIn}
use Rattle.fluid_roamers.specs.Stepping.{LaneSteps, LaneRoamed, LaneRoams, IsRefusedFor, IsUnsaid}
use Rattle.fluid_roamers.specs.Entering.{HasEntered, entered_on}
use Rattle.fluid_roamers.specs.Sending.{SentFirst, op_on, lost_if}
use Rattle.fluid_roamers.specs.Taking.{Begins, HearsLane, IsRefused, LaysOver, TakesClient, TakesIn}
use Rattle.fluid_roamers.specs.declared.roamer.Roamer.{Roamer}
use Rattle.fluid_roamers.proofs.Hears.{hears_all}
use Rattle.fluid_roamers.proofs.Roaming.{turns, at_rest}
use Rattle.fluid_roamers.proofs.Begun.{begun_ready, begun_fresh}

none_heard : heard_to [] ≡ 0
unfolding heard_to
none_heard = refl

first_same : (a b : Edit) (xs ys : List Edit) → a ∷ xs ≡ b ∷ ys → a ≡ b
first_same a b xs ys is = cc

rest_same : (a b : Edit) (xs ys : List Edit) → a ∷ xs ≡ b ∷ ys → xs ≡ ys
rest_same a b xs ys is = cc

-- only want of memory is left of a line
pub wants_line : (n : ℕ) (stop : Stop) → stop ≡ NoMemory → IsHonest n stop
wants_line n stop is = subst (IsHonest n) (sym is) tt

-- what hindered a call is no matter of the step
pub stops_step : (e : Effect) (d : Document) (lane : Standing) (stop : Stop) → IsHonest (steps_on d lane) stop → IsHonest (steps_on (grown e d) lane) stop
stops_step e d lane stop honest = honest_more (steps_on d lane) (steps_on (grown e d) lane) stop (grown_steps e d lane) honest

-- entries behind entries, with as many checkpoints
grown_as : (limits : Limits) (s : Standing) (d : Document) (raws more : List Raw) → raws ≡ more → IsLaneOf limits s (with_entries raws d) → IsLaneOf limits s (record { raws = d.raws ++ more; checkpoints = d.checkpoints ++ [] })
grown_as limits s d raws more is of =
    subst (λ es. IsLaneOf limits s (record { raws = d.raws ++ es; checkpoints = d.checkpoints ++ [] })) is
    (subst (λ cs. IsLaneOf limits s (record { raws = d.raws ++ raws; checkpoints = cs })) (sym (append-nil d.checkpoints)) of)

-- ---- acked

module _ (law : TakesInAsDefined) (limits : Limits) (w : World) (d : Document) (r : List ℕ) (k : ARoamer) (h new : Roamer) (is : IsRoamerIn (ledger_of d) h k) (stands : Stands (ledger_of d) k.client) (lane : Standing)
    (heard : HearsLane limits d is.past lane h new) where
  now_roams : IsRoamerIn (ledger_of d) new (heard_all (ledger_of d) k)
  now_roams = hears_all law (ledger_of d) (ledger-legal d.raws) h new k [] is stands heard.takes

  pub acked_steps : (result : Result (List ℕ) Stop) → IsLine (lines.acked_line r new.outbox.acknowledged new.edits) result → LaneSteps limits (steps.acked w d r k) d k r lane new result
  acked_steps (Ok text) line = record {
    stands = same_lane limits lane d heard.stands;
    now = heard_all (ledger_of d) k;
    name = inl refl;
    same = refl;
    roams = subst (λ raws. IsRoamerIn (ledger_by_rules raws) new (heard_all (ledger_of d) k)) (sym (append-nil d.raws)) now_roams;
    says = ap (λ t. t ∷ []) (sym (line ∙ ap (λ n. lines.acked_line r n new.edits) (now_roams.outbox.counted ∙ now_roams.stood) ∙ ap (lines.acked_line r (heard_all (ledger_of d) k).stood) now_roams.edits_are));
  }
  acked_steps (Err stop) line = wants_line (steps_on (grown (steps.acked w d r k) d) lane) stop line

-- ---- roam

module _ (limits : Limits) (w : World) (d : Document) (r name : List ℕ) where
  pub roamed_is : (refusal : Option ConnectRefusal) → join_refusal (joining limits w (ledger_of d)) ≡ refusal → steps.roamed limits w d r name ≡ steps.roamed_by w d r name refusal
  roamed_is refusal is = ap (steps.roamed_by w d r name) is

  -- nobody joined
  pub roam_refused : (refusal : ConnectRefusal) (lane : Standing) → join_refusal (joining limits w (ledger_of d)) ≡ Some refusal → IsLaneOf limits lane (joined_to limits w d) → (line : List ℕ) → line ≡ lines.turned_away_line r refusal
      → LaneRoamed limits (steps.roamed limits w d r name) d r name lane line None
  roam_refused refusal lane refused of line is =
      subst (λ e. LaneRoamed limits e d r name lane line None) (sym (roamed_is (Some refusal) refused)) (record {
        stands = subst (λ raws. IsLaneOf limits lane (record { raws = d.raws ++ raws; checkpoints = d.checkpoints ++ [] })) (ap (λ o. if is_some o then [] else join_for w (ledger_of d) ∷ []) refused) of;
        begins = refl;
        says = ap (λ t. t ∷ []) (sym is);
      })

  pub roams_refused : (refusal : ConnectRefusal) (lane : Standing) → join_refusal (joining limits w (ledger_of d)) ≡ Some refusal → IsLaneOf limits lane (joined_to limits w d) → (result : Result (List ℕ × Option Roamer) Stop)
      → IsRefusedFor r refusal result → LaneRoams limits (steps.roamed limits w d r name) d r name lane result
  roams_refused refusal lane refused of (Ok made) is =
      subst (λ o. LaneRoamed limits (steps.roamed limits w d r name) d r name lane made.0 o) (sym is.1) (roam_refused refusal lane refused of made.0 is.0)
  roams_refused refusal lane refused of (Err stop) is = wants_line (steps_on (grown (steps.roamed limits w d r name) d) lane) stop is

-- a client joined, and its roamer heard all
module _ (law : LoadsAsDefined) (limits : Limits) (w : World) (d : Document) (r name client : List ℕ) (joined : HasJoined limits w d client) where
  joined_is : joined_for limits w d ≡ join_for w (ledger_of d) ∷ []
  joined_is = ap (λ o. if is_some o then [] else join_for w (ledger_of d) ∷ []) joined.taken

  same_ledger : ledger_of (joined_to limits w d) ≡ behind_join w d
  same_ledger = ap (λ raws. ledger_by_rules (d.raws ++ raws)) joined_is

  pub roam_as : (lane : Standing) (first h new : Roamer) (client_is : List ℕ) → Begins name client_is first → client_is ≡ client → HearsLane limits (joined_to limits w d) [] lane first h
      → ((past : Past) → OutboxStands h.outbox past → has_id client (ids past) ≡ false → TakesClient past client h new) → (line : List ℕ) (number : ℕ) → number ≡ new.outbox.heard_to → line ≡ lines.roams_line r name new.client number
      → LaneRoamed limits (steps.roamed limits w d r name) d r name lane line (Some new)
  roam_as lane first h new client_is begins same hears turned line number number_is is =
      let own : client_is ≡ entry_name (length d.raws) = same ∙ joined.client_is in
      let begins_own : Begins name (entry_name (length d.raws)) first = subst (λ c. Begins name c first) own begins in
      let takes : TakesIn [] (order (behind_join w d)) first h = subst (λ n. TakesIn [] (drop n (order (behind_join w d))) first h) (begins.outbox.heard ∙ none_heard) (subst (λ l. TakesIn [] (drop first.outbox.heard_to (order l)) first h) same_ledger hears.takes) in
      let ready = begun_ready law limits w d name joined.message joined.taken joined.sequenced first h begins_own takes in
      let roams : IsRoamerIn (behind_join w d) new (begun w d name) = turns (behind_join w d) h new (begun w d name) ready (subst (λ c. TakesClient ready.past c h new) joined.client_is (turned ready.past ready.outbox (begun_fresh law limits w d name joined.message joined.taken joined.sequenced first h begins_own takes client))) in
      subst (λ e. LaneRoamed limits e d r name lane line (Some new)) (sym (roamed_is limits w d r name None joined.taken)) (record {
        stands = subst (λ raws. IsLaneOf limits lane (record { raws = d.raws ++ raws; checkpoints = d.checkpoints ++ [] })) joined_is hears.stands;
        begins = (begun w d name, (refl, (refl, roams)));
        says =
            ap (λ t. t ∷ []) (sym (is ∙ ap (λ c. lines.roams_line r name c number) roams.container.client_is
            ∙ ap (lines.roams_line r name (entry_name (length d.raws))) (number_is ∙ roams.outbox.heard ∙ roams.heard)));
      })

  -- what hindered it is no matter of the step
  pub roam_honest : (lane : Standing) (stop : Stop) → IsHonest (steps_on (joined_to limits w d) lane) stop → IsHonest (steps_on (grown (steps.roamed limits w d r name) d) lane) stop
  roam_honest lane stop honest =
      subst (λ e. IsHonest (steps_on (grown e d) lane) stop) (sym (roamed_is limits w d r name None joined.taken))
      (subst (λ raws. IsHonest (steps_on (record { raws = d.raws ++ raws; checkpoints = d.checkpoints ++ [] }) lane) stop) joined_is honest)

-- ---- say

module _ (limits : Limits) (w : World) (d : Document) (r : List ℕ) (k : ARoamer) (h : Roamer) (is : IsRoamerIn (ledger_of d) h k) (edit : Edit) where
  abbrev l : Ledger
  l = ledger_of d

  abbrev SaysSo : Standing → Roamer → Result (List ℕ) Stop → Type 0
  SaysSo lane new result = LaneSteps limits (steps.said limits w d r k edit) d k r lane new result

  -- what is answered to the edit is the world's answer
  shown_is : replay_edits h.app.channels h.app.pending ≡ visible l k.client
  shown_is =
      ap (λ c. replay_edits c h.app.pending) (is.channels ∙ is.container.channels_are)
      ∙ ap (replay_edits (channels_of l k.client)) is.pending

  by_answer : (a : Result Tree EditFault) → answer (replay_edits h.app.channels h.app.pending) edit ≡ a → steps.said limits w d r k edit ≡ steps.said_by limits w l r k edit a
  by_answer a said = ap (steps.said_by limits w l r k edit) (ap (λ c. answer c edit) (sym shown_is) ∙ said)

  pub refused_edit : (lane : Standing) (new : Roamer) (fault : EditFault) → IsLaneOf limits lane d → IsRefused h edit new fault → (result : Result (List ℕ) Stop) → IsLine (lines.edit_fault_line r fault) result → SaysSo lane new result
  refused_edit lane new fault of refused result line =
      subst (λ e. LaneSteps limits e d k r lane new result) (sym (by_answer (Err fault) refused.why)) (by result line)
    where
      by : (a : Result (List ℕ) Stop) → IsLine (lines.edit_fault_line r fault) a → LaneSteps limits (steps.said_by limits w l r k edit (Err fault)) d k r lane new a
      by (Ok text) line = record {
        stands = same_lane limits lane d of;
        now = k;
        name = inr (refl, refl);
        same = refl;
        roams = subst (λ raws. IsRoamerIn (ledger_by_rules raws) new k) (sym (append-nil d.raws)) (subst (λ x. IsRoamerIn l x k) (sym refused.same) is);
        says = ap (λ t. t ∷ []) (sym line);
      }
      by (Err stop) line = wants_line (steps_on (grown (steps.said_by limits w l r k edit (Err fault)) d) lane) stop line

  -- by why it isn't laid over
  pub unsaid_steps : (lane : Standing) (new : Roamer) (past : Past) (fault : EditFault) → IsLaneOf limits lane d → LaysOver past h edit new (Err fault) → (result : Result (List ℕ) Stop) → IsUnsaid r fault result → SaysSo lane new result
  unsaid_steps lane new past edits.NoMemory of over result said = subst (SaysSo lane new) (sym said) tt
  unsaid_steps lane new past edits.NoChannel of over result said = refused_edit lane new edits.NoChannel of over result said
  unsaid_steps lane new past edits.WrongKind of over result said = refused_edit lane new edits.WrongKind of over result said
  unsaid_steps lane new past edits.OutOfRange of over result said = refused_edit lane new edits.OutOfRange of over result said
  unsaid_steps lane new past edits.Exists of over result said = refused_edit lane new edits.Exists of over result said

  -- behind an edit that was laid over
  pub laid : (lane : Standing) (new : Roamer) (result : Result (List ℕ) Stop) → answer (replay_edits h.app.channels h.app.pending) edit ≡ Ok (contents_of edit)
      → LaneSteps limits (steps.laid_over limits w l r k edit (contents_of edit) k.is_lost) d k r lane new result → SaysSo lane new result
  laid lane new result allowed did = subst (λ e. LaneSteps limits e d k r lane new result) (sym (by_answer (Ok (contents_of edit)) allowed)) did

-- an edit that was laid over: it is sent, unless the roamer is lost
module _ (limits : Limits) (w : World) (d : Document) (r : List ℕ) (k : ARoamer) (edit : Edit) (lane : Standing) (new : Roamer) where
  abbrev LaidSo : Bool → Result (List ℕ) Stop → Type 0
  LaidSo is_lost result = LaneSteps limits (steps.laid_over limits w (ledger_of d) r k edit (contents_of edit) is_lost) d k r lane new result

  abbrev more : ARoamer
  more = steps.with_edit k edit

  -- it waits
  pub waits : k.is_lost ≡ true → IsLaneOf limits lane d → IsRoaming (ledger_of d) new more (edit ∷ []) → (result : Result (List ℕ) Stop) → IsLine (lines.said_line r (steps.edits k)) result → LaidSo k.is_lost result
  waits gone of roams result line = subst (λ b. LaidSo b result) (sym gone) (by result line)
    where
      by : (a : Result (List ℕ) Stop) → IsLine (lines.said_line r (steps.edits k)) a → LaidSo true a
      by (Ok text) line = record {
        stands = same_lane limits lane d of;
        now = more;
        name = inl refl;
        same = refl;
        roams = subst (λ raws. IsRoamerIn (ledger_by_rules raws) new more) (sym (append-nil d.raws)) (at_rest (ledger_of d) new more (edit ∷ []) gone roams);
        says = ap (λ t. t ∷ []) (sym line);
      }
      by (Err stop) line = wants_line (steps_on (grown (steps.laid_over limits w (ledger_of d) r k edit (contents_of edit) true) d) lane) stop line

  -- it was sent
  abbrev op : Submitted
  op = op_on limits w d more edit

  module _ (still : k.is_lost ≡ false) (rule : Option NackRule) (sent : SentFirst limits w d more (edit ∷ []) lane new rule) where
    first_is : sent.first ≡ edit
    first_is = sym (first_same edit sent.first [] sent.more sent.are)

    none_more : sent.more ≡ []
    none_more = sym (rest_same edit sent.first [] sent.more sent.are)

    refused_is : op.refused ≡ rule
    refused_is = ap (λ e. (op_on limits w d more e).refused) (sym first_is) ∙ sent.refused

    roams_then : IsRoamerIn (ledger_of (with_entries op.entries d)) new (lost_if rule more)
    roams_then = subst (λ e. IsRoamerIn (ledger_of (with_entries (op_on limits w d more e).entries d)) new (lost_if rule more)) first_is
        (subst (IsRoaming (ledger_of (with_entries (op_on limits w d more sent.first).entries d)) new (lost_if rule more)) none_more sent.roams)

    sent_by : (a : Result (List ℕ) Stop) → IsLine (line_for r (lines.said_line r (steps.edits k)) rule) a → LaidSo false a
    sent_by (Ok text) line = record {
      stands = grown_as limits lane d op.entries op.entries refl (subst (λ e. IsLaneOf limits lane (with_entries (op_on limits w d more e).entries d)) first_is sent.stands);
      now = lost_if op.refused more;
      name = inl refl;
      same = refl;
      roams = subst (λ x. IsRoamerIn (ledger_of (with_entries op.entries d)) new (lost_if x more)) (sym refused_is) roams_then;
      says = ap (λ t. t ∷ []) (ap (line_for r (lines.said_line r (steps.edits k))) refused_is ∙ sym line);
    }
    sent_by (Err stop) line = wants_line (steps_on (grown (steps.laid_over limits w (ledger_of d) r k edit (contents_of edit) false) d) lane) stop line

    pub sent_so : (result : Result (List ℕ) Stop) → IsLine (line_for r (lines.said_line r (steps.edits k)) rule) result → LaidSo k.is_lost result
    sent_so result line = subst (λ b. LaidSo b result) (sym still) (sent_by result line)

-- ---- back

-- a leave is never refused by a full document
module _ (limits : Limits) (d : Document) (id : List ℕ) (moment : ℕ) where
  leave_is : entered_on limits d (Leave id moment) ≡ record { entries = Leave id moment ∷ []; refused = refusal_in (Entered (verdict (ledger_of d) (Leave id moment))) }
  leave_is = refl

  pub leave_stands : (lane : Standing) (rule : Option NackRule) → HasEntered limits d (Leave id moment) lane rule → IsLaneOf limits lane (with_entries (Leave id moment ∷ []) d)
  leave_stands lane rule entered = subst (λ (s : Submitted). IsLaneOf limits lane (with_entries s.entries d)) leave_is entered.stands

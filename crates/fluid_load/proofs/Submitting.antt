-- What a container enters when it edits or summarizes is neither absorbed nor dropped.
use Rattle.std.proofs.Common.{◌≡◌, ◌⊎◌, inl, inr, ℕ, pos, ◌+◌, arith, Bool, true, false, ◌&&◌, cond, List, [], ◌∷◌, ◌++◌, Option, Some, None, Result, Ok, Err, bytes_eq, refl, sym, ap, subst, ◌∙◌, append-nil}
use Rattle.std.specs.Prelude.{if◌then◌else◌, IfSome, is_some, option_and_then, nat_le, ◌||◌}
use Rattle.std.specs.FinMap.{get}
use Rattle.std.proofs.lemmas.Slice.Eq.{bytes_eq-Decides}
use Rattle.fluid_table.specs.Table.{Values}
use Rattle.fluid_json.specs.Tree.{Tree, is_null}
use Rattle.fluid_types.specs.Ledger.{Ledger}
use Rattle.fluid_types.specs.declared.entries.Raw.{Raw}
use Rattle.fluid_types.specs.declared.entries.Raw.TheVariants.{Submit}
use Rattle.fluid_types.specs.declared.entries.Submission.{Submission}
use Rattle.fluid_types.specs.declared.entries.Offered.{Offered}
use Rattle.fluid_types.specs.declared.entries.Offered.TheVariants.{Op, Summarize as Summarizing}
use Rattle.fluid_types.specs.declared.messages.Message.{Message}
use Rattle.fluid_types.specs.declared.nacks.Nack.{Nack}
use Rattle.fluid_types.specs.declared.nacks.NackRule.{NackRule}
use Rattle.fluid_types.specs.declared.nacks.NackRule.TheVariants as rule
use Rattle.fluid_types.specs.declared.verdicts.Verdict.{Verdict}
use Rattle.fluid_types.specs.declared.verdicts.Verdict.TheVariants as said
use Rattle.fluid_rules.specs.Cases.{first_case}
use Rattle.fluid_rules.specs.Rules as rules
use Rattle.fluid_rules.specs.Rules.{is_noop, sequenced, message, nack, verdict, submission_verdict, ledger, is_duplicate, leaves_gap, is_nonexistent, is_below_minimum, is_ahead, lacks_scope, lifted, last_minimum, IsLegal}
use Rattle.fluid_rules.specs.declared.limits.Limits.{Limits}
use Rattle.fluid_rules.proofs.Legal.{ledger-legal, legal-push}
use Rattle.fluid_edits.specs.declared.edit.Edit.{Edit}
use Rattle.fluid_runtime.specs.declared.fault.EditFault.{EditFault}
use Rattle.fluid_runtime.specs.Refused.{answer}
use Rattle.fluid_lanes.specs.Opened.{Opened}
use Rattle.fluid_store.specs.Putting.{Putting, Clashing, putting}
use Rattle.fluid_store.specs.Listed.{objects}
use Rattle.fluid_runtime.specs.AppTree.{app_tree}
use Rattle.fluid_steps.specs.declared.refusal.LineWhy.{LineWhy}
use Rattle.fluid_store.specs.Storing.{Storing}
use Rattle.fluid_steps.specs.declared.steps.Step.{Step}
use Rattle.fluid_steps.specs.declared.steps.Step.TheVariants as step
use Rattle.fluid_voice.specs.declared.ends.ActEnd.{ActEnd}
use Rattle.fluid_voice.specs.declared.ends.ActEnd.TheVariants as end
use Rattle.fluid_voice.specs.Ends.{entry_end}
use Rattle.fluid_transcript.specs.World.{Container, Name, connection, container, roamer, used_up, World, Told, Document, document, is_open, ledger_of, Effect, grown, changed, does}
use Rattle.fluid_loader.specs.Container.{AContainer}
use Rattle.fluid_loader.specs.Submitting.{summarize_tree}
use Rattle.fluid_transcript.specs.Containers.{id_of, last, channels, head, app_id, submission_of, entry_of, submitted_as, submitting, edited, edited_by, summarized, summarized_by, visible}
use Rattle.fluid_transcript.specs.Steps.{refusal, about, effect, container_in, container_of, on_container}
use Rattle.fluid_transcript.specs.Transcript.{done, done_in, done_on}
use Rattle.fluid_transcript.specs.Sound.{ledger_in, IsSoundContainer, IsSoundName}
use Rattle.fluid_transcript.proofs.Fitting.{length_ledger}
use Rattle.fluid_desk.proofs.Opening.{open_is_no_more, readied_same}
use Rattle.fluid_desk.proofs.Doing.{done_within}
use Rattle.fluid_containers.specs.Holders.{IsHolderOf}
use Rattle.fluid_containers.specs.declared.holder.Holder.{Holder}
use Rattle.fluid_transcript.proofs.Begins.{ledger_more}
use Rattle.fluid_transcript.proofs.Sounds.{document_inserted, document_own}
use Rattle.fluid_holding.specs.Laws.{Stands, SubmitsAsDefined}
use Rattle.fluid_holding.specs.Holding.{IsContainerOf}
use Rattle.fluid_workload.specs.Working.{work, behind_step}
use Rattle.fluid_voice.specs.Replies.{is_dropped}
use Rattle.fluid_workload.specs.Summary.{is_absorbed}
use Rattle.fluid_world.specs.declared.named.Named.{Named}
use Rattle.fluid_world.specs.declared.named.Named.TheVariants as a
use Rattle.fluid_world.specs.Standing.{IsNamed, WorldStands}
use Rattle.fluid_load.specs.Quiet.{GoesSubmitting, Submits}

-- ---- what isn't a noop isn't absorbed

cases : (a b c d e f g : Bool) (n : NackRule → Nack) (o : Option Message) → g ≡ false
    → is_absorbed
    (first_case ((a, said.Dropped) ∷ (b, said.Nacked (n rule.Gap)) ∷ (c, said.Nacked (n rule.Nonexistent)) ∷ (d, said.Nacked (n rule.Below)) ∷ (e, said.Nacked (n rule.Ahead)) ∷ (f, said.Nacked (n rule.Scope)) ∷ (g, said.Absorbed) ∷ []) (sequenced o))
    ≡ false
cases true b c d e f g n o h = refl
cases false true c d e f g n o h = refl
cases false false true d e f g n o h = refl
cases false false false true e f g n o h = refl
cases false false false false true f g n o h = refl
cases false false false false false true g n o h = refl
cases false false false false false false true n o h = absurd (cc)
cases false false false false false false false n None h = refl
cases false false false false false false false n (Some m) h = refl

-- ---- a container's submission

module _ (submits : SubmitsAsDefined) (l : Ledger) (legal : IsLegal l) (own : List ℕ) (c : AContainer) (k : Container) (stands : Stands l k) (is : IsContainerOf l own c k) where
  not_dropped : (s : Submission) (moment : ℕ) → s.client_number ≡ c.last + 1 → s.reference ≡ pos c.number → (v : Verdict) → verdict l (Submit own s moment) ≡ v → is_dropped v ≡ false
  not_dropped s moment number reference (said.Sequenced m) at = refl
  not_dropped s moment number reference (said.Nacked nack) at = refl
  not_dropped s moment number reference said.Absorbed at = refl
  not_dropped s moment number reference said.Dropped at =
      absurd (submits l own c k s moment said.Dropped (legal-push l (Submit own s moment, said.Dropped) legal (sym at)) stands number reference is)

not_absorbed : (l : Ledger) (own : List ℕ) (s : Submission) (moment : ℕ) → is_noop s.kind ≡ false → is_absorbed (verdict l (Submit own s moment)) ≡ false
unfolding verdict submission_verdict
not_absorbed l own s moment kind =
    cases (is_duplicate l own s) (leaves_gap l own s) (is_nonexistent l own) (is_below_minimum l s) (is_ahead l s) (lacks_scope l own s) (rules.is_absorbed l own s)
    (nack l s) (message l (Submit own s moment)) (ap (λ b. b && (is_null s.contents || nat_le (lifted l own s) (last_minimum l))) kind)

-- ---- what a step of a container enters

-- nothing, or one submission of its client, which is no noop
abbrev Enters : Ledger → Container → (moment : ℕ) → List Raw → Type 0
Enters l k moment entries =
    (entries ≡ []) ⊎ ((s : Submission) × ((s.client_number ≡ last l k + 1) × ((s.reference ≡ pos k.number) × ((is_noop s.kind ≡ false) × (entries ≡ Submit (id_of k) s moment ∷ [])))))

module _ (limits : Limits) (w : World) (l : Ledger) (k : Container) where
  entered_so : (s : Submission) → s.client_number ≡ last l k + 1 → s.reference ≡ pos k.number → is_noop s.kind ≡ false → (out : ActEnd) → Enters l k w.moment (submitted_as l (Submit (id_of k) s w.moment) out).entries
  entered_so s number reference kind (end.Entered v) = inr (s, (number, (reference, (kind, refl))))
  entered_so s number reference kind end.Said = inl refl
  entered_so s number reference kind (end.Joined id n) = inl refl
  entered_so s number reference kind (end.Told n) = inl refl
  entered_so s number reference kind end.FullNow = inl refl
  entered_so s number reference kind end.TooMany = inl refl
  entered_so s number reference kind (end.Given reply) = inl refl

  submitting_so : (kind : Offered) (contents : Tree) → is_noop kind ≡ false → Enters l k w.moment (submitting limits w l k kind contents).entries
  submitting_so kind contents is = entered_so (submission_of l k kind contents) refl refl is (entry_end limits l (entry_of w l k kind contents))

  edit_so : (p : List ℕ) (edit : Edit) (r : Result Tree EditFault) → Enters l k w.moment (edited_by limits w l p k edit r).entries
  edit_so p edit (Ok contents) = submitting_so Op contents refl
  edit_so p edit (Err fault) = inl refl

  summary_so : (p : List ℕ) (put : Putting) (clash : Option Clashing) → Enters l k w.moment (summarized_by limits w l p k put clash).entries
  summary_so p put None = submitting_so Summarizing (summarize_tree (app_id (channels l k)) (head l k) k.number) refl
  summary_so p put (Some clash) = inl refl

-- ---- the document behind it

goes_none : (l : Ledger) → GoesSubmitting l l
goes_none l = record { more = []; is = sym (append-nil l); absorbed = refl; dropped = refl }

module _ (submits : SubmitsAsDefined) (w : World) (h : Holder) (k : Container) (is : IsHolderOf w h k) (sound : IsSoundContainer w k) where
  abbrev l : Ledger
  l = ledger_in w k.document

  one_more : (s : Submission) → s.client_number ≡ last l k + 1 → s.reference ≡ pos k.number → is_noop s.kind ≡ false → GoesSubmitting l (ledger ((document w k.document).raws ++ Submit (id_of k) s w.moment ∷ []))
  one_more s number reference kind =
      let raw = Submit (id_of k) s w.moment in
      let v = verdict l raw in
      record {
        more = (raw, v) ∷ [];
        is = ledger_more (document w k.document).raws (raw ∷ []);
        absorbed = rw (not_absorbed l (id_of k) s w.moment kind) refl;
        dropped =
            rw (not_dropped submits l (ledger-legal (document w k.document).raws) (id_of k) h.container k
            (record { entries = omega (arith, sound.entries, length_ledger (document w k.document).raws); base = sound.base; number = sound.number })
            (subst (λ own. IsContainerOf l own h.container k) is.container.client_is is.container) s w.moment
            (number ∙ ap (λ n. n + 1) (sym is.container.last_is)) (reference ∙ ap pos (sym is.container.number)) v refl) refl;
      }

  by_entries : (entries : List Raw) → Enters l k w.moment entries → GoesSubmitting l (ledger ((document w k.document).raws ++ entries))
  by_entries entries (inl none) = subst (λ es. GoesSubmitting l (ledger ((document w k.document).raws ++ es))) (sym none) (subst (λ rs. GoesSubmitting l (ledger rs)) (sym (append-nil (document w k.document).raws)) (goes_none l))
  by_entries entries (inr (s, (number, (reference, (kind, one))))) = subst (λ es. GoesSubmitting l (ledger ((document w k.document).raws ++ es))) (sym one) (one_more s number reference kind)

  goes_in : (e : Effect) → Enters l k w.moment e.entries → GoesSubmitting (ledger_in w work) (ledger_in (changed e (Some k.document) w) work)
  goes_in e enters = by (bytes_eq work k.document) refl
    where
      by : (b : Bool) → bytes_eq work k.document ≡ b → GoesSubmitting (ledger_in w work) (ledger_in (changed e (Some k.document) w) work)
      by true same =
          let at : work ≡ k.document = (bytes_eq-Decides work k.document).0 same in
          subst (λ name. GoesSubmitting (ledger_in w name) (ledger_in (changed e (Some k.document) w) name)) (sym at)
          (subst (λ d. GoesSubmitting l (ledger_of d)) (sym (document_own w.documents k.document (grown e (document w k.document)))) (by_entries e.entries enters))
      by false other =
          subst (λ d. GoesSubmitting (ledger_in w work) (ledger_of d))
          (sym (document_inserted w.documents k.document (grown e (document w k.document)) work ∙ ap (λ b. cond b (grown e (document w k.document)) (document w work)) other))
          (goes_none (ledger_in w work))

-- ---- the two steps

module _ (submits : SubmitsAsDefined) (limits : Limits) (w : World) (lanes : Opened) (store : Storing) (names : Values Named) (stands : WorldStands lanes store names w) (p : List ℕ) where
  done_so : (step : Step) (k : Container) (e : Effect) → about w step ≡ Some k.document → is_open w k.document ≡ true → effect limits w (document w k.document) step ≡ e → done limits w step ≡ does e (Some k.document) w
  done_so step k e to opened is =
      done_within limits w k.document step to (open_is_no_more w k.document opened) ∙ ap (λ v. done_in limits v k.document step) (readied_same w k.document opened) ∙ ap (λ f. does f (Some k.document) w) is

  -- a step that reaches the container of this name, and does this there
  step_goes : (step : Step) (f : Container → Document → Effect) → about w step ≡ option_and_then (λ k. Some k.document) (container_of w p)
      → ((d : Document) → effect limits w d step ≡ on_container w (container_of w p) (λ k. f k d))
      → ((k : Container) → Enters (ledger_in w k.document) k w.moment (f k (document w k.document)).entries) → GoesSubmitting (ledger_in w work) (ledger_in (behind_step limits w step) work)
  step_goes step f to is enters = by (refusal w step)
    where
      with_one : (k : Container) (h : Holder) → get w.names p ≡ Some (container k) → IsHolderOf w h k → IsSoundContainer w k → GoesSubmitting (ledger_in w work) (ledger_in (done limits w step).world work)
      with_one k h there holder sound =
          let found : container_of w p ≡ Some k = ap container_in there in
          subst (λ (t : Told). GoesSubmitting (ledger_in w work) (ledger_in t.world work))
          (sym (done_so step k (f k (document w k.document)) (to ∙ ap (option_and_then (λ k. Some k.document)) found) sound.open_is
          (is (document w k.document) ∙ ap (λ o. on_container w o (λ x. f x (document w k.document))) found)))
          (goes_in submits w h k holder sound (f k (document w k.document)) (enters k))

      -- no container has this name: nothing is reached
      without : container_of w p ≡ None → GoesSubmitting (ledger_in w work) (ledger_in (done limits w step).world work)
      without none =
          subst (λ o. GoesSubmitting (ledger_in w work) (ledger_in (done_on limits w o step).world work)) (sym (to ∙ ap (option_and_then (λ k. Some k.document)) none)) (goes_none (ledger_in w work))

      by_name : (n : Option Named) (m : Option Name) → get names p ≡ n → get w.names p ≡ m → IsNamed w n m → IfSome m (IsSoundName w) → GoesSubmitting (ledger_in w work) (ledger_in (done limits w step).world work)
      by_name (Some (a.Container h)) (Some (container k)) given there holder sound = with_one k h there holder sound
      by_name n None given there holder sound = without (ap container_in there)
      by_name n (Some (connection voice)) given there holder sound = without (ap container_in there)
      by_name n (Some (roamer k)) given there holder sound = without (ap container_in there)
      by_name n (Some used_up) given there holder sound = without (ap container_in there)
      by_name None (Some (container k)) given there holder sound = absurd holder
      by_name (Some (a.Connection v)) (Some (container k)) given there holder sound = absurd holder
      by_name (Some (a.Roamer h)) (Some (container k)) given there holder sound = absurd holder
      by_name (Some a.Used) (Some (container k)) given there holder sound = absurd holder

      by : (o : Option LineWhy) → GoesSubmitting (ledger_in w work) (ledger_in (if is_some o then w else (done limits w step).world) work)
      by None = by_name (get names p) (get w.names p) refl refl (stands.named p) (stands.sound.names p)
      by (Some why) = goes_none (ledger_in w work)

pub edits_submit : SubmitsAsDefined → (p : List ℕ) (edit : Edit) → Submits (step.Edit p (Ok edit))
edits_submit submits p edit limits w lanes store names stands =
    step_goes submits limits w lanes store names stands p (step.Edit p (Ok edit)) (λ k d. edited limits w d p k edit) refl (λ d. refl)
    (λ k. edit_so limits w (ledger_in w k.document) k p edit (answer (visible (ledger_in w k.document) k) edit))

pub summaries_submit : SubmitsAsDefined → (p : List ℕ) → Submits (step.Summarize p)
summaries_submit submits p limits w lanes store names stands =
    step_goes submits limits w lanes store names stands p (step.Summarize p) (λ k d. summarized limits w d p k) refl (λ d. refl)
    (λ k. summary_so limits w (ledger_in w k.document) k p (putting w.store (objects (app_tree (channels (ledger_in w k.document) k)))) (putting w.store (objects (app_tree (channels (ledger_in w k.document) k)))).clash)

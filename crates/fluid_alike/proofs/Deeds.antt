-- What each deed of a workload leaves.
use Rattle.std.proofs.Common.{◌≡◌, ℕ, ◌≤◌, arith, Bool, true, false, if◌then◌else◌, List, [], ◌∷◌, length, Option, Some, None, IfSome, is_some, bytes_eq, refl, sym, ap, subst, ◌∙◌}
use Rattle.std.specs.FinMap.{get}
use Rattle.std.specs.List.{list_any}
use Rattle.std.proofs.lemmas.List.Elements.{All-nil, All-cons}
use Rattle.std.proofs.lemmas.Slice.Eq.{bytes_eq-Decides}
use Rattle.fluid_tree.specs.Laws.{IsIdReadBack}
use Rattle.fluid_types.specs.Ledger.{seq}
use Rattle.fluid_types.specs.declared.entries.Raw.{Raw}
use Rattle.fluid_types.specs.declared.entries.Raw.TheVariants.{Submit}
use Rattle.fluid_types.specs.declared.entries.Submission.{Submission}
use Rattle.fluid_rules.specs.Rules.{verdict}
use Rattle.fluid_rules.specs.ScribeLaws.{AcksGrow, AnswersSayWhatIsMeant, PendingIsLeast, OrdersAreAnsweredInTurn}
use Rattle.fluid_rules.specs.Counted.{is_full}
use Rattle.fluid_rules.specs.declared.limits.Limits.{Limits}
use Rattle.fluid_orders.specs.Laws.{OrdersAreTold}
use Rattle.fluid_store.specs.Laws.{GoesOnStanding}
use Rattle.fluid_loader.specs.Laws.{IsReplayBehind, StayBased, IsHonestVersion}
use Rattle.fluid_steps.specs.declared.steps.Step.{Step}
use Rattle.fluid_steps.specs.declared.steps.Step.TheVariants as step
use Rattle.fluid_steps.specs.declared.refusal.LineWhy.{LineWhy}
use Rattle.fluid_voice.specs.declared.ends.ActEnd.{ActEnd}
use Rattle.fluid_voice.specs.declared.ends.ActEnd.TheVariants.{Entered, FullNow}
use Rattle.fluid_voice.specs.Ends.{entry_end}
use Rattle.fluid_transcript.specs.World.{Container, Name, connection, container, roamer, used_up, World, document, is_open, changed}
use Rattle.fluid_transcript.specs.Connections.{voice_of}
use Rattle.fluid_transcript.specs.Steps.{refusal}
use Rattle.fluid_transcript.specs.Transcript.{done}
use Rattle.fluid_transcript.specs.Sound.{ledger_in, GoesOnAs, ChangesOneName, IsSound, IsSoundName, IsSoundContainer}
use Rattle.fluid_transcript.proofs.Begins.{begins_any}
use Rattle.fluid_transcript.proofs.Stepping.{done_leaves}
use Rattle.fluid_workload.specs.Working.{work, p, named, id_at, behind_step, behind_entry}
use Rattle.fluid_turns.specs.Leaving.{SubmissionsLeaveAll}
use Rattle.fluid_turns.proofs.Lanes.{heard_so, entry_is}
use Rattle.fluid_alike.proofs.Plain.{Plain, raws_plain}
use Rattle.fluid_alike.proofs.Mild.{IsNamedJoin, subject, joins_of, IsMildStep}
use Rattle.fluid_alike.proofs.Doing.{Goes, mild_step, effect_goes}
use Rattle.fluid_alike.proofs.Asking.{IsFirst, summarize_goes}
use Rattle.fluid_alike.proofs.Answering.{scribe_goes}

-- ---- the first container

pub record HasFirst (w : World) : Type 0 where
  pub now : Container
  pub there : get w.names p ≡ Some (container now)
  pub is : IsFirst now

goes_on_first : (k : Container) → IsFirst k → (new : Option Name) → GoesOnAs (Some (container k)) new → (later : Container) × ((new ≡ Some (container later)) × IsFirst later)
goes_on_first k is None goes = absurd goes
goes_on_first k is (Some (connection voice)) goes = absurd goes
goes_on_first k is (Some (container later)) goes = (later, (refl, record { document = goes.document ∙ is.document; from = goes.from ∙ is.from; base = goes.base ∙ is.base }))
goes_on_first k is (Some (roamer later)) goes = absurd goes
goes_on_first k is (Some used_up) goes = absurd goes

first_stays : (old new : World) → ChangesOneName old new → HasFirst old → HasFirst new
first_stays old new one has = by (bytes_eq p one.name) refl
  where
    by : (b : Bool) → bytes_eq p one.name ≡ b → HasFirst new
    by false other = record { now = has.now; there = one.others p other ∙ has.there; is = has.is }
    by true same =
        let at : p ≡ one.name = (bytes_eq-Decides p one.name).0 same in
        let goes = subst (λ n. GoesOnAs (get old.names n) (get new.names n)) (sym at) one.goes_on in
        let later = goes_on_first has.now has.is (get new.names p) (subst (λ o. GoesOnAs o (get new.names p)) has.there goes) in
        record { now = later.0; there = later.1.0; is = later.1.1 }

-- ---- a sound world with it, in which the document is open

pub record Stands (w : World) : Type 0 where
  pub sound : IsSound w
  pub open_is : is_open w work ≡ true
  pub first : HasFirst w

pub step_stands : (limits : Limits) (w : World) (s : Step) → Stands w → Stands (behind_step limits w s)
step_stands limits w s was = by (refusal w s) refl
  where
    by : (o : Option LineWhy) → refusal w s ≡ o → Stands (if is_some o then w else (done limits w s).world)
    by (Some why) ok = was
    by None ok =
        let leaves = (done_leaves limits w was.sound s ok).leaves in
        record {
          sound = leaves.sound;
          open_is = begins_any (bytes_eq work) w.opened (done limits w s).world.opened leaves.grows.opened was.open_is;
          first = first_stays w (done limits w s).world leaves.one_name was.first;
        }

-- a deed leaves it standing, and goes
pub record Leads (c : List ℕ) (joins : ℕ) (old new : World) : Type 0 where
  pub stands : Stands new
  pub goes : Goes c joins old new

module _ (standing : GoesOnStanding) (grow : AcksGrow) where
  pub mild_leads : (limits : Limits) (w : World) (s : Step) → Stands w → IsMildStep s → Leads (subject s) (joins_of s) w (behind_step limits w s)
  mild_leads limits w s was mild = record { stands = step_stands limits w s was; goes = mild_step standing grow limits w s was.sound was.open_is mild }

  pub summarize_leads : IsReplayBehind → StayBased → IsIdReadBack → OrdersAreTold → (limits : Limits) (w : World) → Stands w → Leads p 0 w (behind_step limits w (step.Summarize p))
  summarize_leads replays based back told limits w was =
      let k = was.first.now in
      let sound : IsSoundContainer w k = subst (λ o. IfSome o (IsSoundName w)) was.first.there (was.sound.names p) in
      record {
        stands = step_stands limits w (step.Summarize p) was;
        goes = summarize_goes standing grow replays based back told w k was.first.is (subst (λ name. k.number ≤ seq (ledger_in w name)) was.first.is.document sound.number) limits was.open_is was.first.there;
      }

  pub scribe_leads : AnswersSayWhatIsMeant → PendingIsLeast → OrdersAreAnsweredInTurn → IsHonestVersion → (limits : Limits) (w : World) → Stands w → Leads [] 0 w (behind_step limits w (step.Scribe work))
  scribe_leads says least turn versions limits w was = record {
    stands = step_stands limits w (step.Scribe work) was;
    goes = scribe_goes standing grow says least turn versions w limits was.open_is;
  }

  -- a client's submission that asks for no summary
  module _ (limits : Limits) (w : World) (client : ℕ) (id : List ℕ) (s : Submission) (plain : Plain (Submit id s w.moment)) where
    abbrev raw : Raw
    raw = Submit id s w.moment

    abbrev Placed : Raw → Type 0
    Placed = IsNamedJoin (length (document w work).raws)

    abbrev out : Bool → ActEnd
    out full = if full then FullNow else Entered (verdict (ledger_in w work) raw)

    by_full : (full : Bool) → Goes (named client) 0 w (changed (heard_so limits w client raw (out full)) (Some work) w)
    by_full true =
        effect_goes (named client) 0 w (heard_so limits w client raw FullNow) (omega arith) (omega arith) (All-nil Placed) refl (λ i bytes has. has)
        (λ readable honest. raws_plain standing grow w.store (document w work).raws [] (All-nil Plain) honest)
    by_full false =
        effect_goes (named client) 0 w (heard_so limits w client raw (Entered (verdict (ledger_in w work) raw))) (omega arith) (omega arith) (All-cons Placed raw [] tt (All-nil Placed)) refl (λ i bytes has. has)
        (λ readable honest. raws_plain standing grow w.store (document w work).raws (raw ∷ []) (All-cons Plain raw [] plain (All-nil Plain)) honest)

    pub entry_leads : SubmissionsLeaveAll → Stands w → id_at (voice_of w (named client)) ≡ Some id → Leads (named client) 0 w (behind_entry limits w client raw)
    entry_leads leave was writes =
        let left = leave limits w client id s w.moment was.sound writes in
        record {
          stands = record {
            sound = left.sound;
            open_is = ap (list_any (bytes_eq work)) left.opened ∙ was.open_is;
            first = record { now = was.first.now; there = (left.names p).name ∙ was.first.there; is = was.first.is };
          };
          goes = subst (Goes (named client) 0 w) (sym (entry_is limits w client raw (entry_end limits (ledger_in w work) raw) refl)) (by_full (is_full limits.entries (ledger_in w work) raw));
        }

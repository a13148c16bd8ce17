-- A roamer that begins, and what a new client is like.
use Rattle.std.proofs.Common.{◌≡◌, inl, ℕ, ◌+◌, arith, Bool, true, false, if◌then◌else◌, List, [], ◌∷◌, ◌++◌, length, drop, Some, None, is_some, IfSome, bytes_eq, refl, sym, ap, subst, ◌∙◌}
use Rattle.std.specs.Prelude.{fold}
use Rattle.fluid_types.specs.Ledger.{Ledger, order, seq}
use Rattle.fluid_types.specs.Names.{entry_name}
use Rattle.fluid_types.specs.declared.messages.Message.{Message}
use Rattle.fluid_types.specs.declared.verdicts.Verdict.TheVariants.{Sequenced}
use Rattle.fluid_rules.specs.Past.{has_id}
use Rattle.fluid_rules.specs.Rules.{client, minimum, verdict}
use Rattle.fluid_rules.specs.declared.limits.Limits.{Limits}
use Rattle.fluid_rules.proofs.Ids.{own_id}
use Rattle.fluid_rules.proofs.Legal.{ledger-push}
use Rattle.fluid_rules.proofs.Pushed.{client-push}
use Rattle.fluid_desk.proofs.Honest.{length_ledger}
use Rattle.fluid_runtime.specs.App.{after_message}
use Rattle.fluid_loader.specs.Container.{behind, empty}
use Rattle.fluid_loader.specs.Link as link
use Rattle.fluid_loader.specs.declared.link.Pick.TheVariants.{Empty}
use Rattle.fluid_outbox.specs.Past.{edits, ids, heard_to, acknowledged, sent, given}
use Rattle.fluid_transcript.specs.World.{World, Document, Container, ledger_of}
use Rattle.fluid_transcript.specs.Containers.{all_scopes, Loading, loaded, last, join_for, joining, join_refusal, loading, loading_by}
use Rattle.fluid_transcript.specs.Roamers.{newcomer, begun, behind_join}
use Rattle.fluid_holding.specs.Holding.{IsContainerOf, IsWithin}
use Rattle.fluid_holding.specs.Laws.{LoadsAsDefined, IsLoaded}
use Rattle.fluid_holding.proofs.Caught.{last_behind}
use Rattle.fluid_roamers.specs.Taking.{Begins, TakesIn, hears, without}
use Rattle.fluid_roamers.specs.declared.roamer.Roamer.{Roamer}
use Rattle.fluid_roamers.proofs.Calls.{hears_edits, hears_ids, hears_sent, hears_number, behind_channels, quiet_acknowledged, without_none}
use Rattle.fluid_roamers.proofs.Entries.{here}
use Rattle.fluid_roamers.proofs.Roaming.{IsNewIn, IsReady}

pub sent_none : (id : List ℕ) → sent [] id ≡ 0
unfolding sent given
sent_none id = refl

pub acked_none : acknowledged [] ≡ 0
unfolding acknowledged
acked_none = refl

pub said_none : edits [] ≡ []
unfolding edits
said_none = refl

pub heard_none : heard_to [] ≡ 0
unfolding heard_to
heard_none = refl

pub used_none : (id : List ℕ) → has_id id (ids []) ≡ true → ⊥
unfolding ids
used_none id has = cc

same_loaded : (a b : Container) → ◌≡◌ {A = Loading} (loaded a) (loaded b) → a ≡ b
same_loaded a b same = cc

-- behind a join that was sequenced
module _ (law : LoadsAsDefined) (limits : Limits) (w : World) (d : Document) (name : List ℕ) (join : Message) (enters : join_refusal (joining limits w (ledger_of d)) ≡ None)
    (joins : verdict (ledger_of d) (join_for w (ledger_of d)) ≡ Sequenced join) where
  abbrev l : Ledger
  l = behind_join w d

  abbrev own : List ℕ
  own = entry_name (length d.raws)

  abbrev new : Container
  new = newcomer name (length d.raws) l

  document : link.Document
  document = record { order = order l; held = w.store; ledger = None; limit = 0 }

  loads : IsLoaded l own empty (loading limits w d name Empty)
  loads = law limits w d name Empty (record { order = order l; held = w.store; ledger = None; limit = 0 }) join enters joins refl refl

  now_is : loads.now ≡ new
  now_is = same_loaded loads.now new (sym loads.is ∙ ap (loading_by w d name Empty) enters)

  pub held_new : IsContainerOf l own (behind own empty (drop 0 (order l))) new
  held_new = subst (IsContainerOf l own (behind own empty (drop 0 (order l)))) now_is loads.held

  pushed : l ≡ ledger_of d ++ (join_for w (ledger_of d), Sequenced join) ∷ []
  pushed = ledger-push d.raws (join_for w (ledger_of d)) ∙ ap (λ v. ledger_of d ++ (join_for w (ledger_of d), v) ∷ []) joins

  there : here l own ≡ true
  there = ap (λ m. is_some (client m own)) pushed ∙ ap is_some (client-push (ledger_of d) (join_for w (ledger_of d), Sequenced join) own) ∙ by (bytes_eq (entry_name (length (ledger_of d))) own) (ap (λ n. bytes_eq (entry_name n) own) (length_ledger d.raws) ∙ own_id own)
    where
      by : (b : Bool) → b ≡ true → is_some (if b then Some (record { last = 0; reference = minimum (ledger_of d); nacked = false; scopes = all_scopes; heard = w.moment }) else client (ledger_of d) own) ≡ true
      by true is = refl
      by false is = absurd (cc)

  -- a container with this id behind the join
  pub new_client : (k : Container) → k.entries ≡ length d.raws → IsNewIn l k
  new_client k same =
      subst (λ n. IsNewIn l (record k { entries = n })) (sym same) (record {
        last_is = sym held_new.last_is ∙ last_behind own empty (drop 0 (order l));
        known = subst (λ n. IfSome (client l own) (IsWithin n (seq l))) (last_behind own empty (drop 0 (order l)))
            (subst (λ n. IfSome (client l own) (IsWithin (behind own empty (drop 0 (order l))).last n)) held_new.number held_new.known);
        there = there;
      })

  -- a roamer that begins, and takes in the whole order
  unfoldable pub begun_ready : (first h : Roamer) → Begins name own first → TakesIn [] (order l) first h → IsReady l h (begun w d name)
  begun_ready first h begins takes = record {
    going = refl;
    number = refl;
    new_in = new_client new refl;
    document = takes.same.document ∙ begins.document_is;
    held = behind own empty (order l);
    container = held_new;
    channels = takes.channels ∙ ap (λ app. fold after_message app.channels (order l)) begins.app ∙ sym (behind_channels own empty (order l));
    pending = takes.pending ∙ ap (λ app. without [] (order l) app.pending) begins.app ∙ without_none [] (order l);
    edits_are = takes.same.edits ∙ begins.edits;
    past = hears [] (order l);
    outbox = takes.outbox;
    stood = quiet_acknowledged [] (order l) (λ id. inl (none_sent id)) ∙ none_acked;
    contents = hears_edits [] (order l) ∙ none_said;
    heard = hears_number [] own empty (order l) none_heard ∙ held_new.number;
    unsent = hears_sent [] (order l) own ∙ none_sent own;
    settled = λ id other. inl (hears_sent [] (order l) id ∙ none_sent id);
    entries = 0;
    older = omega arith;
    used = λ id has. absurd (unused id (ap (has_id id) (sym (hears_ids [] (order l))) ∙ has));
  }
    where
      none_sent : (id : List ℕ) → sent [] id ≡ 0
      none_sent id = sent_none id

      none_acked : acknowledged [] ≡ 0
      none_acked = acked_none

      none_said : edits [] ≡ []
      none_said = said_none

      none_heard : heard_to [] ≡ 0
      none_heard = heard_none

      unused : (id : List ℕ) → has_id id (ids []) ≡ true → ⊥
      unused id has = used_none id has

  -- no id was used
  pub begun_fresh : (first h : Roamer) (begins : Begins name own first) (takes : TakesIn [] (order l) first h) (id : List ℕ) → has_id id (ids (begun_ready first h begins takes).past) ≡ false
  unfolding begun_ready ids
  begun_fresh first h begins takes id = ap (has_id id) (hears_ids [] (order l))

-- What a container's call over a link leaves of the lane and of the store that were lent to it, where nothing failed.
use Rattle.std.proofs.Common.{◌≡◌, true, List, [], ◌∷◌, ◌++◌, Option, Some, None, option_map, refl, sym, ap, subst, ◌∙◌, append-nil}
use Rattle.fluid_types.specs.declared.entries.Raw.{Raw}
use Rattle.fluid_types.specs.declared.verdicts.Verdict.{Verdict}
use Rattle.fluid_rules.specs.Rules.{IsLegal, verdict, ledger as ledger_by_rules}
use Rattle.fluid_rules.specs.declared.limits.Limits.{Limits}
use Rattle.fluid_rules.proofs.Legal.{legal-last, ledger-push}
use Rattle.fluid_store.specs.Held.{Held}
use Rattle.fluid_store.specs.Storing.{Storing}
use Rattle.fluid_lane.specs.declared.steps.Step.{Step}
use Rattle.fluid_lane.specs.Steps.{ledger}
use Rattle.fluid_lane.specs.Standing.{Standing, Goes}
use Rattle.fluid_lane.proofs.Listed.{ledger-append}
use Rattle.fluid_loader.specs.Link as link
use Rattle.fluid_loader.specs.Link.{BothTell, with_entry}
use Rattle.fluid_transcript.specs.World.{Document, ledger_of}
use Rattle.fluid_desk.specs.Stands.{IsLaneOf}
use Rattle.fluid_desk.proofs.Laned.{goes_on}
use Rattle.fluid_door_link.specs.Coursing.{IsAlong}
use Rattle.fluid_door_link.specs.Telling.{told_by}
use Rattle.fluid_door_link.proofs.Told.{IsKnown, document_of, known_on, told_of}
use Rattle.fluid_door_link.proofs.Told.{says as says_known}

-- a lane of a document is one of which a ledger is told
abbrev pub known_of : (limits : Limits) (s : Standing) (d : Document) → IsLaneOf limits s d → IsKnown s
known_of limits s d of = record { list = of.list; stands = of.stands; content = of.content; told = of.told }

-- the document that is told of a lane of a document
abbrev pub told_as : Limits → Document → Held → link.Document
told_as limits d held = document_of (ledger_of d) limits.entries held

-- the document with these entries
abbrev pub with_raws : Document → List Raw → Document
with_raws d raws = record { raws = d.raws ++ raws; checkpoints = d.checkpoints ++ [] }

pub tells : (limits : Limits) (s : Standing) (d : Document) (store : Storing) (held : Held) → IsLaneOf limits s d → store.content ≡ Some held → told_by true s store ≡ Some (told_as limits d held)
tells limits s d store held of holds =
    told_of s (known_of limits s d of) store
    ∙ ap (option_map (document_of (ledger of.list) s.limits.entries)) holds
    ∙ ap (λ l. Some (document_of l s.limits.entries held)) of.entries
    ∙ ap (λ (m : Limits). Some (document_of (ledger_of d) m.entries held)) of.limits_are

-- what is told on both sides of a call
pub both_told : (fact : link.Document → link.Document → Type 0) (doc : link.Document) (before after : Option link.Document) → before ≡ Some doc → BothTell fact before after → (e : link.Document) × ((after ≡ Some e) × fact doc e)
both_told fact doc before after is both = by after (subst (λ o. BothTell fact o after) is both)
  where
    by : (o : Option link.Document) → BothTell fact (Some doc) o → (e : link.Document) × ((o ≡ Some e) × fact doc e)
    by None h = absurd h
    by (Some e) h = (e, (refl, h))

pub some_same : {A : Type 0} (a b : A) → ◌≡◌ {A = Option A} (Some a) (Some b) → a ≡ b
some_same a b same = cc

module _ (limits : Limits) (old : Standing) (d : Document) (of : IsLaneOf limits old d) (store : Storing) (new : Standing) (now : Storing) (along : IsAlong true old store (record { lane = new; store = now; stop = None })) where
  abbrev added : List Step
  added = along.gone.added

  abbrev goes : Goes old new added
  goes = along.gone.goes

  abbrev known : IsKnown new
  known = known_on old new added (known_of limits old d of) goes

  -- what is told then, by what the store holds
  tells_now : told_by true new now ≡ option_map (document_of (ledger (of.list ++ added)) new.limits.entries) now.content
  tells_now = told_of new known now

  none_some : (a : link.Document) → ◌≡◌ {A = Option link.Document} None (Some a) → ⊥
  none_some a same = cc

  -- this document is told then: so its ledger is that of the lane, and its objects are those that are held
  record Shows (e : link.Document) : Type 0 where
    own : Held
    holds_now : now.content ≡ Some own
    is : document_of (ledger (of.list ++ added)) new.limits.entries own ≡ e

  shows : (e : link.Document) → told_by true new now ≡ Some e → Shows e
  shows e told = by now.content refl (sym tells_now ∙ told)
    where
      by : (o : Option Held) → now.content ≡ o → option_map (document_of (ledger (of.list ++ added)) new.limits.entries) o ≡ Some e → Shows e
      by None is there = absurd (none_some e there)
      by (Some own) is there = record { own = own; holds_now = is; is = some_same (document_of (ledger (of.list ++ added)) new.limits.entries own) e there }

  -- the lane stands for the document with these entries, where its ledger is theirs
  grew : (raws : List Raw) → ledger (of.list ++ added) ≡ ledger_by_rules (d.raws ++ raws) → IsLaneOf limits new (with_raws d raws)
  grew raws is =
      goes_on limits old d of new added raws [] goes (along.level refl refl) (ap (λ l. l ++ ledger added) (sym of.entries) ∙ sym (ledger-append of.list added) ∙ is) along.gone.unstored

  -- this document is told then, whose ledger is that of these entries
  pub left : (e : link.Document) (raws : List Raw) → told_by true new now ≡ Some e → e.ledger ≡ Some (ledger_by_rules (d.raws ++ raws)) → (now.content ≡ Some e.held) × IsLaneOf limits new (with_raws d raws)
  left e raws told is =
      let here = shows e told in
      let same : Some (ledger (of.list ++ added)) ≡ Some (ledger_by_rules (d.raws ++ raws)) = ap (λ (x : link.Document). x.ledger) here.is ∙ is in
      (here.holds_now ∙ ap (λ (x : link.Document). Some x.held) here.is, grew raws (some_same (ledger (of.list ++ added)) (ledger_by_rules (d.raws ++ raws)) same))

  -- no entry was added
  pub unchanged : (held : Held) → told_by true new now ≡ Some (told_as limits d held) → (now.content ≡ Some held) × IsLaneOf limits new (with_raws d [])
  unchanged held told = left (told_as limits d held) [] told (ap (λ raws. Some (ledger_by_rules raws)) (sym (append-nil d.raws)))

  -- an entry was added with whatever verdict: it is the rules'
  pub entered : (held : Held) (raw : Raw) (said : Verdict) → told_by true new now ≡ Some (with_entry raw said (told_as limits d held))
      → (now.content ≡ Some held) × ((said ≡ verdict (ledger_of d) raw) × IsLaneOf limits new (with_raws d (raw ∷ [])))
  entered held raw said told =
      let here = shows (with_entry raw said (told_as limits d held)) told in
      let ledgers : ledger (of.list ++ added) ≡ ledger_of d ++ (raw, said) ∷ [] =
      some_same (ledger (of.list ++ added)) (ledger_of d ++ (raw, said) ∷ []) (ap (λ (x : link.Document). x.ledger) here.is) in
      let legal : IsLegal (ledger_of d ++ (raw, said) ∷ []) = subst IsLegal ledgers (says_known new known).legal in
      let said_is = legal-last (ledger_of d) (raw, said) legal in
      let done = left (with_entry raw said (told_as limits d held)) (raw ∷ []) told (ap (λ v. Some (ledger_of d ++ (raw, v) ∷ [])) said_is ∙ ap Some (sym (ledger-push d.raws raw))) in
      (done.0, (said_is, done.1))

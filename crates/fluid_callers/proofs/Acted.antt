-- One act of a connection, on the lane of its document: what it leaves of the document.
use Rattle.std.proofs.Common.{◌≡◌, ℕ, Bool, true, false, List, [], ◌∷◌, ◌++◌, length, is_some, sym, ap, subst, ◌∙◌, append-nil}
use Rattle.fluid_json.specs.Tree.{Tree}
use Rattle.fluid_types.specs.declared.entries.Raw.{Raw}
use Rattle.fluid_types.specs.declared.entries.Raw.TheVariants.{Join}
use Rattle.fluid_types.specs.declared.entries.Scopes.{Scopes}
use Rattle.fluid_types.specs.declared.verdicts.Verdict.{Verdict}
use Rattle.fluid_types.specs.declared.verdicts.Verdict.TheVariants.{Sequenced}
use Rattle.fluid_types.specs.Names.{entry_name}
use Rattle.fluid_rules.specs.Rules.{verdict, IsLegal}
use Rattle.fluid_rules.specs.declared.limits.Limits.{Limits}
use Rattle.fluid_rules.proofs.Legal.{legal-last}
use Rattle.fluid_lane.specs.declared.steps.Step.{Step}
use Rattle.fluid_lane.specs.declared.steps.Step.TheVariants.{Entered}
use Rattle.fluid_lane.specs.Steps.{ledger, stored}
use Rattle.fluid_lane.specs.Standing.{Standing, IsTold, Goes}
use Rattle.fluid_lane.proofs.Listed.{ledger-append}
use Rattle.fluid_voice.specs.declared.actions.Act.{Act}
use Rattle.fluid_voice.specs.declared.actions.Act.TheVariants as act
use Rattle.fluid_voice.specs.declared.ends.ActEnd.{ActEnd}
use Rattle.fluid_voice.specs.declared.ends.ActEnd.TheVariants as end
use Rattle.fluid_voice.specs.Ends.Outcome.{ends}
use Rattle.fluid_ends.specs.Adding.{AddsBy, IsJoinStep}
use Rattle.fluid_acts.specs.AtLane.{IsEndAt}
use Rattle.fluid_transcript.specs.World.{Document, ledger_of, with_entries, raws_added}
use Rattle.fluid_desk.specs.Stands.{IsLaneOf}
use Rattle.fluid_desk.proofs.Laned.{told_in, some_there, says as lane_of, beside, entered}

-- an entry that a lane has entered got the verdict of the rules
verdict_is : (limits : Limits) (old new : Standing) (d : Document) (of : IsLaneOf limits old d) (raw : Raw) (v : Verdict) → Goes old new (Entered raw v ∷ []) → v ≡ verdict (ledger_of d) raw
verdict_is limits old new d of raw v goes =
    let stands = goes.list of.list of.stands in
    let there = some_there new.keeping.content (goes.told ∙ ap is_some of.told) in
    let told = told_in (IsTold new (of.list ++ Entered raw v ∷ [])) new.keeping.content there.0 there.1 stands.told in
    let legal : IsLegal (ledger of.list ++ (raw, v) ∷ []) = subst IsLegal (ledger-append of.list (Entered raw v ∷ [])) told.stands.kept.legal in
    legal-last (ledger of.list) (raw, v) legal ∙ ap (λ l. verdict l raw) of.entries

pub one_entry : (limits : Limits) (old new : Standing) (d : Document) → IsLaneOf limits old d → (raw : Raw) (v : Verdict) → Goes old new (Entered raw v ∷ []) → new.owed ≡ false → IsLaneOf limits new (with_entries (raw ∷ []) d)
one_entry limits old new d of raw v goes level =
    subst (λ checkpoints. IsLaneOf limits new (record { raws = d.raws ++ raw ∷ []; checkpoints = checkpoints })) (append-nil d.checkpoints)
    (entered limits old d of new raw v goes level (verdict_is limits old new d of raw v goes))

no_entry : (limits : Limits) (old new : Standing) (d : Document) → IsLaneOf limits old d → (added : List Step) → added ≡ [] → Goes old new added → new.owed ≡ false → IsLaneOf limits new (with_entries [] d)
no_entry limits old new d of added none goes level =
    subst (λ raws. IsLaneOf limits new (record { raws = raws; checkpoints = d.checkpoints })) (sym (append-nil d.raws))
    (beside limits old d of new added goes level (ap ledger none) (ap stored none))

-- what an act with this end leaves of the lane of its document
module _ (limits : Limits) (old new : Standing) (d : Document) (of : IsLaneOf limits old d) (added : List Step) (goes : Goes old new added) (level : new.owed ≡ false) where
  abbrev Leaves : Act → ActEnd → Type 0
  Leaves a e = IsLaneOf limits new (with_entries (raws_added (ledger_of d) a (ends e)) d)

  with_step : (raw : Raw) (v : Verdict) → added ≡ Entered raw v ∷ [] → IsLaneOf limits new (with_entries (raw ∷ []) d)
  with_step raw v is = one_entry limits old new d of raw v (subst (Goes old new) is goes) level

  without : added ≡ [] → IsLaneOf limits new (with_entries [] d)
  without none = no_entry limits old new d of added none goes level

  entry_leaves : (raw : Raw) (e : ActEnd) → AddsBy (act.Enter raw) e added → Leaves (act.Enter raw) e
  entry_leaves raw (end.Entered v) adds = with_step raw v adds
  entry_leaves raw end.Said adds = without adds
  entry_leaves raw (end.Joined id number) adds = without adds
  entry_leaves raw (end.Told last) adds = without adds
  entry_leaves raw end.FullNow adds = without adds
  entry_leaves raw end.TooMany adds = without adds
  entry_leaves raw (end.Given reply) adds = without adds

  join_leaves : (name : List ℕ) (scopes : Scopes) (detail : Tree) (moment number : ℕ) (id : List ℕ) → id ≡ entry_name old.entries.entered → IsJoinStep id scopes detail moment number added
      → Leaves (act.Connect name true scopes detail moment) (end.Joined id number)
  join_leaves name scopes detail moment number id id_is adds =
      let own : id ≡ entry_name (length (ledger_of d)) = id_is ∙ ap entry_name (lane_of limits old d of).entered in
      subst (λ i. IsLaneOf limits new (with_entries (Join i scopes detail moment ∷ []) d)) own (with_step (Join id scopes detail moment) (Sequenced adds.message) adds.is)

  connect_leaves : (name : List ℕ) (write : Bool) (scopes : Scopes) (detail : Tree) (moment : ℕ) (e : ActEnd) → AddsBy (act.Connect name write scopes detail moment) e added
      → IsEndAt old (act.Connect name write scopes detail moment) e → Leaves (act.Connect name write scopes detail moment) e
  connect_leaves name true scopes detail moment (end.Joined id number) adds at = join_leaves name scopes detail moment number id at.1.0 adds
  connect_leaves name true scopes detail moment (end.Entered v) adds at = absurd at
  connect_leaves name true scopes detail moment end.Said adds at = without adds
  connect_leaves name true scopes detail moment (end.Told last) adds at = without adds
  connect_leaves name true scopes detail moment end.FullNow adds at = without adds
  connect_leaves name true scopes detail moment end.TooMany adds at = without adds
  connect_leaves name true scopes detail moment (end.Given reply) adds at = without adds
  connect_leaves name false scopes detail moment (end.Joined id number) adds at = absurd (cc)
  connect_leaves name false scopes detail moment (end.Entered v) adds at = absurd (cc)
  connect_leaves name false scopes detail moment end.Said adds at = without adds
  connect_leaves name false scopes detail moment (end.Told last) adds at = without adds
  connect_leaves name false scopes detail moment end.FullNow adds at = without adds
  connect_leaves name false scopes detail moment end.TooMany adds at = without adds
  connect_leaves name false scopes detail moment (end.Given reply) adds at = without adds

  pub leaves : (a : Act) (e : ActEnd) → AddsBy a e added → IsEndAt old a e → Leaves a e
  leaves (act.Say reply) e adds at = without adds
  leaves (act.Connect name write scopes detail moment) e adds at = connect_leaves name write scopes detail moment e adds at
  leaves (act.Enter raw) e adds at = entry_leaves raw e adds
  leaves (act.Deltas from to) e adds at = without adds
  leaves (act.Summary asked) e adds at = without adds
  leaves (act.GetObject id) e adds at = without adds
  leaves (act.PutObject bytes) e adds at = without adds
